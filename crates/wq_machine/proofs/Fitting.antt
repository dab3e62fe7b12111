-- Each word that is stored as a link leads to a number of the queue, or is the end.
use Rattle.wq_machine.proofs.Common.{TakesPushes, ◌≡◌, ◌≢◌, ℕ, ◌<◌, ◌≤◌, List, length, get_or, set, Some, arith, inl, inr, get_or-set_other, get_or-set_same}
use Rattle.wq_machine.proofs.Common.{cases_eq, Private, link_place, item_place, done_place, head_place, link_word, nothing_seen, LinksFit, LooksFit}

module _ (n : ℕ) (ws : List ℕ) (v : ℕ) (fit : LinksFit n ws) where
  -- a word that is no link is written
  other_word : (i : ℕ) → ((j : ℕ) → j < n → link_place j ≢ i) → LinksFit n (set ws i v)
  other_word i other k lt = omega (arith, get_or-set_other ws i (link_place k) v 0 (other k lt), fit k lt)

  pub fit_head : LinksFit n (set ws head_place v)
  fit_head = other_word head_place (λ j lt e. omega (arith, e))

  pub fit_item : (k : ℕ) → LinksFit n (set ws (item_place n k) v)
  fit_item k = other_word (item_place n k) (λ j lt e. omega (arith, e, lt))

  pub fit_done : LinksFit n (set ws (done_place n) v)
  fit_done = other_word (done_place n) (λ j lt e. omega (arith, e, lt))

  pub fit_link : (k : ℕ) → link_place k < length ws → v ≤ n → LinksFit n (set ws (link_place k) v)
  fit_link k room small j lt =
      elim (cases_eq j k) [
        | inl same ↦ rw same (omega (arith, get_or-set_same ws (link_place k) v 0 room, small))
        | inr ne ↦ omega (arith, get_or-set_other ws (link_place k) (link_place j) v 0 (λ e. ne (omega (arith, e))), fit j lt)
      ]

-- what sender s has seen now
pub fit_look : (n : ℕ) (seats : List Private) (s : ℕ) (p : Private) → s < length seats → ((w : ℕ) → p.seen ≡ Some w → TakesPushes w → link_word w ≤ n)
    → LooksFit n seats → LooksFit n (set seats s p)
fit_look n seats s p in' new old t w is takes =
    elim (cases_eq t s) [
      | inl same ↦
          let here : get_or (set seats s p) t nothing_seen ≡ p = rw same (get_or-set_same seats s p nothing_seen in') in
          new w (rw here at is) takes
      | inr ne ↦
          let there : get_or (set seats s p) t nothing_seen ≡ get_or seats t nothing_seen = get_or-set_other seats s t p nothing_seen ne in
          old t w (rw there at is) takes
    ]
