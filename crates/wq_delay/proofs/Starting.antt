-- A new timetable.
use Rattle.std.proofs.lemmas.List.FromFn.{length-range_with_len, get_or-range_with_len}
use Rattle.wq_delay.proofs.Common.{◌≡◌, ℕ, zero, suc, ◌+◌, ◌*◌, ◌≤◌, List, [], length, get_or, replicate, None, Option, sym, refl, ap, ◌∙◌, arith, All-nil}
use Rattle.wq_words.specs.Limits.{most_items}
use Rattle.wq_delay.proofs.Common.{range_with_len, Entry, due_part, DuePlace, place_in, head_by, later_than, entries_of, IsTimetable, AreApart, AreRows}
use Rattle.wq_delay.proofs.Rounds.{rings_alone}
use Rattle.wq_delay.proofs.Spelled.{entries_is}

nothing_at : (n k : ℕ) → place_in (replicate n None) k ≡ None
nothing_at zero k = refl
nothing_at (suc n) zero = refl
nothing_at (suc n) (suc k) = nothing_at n k

module _ (places : List (Option DuePlace)) (n : ℕ) (places_are : places ≡ replicate n None) (size : length places ≡ n) where
  pub nothing_in : (k : ℕ) → place_in places k ≡ None
  nothing_in k = ap (λ (z : List (Option DuePlace)). place_in z k) places_are ∙ nothing_at n k

  apart : AreApart places
  apart j k p q a b same = let e = nothing_in j in absurd (cc)

  rows : AreRows places []
  rows = record { ordered = tt; known = nothing_in }

  pub no_entries : entries_of places ≡ []
  no_entries = entries_is places [] apart rows

  pub timetable_new : (next previous : List ℕ) (m room tick : ℕ) → n ≤ most_items → m ≡ n + 256 → next ≡ range_with_len 0 m → previous ≡ range_with_len 0 m
      → 3 * n ≤ room → IsTimetable places next previous [] room 0 0 tick
  timetable_new next previous m room tick few m_is next_is previous_is enough = record {
    few = omega arith;
    apart = apart;
    wheel = record {
      next_length = let e = ap (length {A = ℕ}) next_is in let f = length-range_with_len 0 m in omega arith;
      previous_length = let e = ap (length {A = ℕ}) previous_is in let f = length-range_with_len 0 m in omega arith;
      heads = λ k high. ap (later_than tick) (nothing_in k);
      rings = rings_alone _ _ _ _ (length places + 256)
          (λ x low. ap (λ (z : List ℕ). get_or z x 0) next_is ∙ (get_or-range_with_len 0 m x 0 (omega arith) ∙ (omega arith)))
          (λ x low. ap (λ (z : List ℕ). get_or z x 0) previous_is ∙ (get_or-range_with_len 0 m x 0 (omega arith) ∙ (omega arith)))
          (λ x. ap (λ (z : Option DuePlace). head_by (length places) x (later_than tick z)) (nothing_in x));
    };
    due_is = sym (ap (due_part tick) no_entries);
    early = All-nil (λ e. e.place.due ≤ tick);
    passed = refl;
    enough = omega arith;
    count_is = sym (ap (length {A = Entry}) no_entries);
  }
