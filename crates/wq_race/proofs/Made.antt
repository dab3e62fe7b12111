-- The seats of a new team.
use Rattle.wq_race.proofs.Common.{◌≡◌, ℕ, ◌+◌, List, [], ◌∷◌, ◌++◌, length, sym, ap, ◌∙◌, subst, arith, length-append, QueueId, Layout, IsLegal, owner_seat}
use Rattle.wq_race.proofs.Common.{own, Grows, Known, new_owner, new_sender, new_senders, made_nothing, two_less, Plan, Team, IsLayoutOf, IsNewTeam}

-- the senders of a new queue, of which the last two are taken
pub record IsShared (q : QueueId) (l : Layout) (n : ℕ) (xs : List Known) (own program : Known) : Type 0 where
  pub rest_is : xs ≡ new_senders q l n
  pub own_is : own ≡ new_sender q l n
  pub program_is : program ≡ new_sender q l (n + 1)

pub shared : (q : QueueId) (l : Layout) (n : ℕ) (all more xs : List Known) (own program : Known) → l.senders ≡ n + 2
    → all ≡ new_senders q l l.senders → all ≡ more ++ program ∷ [] → more ≡ xs ++ own ∷ [] → IsShared q l n xs own program
shared q l n all more xs own program count made one two =
    let less = two_less q l n l.senders all more xs own program count made one two in
    record { rest_is = less.0; own_is = less.1; program_is = less.2 }

pub length-last : (xs ys : List Known) (x : Known) (n : ℕ) → length xs ≡ n → xs ≡ ys ++ x ∷ [] → length ys + 1 ≡ n
length-last xs ys x n count is = omega (arith, count, ap length is, length-append ys (x ∷ []))

pub new_team : (plan : Plan) (l : Layout) (o mine program : Known) (xs : List Known) (t : Team) → IsLayoutOf plan.senders plan.own l
    → o ≡ new_owner o.queue l → IsShared o.queue l plan.senders xs mine program
    → t.senders.items ≡ xs → t.program ≡ program → t.worker.queue ≡ o.queue → t.worker.layout ≡ o.layout → t.worker.number ≡ mine.number
    → t.worker.work.ran.items ≡ []
    → Grows owner_seat [] 0 o.seen t.worker.seen → Grows mine.number [] 0 mine.seen t.worker.seen → IsLegal t.worker.layout t.worker.seen → IsNewTeam plan t
new_team plan l o mine program xs t sized owner s senders last queue layout number unrun grows_owner grows_own legal =
    let same : t.worker.layout ≡ l = layout ∙ ap (λ (k : Known). k.layout) owner in
    let at : mine.number ≡ plan.senders = ap (λ (k : Known). k.number) s.own_is in
    record {
      layout = subst (IsLayoutOf plan.senders plan.own) (sym same) sized;
      senders_are = senders ∙ (s.rest_is ∙ (λ i. new_senders (sym queue i) (sym same i) plan.senders));
      number_is = number ∙ at;
      program_is = last ∙ (s.program_is ∙ (λ i. new_sender (sym queue i) (sym same i) (plan.senders + 1)));
      untouched = made_nothing owner_seat 0 o.seen t.worker.seen (ap (λ (k : Known). k.seen) owner) grows_owner;
      unsent = subst (λ (n : ℕ). own n t.worker.seen ≡ []) (sym number)
          (made_nothing mine.number 0 mine.seen t.worker.seen (ap (λ (k : Known). k.seen) s.own_is) grows_own);
      unrun = unrun;
      legal = legal;
    }
