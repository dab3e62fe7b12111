-- Groups of senders, and the seats of one queue more.
use Rattle.wq_pool_plan.proofs.Common.{◌≡◌, ℕ, ◌+◌, ◌<◌, List, [], ◌∷◌, ◌++◌, length, get_or, sym, ap, ◌∙◌, subst, arith, length-append, each_more, Known}
use Rattle.wq_pool_plan.proofs.Common.{new_sender, get_or-new_senders, WorkerState, RunCounter, Plan, IsLayoutOf, IsNewTeam, Group, Teams, AreDealt, AreTeams}
use Rattle.wq_race.specs.declared.team.Team.{Team}
use Rattle.wq_words.proofs.AtPlaces.{both_more}

-- the first m of the groups were turned
pub record AreTurnedSoFar (m count : ℕ) (groups turned : List Group) : Type 0 where
  pub count_is : length turned ≡ count
  pub lengths : (j : ℕ) (d : Group) → j < count → length (get_or turned j d).senders.items ≡ m
  pub each : (i j : ℕ) (d e : Group) (x y : Known) → i < m → j < count
      → get_or (get_or turned j d).senders.items i x ≡ get_or (get_or groups i e).senders.items j y

pub turned_more : (m count : ℕ) (groups : List Group) (group : Group) (old new : List Group) → AreTurnedSoFar m count groups old
    → AreDealt group.senders.items old new → ((e : Group) → get_or groups m e ≡ group) → AreTurnedSoFar (m + 1) count groups new
turned_more m count groups group old new t a here = record {
  count_is = a.count ∙ t.count_is;
  lengths = λ j d lt.
      let more = a.longer j d d (omega (arith, lt, t.count_is)) in omega (arith, more, t.lengths j d lt);
  each = λ i j d e x y lt few.
      let was = (get_or old j d).senders.items in let one = get_or group.senders.items j y in
      let size = t.lengths j d few in
      let P : ℕ → Known → Type 0 = λ k z. (f : Group) → z ≡ get_or (get_or groups k f).senders.items j y in
      let last : P (length was) one = subst (λ (k : ℕ). P k one) (sym size) (λ f. ap (λ (g : Group). get_or g.senders.items j y) (sym (here f))) in
      let all = each_more P was one (λ k z low f. t.each k j d f z y (omega (arith, low, size)) few) last i x (omega (
        arith,
        lt,
        size,
        length-append was (one ∷ []),
      )) e in
      subst (λ (zs : List Known). get_or zs i x ≡ get_or (get_or groups i e).senders.items j y) (sym (a.each j d d y (omega (arith, few, t.count_is)))) all;
}

-- the seats of one queue more
pub teams_more : (plan : Plan) (old new : Teams) (team : Team) → AreTeams plan old → IsNewTeam plan team
    → new.served.items ≡ old.served.items ++ team.worker ∷ [] → new.programs.items ≡ old.programs.items ++ team.program ∷ []
    → AreDealt team.senders.items old.groups.items new.groups.items → AreTeams plan new
teams_more plan old new team t n served programs dealt =
    let ws = old.served.items in let w = team.worker in let ps = old.programs.items in let p = team.program in
    let k = length ws in
    let size : length new.served.items ≡ k + 1 = ap length served ∙ length-append ws (w ∷ []) in
    record {
      programs_count = omega (arith, size, ap length programs, length-append ps (p ∷ []), t.programs_count);
      groups_count = dealt.count ∙ t.groups_count;
      lengths = λ s d lt. omega (arith, size, dealt.longer s d d (omega (arith, lt, t.groups_count)), t.lengths s d lt);
      sized = λ q d lt. subst (λ (zs : List (WorkerState RunCounter)). IsLayoutOf plan.senders plan.own (get_or zs q d).layout) (sym served)
          (each_more (λ i z. IsLayoutOf plan.senders plan.own z.layout) ws w t.sized n.layout q d (omega (arith, lt, size, length-append ws (w ∷ []))));
      numbers = λ q d lt. subst (λ (zs : List (WorkerState RunCounter)). (get_or zs q d).number ≡ plan.senders) (sym served)
          (each_more (λ i z. z.number ≡ plan.senders) ws w t.numbers n.number_is q d (omega (arith, lt, size, length-append ws (w ∷ []))));
      programs = λ q d x lt.
          let P : ℕ → WorkerState RunCounter → Known → Type 0 = λ i a b. b ≡ new_sender a.queue a.layout (plan.senders + 1) in
          let all = both_more P ws ps w p t.programs_count (λ i a b low. t.programs i a b low) n.program_is q d x (omega (
            arith,
            lt,
            size,
            length-append ws (w ∷ []),
          )) in
          subst (λ (zs : List (WorkerState RunCounter)). P q (get_or zs q d) (get_or new.programs.items q x)) (sym served)
          (subst (λ (zs : List Known). P q (get_or (ws ++ w ∷ []) q d) (get_or zs q x)) (sym programs) all);
      senders = λ s q d g x lt few.
          let P : ℕ → WorkerState RunCounter → Known → Type 0 = λ i a b. b ≡ new_sender a.queue a.layout s in
          let xs = (get_or old.groups.items s g).senders.items in
          let here : P k w (get_or team.senders.items s x) = ap (λ (zs : List Known). get_or zs s x) n.senders_are
          ∙ get_or-new_senders w.queue w.layout plan.senders s x lt in
          let all = both_more P ws xs w (get_or team.senders.items s x) (t.lengths s g lt) (λ i a b low. t.senders s i a g b lt low) here q d x (omega (
            arith,
            few,
            size,
            length-append ws (w ∷ []),
          )) in
          subst (λ (zs : List (WorkerState RunCounter)). P q (get_or zs q d) (get_or (get_or new.groups.items s g).senders.items q x)) (sym served)
          (subst (λ (zs : List Known). P q (get_or (ws ++ w ∷ []) q d) (get_or zs q x)) (sym (dealt.each s g g x (omega (arith, lt, t.groups_count)))) all);
    }
