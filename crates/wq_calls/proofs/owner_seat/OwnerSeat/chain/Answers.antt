use Rattle.wq_calls.proofs.Common.{◌≡◌, ◌≢◌, [], ◌∷◌, sym, subst, refl, ◌∙◌, arith, append-nil, ChainBusy, standing_of, beside_queue, learns_follow}
use Rattle.wq_calls.proofs.Common.{learns_step, step_or, Row, batch, owning, owner_view, HasBoth, kept_batch}
use Rattle.wq_words.specs.declared.event.Event.TheVariants.{Chain}
use Rattle.wq_calls.proofs.Resting.{closed_stays, unclosed_stays, shut_stays, quiet_runs}
use Rattle.wq_calls.proofs.OwnerTells.{makes_stands}
use Rattle.wq_calls.proofs.OwnerHands.{seat_slots, bare_slots}
use Rattle.wq_calls.proofs.Chained.{busy_owns, busy_sees, busy_batch, clear_behind, chained_owns, chained_sees, chained_batch}
use Rattle.wq_calls.proofs.OwnerStays.{still_executed, still_running}
use Rattle.wq_calls.proofs.owner_seat.OwnerSeat.chain.Goals as goal

pub returns-then-chain-ne0 : goal.returns-then-chain-ne0
returns-then-chain-ne0 g c =
    let s = owning c.args.self.now in let o = c.requires.owns.queue in let k = c.args.item in let w = c.chain.result in
    let q = standing_of c.chain.new.self in let steps = c.chain.ensures.step.steps in let busy : w ≢ 0 = c.if-chain-ne0.true in
    let x = c.saturating_add-self.result in let count = c.saturating_add-self.ensures in
    let owns = busy_owns k w s q o steps busy x count in let sees = busy_sees k w s q o steps busy x count in
    let learns = learns_step 0 _ _ _ _ _ c.chain.ensures.step in let same = busy_batch k w s q o steps busy x count in record {
      owns = record {
        queue = owns;
        slots = seat_slots c.args.self.now (record c.args.self.now { chair = c.chain.new.self; counts = record s.counts { chain_busy = x } }) c.requires.owns
            owns learns (c.chain.ensures.step.hand_same c.requires.bare) same (ChainBusy k ∷ []) 0 sees refl;
      };
      learns = learns;
      answer = sees;
      same = sees.same;
      batch = same ∙ sym (append-nil (batch s.chair.part.seen));
      executions = still_executed 0 (ChainBusy k ∷ []) (owner_view s) _ refl sees refl refl;
      running = still_running 0 (ChainBusy k ∷ []) (owner_view s) _ refl sees refl refl;
      shut = shut_stays (ChainBusy k ∷ []) 0 (owner_view s) _ refl sees refl c.requires.shut;
      closed = closed_stays (ChainBusy k ∷ []) 0 (owner_view s) _ sees;
      unclosed = unclosed_stays (ChainBusy k ∷ []) 0 (owner_view s) _ refl sees refl;
      runs = quiet_runs (ChainBusy k ∷ []) 0 (owner_view s) _ refl sees refl refl c.requires.runs;
    }

pub hang-self-requires-clause-stands : goal.hang-self-requires-clause-stands
hang-self-requires-clause-stands g c =
    makes_stands _ _ c.args.self.now.chair.first.part c.chain.new.self.first.part c.chain.ensures.step.steps.moves.makes

pub hang-self-requires-clause-both : goal.hang-self-requires-clause-both
hang-self-requires-clause-both g c = let s = owning c.args.self.now in let q = standing_of c.chain.new.self in
    let clear : c.chain.result ≡ 0 = omega (arith, c.if-chain-ne0.false) in
    subst (λ (r : Row). HasBoth s.row r q.part) (sym c.of_one.ensures)
    (clear_behind c.args.item c.chain.result s q c.requires.owns.queue c.chain.ensures.step.steps clear)

pub returns : goal.returns
returns g c = let s = owning c.args.self.now in let o = c.requires.owns.queue in let k = c.args.item in let w = c.chain.result in
    let q = standing_of c.chain.new.self in let steps = c.chain.ensures.step.steps in let clear : w ≡ 0 = omega (arith, c.if-chain-ne0.false) in
    let x = c.saturating_add-self-2.result in let e = c.hang-self.ensures in
    let t = record s { chair = standing_of c.hang-self.new.chair; row = c.hang-self.result; counts = record s.counts { chained = x } } in
    let queue = beside_queue 0 _ _ (learns_follow 0 _ _ e.learns) in
    let sees = chained_sees k w s q o steps clear t e.follows e.stands e.has_row refl queue in record {
      owns = record {
        queue = chained_owns k w s q o steps clear t e.follows e.stands e.has_row refl refl refl x c.saturating_add-self-2.ensures refl;
        slots = bare_slots c.args.self.now.chair c.hang-self.new.chair (kept_batch s.chair.part.stage) _ (queue ∙ steps.queue_is) c.requires.bare
            (e.hand ∙ c.chain.ensures.step.hand_same c.requires.bare) c.requires.owns.slots;
      };
      learns = step_or 0 _ _ _ _ _ _ c.chain.ensures.step e.learns;
      answer = (refl, refl, sees);
      same = sees.same;
      batch = chained_batch k w s q o steps clear t e.follows e.stands e.has_row e.stage;
      executions = still_executed 0 (Chain k ∷ []) (owner_view s) _ refl sees refl refl;
      running = still_running 0 (Chain k ∷ []) (owner_view s) _ refl sees refl refl;
      shut = shut_stays (Chain k ∷ []) 0 (owner_view s) _ refl sees refl c.requires.shut;
      closed = closed_stays (Chain k ∷ []) 0 (owner_view s) _ sees;
      unclosed = unclosed_stays (Chain k ∷ []) 0 (owner_view s) _ refl sees refl;
      runs = quiet_runs (Chain k ∷ []) 0 (owner_view s) _ refl sees refl refl c.requires.runs;
    }
