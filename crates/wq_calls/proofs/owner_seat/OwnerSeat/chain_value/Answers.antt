use Rattle.wq_calls.proofs.Common.{◌≡◌, ◌≢◌, ◌<◌, [], ◌∷◌, ap, sym, subst, refl, ◌∙◌, arith, append-nil, ChainBusy, Layout, standing_of, ValuePart}
use Rattle.wq_calls.proofs.Common.{beside_queue, learns_follow, learns_step, Row, batch, owning, owner_view, Stands, HasBoth, kept_batch}
use Rattle.wq_words.specs.declared.event.Event.TheVariants.{Chain}
use Rattle.wq_calls.proofs.Resting.{closed_stays, unclosed_stays, shut_stays, quiet_runs}
use Rattle.wq_calls.proofs.OwnerTells.{makes_stands}
use Rattle.wq_calls.proofs.OwnerHands.{seat_slots}
use Rattle.wq_calls.proofs.Chained.{busy_owns, busy_sees, busy_batch, clear_tells, clear_stage, clear_behind, chained_owns, chained_sees, chained_batch}
use Rattle.wq_calls.proofs.ValueHands.{busy_hand, chained_slot, hung_follows, hung_chained, hung_value, hung_learns}
use Rattle.wq_calls.proofs.OwnerStays.{still_executed, still_running}
use Rattle.wq_calls.proofs.owner_seat.OwnerSeat.chain_value.Goals as goal

pub returns-then-chain_value-ne0 : goal.returns-then-chain_value-ne0
returns-then-chain_value-ne0 g c =
    let s = owning c.args.self.now in let o = c.requires.owns.queue in let k = c.args.item in let w = c.chain_value.result in
    let q = standing_of c.chain_value.new.self in let steps = c.chain_value.ensures.step.steps in let busy : w ≢ 0 = c.if-chain_value-ne0.true in
    let x = c.saturating_add-self.result in let count = c.saturating_add-self.ensures in
    let owns = busy_owns k w s q o steps busy x count in let sees = busy_sees k w s q o steps busy x count in
    let learns = learns_step 0 _ _ _ _ _ c.chain_value.ensures.step in let same = busy_batch k w s q o steps busy x count in record {
      owns = record {
        queue = owns;
        slots = seat_slots c.args.self.now (record c.args.self.now { chair = c.chain_value.new.self; counts = record s.counts { chain_busy = x } })
            c.requires.owns owns learns (busy_hand k w _ _ _ busy c.chain_value.ensures.step) same (ChainBusy k ∷ []) 0 sees refl;
      };
      learns = learns;
      answer = sees;
      value = refl;
      same = sees.same;
      batch = same ∙ sym (append-nil (batch s.chair.part.seen));
      executions = still_executed 0 (ChainBusy k ∷ []) (owner_view s) _ refl sees refl refl;
      running = still_running 0 (ChainBusy k ∷ []) (owner_view s) _ refl sees refl refl;
      shut = shut_stays (ChainBusy k ∷ []) 0 (owner_view s) _ refl sees refl c.requires.shut;
      closed = closed_stays (ChainBusy k ∷ []) 0 (owner_view s) _ sees;
      unclosed = unclosed_stays (ChainBusy k ∷ []) 0 (owner_view s) _ refl sees refl;
      runs = quiet_runs (ChainBusy k ∷ []) 0 (owner_view s) _ refl sees refl refl c.requires.runs;
    }

pub exchange-requires : goal.exchange-requires
exchange-requires g c = let seat = c.args.self.now in let s = owning seat in let o = c.requires.owns.queue in let k = c.args.item in
    let w = c.chain_value.result in let mid = c.chain_value.new.self in let step = c.chain_value.ensures.step in
    let clear : w ≡ 0 = omega (arith, c.if-chain_value-ne0.false) in record {
      slot = chained_slot k w c.args.value (kept_batch s.chair.part.stage) seat.chair mid o.number_is o.has_row.stage_is c.requires.slots clear step
          (clear_tells k w s (standing_of mid) o step.steps clear);
    }

pub hang-self-requires-clause-stands : goal.hang-self-requires-clause-stands
hang-self-requires-clause-stands g c =
    let first = c.turn_hand.ensures.turned.first_is ∙ c.exchange.ensures.exchanged.first_is in
    subst (λ (t : ValuePart g.row.V.Denot). Stands t.part) (sym first)
    (makes_stands _ _ c.args.self.now.chair.first.part c.chain_value.new.self.first.part c.chain_value.ensures.step.steps.moves.makes)

pub hang-self-requires-clause-both : goal.hang-self-requires-clause-both
hang-self-requires-clause-both g c = let s = owning c.args.self.now in let q = standing_of c.chain_value.new.self in
    let clear : c.chain_value.result ≡ 0 = omega (arith, c.if-chain_value-ne0.false) in
    let first = c.turn_hand.ensures.turned.first_is ∙ c.exchange.ensures.exchanged.first_is in
    subst (λ (t : ValuePart g.row.V.Denot). HasBoth s.row c.of_one.result t.part) (sym first)
    (subst (λ (r : Row). HasBoth s.row r q.part) (sym c.of_one.ensures)
    (clear_behind c.args.item c.chain_value.result s q c.requires.owns.queue c.chain_value.ensures.step.steps clear))

pub returns : goal.returns
returns g c = let seat = c.args.self.now in let s = owning seat in let o = c.requires.owns.queue in let k = c.args.item in let w = c.chain_value.result in
    let mid = c.chain_value.new.self in let q = standing_of mid in let step = c.chain_value.ensures.step in let steps = step.steps in
    let clear : w ≡ 0 = omega (arith, c.if-chain_value-ne0.false) in
    let ks = kept_batch s.chair.part.stage in let told = clear_tells k w s q o steps clear in
    let filled = c.exchange.new.self in let put = c.turn_hand.new.self in let exchanged = c.exchange.ensures.exchanged in
    let turn = c.turn_hand.ensures.turned in
    let first = turn.first_is ∙ exchanged.first_is in
    let x = c.saturating_add-self-2.result in let e = c.hang-self.ensures in let new = c.hang-self.new.chair in
    let stands : Stands put.first.part = subst (λ (t : ValuePart g.row.V.Denot). Stands t.part) (sym first)
    (makes_stands _ _ seat.chair.first.part mid.first.part steps.moves.makes) in
    let stays = e.stage ∙ ap (λ (t : ValuePart g.row.V.Denot). t.part.stage) first in
    let t = record s { chair = standing_of new; row = c.hang-self.result; counts = record s.counts { chained = x } } in
    let follows = hung_follows k w c.args.value ks seat.chair mid o.number_is o.has_row.stage_is c.requires.slots clear step told c.exchange.result filled put
    exchanged turn new stands e.learns e.follows in
    let queue = beside_queue 0 _ _ (learns_follow 0 _ _ e.learns) ∙ (turn.queue_is ∙ exchanged.queue_is) in
    let sees = chained_sees k w s q o steps clear t follows e.stands e.has_row refl queue in record {
      owns = record {
        queue = chained_owns k w s q o steps clear t follows e.stands e.has_row refl refl refl x c.saturating_add-self-2.ensures refl;
        slots = hung_chained k w c.args.value ks seat.chair mid o.number_is o.has_row.stage_is c.requires.slots clear step told c.exchange.result filled put
            exchanged turn new stands e.learns e.follows (subst (λ (l : Layout). k < l.items) (sym o.layout_is) c.requires.item) c.requires.owns.slots stays
            (clear_stage k w s q o steps clear) e.hand;
      };
      learns = hung_learns k w c.args.value ks seat.chair mid o.number_is o.has_row.stage_is c.requires.slots clear step told c.exchange.result filled put
          exchanged turn new stands e.learns e.follows;
      answer = (refl, refl, sees);
      value = hung_value k w c.args.value ks seat.chair mid o.number_is o.has_row.stage_is c.requires.slots clear step told c.exchange.result filled put
          exchanged turn new stands e.learns e.follows (owner_view t) refl;
      same = sees.same;
      batch = chained_batch k w s q o steps clear t follows e.stands e.has_row stays;
      executions = still_executed 0 (Chain k ∷ []) (owner_view s) _ refl sees refl refl;
      running = still_running 0 (Chain k ∷ []) (owner_view s) _ refl sees refl refl;
      shut = shut_stays (Chain k ∷ []) 0 (owner_view s) _ refl sees refl c.requires.shut;
      closed = closed_stays (Chain k ∷ []) 0 (owner_view s) _ sees;
      unclosed = unclosed_stays (Chain k ∷ []) 0 (owner_view s) _ refl sees refl;
      runs = quiet_runs (Chain k ∷ []) 0 (owner_view s) _ refl sees refl refl c.requires.runs;
    }
