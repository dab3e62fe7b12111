use Rattle.wq_calls.proofs.Common.{◌≡◌, ◌≢◌, ℕ, [], ◌∷◌, ◌++◌, Some, sym, ap, ◌∙◌, subst, IsPrefix, Begin, accepted, begun, ended, own, owner_seat}
use Rattle.wq_calls.proofs.Common.{IsRunning, IsClosed, IsShut, Carries, Stage, Standing, ValuePart, learns_more, Known, Sees, batch, next_of, OwnerSeat}
use Rattle.wq_calls.proofs.Common.{Owning as Inside, owning, owner_view, OwnsQueue, kept_batch, OwnsSlots}
use Rattle.wq_table.specs.Plays.{tail_of}
use Rattle.wq_calls.specs.Hands.{OwnsEmptied}
use Rattle.wq_calls.proofs.Valuing.{exchanged_standing, exchanged_learns}
use Rattle.wq_calls.proofs.ValueHands.{front_waits, front_begins, front_slot, emptied_slot, emptied_value, emptied_kind}
use Rattle.wq_calls.proofs.owner_seat.OwnerSeat.begin_value.Goals as goal

-- an owner with another chair
abbrev seated_on : {V : Type 0} → OwnerSeat V → Standing → Inside
seated_on s it = record (owning s) { chair = it }

pub exchange-value-requires : goal.exchange-value-requires
exchange-value-requires g c = let s = owning c.args.self.now in let o = c.requires.owns in let front = front_waits s o.queue c.requires.waits in
    record {
      slot = front_slot s.row.front front.0 c.args.self.now.chair c.requires.slots
          (subst (OwnsSlots c.args.self.now.chair) (ap kept_batch front.1) o.slots);
    }

pub begin-requires : goal.begin-requires
begin-requires g c = let s = c.args.self.now in let o = c.requires.owns in let front = front_waits (owning s) o.queue c.requires.waits in
    let mid = c.exchange-value.new.self in let x = c.exchange-value.ensures.exchanged in
    let same = ap (seated_on s) (sym (exchanged_standing _ _ _ s.chair mid x)) in record {
      owns = subst OwnsQueue same o.queue;
      slots = subst (OwnsEmptied mid s.row.front) (sym (ap (λ (t : ValuePart g.row.V.Denot). tail_of (kept_batch t.part.stage)) x.first_is
          ∙ ap (λ (st : Stage). tail_of (kept_batch st)) front.1))
          (emptied_slot s.row.front front.0 c.exchange-value.result s.chair mid c.requires.slots front.1
          (subst (OwnsSlots s.chair) (ap kept_batch front.1) o.slots) x);
      waits = subst (λ (z : Inside). batch (owner_view z).seen ≢ []) same c.requires.waits;
      idle = subst (λ (z : Inside). ¬ IsRunning (owner_view z).seen) same c.requires.idle;
    }

pub returns : goal.returns
returns g c = let s = c.args.self.now in let o = c.requires.owns in let front = front_waits (owning s) o.queue c.requires.waits in
    let mid = c.exchange-value.new.self in let x = c.exchange-value.ensures.exchanged in let b = c.begin.ensures in
    let n = c.begin.result in let t = owner_view (owning c.begin.new.self) in
    let same = ap (λ (it : Standing). owner_view (seated_on s it)) (exchanged_standing _ _ _ s.chair mid x) in
    let next : next_of (owner_view (owning s)).seen ≡ Some n = subst (λ (k : Known). next_of k.seen ≡ Some n) same b.next in
    let slots = subst (OwnsSlots s.chair) (ap kept_batch front.1) o.slots in record {
      owns = b.owns;
      learns = exchanged_learns _ _ _ s.chair mid x 0 _ b.learns;
      next = next;
      seen = subst (λ (k : Known). Sees (Begin n ∷ []) 0 k t) same b.seen;
      unqueued = b.unqueued ∙ ap (λ (k : Known). accepted (own owner_seat k.seen)) same;
      executions = subst (λ (k : Known). (begun t.seen ≡ begun k.seen ++ n ∷ []) × (ended t.seen ≡ ended k.seen)) same b.executions;
      batch = sym (ap (λ (k : Known). batch k.seen) same) ∙ b.batch;
      value = emptied_value s.row.front front.0 c.exchange-value.result s.chair mid c.requires.slots front.1 slots x c.begin.new.self.chair.first.brought
          o.queue.stands (subst (λ (t : ValuePart g.row.V.Denot). IsPrefix t.brought c.begin.new.self.chair.first.brought) x.first_is
          (learns_more 0 _ _ b.learns));
      kind = subst (λ (k : ℕ). Carries s.layout.items k c.exchange-value.result) (front_begins (owning s) o.queue c.requires.waits n next)
          (emptied_kind s.row.front front.0 c.exchange-value.result s.chair mid c.requires.slots front.1 slots x s.layout o.queue.layout_is);
      runs = b.runs;
      running = b.running;
      shut = λ was. b.shut (subst (λ (k : Known). IsShut k.seen) (sym same) was);
      closed = λ was. b.closed (subst (λ (k : Known). IsClosed k.seen) (sym same) was);
      «open» = λ was. b.«open» (subst (λ (k : Known). ¬ IsShut k.seen) (sym same) was);
      unclosed = λ was. b.unclosed (subst (λ (k : Known). ¬ IsClosed k.seen) (sym same) was);
    }
