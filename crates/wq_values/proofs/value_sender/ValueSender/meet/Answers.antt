use Rattle.wq_values.proofs.ValueSends.{met_values, met_sees, met_learnt}
use Rattle.wq_calls.proofs.OwnBrought.{own_stays}
use Rattle.wq_calls.proofs.Growing.{own_kept}
use Rattle.wq_values.proofs.value_sender.ValueSender.meet.Goals as goal

pub invariant_of-self : goal.invariant_of-self
invariant_of-self g c = let e = c.meet.ensures.met in
    met_values e.machine e.brought e.sound (e.right c.self.invariant.slots) c.self.inside c.self.invariant c.meet.new.self e.this_fits e.this_knows e.this_is

pub returns-clause-this : goal.returns-clause-this
returns-clause-this g c = let e = c.meet.ensures.met in
    met_sees e.machine e.brought e.sound (e.right c.self.invariant.slots) c.self.inside c.self.invariant
    c.meet.new.self e.this_fits e.this_knows e.this_is c.args.self.now
    c.self.view_is

pub invariant_of-other : goal.invariant_of-other
invariant_of-other g c = let e = c.meet.ensures.met in
    met_values e.machine e.brought e.sound (e.right c.self.invariant.slots) c.other.inside c.other.invariant c.meet.new.other e.that_fits e.that_knows e.that_is

pub returns-clause-that : goal.returns-clause-that
returns-clause-that g c = let e = c.meet.ensures.met in
    met_sees e.machine e.brought e.sound (e.right c.self.invariant.slots) c.other.inside c.other.invariant
    c.meet.new.other e.that_fits e.that_knows e.that_is c.args.other.now
    c.other.view_is

pub returns-clause-learnt : goal.returns-clause-learnt
returns-clause-learnt g c = let e = c.meet.ensures.met in
    met_learnt e.machine e.brought e.sound (e.right c.self.invariant.slots) c.self.inside c.self.invariant
    c.meet.new.self e.this_fits e.this_knows e.this_is c.args.self.now
    c.self.view_is

pub returns-clause-theirs : goal.returns-clause-theirs
returns-clause-theirs g c = let e = c.meet.ensures.met in
    met_learnt e.machine e.brought e.sound (e.right c.self.invariant.slots) c.other.inside c.other.invariant
    c.meet.new.other e.that_fits e.that_knows e.that_is c.args.other.now
    c.other.view_is

pub returns-clause-own_values : goal.returns-clause-own_values
returns-clause-own_values g c = (
  own_stays 0 c.args.self.now _ (returns-clause-this g c) (returns-clause-learnt g c),
  own_stays 0 c.args.other.now _ (returns-clause-that g c) (returns-clause-theirs g c),
)

pub returns-clause-own : goal.returns-clause-own
returns-clause-own g c = (own_kept 0 c.args.self.now.known _ (returns-clause-this g c), own_kept 0 c.args.other.now.known _ (returns-clause-that g c))
