use Rattle.wq_calls.proofs.Common.{◌∙◌, ◌==◌}
use Rattle.wq_calls.proofs.Pushing.{closed_comes, draining_comes, looked_small, looked_held, has_seen, linked_small, has_linked, linked_brings, push_wins, push_loses}
use Rattle.wq_calls.proofs.trying.try_push.Goals as goal

pub returns-then-word-closed : goal.returns-then-word-closed
returns-then-word-closed g c =
    let came = closed_comes g.P.WhichPart.at c.args.number c.look-word.result c.args.chair.now c.look-word.new.self c.requires.sender c.look-word.ensures.step
    (c.if-word-closed.true ∙ c.to_word-closed.ensures.word) in record {
      posts = came.posts;
      sees_closed = came.sees_closed;
      sees = came.sees;
      sender = came.sender;
      learns = came.learns;
      slots = came.slots;
    }

pub returns-then-word-draining : goal.returns-then-word-draining
returns-then-word-draining g c =
    let came = draining_comes g.P.WhichPart.at c.args.number c.look-word.result c.args.chair.now c.look-word.new.self c.requires.sender c.look-word.ensures.step
    (c.if-word-draining.true ∙ c.to_word-draining.ensures.word) in record {
      posts = came.posts;
      sees_closed = came.sees_closed;
      sees = came.sees;
      sender = came.sender;
      learns = came.learns;
      slots = came.slots;
    }

pub link-requires-clause-number : goal.link-requires-clause-number
link-requires-clause-number g c = looked_small g.P.WhichPart.at c.args.number c.look-word.result c.args.chair.now c.look-word.new.self c.requires.sender
    c.look-word.ensures.step c.requires.number

pub link-requires-clause-seen : goal.link-requires-clause-seen
link-requires-clause-seen g c = has_seen g.P.WhichPart.at c.args.number c.look-word.result c.args.chair.now c.look-word.new.self c.requires.sender
    c.look-word.ensures.step

pub link-requires-clause-held : goal.link-requires-clause-held
link-requires-clause-held g c = looked_held g.P.WhichPart.at c.args.number c.look-word.result c.args.chair.now c.look-word.new.self c.requires.sender
    c.look-word.ensures.step c.requires.held

pub push-requires-clause-number : goal.push-requires-clause-number
push-requires-clause-number g c = linked_small g.P.WhichPart.at c.args.number c.look-word.result c.args.chair.now c.look-word.new.self c.requires.sender
    c.look-word.ensures.step c.link.new.self c.link.ensures.step c.requires.number

pub push-requires-clause-linked : goal.push-requires-clause-linked
push-requires-clause-linked g c = has_linked g.P.WhichPart.at c.args.number c.look-word.result c.args.chair.now c.look-word.new.self c.requires.sender
    c.look-word.ensures.step c.link.new.self c.link.ensures.step

pub push-requires-clause-slot : goal.push-requires-clause-slot
push-requires-clause-slot g c some = (linked_brings g.P.WhichPart.at c.args.number c.look-word.result c.args.chair.now c.look-word.new.self c.requires.sender
    c.look-word.ensures.step c.link.new.self c.link.ensures.step c.requires.slot some).0

pub push-requires-clause-carries : goal.push-requires-clause-carries
push-requires-clause-carries g c some = (linked_brings g.P.WhichPart.at c.args.number c.look-word.result c.args.chair.now c.look-word.new.self c.requires.sender
    c.look-word.ensures.step c.link.new.self c.link.ensures.step c.requires.slot some).1

pub returns-then-push-word : goal.returns-then-push-word
returns-then-push-word g c =
    let w = c.look-word.result in let e = c.link_word.ensures.word in let f = c.to_word-empty.ensures.word in
    let came = push_wins g.P.WhichPart.at c.args.number w c.args.chair.now c.look-word.new.self c.requires.sender c.look-word.ensures.step c.link.new.self
    c.link.ensures.step c.push.new.self c.push.result c.push.ensures.step c.if-push-word.true (c.link_word.result == c.to_word-empty.result)
    (w == c.to_word-empty.result) (λ i. e i == f i) (λ i. w == f i) in record {
      posts = came.posts;
      sees_closed = came.sees_closed;
      sees = came.sees;
      sender = came.sender;
      learns = came.learns;
      slots = came.slots;
    }

pub returns : goal.returns
returns g c =
    let came = push_loses g.P.WhichPart.at c.args.number c.look-word.result c.args.chair.now c.look-word.new.self c.requires.sender c.look-word.ensures.step
    c.link.new.self c.link.ensures.step c.push.new.self c.push.result c.push.ensures.step c.if-push-word.false in record {
      posts = came.posts;
      sees_closed = came.sees_closed;
      sees = came.sees;
      sender = came.sender;
      learns = came.learns;
      slots = came.slots;
    }
