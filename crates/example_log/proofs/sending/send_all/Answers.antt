use Rattle.std.proofs.Common.{◌≡◌, [], ◌∷◌, Some, map, sym, ◌∙◌, subst, arith}
use Rattle.std.proofs.lemmas.List.{length-append}
use Rattle.std.proofs.lemmas.Iterator.Adapters.{YieldsList-from_vec}
use Rattle.std.proofs.lemmas.Iterator.Consumers.{YieldsList-end, YieldsList-turn}
use Rattle.std.specs.Vec.Iter.{into_iter_items}
use Rattle.wq_values.specs.Known.{IsSame}
use Rattle.example_log.specs.declared.sending.Client.{Client}
use Rattle.example_log.specs.declared.message.Log.TheVariants.{Access, Errors}
use Rattle.example_log.specs.Sent.{own_lines, lines_to, IsTurnedAway, SendsUnlessTurned, HasSent}
use Rattle.example_log.proofs.Messages.{given_first, has_sent, none_more, same_on, sent_more}
use Rattle.example_log.proofs.sending.send_all.Goals as goal
use Rattle.example_log.proofs.sending.send_all.Goals.{in-None, in-Some+then-not-send}

pub loop-message-preserved : goal.loop-message-preserved
loop-message-preserved g c =
    let l = c.loop-message in let i = l.invariant in let m = c.in-Some.message in let e = c.send.ensures in
    let into = c.into_iter-message-iterator.ensures.into_iter_gives in
    let turn = YieldsList-turn (YieldsList-from_vec {s = c.into_iter-message-iterator.result} c.args.messages.items into.0 (into.1 ∙ c.args.messages.ok.0))
    l.yielded l.message-iterator l.yielded_by c.next.result c.next.new.self m c.in-Some.is c.next.ensures.steps in (
      tt,
      tt,
      same_on c.args.client.access.known l.client.access.known c.send.new.client.access.known i.2 e.same_access,
      same_on c.args.client.errors.known l.client.errors.known c.send.new.client.errors.known i.3 e.same_errors,
      e.caller,
      c.item_behind-item.ensures.within.0,
      c.item_behind-item.ensures.within.1,
      omega (arith, i.7, turn.0, length-append l.yielded (m ∷ []), c.args.messages.ok.0, c.args.messages.small),
      sent_more Access l.yielded m c.send.result (own_lines l.client.access) (own_lines c.send.new.client.access) c.if-not-send.false i.8 e.to_access,
      sent_more Errors l.yielded m c.send.result (own_lines l.client.errors) (own_lines c.send.new.client.errors) c.if-not-send.false i.9 e.to_errors,
    )

pub returns : goal.returns
returns g c =
    let l = c.loop-message in let i = l.invariant in let into = c.into_iter-message-iterator in let messages = c.args.messages.items in
    let number = c.args.client.access.known.number in
    let Left : Client → Type 0 = λ now. HasSent c.args.client messages (record { access = now.access; errors = now.errors; count = l.count }) in
    let has : (now : Client) → IsSame c.args.client.access.known now.access.known → IsSame c.args.client.errors.known now.errors.known
    → own_lines now.access ≡ map Some (lines_to Access l.yielded) → own_lines now.errors ≡ map Some (lines_to Errors l.yielded)
    → SendsUnlessTurned number messages l.count now.access.known.seen now.errors.known.seen → Left now =
    λ now one two access errors ends.
    has_sent c.args.client (record { access = now.access; errors = now.errors; count = l.count }) messages l.yielded (into_iter_items l.message-iterator) i.7
    (sym into.ensures.into_iter_gives.0 ∙ given_first into.result l.yielded l.message-iterator l.yielded_by) one two access errors ends in
    record {
      sent = elim c.match-next.branch [
        | in-None w ↦ let all = YieldsList-end (YieldsList-from_vec {s = into.result} messages into.ensures.into_iter_gives.0
            (into.ensures.into_iter_gives.1 ∙ c.args.messages.ok.0)) l.yielded l.message-iterator l.yielded_by c.next.result c.next.new.self w.in-None.is
            c.next.ensures.steps in
            subst Left (sym w.client-is) (has l.client i.2 i.3 i.8 i.9 (λ less. absurd (omega (arith, i.7, all.1, less))))
        | in-Some+then-not-send w ↦ let m = w.in-Some.message in let e = w.send.ensures in let now = w.send.new.client in
            subst Left (sym w.client-is) (has now
            (same_on c.args.client.access.known l.client.access.known now.access.known i.2 e.same_access)
            (same_on c.args.client.errors.known l.client.errors.known now.errors.known i.3 e.same_errors)
            (none_more Access m w.send.result (own_lines l.client.access) (own_lines now.access)
            (map Some (lines_to Access l.yielded)) w.if-not-send.true i.8 e.to_access)
            (none_more Errors m w.send.result (own_lines l.client.errors) (own_lines now.errors)
            (map Some (lines_to Errors l.yielded)) w.if-not-send.true i.9 e.to_errors)
            (λ less. subst (λ n. IsTurnedAway n now.access.known.seen now.errors.known.seen) i.2.number_is (e.turned_away w.if-not-send.true)))
      ];
    }
