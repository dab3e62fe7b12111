use Rattle.std.proofs.Common.{◌≡◌, ◌≢◌, take, tests}
use Rattle.std.proofs.lemmas.Iterator.{YieldsList-from_slice, IsFirst-from_position}
use Rattle.wq_recording.proofs.LineBytes.{part_to_lf, part_without_lf}
use Rattle.wq_recording.proofs.lines.part_len.Goals as goal

pub returns-in-Some : goal.returns-in-Some
returns-in-Some c =
    let bytes = c.args.bytes.now in
    let most = c.min-most.result in
    let searched = IsFirst-from_position _ _ c.position.result (λ x. x ≡ 10) (λ x. x ≢ 10) c.position.ensures.ran
    (YieldsList-from_slice (take most bytes) c.iter.ensures.rest) (λ x q k. search tests) (λ x q k. search tests) in
    let part = part_to_lf bytes c.args.room most c.min-most.ensures c.in-Some.place (rw c.in-Some.is at searched) in
    record { bound = part.0; room = part.1; before = part.2; whole = λ less free. (part.3, part.4) }

pub returns-in-None : goal.returns-in-None
returns-in-None c =
    let bytes = c.args.bytes.now in
    let most = c.min-most.result in
    let searched = IsFirst-from_position _ _ c.position.result (λ x. x ≡ 10) (λ x. x ≢ 10) c.position.ensures.ran
    (YieldsList-from_slice (take most bytes) c.iter.ensures.rest) (λ x q k. search tests) (λ x q k. search tests) in
    let part = part_without_lf bytes c.args.room most c.min-most.ensures (rw c.in-None.is at searched) in
    record { bound = part.0; room = part.1; before = part.2; whole = λ less free. absurd (part.3 less free) }
