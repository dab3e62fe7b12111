use Rattle.wq_delay.proofs.Common.{◌≡◌, ℕ, ◌+◌, ◌%◌, [], ◌∷◌, map, length, slice_index, sym, refl, ap, ◌∙◌, subst, arith, get_or_read, map-append, entry_of}
use Rattle.wq_delay.proofs.Finding.{Finding, head_low, finding_init, finding_end, finding_pass, finding_take, item_there, less_read}
use Rattle.wq_delay.proofs.Earliest.{found_passed}
use Rattle.wq_delay.proofs.timetable.find.Goals.{in-Some+then-place-now+in_ok-push, in-Some+else-place-now, in_default}
use Rattle.wq_delay.proofs.timetable.find.Goals as goal

pub returns-then-earliest-slot : goal.returns-then-earliest-slot
returns-then-earliest-slot c =
    found_passed c.args.places.now c.args.earliest.now c.args.tick c.args.now c.args.after (map entry_of c.args.found.now.items) c.requires.after.0
    c.requires.earliest c.if-earliest-slot.true c.requires.found

pub loop-item-init : goal.loop-item-init
loop-item-init c =
    let places = c.args.places.now in let next = c.args.rings.now.next.items in let previous = c.args.rings.now.previous.items in
    let t = c.args.tick in let n = c.args.after in let head : ℕ = length places + (t + 1 + n) % 256 in
    let low = head_low places next previous t c.args.now n head c.requires.after.0 refl c.requires.wheel in
    let step : c.index-item.result.now ≡ slice_index next head =
    get_or_read next head c.index-item.result.now (omega (arith, c.requires.wheel.next_length, low)) c.index-item.ensures 0 in
    subst (λ (z : ℕ). Finding places t c.args.now n head (map entry_of c.args.found.now.items) z) (sym step)
    (finding_init places next previous t c.args.now n head c.requires.after.0 refl c.requires.wheel (map entry_of c.args.found.now.items) c.requires.found)

pub loop-item-preserved : goal.loop-item-preserved
loop-item-preserved c =
    let places = c.args.places.now in let next = c.args.rings.now.next.items in let previous = c.args.rings.now.previous.items in
    let t = c.args.tick in let n = c.args.after in let now = c.args.now in let head : ℕ = length places + (t + 1 + n) % 256 in
    let x = c.loop-item.item in let l = c.loop-item.invariant in let ne = c.loop-item-test.true in
    let es = map entry_of c.loop-item.found.items in
    let there = item_there places next previous t now n head c.requires.after.0 refl c.requires.wheel es x l ne in
    let step : c.index-item-in-loop-item.result.now ≡ slice_index next x =
    get_or_read next x c.index-item-in-loop-item.result.now (omega (arith, l.low, c.requires.wheel.next_length)) c.index-item-in-loop-item.ensures 0 in
    subst (λ (z : ℕ). Finding places t now n head (map entry_of c.match-places-item.found.items) z) (sym step)
    (elim c.match-places-item.branch [
      | in-Some+then-place-now+in_ok-push w ↦ rw w.found-is
          (finding_take places next previous t now n head c.requires.after.0 refl c.requires.wheel es x l ne (map entry_of w.push.new.self.items)
          w.in-Some.place w.in-Some.is w.if-place-now.true
          (ap (map entry_of) w.in_ok-push.ensures.items ∙ map-append entry_of c.loop-item.found.items (record { place = w.in-Some.place; item = x } ∷ [])))
      | in-Some+else-place-now w ↦ rw w.found-is
          (finding_pass places next previous t now n head c.requires.after.0 refl c.requires.wheel es x l ne
          w.in-Some.place w.in-Some.is w.if-place-now.false)
      | in_default w ↦ let some = there.0 in let none = w.in_default.is in absurd (cc)
    ])

pub loop-item-smaller : goal.loop-item-smaller
loop-item-smaller c =
    let places = c.args.places.now in let next = c.args.rings.now.next.items in let previous = c.args.rings.now.previous.items in
    let t = c.args.tick in let n = c.args.after in let now = c.args.now in let head : ℕ = length places + (t + 1 + n) % 256 in
    less_read places next previous t now n head c.requires.after.0 refl c.requires.wheel (map entry_of c.loop-item.found.items)
    c.loop-item.item c.loop-item.invariant c.loop-item-test.true c.index-item-in-loop-item.result.now c.index-item-in-loop-item.ensures

pub returns : goal.returns
returns c =
    let places = c.args.places.now in let next = c.args.rings.now.next.items in let previous = c.args.rings.now.previous.items in
    let t = c.args.tick in let n = c.args.after in let head : ℕ = length places + (t + 1 + n) % 256 in
    finding_end places next previous t c.args.now n head c.requires.after.0 refl c.requires.wheel c.loop-item.item (map entry_of c.loop-item.found.items)
    c.loop-item.invariant c.loop-item-test.false
