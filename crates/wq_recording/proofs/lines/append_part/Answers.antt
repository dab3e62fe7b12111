use Rattle.std.proofs.Common.{◌≡◌, OnSome, length, take, refl, subst, nat_lt, rules}
use Rattle.std.specs.Io.BufRead.{FillKeeps}
use Rattle.std.proofs.BufReadLemmas.{Consumes_shown}
use Rattle.std.proofs.Transfers.{starts_with_of_eq}
use Rattle.std.specs.Io.KnownBytes.{Consumes, IsAtEnd}
use Rattle.wq_recording.proofs.LineBytes.{part_room, part_stops, part_appends, part_bytes, part_read, same_room, same_stops, same_bytes, same_done}
use Rattle.wq_recording.proofs.lines.append_part.Given.{Over}
use Rattle.wq_recording.proofs.lines.append_part.Goals as goal

-- nothing came
pub returns-in-Err : goal.returns-in-Err
returns-in-Err g c =
    let line = c.args.line.now.items in
    let known = g.B.Read.remaining c.args.reader.now in
    let left = g.B.Read.remaining c.fill_buf.follows.lender-at-none in
    record {
      room = c.requires.room;
      stops = same_stops line line refl c.requires.none;
      appends = starts_with_of_eq line line refl;
      bytes = same_bytes line line refl c.requires.none known left c.fill_buf.follows.holds-at-none.0;
      done = same_done line line refl c.requires.none known left c.unless_interrupted.result c.unless_interrupted.ensures;
    }

pub returns-in_err-extend_from_slice : goal.returns-in_err-extend_from_slice
returns-in_err-extend_from_slice g c =
    let line = c.args.line.now.items in
    let new = c.extend_from_slice.new.self.items in
    let same = c.in_err-extend_from_slice.ensures.items in
    let known = g.B.Read.remaining c.args.reader.now in
    let left = g.B.Read.remaining c.fill_buf.follows.lender-at-none in
    record {
      room = same_room line new same c.requires.none c.requires.room;
      stops = same_stops line new same c.requires.none;
      appends = starts_with_of_eq new line same;
      bytes = same_bytes line new same c.requires.none known left c.fill_buf.follows.holds-at-none.0;
      done = search rules;
    }

-- the bytes that were shown are consumed, and where none was the reader is at its end
consumed : (g : Over) (c : goal.After-consume g)
    → Consumes (g.B.Read.remaining c.args.reader.now) (g.B.Read.remaining c.consume.new.self) (take c.part_len-count.result c.in-Ok.bytes.now)
    × (length c.in-Ok.bytes.now ≡ 0 → OnSome (g.B.Read.remaining c.args.reader.now) (IsAtEnd (g.B.Read.remaining c.consume.new.self)))
consumed g c =
    let count = c.part_len-count in
    let rested = c.fill_buf.follows.lender-at-none in
    let filled = subst (FillKeeps _ (g.B.Read.remaining rested) (g.B.BufRead.consumable_len rested)) c.in-Ok.is c.fill_buf.follows.holds-at-none in
    Consumes_shown _ _ _ _ c.in-Ok.bytes.now count.result count.ensures.bound c.in-Ok.ensures.front c.in-Ok.ensures.end filled.0 filled.1
    c.consume.ensures.bytes

pub returns : goal.returns
returns g c =
    let old = c.args.line.now.items in
    let new = c.extend_from_slice.new.self.items in
    let same = c.in_ok-extend_from_slice.ensures.items in
    let bytes = c.in-Ok.bytes.now in
    let count = c.part_len-count in
    let within = count.ensures.bound in
    let known = g.B.Read.remaining c.args.reader.now in
    let left = g.B.Read.remaining c.consume.new.self in
    let moved = consumed g c in
    record {
      room = part_room old bytes count.result within new same c.requires.room (search rules);
      stops = part_stops old bytes count.result within new same c.requires.none count.ensures.before;
      appends = part_appends old bytes count.result within new same;
      bytes = part_bytes old bytes count.result within new same known left moved.0;
      done = part_read old bytes count.result within new same known left c.is_end-is_end.result (nat_lt 4096 c.len-is_long.result)
          c.requires.room c.requires.none count.ensures.before c.is_end-is_end.ensures (search rules) (search rules) moved.1;
    }
