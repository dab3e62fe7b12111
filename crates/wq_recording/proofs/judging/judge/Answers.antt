use Rattle.wq_recording.proofs.Common.{◌≡◌, ℕ, List, [], Some, Err, sym, subst, ◌∙◌, refl, line_gives, short_line, last_fault, IsRefusedText, IsMadeAt, ScriptError, Awaited}
use Rattle.std.specs.Prelude.{IsSomeAnd}
use Rattle.std.proofs.lemmas.Result.{err_from_is_err_and, IfErr-weaker}
use Rattle.wq_text.specs.Sound.{SoundAt}
use Rattle.wq_recording.specs.Checking.{IsReadToFault}
use Rattle.wq_recording.specs.Judging.{refusal_of}
use Rattle.wq_recording.specs.Lines.{EndsWithLf}
use Rattle.wq_recording.proofs.Reading.{reads_start, reads_on, reads_violation, reads_fault, reads_rest, reads_all, refused_if, refused_by_line}
use Rattle.wq_recording.proofs.ReadThrough.{read_to_end, read_to_violation, read_to_fault, read_to_rest}
use Rattle.wq_recording.proofs.Saying.{both_known, ok_by_two, ok_by_three, refused_text, says_nothing}
use Rattle.wq_recording.proofs.judging.judge.Goals as goal

pub loop-number-init : goal.loop-number-init
loop-number-init g c =
    let r = g.L.Recording in
    record {
      sound = refl;
      made = tt;
      reads = λ known taken got. reads_start (line_gives g.L.Language.grammar) r.rules r.layout_of r.is_after known
          (g.B.Read.remaining c.args.reader.now) c.args.line.now.items taken got;
    }

pub returns-in-Rest-clause-found : goal.returns-in-Rest-clause-found
returns-in-Rest-clause-found g c = λ known taken got.
    let r = g.L.Recording in
    let laws = g.met.L.Recording in
    let l = c.loop-number in
    let gives = line_gives g.L.Language.grammar in
    let left = g.B.Read.remaining l.reader in
    let reads = l.invariant.reads known taken got in
    let bare = subst (λ (xs : List ℕ). ¬ EndsWithLf xs) c.deref.ensures.value c.in-Rest.ensures.1 in
    let is : c.in-Rest.rest.now ≡ l.line.items = c.in-Rest.ensures.0 ∙ c.deref.ensures.value in
    let done = c.last.ensures in
    ok_by_three c.last.result done.whole done.violation done.found (λ finding whole violation found.
    both_known known _ _
    (reads_all gives r.rules r.layout_of r.is_after known l.number l.awaited l.checker l.line.items left laws.begins laws.legal l.invariant.made reads
    found.0 finding bare (sym is ∙ whole) found.1 found.2)
    (read_to_end gives r.rules r.layout_of r.is_after known l.number l.awaited l.checker l.line.items
    left reads finding.violation violation bare (sym is ∙ whole)))

pub returns-in-Rest-clause-refused : goal.returns-in-Rest-clause-refused
returns-in-Rest-clause-refused g c = λ known taken got.
    let r = g.L.Recording in
    let laws = g.met.L.Recording in
    let l = c.loop-number in
    let line = l.line.items in
    let gives = line_gives g.L.Language.grammar in
    let left = g.B.Read.remaining l.reader in
    let reads = l.invariant.reads known taken got in
    let is : c.in-Rest.rest.now ≡ line = c.in-Rest.ensures.0 ∙ c.deref.ensures.value in
    let bare = subst (λ (xs : List ℕ). ¬ EndsWithLf xs) c.deref.ensures.value c.in-Rest.ensures.1 in
    let P : List ℕ → ScriptError → Type 0 = λ text e. IsRefusedText (short_line gives) r.rules text e × IsSomeAnd left (IsReadToFault e text) in
    let Q : ScriptError → Type 0 = λ e. (e.line ≡ l.number) × (last_fault l.awaited c.in-Rest.rest.now ≡ Some e.kind) in
    IfErr-weaker c.last.result _ _ (λ error fault. refused_text known P Q error fault (λ e here.
    both_known known _ _
    (reads_rest gives r.rules r.layout_of r.is_after known l.number l.awaited l.checker line left laws.begins laws.legal l.invariant.made reads
    e bare here.0 (subst (λ (xs : List ℕ). last_fault l.awaited xs ≡ Some e.kind) is here.1))
    (read_to_rest gives r.rules r.layout_of r.is_after known l.number l.awaited l.checker line left reads e here.0 bare)))
    c.last.ensures.refused

pub returns-in-Err-clause-refused : goal.returns-in-Err-clause-refused
returns-in-Err-clause-refused g c = λ known taken got.
    let r = g.L.Recording in
    let laws = g.met.L.Recording in
    let l = c.loop-number in
    let gives = line_gives g.L.Language.grammar in
    let left = g.B.Read.remaining l.reader in
    let reads = l.invariant.reads known taken got in
    let whole = sym c.deref.ensures.value ∙ c.in-Line.ensures in
    let line = c.in-Line.text.now in
    let P : List ℕ → ScriptError → Type 0 = λ text e. IsRefusedText (short_line gives) r.rules text e × IsSomeAnd left (IsReadToFault e text) in
    let Q : ScriptError → Type 0 = λ e. (e.line ≡ l.number) × (gives l.awaited line ≡ Err e.kind) in
    rw (c.refusal.ensures) (refused_if known P Q (refusal_of l.number c.in-Err.error)
    (refused_by_line l.number c.in-Err.error (gives l.awaited line) Q c.in-Err.ensures.fault (λ x here is. (here, is)))
    (λ e fault. both_known known _ _
    (reads_fault gives r.rules r.layout_of r.is_after known l.number l.awaited l.checker l.line.items left laws.begins laws.legal l.invariant.made reads
    line e whole fault.0 fault.1)
    (read_to_fault gives r.rules r.layout_of r.is_after known l.number l.awaited l.checker l.line.items left reads e fault.0 line whole)))

pub returns-in-Violation-clause-found : goal.returns-in-Violation-clause-found
returns-in-Violation-clause-found g c = λ known taken got.
    let r = g.L.Recording in
    let l = c.loop-number in
    let gives = line_gives g.L.Language.grammar in
    let left = g.B.Read.remaining l.reader in
    let reads = l.invariant.reads known taken got in
    let line = c.in-Line.text.now in
    let whole = sym c.deref.ensures.value ∙ c.in-Line.ensures in
    let told = rw (c.in-Violation.is) at c.in-Ok.ensures.told in
    ok_by_two c.found_so_far.result c.found_so_far.ensures.says c.found_so_far.ensures.violation (λ finding says violation.
    both_known known _ _
    (reads_violation gives r.rules r.layout_of r.is_after known l.number l.awaited l.checker l.line.items left told.0 told.1
    (record { line = l.number; cause = c.in-Violation.cause }) c.in-Violation.layout c.tell_line.new.checker finding line whole told.2 refl told.4
    g.met.L.Recording.legal says reads)
    (read_to_violation gives r.rules r.layout_of r.is_after known l.number l.awaited l.checker l.line.items
    left reads finding.violation _ line violation refl whole))

-- want of memory says nothing of the text
pub returns-in-Violation-clause-refused : goal.returns-in-Violation-clause-refused
returns-in-Violation-clause-refused g c = λ known taken got.
    IfErr-weaker c.found_so_far.result _ _ (λ error is. rw is (says_nothing known)) c.found_so_far.ensures.memory

-- nor does a reader that failed
pub returns-in_err-next_line : goal.returns-in_err-next_line
returns-in_err-next_line g c =
    let p = err_from_is_err_and c.from_residual.result c.from_residual.ensures.1 in
    record { found = λ known taken got. rw p.1 tt; refused = λ known taken got. rw (p.1, p.2) (says_nothing known) }

pub returns-clause-refused : goal.returns-clause-refused
returns-clause-refused g c = λ known taken got. says_nothing known

pub loop-number-preserved : goal.loop-number-preserved
loop-number-preserved g c =
    let r = g.L.Recording in
    let l = c.loop-number in
    let whole = sym c.deref.ensures.value ∙ c.in-Line.ensures in
    let told = rw (c.in-On.is) at c.in-Ok.ensures.told in
    let comes = told.4 in
    let language = g.L.Language in
    record {
      sound = subst (λ (s : Awaited). SoundAt language.grammar.most.senders language.fits s []) (sym comes.0) told.3;
      made = subst (λ (s : Awaited). IsMadeAt r.layout_of s c.tell_line.new.checker) (sym comes.0) comes.1;
      reads = λ known taken got. reads_on (line_gives language.grammar) r.rules r.layout_of r.is_after known l.number l.awaited l.checker
          l.line.items (g.B.Read.remaining l.reader) told.0 c.in-On.next told.1 c.tell_line.new.checker c.in-Line.text.now
          c.next_line.new.line.items (g.B.Read.remaining c.next_line.new.reader) whole told.2 comes.0 comes.2 c.in_ok-next_line.ensures.bytes
          c.in_ok-next_line.ensures.line (l.invariant.reads known taken got);
    }
