use Rattle.wq_recording.proofs.Common.{◌≡◌, ℕ, true, false, List, [], ◌∷◌, ◌++◌, sym, subst, ◌∙◌}
use Rattle.std.proofs.Common.{codes}
use Rattle.std.specs.Str.{bytes_eq}
use Rattle.std.specs.Prelude.{IsSomeAnd}
use Rattle.wq_recording.specs.Checking.{IsReadThrough, IsReadToFault, history_line, trace_line}
use Rattle.wq_recording.specs.HistoryReport.{history_rules}
use Rattle.wq_recording.specs.Lines.{EndsWithLf}
use Rattle.wq_recording.specs.TraceReport.{trace_rules}
use Rattle.wq_recording.specs.Verdict.{IsRefusedText}
use Rattle.wq_recording.proofs.FirstLine.{ok_as, err_as, FoundBy, RefusedBy}
use Rattle.wq_recording.proofs.Saying.{ok_weaker, refused_weaker}
use Rattle.wq_recording.proofs.checking.check.Goals as goal

pub returns-then-is_trace-clause-found : goal.returns-then-is_trace-clause-found
returns-then-is_trace-clause-found g c =
    let known = g.B.Read.remaining c.args.reader.now in
    let first = c.in_ok-next_line.ensures in
    let is = sym c.if-is_trace.true in
    let whole = subst (λ (l : List ℕ). (t : List ℕ) → l ≡ t ++ 10 ∷ [] → true ≡ bytes_eq t (codes "trace 1")) c.deref.ensures.value
    (λ t line. is ∙ c.is_trace.ensures.whole t line) in
    let rest = subst (λ (l : List ℕ). ¬ EndsWithLf l → true ≡ false) c.deref.ensures.value (λ bare. is ∙ c.is_trace.ensures.rest bare) in
    ok_as known (g.B.Read.remaining c.next_line.new.reader) c.next_line.new.line.items first.bytes first.line true whole rest c.judge.result
    FoundBy (ok_weaker c.judge.result known _ (FoundBy true) (λ finding text both. both.0) (c.judge.ensures.found known first.bytes first.line))

pub returns-then-is_trace-clause-refused : goal.returns-then-is_trace-clause-refused
returns-then-is_trace-clause-refused g c =
    let known = g.B.Read.remaining c.args.reader.now in
    let first = c.in_ok-next_line.ensures in
    let is = sym c.if-is_trace.true in
    let whole = subst (λ (l : List ℕ). (t : List ℕ) → l ≡ t ++ 10 ∷ [] → true ≡ bytes_eq t (codes "trace 1")) c.deref.ensures.value
    (λ t line. is ∙ c.is_trace.ensures.whole t line) in
    let rest = subst (λ (l : List ℕ). ¬ EndsWithLf l → true ≡ false) c.deref.ensures.value (λ bare. is ∙ c.is_trace.ensures.rest bare) in
    err_as known (g.B.Read.remaining c.next_line.new.reader) c.next_line.new.line.items first.bytes first.line true whole rest c.judge.result
    RefusedBy (refused_weaker c.judge.result known _ (IsRefusedText trace_line trace_rules) (λ text e both. both.0)
    (c.judge.ensures.refused known first.bytes first.line))

pub returns-clause-found : goal.returns-clause-found
returns-clause-found g c =
    let known = g.B.Read.remaining c.args.reader.now in
    let first = c.in_ok-next_line.ensures in
    let is = sym c.if-is_trace.false in
    let whole = subst (λ (l : List ℕ). (t : List ℕ) → l ≡ t ++ 10 ∷ [] → false ≡ bytes_eq t (codes "trace 1")) c.deref.ensures.value
    (λ t line. is ∙ c.is_trace.ensures.whole t line) in
    let rest = subst (λ (l : List ℕ). ¬ EndsWithLf l → false ≡ false) c.deref.ensures.value (λ bare. is ∙ c.is_trace.ensures.rest bare) in
    ok_as known (g.B.Read.remaining c.next_line.new.reader) c.next_line.new.line.items first.bytes first.line false whole rest c.judge-else-is_trace.result
    FoundBy (ok_weaker c.judge-else-is_trace.result known _ (FoundBy false) (λ finding text both. both.0)
    (c.judge-else-is_trace.ensures.found known first.bytes first.line))

pub returns-clause-refused : goal.returns-clause-refused
returns-clause-refused g c =
    let known = g.B.Read.remaining c.args.reader.now in
    let first = c.in_ok-next_line.ensures in
    let is = sym c.if-is_trace.false in
    let whole = subst (λ (l : List ℕ). (t : List ℕ) → l ≡ t ++ 10 ∷ [] → false ≡ bytes_eq t (codes "trace 1")) c.deref.ensures.value
    (λ t line. is ∙ c.is_trace.ensures.whole t line) in
    let rest = subst (λ (l : List ℕ). ¬ EndsWithLf l → false ≡ false) c.deref.ensures.value (λ bare. is ∙ c.is_trace.ensures.rest bare) in
    err_as known (g.B.Read.remaining c.next_line.new.reader) c.next_line.new.line.items first.bytes first.line false whole rest c.judge-else-is_trace.result
    RefusedBy (refused_weaker c.judge-else-is_trace.result known _ (IsRefusedText history_line history_rules) (λ text e both. both.0)
    (c.judge-else-is_trace.ensures.refused known first.bytes first.line))

pub returns-then-is_trace-clause-read : goal.returns-then-is_trace-clause-read
returns-then-is_trace-clause-read g c =
    let known = g.B.Read.remaining c.args.reader.now in
    let first = c.in_ok-next_line.ensures in
    let left = g.B.Read.remaining c.judge.new.reader in
    ok_weaker c.judge.result known _ (λ finding text. IsSomeAnd left (IsReadThrough finding.violation text)) (λ finding text both. both.1)
    (c.judge.ensures.found known first.bytes first.line)

pub returns-then-is_trace-clause-stops : goal.returns-then-is_trace-clause-stops
returns-then-is_trace-clause-stops g c =
    let known = g.B.Read.remaining c.args.reader.now in
    let first = c.in_ok-next_line.ensures in
    let left = g.B.Read.remaining c.judge.new.reader in
    refused_weaker c.judge.result known _ (λ text e. IsSomeAnd left (IsReadToFault e text)) (λ text e both. both.1)
    (c.judge.ensures.refused known first.bytes first.line)

pub returns-clause-read : goal.returns-clause-read
returns-clause-read g c =
    let known = g.B.Read.remaining c.args.reader.now in
    let first = c.in_ok-next_line.ensures in
    let left = g.B.Read.remaining c.judge-else-is_trace.new.reader in
    ok_weaker c.judge-else-is_trace.result known _ (λ finding text. IsSomeAnd left (IsReadThrough finding.violation text)) (λ finding text both. both.1)
    (c.judge-else-is_trace.ensures.found known first.bytes first.line)

pub returns-clause-stops : goal.returns-clause-stops
returns-clause-stops g c =
    let known = g.B.Read.remaining c.args.reader.now in
    let first = c.in_ok-next_line.ensures in
    let left = g.B.Read.remaining c.judge-else-is_trace.new.reader in
    refused_weaker c.judge-else-is_trace.result known _ (λ text e. IsSomeAnd left (IsReadToFault e text)) (λ text e both. both.1)
    (c.judge-else-is_trace.ensures.refused known first.bytes first.line)
