-- What was read of a recording, line by line, and what follows of its text.
use Rattle.wq_recording.proofs.Common.{◌≡◌, ◌≢◌, ℕ, ◌+◌, ◌<◌, ◌≤◌, ◌⊎◌, List, [], ◌∷◌, ◌++◌, length, Option, Some, None, IfSome, Result, Ok, Err}
use Rattle.wq_recording.proofs.Common.{refl, sym, ap, subst, ◌∙◌, inl, inr, arith, flat_map, option_to_list, append_assoc, append-nil, length-append, Layout, FaultKind}
use Rattle.wq_recording.proofs.Common.{ScriptError, Awaited, Lines, layout_at, parts, Violation, Rules, IsLineAt, IsRefusedText}
use Rattle.wq_recording.proofs.Common.{HasFaultAt, last_fault, short_line, ViolatesAmong, HasTold, IsMadeAt, TellsAll, ComesTo}
use Rattle.std.proofs.Common.{◌==◌}
use Rattle.std.proofs.lemmas.Bool.{le-leb, lt-leb}
use Rattle.std.proofs.lemmas.List.Splits.{length-slice_split}
use Rattle.std.specs.Io.KnownBytes.{Consumes, IsAtEnd}
use Rattle.wq_text.proofs.Texts.{IsReadTo, read_nothing, read_more}
use Rattle.wq_text.specs.Fault.{◌>>=◌, need, RefusedFor, LineFailsAs}
use Rattle.wq_text.specs.declared.fault.LineError.{LineError}
use Rattle.wq_text.specs.declared.fault.LineError.TheVariants as line_errors
use Rattle.wq_recording.specs.Judging.{refusal_of}
use Rattle.wq_text.specs.declared.fault.ParseError.{ParseError}
use Rattle.wq_text.specs.declared.fault.ParseError.TheVariants as parse_errors
use Rattle.wq_text.specs.declared.fault.FaultKind.TheVariants as kind
use Rattle.wq_text.specs.declared.header.Awaited.TheVariants as awaited
use Rattle.wq_recording.specs.declared.finding.Finding.{Finding}
use Rattle.wq_recording.specs.declared.judging.LineOutcome.TheVariants.{Violation as OutcomeViolation}
use Rattle.wq_recording.specs.Lines.{EndsWithLf, IsLineRead}
use Rattle.wq_recording.specs.VerdictText.{verdict_of, SaysOf, Finds}
use Rattle.wq_recording.proofs.LastLine.{last_long}
use Rattle.wq_recording.proofs.Telling.{told_legal}
use Rattle.wq_recording.proofs.LineParts.{parts_line, parts_bare, parts_front, whole_line, bare_line}
use Rattle.std.proofs.lemmas.Grind.{flat_map-append}

module _ {A : Type 0} (inner : Lines A) where
  pub short_is : (s : Awaited) (line : List ℕ) → length line ≤ 4096 → short_line inner s line ≡ inner s line
  short_is s line le = ap (λ b. need kind.Size b >>= λ _. inner s line) (le-leb (length line) 4096 le)

  pub long_is : (s : Awaited) (line : List ℕ) → 4096 < length line → short_line inner s line ≡ Err kind.Size
  long_is s line lt = ap (λ b. need kind.Size b >>= λ _. inner s line) (lt-leb (length line) 4096 lt)

pub too_long : {A E : Type 0} (inner : Lines A) (rules : Rules A E) (text : List ℕ) (s : Awaited) (part : List ℕ) (more : List (List ℕ)) (k : FaultKind)
    → 4096 < length part → k ≡ kind.Size → HasFaultAt (short_line inner) rules text s part more k
too_long inner rules text s part [] k long is = last_long s part long ∙ ap (λ (j : FaultKind). Some j) (sym is)
too_long inner rules text s part (p ∷ ps) k long is = long_is inner s part long ∙ ap (λ (j : FaultKind). Err j) (sym is)

-- bytes have a last part
pub some_part : (bytes : List ℕ) → parts bytes ≢ []
some_part bytes none = omega (arith, ap length none, length-slice_split (λ b. b == 10) bytes)

module _ {A E C : Type 0} (inner : Lines A) (rules : Rules A E) (layout_of : C → Layout) (after : C → List E → Type 0) where
  -- of the text the lines before the rest were told, and of the rest this line was read
  pub record IsReading (text rest : List ℕ) (n : ℕ) (s : Awaited) (checker : Option C) (line : List ℕ) (left : Option (List ℕ)) : Type 0 where
    pub asked : List A
    pub read : IsReadTo (short_line inner) text rest n s asked
    pub told : HasTold after checker (flat_map rules.tells asked)
    pub got : IsLineRead line (Some rest) left
    pub behind : List ℕ
    pub left_is : left ≡ Some behind
    pub cut : rest ≡ line ++ behind

  reading : (text rest : List ℕ) (n : ℕ) (s : Awaited) (checker : Option C) (line : List ℕ) (left : Option (List ℕ)) (asked : List A)
      → IsReadTo (short_line inner) text rest n s asked → HasTold after checker (flat_map rules.tells asked)
      → IsLineRead line (Some rest) left → Consumes (Some rest) left line → IsReading text rest n s checker line left
  reading text rest n s checker line None asked read told got taken = absurd taken
  reading text rest n s checker line (Some ys) asked read told got taken =
      record { asked = asked; read = read; told = told; got = got; behind = ys; left_is = refl; cut = taken }

  -- where the bytes are known
  abbrev pub Reads : Option (List ℕ) → ℕ → Awaited → Option C → List ℕ → Option (List ℕ) → Type 0
  Reads known n s checker line left = IfSome known (λ text. (rest : List ℕ) × IsReading text rest n s checker line left)

  pub reads_start : (known left : Option (List ℕ)) (line : List ℕ) → Consumes known left line → IsLineRead line known left
      → Reads known 1 awaited.Version None line left
  reads_start None left line taken got = tt
  reads_start (Some text) left line taken got =
      (text, reading text text 1 awaited.Version None line left [] (read_nothing (short_line inner) text [] refl) refl got taken)

  module _ (text rest : List ℕ) (n : ℕ) (s : Awaited) (checker : Option C) (line : List ℕ) (left : Option (List ℕ))
      (r : IsReading text rest n s checker line left) where
    at_part : (part : List ℕ) (more : List (List ℕ)) → parts rest ≡ part ∷ more → IsLineAt (short_line inner) text n s r.asked part more
    at_part part more cut = record {
      before = r.read.before;
      split = r.read.split ∙ ap (λ ps. r.read.before ++ ps) cut;
      leads = r.read.leads;
      number = r.read.number;
    }

    -- a line that was read whole
    module _ (t : List ℕ) (whole : line ≡ t ++ 10 ∷ []) where
      short : length t ≤ 4096
      short = (whole_line line (Some rest) left r.got t whole).1

      pub line_is : parts rest ≡ t ∷ parts r.behind
      line_is =
          ap parts (r.cut ∙ ap (λ l. l ++ r.behind) whole ∙ append_assoc t (10 ∷ []) r.behind)
          ∙ parts_line t r.behind (whole_line line (Some rest) left r.got t whole).0

      goes_on : (next : Awaited) (one : Option A) (new : Option C) (line' : List ℕ) (left' : Option (List ℕ)) → inner s t ≡ Ok (next, one)
          → TellsAll rules after one checker new → Consumes left left' line' → IsLineRead line' left left'
          → (rest' : List ℕ) × IsReading text rest' (n + 1) next new line' left'
      goes_on next one new line' left' given tells taken got =
          let P : List E → Type 0 = λ h. HasTold after new h in
          let asked = r.asked ++ option_to_list one in
          let read = read_more (short_line inner) text rest t r.behind n s next r.asked asked one r.read line_is (short_is inner s t short ∙ given) refl in
          let told = subst P (sym (flat_map-append rules.tells r.asked (option_to_list one))) (tells (flat_map rules.tells r.asked) r.told) in (
            r.behind,
            reading text r.behind (n + 1) next new line' left' asked read told (subst (λ o. IsLineRead line' o left') r.left_is got)
                (subst (λ o. Consumes o left' line') r.left_is taken),
          )

      stops : (next : Awaited) (one : A) (violation : Violation) (layout : Layout) (c : C) (finding : Finding) → inner s t ≡ Ok (next, Some one)
          → violation.line ≡ n
          → layout_of c ≡ layout → next ≡ awaited.Commands layout
          → ((h : List E) → HasTold after checker h → ViolatesAmong rules layout h (rules.tells one) (after c) violation.cause)
          → ((h : List E) → after c h → rules.IsLegal (layout_of c) h)
          → ((h : List E) → after c h → SaysOf rules (verdict_of layout h (Some violation)) finding) → Finds (short_line inner) rules text finding
      stops next one violation layout c finding given here same goes among legal says =
          let m = among (flat_map rules.tells r.asked) r.told in
          let events = flat_map rules.tells r.asked ++ m.first in
          let P : ℕ → Type 0 = λ k. IsLineAt (short_line inner) text k s r.asked t (parts r.behind) in
          let Q : Layout → Type 0 = λ l. rules.IsLegal l events in
          record {
            verdict = verdict_of layout events (Some violation);
            has = record {
              reached = s;
              asked = r.asked;
              line = t;
              behind = parts r.behind;
              at = subst P (sym here) (at_part t (parts r.behind) line_is);
              ended = some_part r.behind;
              next = next;
              one = one;
              given = short_is inner s t short ∙ given;
              whole = ap layout_at goes;
              first = m.first;
              event = m.event;
              rest = m.rest;
              cut = m.cut;
              events_are = refl;
              legal = subst Q same (legal events m.after);
              caused = m.caused;
            };
            says = says events m.after;
          }

    -- what no LF ends
    module _ (bare : ¬ EndsWithLf line) where
      pub ends : (4096 < length line) ⊎ (r.behind ≡ [])
      ends = by_end r.got.ends
        where
          by_end : EndsWithLf line ⊎ ((4096 < length line) ⊎ IsAtEnd left) → (4096 < length line) ⊎ (r.behind ≡ [])
          by_end (inl lf) = absurd (bare lf)
          by_end (inr (inl long)) = inl long
          by_end (inr (inr none)) = inr (subst IsAtEnd r.left_is none)

      pub last_is : r.behind ≡ [] → parts rest ≡ line ∷ []
      last_is none =
          ap parts (r.cut ∙ ap (λ ys. line ++ ys) none ∙ append-nil line) ∙ parts_bare line (bare_line line (Some rest) left r.got bare)

    -- all that was told is legal
    module _ (begins : (l : Layout) → rules.IsLegal l []) (legal : (c : C) (h : List E) → after c h → rules.IsLegal (layout_of c) h)
        (made : IsMadeAt layout_of s checker) where
      legal_so_far : (layout : Layout) → layout_at s ≡ Some layout → rules.IsLegal layout (flat_map rules.tells r.asked)
      legal_so_far layout here = told_legal rules layout_of after begins legal s layout checker (flat_map rules.tells r.asked) here made r.told

      refused_part : (part : List ℕ) (more : List (List ℕ)) (e : ScriptError) → parts rest ≡ part ∷ more → e.line ≡ n
          → HasFaultAt (short_line inner) rules text s part more e.kind → IsRefusedText (short_line inner) rules text e
      refused_part part more e cut here fault =
          let P : ℕ → Type 0 = λ k. IsLineAt (short_line inner) text k s r.asked part more in
          record {
            reached = s;
            asked = r.asked;
            line = part;
            behind = more;
            at = subst P (sym here) (at_part part more cut);
            legal = legal_so_far;
            fault = fault;
          }

      followed : (part : List ℕ) (more : List (List ℕ)) (k : FaultKind) → more ≢ [] → short_line inner s part ≡ Err k
          → HasFaultAt (short_line inner) rules text s part more k
      followed part [] k some given = absurd (some refl)
      followed part (p ∷ ps) k some given = given

      refused_line : (t : List ℕ) (e : ScriptError) → line ≡ t ++ 10 ∷ [] → e.line ≡ n → inner s t ≡ Err e.kind
          → IsRefusedText (short_line inner) rules text e
      refused_line t e whole here given =
          refused_part t (parts r.behind) e (line_is t whole) here
          (followed t (parts r.behind) e.kind (some_part r.behind) (short_is inner s t (short t whole) ∙ given))

      -- what no LF ends
      module _ (bare : ¬ EndsWithLf line) where
        refused_rest : (e : ScriptError) → e.line ≡ n → last_fault s line ≡ Some e.kind → IsRefusedText (short_line inner) rules text e
        refused_rest e here fault = by_end (ends bare)
          where
            same : {j k : FaultKind} → Some j ≡ Some k → k ≡ j
            same e = cc

            by_end : (4096 < length line) ⊎ (r.behind ≡ []) → IsRefusedText (short_line inner) rules text e
            by_end (inr none) = refused_part line [] e (last_is bare none) here fault
            by_end (inl long) =
                let f = parts_front line r.behind (bare_line line (Some rest) left r.got bare) in
                let size : e.kind ≡ kind.Size = same (sym (last_long s line long) ∙ fault) in
                refused_part (line ++ f.0) f.1 e (ap parts r.cut ∙ f.2) here
                (too_long inner rules text s (line ++ f.0) f.1 e.kind (omega (arith, long, length-append line f.0)) size)

        all_read : (layout : Layout) (finding : Finding) → line ≡ [] → layout_at s ≡ Some layout
            → ((h : List E) → HasTold after checker h → rules.IsLegal layout h × SaysOf rules (verdict_of layout h None) finding)
            → Finds (short_line inner) rules text finding
        all_read layout finding empty here says = by_end (ends bare)
          where
            by_end : (4096 < length line) ⊎ (r.behind ≡ []) → Finds (short_line inner) rules text finding
            by_end (inl long) = absurd (omega (arith, long, ap length empty))
            by_end (inr none) =
                let said = says (flat_map rules.tells r.asked) r.told in
                record {
                  verdict = verdict_of layout (flat_map rules.tells r.asked) None;
                  has = record {
                    number = n;
                    reached = s;
                    asked = r.asked;
                    at = at_part [] [] (last_is bare none ∙ ap (λ (l : List ℕ). l ∷ []) empty);
                    whole = here;
                    events_are = refl;
                    legal = said.0;
                  };
                  says = said.1;
                }

  -- the same, where the bytes are known
  module _ (known : Option (List ℕ)) (n : ℕ) (s : Awaited) (checker : Option C) (line : List ℕ) (left : Option (List ℕ)) where
    pub if_known : (P : List ℕ → Type 0) → Reads known n s checker line left
        → ((text rest : List ℕ) → IsReading text rest n s checker line left → P text) → IfSome known P
    if_known P reads all = by_known known reads
      where
        by_known : (o : Option (List ℕ)) → Reads o n s checker line left → IfSome o P
        by_known None r = tt
        by_known (Some text) r = all text r.0 r.1

    pub reads_on : (reached next : Awaited) (one : Option A) (new : Option C) (t line' : List ℕ) (left' : Option (List ℕ)) → line ≡ t ++ 10 ∷ []
        → inner s t ≡ Ok (reached, one) → next ≡ reached → TellsAll rules after one checker new → Consumes left left' line' → IsLineRead line' left left'
        → Reads known n s checker line left → Reads known (n + 1) next new line' left'
    reads_on reached next one new t line' left' whole given goes tells taken got reads =
        let given : inner s t ≡ Ok (next, one) = given ∙ ap (λ (q : Awaited). Ok (q, one)) (sym goes) in
        if_known (λ text. (rest' : List ℕ) × IsReading text rest' (n + 1) next new line' left') reads
        (λ text rest r. goes_on text rest n s checker line left r t whole next one new line' left' given tells taken got)

    pub reads_violation : (next : Awaited) (asked : Option A) (violation : Violation) (layout : Layout) (new : Option C) (finding : Finding) (t : List ℕ)
        → line ≡ t ++ 10 ∷ [] → inner s t ≡ Ok (next, asked) → violation.line ≡ n
        → ComesTo rules layout_of after next checker asked (OutcomeViolation layout violation.cause) new
        → ((c : C) (h : List E) → after c h → rules.IsLegal (layout_of c) h)
        → ((h : List E) → HasTold after new h → SaysOf rules (verdict_of layout h (Some violation)) finding)
        → Reads known n s checker line left → IfSome known (λ text. Finds (short_line inner) rules text finding)
    reads_violation next asked violation layout None finding t whole given here comes legal says reads = absurd comes.1
    reads_violation next asked violation layout (Some c) finding t whole given here comes legal says reads =
        let one = comes.1.1 in
        let asks = given ∙ ap (λ (o : Option A). Ok (next, o)) one.1 in
        if_known (λ text. Finds (short_line inner) rules text finding) reads (λ text rest r. stops text rest n s checker line left r t whole next one.0
        violation layout c finding asks here comes.1.0 comes.0 one.2 (legal c) says)

    module _ (begins : (l : Layout) → rules.IsLegal l []) (legal : (c : C) (h : List E) → after c h → rules.IsLegal (layout_of c) h)
        (made : IsMadeAt layout_of s checker) (reads : Reads known n s checker line left) where
      pub reads_fault : (t : List ℕ) (e : ScriptError) → line ≡ t ++ 10 ∷ [] → e.line ≡ n → inner s t ≡ Err e.kind
          → IfSome known (λ text. IsRefusedText (short_line inner) rules text e)
      reads_fault t e whole here given =
          if_known (λ text. IsRefusedText (short_line inner) rules text e) reads
          (λ text rest r. refused_line text rest n s checker line left r begins legal made t e whole here given)

      pub reads_rest : (e : ScriptError) → ¬ EndsWithLf line → e.line ≡ n → last_fault s line ≡ Some e.kind
          → IfSome known (λ text. IsRefusedText (short_line inner) rules text e)
      reads_rest e bare here fault =
          if_known (λ text. IsRefusedText (short_line inner) rules text e) reads
          (λ text rest r. refused_rest text rest n s checker line left r begins legal made bare e here fault)

      pub reads_all : (layout : Layout) (finding : Finding) → ¬ EndsWithLf line → line ≡ [] → layout_at s ≡ Some layout
          → ((h : List E) → HasTold after checker h → rules.IsLegal layout h × SaysOf rules (verdict_of layout h None) finding)
          → IfSome known (λ text. Finds (short_line inner) rules text finding)
      reads_all layout finding bare empty here says =
          if_known (λ text. Finds (short_line inner) rules text finding) reads
          (λ text rest r. all_read text rest n s checker line left r begins legal made bare layout finding empty here says)

-- a refusal holds of the text, where the bytes are known; want of memory says nothing
pub refused_if : (known : Option (List ℕ)) (P : List ℕ → ScriptError → Type 0) (Q : ScriptError → Type 0) (e : ParseError) → RefusedFor e Q
    → ((x : ScriptError) → Q x → IfSome known (λ text. P text x)) → IfSome known (λ text. RefusedFor e (P text))
refused_if None P Q e fault all = tt
refused_if (Some text) P Q parse_errors.Memory fault all = tt
refused_if (Some text) P Q (parse_errors.Refused x) fault all = all x fault

pub refused_by_line : (n : ℕ) {Y : Type 0} (e : LineError) (r : Result Y FaultKind) (Q : ScriptError → Type 0) → LineFailsAs e r
    → ((x : ScriptError) → x.line ≡ n → r ≡ Err x.kind → Q x) → RefusedFor (refusal_of n e) Q
refused_by_line n line_errors.Memory r Q fails all = tt
refused_by_line n (line_errors.Fault k) r Q fails all = all (record { line = n; kind = k }) refl fails
