-- The parts of a text, and reading them one by one.
use Rattle.wq_text.proofs.Common.{◌≡◌, ℕ, suc, ◌+◌, ◌<◌, ◌≤◌, Bool, true, false, not, List, [], ◌∷◌, ◌++◌, length, take, drop, cond, Option, Some, None, Ok}
use Rattle.wq_text.proofs.Common.{Err, position, ◌==◌, refl, sym, ap, ◌∙◌, arith, subst, inl, inr, length-append, append_assoc, count_by, slice_split}
use Rattle.wq_text.proofs.Common.{position_or_len, onto_first, option_to_list, cases_lt, lt-ltb, le-ltb, eqb-true, eqb-false, append-nil, Layout, ScriptError}
use Rattle.wq_text.proofs.Common.{RefusedFor, Awaited, layout_at, Lines, LinesLead, Spells, HasLineFault, IsRefusal, end_fault, parts, same_Some}
use Rattle.std.proofs.lemmas.Option.{none-some}
use Rattle.std.proofs.lemmas.List.Splits.{slice_split-cons_no, slice_split_first, length-slice_split}
use Rattle.wq_text.specs.TextLimits.{most_bytes}
use Rattle.wq_text.specs.declared.fault.FaultKind.TheVariants as kind
use Rattle.wq_text.specs.declared.fault.ParseError.{ParseError}
use Rattle.wq_text.specs.declared.fault.ParseError.TheVariants as errors
use Rattle.wq_text.specs.declared.header.Awaited.TheVariants as awaited
use Rattle.std.proofs.lemmas.List.{nil_from_length}

one_step : (p : ℕ → Bool) (x : ℕ) (xs : List ℕ) (b : Bool) → p x ≡ b → (length xs ≤ position_or_len p xs → slice_split p xs ≡ xs ∷ [])
    → suc (length xs) ≤ cond (not b) (1 + position_or_len p xs) 0 → slice_split p (x ∷ xs) ≡ (x ∷ xs) ∷ []
one_step p x xs true e more le = absurd (omega (arith, le))
one_step p x xs false e more le = slice_split-cons_no p x xs e ∙ ap (onto_first x) (more (omega (arith, le)))

one_part : (p : ℕ → Bool) (xs : List ℕ) → length xs ≤ position_or_len p xs → slice_split p xs ≡ xs ∷ []
one_part p [] le = refl
one_part p (x ∷ xs) le = one_step p x xs (p x) refl (one_part p xs) le

pub no_line : (text : List ℕ) → None ≡ position (λ b. b == 10) text → parts text ≡ text ∷ []
no_line text e = elim (cases_lt (position_or_len (λ b. b == 10) text) (length text)) [
  | inl lt ↦ absurd (none-some _ (rw (lt-ltb _ _ lt) at e))
  | inr le ↦ one_part (λ b. b == 10) text le
]

pub one_line : (text : List ℕ) (end : ℕ) → Some end ≡ position (λ b. b == 10) text
    → (end < length text) × (parts text ≡ take end text ∷ parts (drop (end + 1) text))
one_line text end e = elim (cases_lt (position_or_len (λ b. b == 10) text) (length text)) [
  | inl lt ↦
      let same : end ≡ position_or_len (λ b. b == 10) text = same_Some _ _ (rw (lt-ltb _ _ lt) at e) in
      let P : ℕ → Type 0 = λ n. (n < length text) × (parts text ≡ take n text ∷ parts (drop (n + 1) text)) in
      subst P (sym same) (lt, slice_split_first (λ b. b == 10) text 0 lt)
  | inr le ↦ absurd (differ (rw (le-ltb _ _ le) at e))
]
  where
    differ : {n : ℕ} → Some n ≡ None → ⊥
    differ e = cc

pub refused_for : (P Q : ScriptError → Type 0) (e : ParseError) → ((x : ScriptError) → P x → Q x) → RefusedFor e P → RefusedFor e Q
refused_for P Q errors.Memory all given = tt
refused_for P Q (errors.Refused x) all given = all x given

module _ {A : Type 0} (gives : Lines A) where
  -- the lines before the rest of the text were read, and line n is next
  pub record IsReadTo (text rest : List ℕ) (n : ℕ) (s : Awaited) (asked : List A) : Type 0 where
    pub before : List (List ℕ)
    pub split : parts text ≡ before ++ parts rest
    pub leads : LinesLead gives awaited.Version before s asked
    pub number : n ≡ 1 + length before

  pub read_nothing : (text : List ℕ) (asked : List A) → asked ≡ [] → IsReadTo text text 1 awaited.Version asked
  read_nothing text asked none = record { before = []; split = refl; leads = (refl, none); number = refl }

  leads_more : (s t next : Awaited) (lines : List (List ℕ)) (line : List ℕ) (one : Option A) (asked : List A) → LinesLead gives s lines t asked
      → gives t line ≡ Ok (next, one)
      → LinesLead gives s (lines ++ line ∷ []) next (asked ++ option_to_list one)
  leads_more s t next [] line one asked leads given =
      let asking = ap (λ (xs : List A). xs ++ option_to_list one) leads.1 ∙ sym (append-nil (option_to_list one)) in
      ((next, one), [], ap (λ x. gives x line) leads.0 ∙ given, asking, (refl, refl))
  leads_more s t next (first ∷ lines) line one asked leads given =
      let asking = ap (λ (xs : List A). xs ++ option_to_list one) leads.3 ∙ append_assoc (option_to_list leads.0.1) leads.1 (option_to_list one) in
      (leads.0, leads.1 ++ option_to_list one, leads.2, asking, leads_more leads.0.0 t next lines line one leads.1 leads.4 given)

  pub read_more : (text rest line after : List ℕ) (n : ℕ) (s next : Awaited) (asked new : List A) (one : Option A) → IsReadTo text rest n s asked
      → parts rest ≡ line ∷ parts after
      → gives s line ≡ Ok (next, one) → new ≡ asked ++ option_to_list one → IsReadTo text after (n + 1) next new
  read_more text rest line after n s next asked new one read cut given added =
      let P : List A → Type 0 = λ xs. LinesLead gives awaited.Version (read.before ++ line ∷ []) next xs in
      record {
        before = read.before ++ line ∷ [];
        split = read.split ∙ ap (λ ps. read.before ++ ps) cut ∙ sym (append_assoc read.before (line ∷ []) (parts after));
        leads = subst P (sym added) (leads_more awaited.Version s next read.before line one asked read.leads given);
        number = omega (arith, read.number, length-append read.before (line ∷ []));
      }

  faulty_at : (text rest line : List ℕ) (behind : List (List ℕ)) (n : ℕ) (s : Awaited) (asked : List A) (e : ScriptError) → length text ≤ most_bytes
      → IsReadTo text rest n s asked
      → parts rest ≡ line ∷ behind → e.line ≡ n → HasLineFault gives s line behind e.kind → IsRefusal gives text e
  faulty_at text rest line behind n s asked e short read cut here fault =
      let split = read.split ∙ ap (λ ps. read.before ++ ps) cut in
      let number = here ∙ read.number in
      inr (record {
        short = short;
        before = read.before;
        faulty = line;
        behind = behind;
        reached = s;
        asked = asked;
        split = split;
        leads = read.leads;
        number = number;
        fault = fault;
      })

  pub faulty_line : (text rest line after : List ℕ) (n : ℕ) (s : Awaited) (asked : List A) (e : ScriptError) → length text ≤ most_bytes
      → IsReadTo text rest n s asked
      → parts rest ≡ line ∷ parts after → e.line ≡ n → gives s line ≡ Err e.kind → IsRefusal gives text e
  faulty_line text rest line after n s asked e short read cut here given =
      faulty_at text rest line (parts after) n s asked e short read cut here (followed (parts after) (length-slice_split (λ b. b == 10) after))
    where
      followed : (ps : List (List ℕ)) → length ps ≡ count_by (λ b. b == 10) after + 1 → HasLineFault gives s line ps e.kind
      followed [] some = absurd (omega (arith, some))
      followed (p ∷ ps) some = given

  pub cut_short : (text rest : List ℕ) (n : ℕ) (s : Awaited) (asked : List A) (e : ScriptError) → length text ≤ most_bytes → IsReadTo text rest n s asked
      → parts rest ≡ rest ∷ [] → (length rest == 0) ≡ false → e.line ≡ n → e.kind ≡ kind.Cut → IsRefusal gives text e
  cut_short text rest n s asked e short read last some here is_cut = faulty_at text rest rest [] n s asked e short read last here (unended rest some)
    where
      unended : (line : List ℕ) → (length line == 0) ≡ false → HasLineFault gives s line [] e.kind
      unended [] some = absurd (eqb-false 0 0 some refl)
      unended (b ∷ bs) some = is_cut

  pub no_header : (text rest : List ℕ) (n : ℕ) (s : Awaited) (asked : List A) (e : ScriptError) → length text ≤ most_bytes → IsReadTo text rest n s asked
      → parts rest ≡ rest ∷ [] → (length rest == 0) ≡ true → e.line ≡ n → end_fault s ≡ Some e.kind → IsRefusal gives text e
  no_header text rest n s asked e short read last none here fault =
      faulty_at text rest [] [] n s asked e short read (last ∙ ap (λ (x : List ℕ). x ∷ []) (nil_from_length rest (eqb-true (length rest) 0 none))) here fault

  pub spelled : (text rest : List ℕ) (n : ℕ) (s : Awaited) (layout : Layout) (asked : List A) → length text ≤ most_bytes → IsReadTo text rest n s asked
      → parts rest ≡ rest ∷ [] → (length rest == 0) ≡ true → layout_at s ≡ Some layout → Spells gives text layout asked
  spelled text rest n s layout asked short read last none whole =
      let split = read.split ∙ ap (λ ps. read.before ++ ps) (last ∙ ap (λ (x : List ℕ). x ∷ []) (nil_from_length rest (eqb-true (length rest) 0 none))) in
      record { short = short; lines = read.before; reached = s; split = split; leads = read.leads; whole = whole }
