-- Plain lines and their words.
use Rattle.wq_text.proofs.Common.{◌≡◌, ℕ, zero, suc, Bool, true, false, List, [], ◌∷◌, length, map, Option, None, Result, Ok, Err, nat_lt, nat_le, refl, sym, ap}
use Rattle.wq_text.proofs.Common.{◌∙◌, arith, if◌then◌else◌, list_all, IsAscii, IsUtf8, IsValidUpTo, valid_up_to, MatchResult, result_ok, MatchOption}
use Rattle.wq_text.proofs.Common.{leb-true, and_parts, LineError, Most, Awaited, LineFailsAs, of_one, is_header, header_line_gives, Grammar, asking_line}
use Rattle.wq_text.proofs.Common.{by_first_word, is_plain, Bor}
use Rattle.std.specs.declared.str.Utf8Error.{Utf8Error}
use Rattle.std.proofs.lemmas.Str.{IsUtf8-from_ascii}
use Rattle.wq_text.proofs.Common.{words_give, ◌>>=◌}
use Rattle.wq_text.specs.Fault.{need}
use Rattle.wq_text.specs.Line.{by_words}
use Rattle.wq_text.specs.Word.{is_word}
use Rattle.wq_text.specs.declared.fault.FaultKind.TheVariants as kind
use Rattle.wq_text.specs.declared.fault.LineError.TheVariants as line_errors
use Rattle.std.proofs.lemmas.List.Folds.{list_all-map}

pub mapped_words : (ws : List (Bor (List ℕ))) → list_all (λ w. nat_lt 0 (length w)) (map (λ w. w.now) ws) ≡ list_all (λ w. nat_lt 0 (length w.now)) ws
mapped_words ws = list_all-map (λ w. nat_lt 0 (length w)) (λ w. w.now) ws

-- the words of a line, with a space too many and without
module _ {N A : Type 0} (g : Grammar N A) (s : Awaited) (ws : List (Bor (List ℕ))) where
  pub spaced : list_all (λ w. is_word w.now) ws ≡ false → words_give g s (map (λ w. w.now) ws) ≡ Err kind.Space
  unfolding words_give
  spaced e = ap (λ b. need kind.Space b >>= λ _. by_words g s (map (λ w. w.now) ws)) (mapped_words ws ∙ e)

  pub worded : (first : Bor (List ℕ)) (others : List (Bor (List ℕ))) → list_all (λ w. is_word w.now) ws ≡ true → ws ≡ first ∷ others
      → words_give g s (map (λ w. w.now) ws) ≡ by_first_word g s first.now (map (λ w. w.now) others)
  unfolding words_give
  worded first others e same =
      ap (λ b. need kind.Space b >>= λ _. by_words g s (map (λ w. w.now) ws)) (mapped_words ws ∙ e) ∙ ap (λ all. by_words g s (map (λ w. w.now) all)) same

pub no_words : (ws : List (Bor (List ℕ))) → length ws ≡ 0 → map (λ w. w.now) ws ≡ []
no_words [] e = refl
no_words (w ∷ ws) e = absurd (omega (arith, e))

ascii : (line : List ℕ) → list_all is_plain line ≡ true → IsAscii line
ascii [] e i = omega arith
ascii (b ∷ bs) e zero =
    let plain = (and_parts (is_plain b) (list_all is_plain bs) e).0 in let le = leb-true b 126 (and_parts (nat_le 32 b) (nat_le b 126) plain).1 in
    omega (arith, le)
ascii (b ∷ bs) e (suc i) = ascii bs (and_parts (is_plain b) (list_all is_plain bs) e).1 i

pub plain_utf8 : (line : List ℕ) → list_all is_plain line ≡ true → IsUtf8 line
plain_utf8 line e = IsUtf8-from_ascii line (ascii line e)

pub plain_read : (line : List ℕ) (r : Result (Bor (List ℕ)) Utf8Error) → list_all is_plain line ≡ true
    → MatchResult r (λ s. (s.now ≡ line) × IsUtf8 line) (λ e. ¬ (IsUtf8 line) × IsValidUpTo line (valid_up_to e))
    → MatchOption (result_ok r) (list_all is_plain line ≡ false) (λ text. (list_all is_plain line ≡ true) × (text.now ≡ line))
plain_read line (Ok s) e h = (e, h.0)
plain_read line (Err x) e h = absurd (h.0 (plain_utf8 line e))

-- a line of the header
module _ {N A : Type 0} (g : Grammar N A) (s : Awaited) (w : List ℕ) (ws : List (List ℕ)) where
  by_header : (seats : Bool) (most : Most) → is_header w ≡ true → seats ≡ g.names_seats → most ≡ g.most
      → by_first_word g s w ws ≡ of_one (λ next. (next, None)) (header_line_gives seats most s w ws)
  by_header seats most is also same =
      ap (λ b. if b then of_one (λ next. (next, None)) (header_line_gives g.names_seats g.most s w ws) else asking_line g s w ws) is
      ∙ ap (λ n. of_one (λ next. (next, None)) (header_line_gives n g.most s w ws)) (sym also)
      ∙ ap (λ m. of_one (λ next. (next, None)) (header_line_gives seats m s w ws)) (sym same)

  pub header_given : (seats : Bool) (most : Most) (next : Awaited) → is_header w ≡ true → seats ≡ g.names_seats → most ≡ g.most
      → header_line_gives seats most s w ws ≡ Ok next → by_first_word g s w ws ≡ Ok (next, None)
  header_given seats most next is also same given =
      let alone : Awaited → Awaited × Option A = λ x. (x, None) in by_header seats most is also same ∙ ap (of_one alone) given

  pub header_fails : (e : LineError) (seats : Bool) (most : Most) → is_header w ≡ true → seats ≡ g.names_seats → most ≡ g.most
      → LineFailsAs e (header_line_gives seats most s w ws) → LineFailsAs e (by_first_word g s w ws)
  header_fails line_errors.Memory seats most is also same given = tt
  header_fails (line_errors.Fault k) seats most is also same given =
      let alone : Awaited → Awaited × Option A = λ x. (x, None) in by_header seats most is also same ∙ ap (of_one alone) given
