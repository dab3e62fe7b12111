-- Lines that are written word by word, read back.
use Rattle.wq_recording.proofs.Common.{◌≡◌, ◌≢◌, ℕ, ◌+◌, ◌<◌, ◌≤◌, Bool, true, false, List, [], ◌∷◌, ◌++◌, length, All, None, Ok, refl, ap}
use Rattle.wq_recording.proofs.Common.{◌∙◌, arith, nat_le, nat_lt, length-append, Awaited, Grammar, line_gives, recording_line}
use Rattle.std.specs.Prelude.{◌&&◌, ◌*◌, if◌then◌else◌}
use Rattle.std.specs.List.{list_all}
use Rattle.std.specs.Fmt.{decimal}
use Rattle.std.specs.Str.{all_ascii_digits}
use Rattle.std.proofs.Common.{◌==◌, ne_eqb}
use Rattle.std.proofs.lemmas.Bool.{and_parts, and_from, ltb-true, leb-true, le-leb, lt-ltb}
use Rattle.std.proofs.lemmas.Fmt.{digits_decimal, decimal_nonempty, length-decimal-le}
use Rattle.std.proofs.lemmas.List.Folds.{list_all-append}
use Rattle.std.proofs.lemmas.List.Sums.{AllPass-from_list_all}
use Rattle.std.proofs.lemmas.List.Splits.{slice_split_none, slice_split_at}
use Rattle.wq_text.proofs.Words.{own}
use Rattle.wq_text.specs.declared.fault.FaultKind.TheVariants as kind
use Rattle.wq_text.specs.Fault.{◌>>=◌, need}
use Rattle.wq_text.specs.Line.{by_words, by_first_word, words_give, plain_line_gives, is_passed_over}
use Rattle.wq_text.specs.Word.{words, is_plain, is_word}
use Rattle.wq_recording.proofs.LineParts.{HasNoLf}
use Rattle.wq_recording.proofs.Reading.{short_is}

passes_too : (p q : ℕ → Bool) → ((b : ℕ) → p b ≡ true → q b ≡ true) → (bs : List ℕ) → list_all p bs ≡ true → list_all q bs ≡ true
passes_too p q all [] e = refl
passes_too p q all (b ∷ bs) e =
    let parts = and_parts (p b) (list_all p bs) e in and_from (q b) (list_all q bs) (all b parts.0) (passes_too p q all bs parts.1)

-- a byte of a word: a digit, a letter or what stands between them
abbrev pub is_sign : ℕ → Bool
is_sign b = nat_le 48 b && nat_le b 122

sign_bounds : (b : ℕ) → is_sign b ≡ true → (48 ≤ b) × (b ≤ 122)
sign_bounds b e = let parts = and_parts (nat_le 48 b) (nat_le b 122) e in (leb-true 48 b parts.0, leb-true b 122 parts.1)

-- a word of a line: short, and nothing but such bytes
pub record IsShortWord (w : List ℕ) : Type 0 where
  pub some : 0 < length w
  pub few : length w ≤ 20
  pub signs : list_all is_sign w ≡ true

abbrev pub AreShortWords : List (List ℕ) → Type 0
AreShortWords [] = Unit {0}
AreShortWords (w ∷ ws) = IsShortWord w × AreShortWords ws

-- of a word that is written out, its tests
pub literal : (w : List ℕ) → (nat_lt 0 (length w) && (nat_le (length w) 20 && list_all is_sign w)) ≡ true → IsShortWord w
literal w e =
    let first = and_parts (nat_lt 0 (length w)) (nat_le (length w) 20 && list_all is_sign w) e in
    let second = and_parts (nat_le (length w) 20) (list_all is_sign w) first.1 in
    record { some = ltb-true 0 (length w) first.0; few = leb-true (length w) 20 second.0; signs = second.1 }

digit_sign : (b : ℕ) → (nat_le 48 b && nat_le b 57) ≡ true → is_sign b ≡ true
digit_sign b e =
    let parts = and_parts (nat_le 48 b) (nat_le b 57) e in
    let le = leb-true b 57 parts.1 in
    and_from (nat_le 48 b) (nat_le b 122) parts.0 (le-leb b 122 (omega (arith, le)))

digit_signs : (ds : List ℕ) → all_ascii_digits ds ≡ true → list_all is_sign ds ≡ true
digit_signs [] e = refl
digit_signs (d ∷ ds) e =
    let parts = and_parts (nat_le 48 d && nat_le d 57) (all_ascii_digits ds) e in
    and_from (is_sign d) (list_all is_sign ds) (digit_sign d parts.0) (digit_signs ds parts.1)

pub all_digits : (n : ℕ) → n < 1000000 → all_ascii_digits (decimal n) ≡ true
all_digits n small = digits_decimal own n (omega (arith, small))

pub few_digits : (n : ℕ) → n < 1000000 → length (decimal n) ≤ 6
few_digits n small = length-decimal-le 6 n (omega arith) (omega (arith, small)) (omega (arith, small))

pub decimal_word : (n : ℕ) → n < 1000000 → IsShortWord (decimal n)
decimal_word n small = record {
  some = decimal_nonempty n (omega (arith, small));
  few = omega (arith, few_digits n small);
  signs = digit_signs (decimal n) (all_digits n small);
}

-- words, with a space between any two
abbrev pub spaced : List ℕ → List (List ℕ) → List ℕ
spaced w [] = w
spaced w (v ∷ vs) = w ++ 32 ∷ spaced v vs

no_space : (w : List ℕ) → IsShortWord w → All (λ b. (b == 32) ≡ false) w
no_space w short =
    AllPass-all (λ b e. ne_eqb b 32 (λ same. omega (arith, (sign_bounds b e).0, same)))
  where
    AllPass-all : ((b : ℕ) → is_sign b ≡ true → (b == 32) ≡ false) → All (λ b. (b == 32) ≡ false) w
    AllPass-all each k d lt = each _ (AllPass-from_list_all is_sign w short.signs k d lt)

words_are : (w : List ℕ) (ws : List (List ℕ)) → IsShortWord w → AreShortWords ws → words (spaced w ws) ≡ w ∷ ws
words_are w [] short all = slice_split_none (λ b. b == 32) w (no_space w short)
words_are w (v ∷ vs) short all =
    slice_split_at (λ b. b == 32) w 32 (spaced v vs) (no_space w short) refl ∙ ap (λ ps. w ∷ ps) (words_are v vs all.0 all.1)

sign_plain : (b : ℕ) → is_sign b ≡ true → is_plain b ≡ true
sign_plain b e =
    let bounds = sign_bounds b e in
    and_from (nat_le 32 b) (nat_le b 126) (le-leb 32 b (omega (arith, bounds.0))) (le-leb b 126 (omega (arith, bounds.1)))

all_plain : (w : List ℕ) (ws : List (List ℕ)) → IsShortWord w → AreShortWords ws → list_all is_plain (spaced w ws) ≡ true
all_plain w [] short all = passes_too is_sign is_plain sign_plain w short.signs
all_plain w (v ∷ vs) short all =
    list_all-append is_plain w (32 ∷ spaced v vs)
    ∙ and_from (list_all is_plain w) (list_all is_plain (spaced v vs)) (passes_too is_sign is_plain sign_plain w short.signs) (all_plain v vs all.0 all.1)

are_words : (ws : List (List ℕ)) → AreShortWords ws → list_all is_word ws ≡ true
are_words [] all = refl
are_words (w ∷ ws) all = and_from (is_word w) (list_all is_word ws) (lt-ltb 0 (length w) all.0.some) (are_words ws all.1)

length_spaced : (w : List ℕ) (ws : List (List ℕ)) → IsShortWord w → AreShortWords ws → length (spaced w ws) ≤ 20 + 21 * length ws
length_spaced w [] short all = omega (arith, short.few)
length_spaced w (v ∷ vs) short all = omega (arith, short.few, length-append w (32 ∷ spaced v vs), length_spaced v vs all.0 all.1)

not_passed : (w : List ℕ) (ws : List (List ℕ)) → IsShortWord w → is_passed_over (spaced w ws) ≡ false
not_passed [] ws short = absurd (omega (arith, short.some))
not_passed (b ∷ bs) ws short = by_words ws
  where
    no_comment : (b == 35) ≡ false
    no_comment = ne_eqb b 35 (λ same. omega (arith, (sign_bounds b (and_parts (is_sign b) (list_all is_sign bs) short.signs).0).0, same))

    by_words : (ws : List (List ℕ)) → is_passed_over (spaced (b ∷ bs) ws) ≡ false
    by_words [] = no_comment
    by_words (v ∷ vs) = no_comment

plain_not_lf : (b : ℕ) → is_plain b ≡ true → b ≢ 10
plain_not_lf b e same = omega (arith, leb-true 32 b (and_parts (nat_le 32 b) (nat_le b 126) e).0, same)

module _ (w : List ℕ) (ws : List (List ℕ)) (short : IsShortWord w) (all : AreShortWords ws) where
  pub spaced_no_lf : HasNoLf (spaced w ws)
  spaced_no_lf k d lt = plain_not_lf _ (AllPass-from_list_all is_plain (spaced w ws) (all_plain w ws short all) k d lt)

  -- what such a line gives, where a line behind the version is awaited
  module _ {N A : Type 0} (g : Grammar N A) (s : Awaited) where
    plain_gives : plain_line_gives g s (spaced w ws) ≡ by_first_word g s w ws
    unfolding plain_line_gives words_give
    plain_gives =
        ap (λ b. need kind.Bytes b >>= λ _. words_give g s (words (spaced w ws))) (all_plain w ws short all)
        ∙ ap (λ ps. words_give g s ps) (words_are w ws short all)
        ∙ ap (λ b. need kind.Space b >>= λ _. by_words g s (w ∷ ws)) (are_words (w ∷ ws) (short, all))

    pub spaced_line : length ws ≤ 3
        → line_gives g s (spaced w ws) ≡ (if is_passed_over (spaced w ws) then Ok (s, None) else plain_line_gives g s (spaced w ws))
        → recording_line g s (spaced w ws) ≡ by_first_word g s w ws
    spaced_line few read =
        short_is (line_gives g) s (spaced w ws) (omega (arith, length_spaced w ws short all, few)) ∙ read
        ∙ ap (λ b. if b then Ok (s, None) else plain_line_gives g s (spaced w ws)) (not_passed w ws short) ∙ plain_gives
