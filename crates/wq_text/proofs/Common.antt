-- What several proofs of this crate cite of std, of specs and of the crates below, passed on from one place.
pub use Rattle.std.proofs.Common.{lit<, map, Result, Ok, Err, Bor, MatchOption, All, position, length-drop}
pub use Rattle.std.proofs.lemmas.Bool.{ltb-true, leb-true, le-leb, true≢false, lt-leb}
pub use Rattle.std.proofs.lemmas.List.{at_drop_more, at_drop_all, length-map, take-map}
pub use Rattle.std.proofs.lemmas.List.Elements.{All-append, All-nil}
pub use Rattle.std.proofs.lemmas.Option.{same_Some}
pub use Rattle.std.proofs.lemmas.Result.{err_from_is_err_and}
pub use Rattle.std.specs.List.{list_all, slice_split, position_or_len, onto_first}
pub use Rattle.std.specs.Option.{option_to_list}
pub use Rattle.std.specs.Result.{MatchResult, result_ok, OkIff}
pub use Rattle.std.specs.Str.{all_ascii_digits, IsAscii, IsUtf8, IsValidUpTo, valid_up_to}
pub use Rattle.std.specs.Str.Parse.{digits_value, ParsesUnsigned}
pub use Rattle.wq_words.specs.declared.layout.Layout.{Layout}
pub use Rattle.wq_words.proofs.Common.{◌≡◌, ℕ, zero, suc, ◌<◌, Bool, true, false, not, ◌&&◌, ◌||◌, List, length, get_or, Some, None, nat_lt, nat_le, ◌==◌}
pub use Rattle.wq_words.proofs.Common.{refl, sym, ap, ◌∙◌, arith, if◌then◌else◌, ◌+◌, ◌≤◌, [], ◌∷◌, ◌++◌, drop, subst, append_assoc, Option, ◌⊎◌, inl, inr}
pub use Rattle.wq_words.proofs.Common.{take, cond, length-append, count_by, ◌≢◌, ◌-◌, and_parts, eq-eqb, ne_eqb, cases_lt, eqb-true, append-nil, take_all}
pub use Rattle.wq_core.proofs.Common.{◌^◌, lt-ltb, le-ltb, eqb-false}
unfoldable pub use Rattle.wq_text.specs.Arguments.{each, word_and_at_most, one_and_at_most, item}
pub use Rattle.wq_text.specs.Fault.{◌>>=◌, LineFailsAs, of_one, RefusedFor}
pub use Rattle.wq_text.specs.Header.{tested, at_most, two_of, three_of, within, in_limits, with_limits, is_header, header_line_gives, layout_at}
unfoldable pub use Rattle.wq_text.specs.Header.{limited}
pub use Rattle.wq_text.specs.Line.{Grammar}
unfoldable pub use Rattle.wq_text.specs.Line.{asking_line, by_first_word, Lines, words_give, line_gives}
unfoldable pub use Rattle.wq_text.specs.Sound.{AreSound, SoundAt, KeepsSound, KeepsHeader}
pub use Rattle.wq_text.specs.Text.{LinesLead, Spells, end_fault, HasLineFault, IsRefusal, HasOneOutcome}
pub use Rattle.wq_text.specs.Turn.{after_b, without_last, Turn}
unfoldable pub use Rattle.wq_text.specs.Word.{spelled_number, is_numeral, is_plain, parts}
pub use Rattle.wq_text.specs.declared.fault.FaultKind.{FaultKind}
pub use Rattle.wq_text.specs.declared.fault.LineError.{LineError}
pub use Rattle.wq_text.specs.declared.fault.ScriptError.{ScriptError}
pub use Rattle.wq_text.specs.declared.header.Most.{Most}
pub use Rattle.wq_text.specs.declared.header.Awaited.{Awaited}
