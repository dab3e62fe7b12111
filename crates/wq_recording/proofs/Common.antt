-- What several proofs of this crate cite of std, of specs and of the crates below, passed on from one place.
pub use Rattle.std.proofs.Common.{◌≡◌, ◌≢◌, ℕ, ◌+◌, ◌-◌, ◌<◌, ◌≤◌, ◌⊎◌, Bool, true, false, List, [], ◌∷◌, ◌++◌, length, take, drop, get_or, map, All}
pub use Rattle.std.proofs.Common.{Option, Some, None, IfSome, Result, Ok, Err, IfOk, IfErr, refl, sym, ap, subst}
pub use Rattle.std.proofs.Common.{◌∙◌, inl, inr, arith, nat_le, nat_lt}
pub use Rattle.std.proofs.Common.{flat_map, length-append, append_assoc, slice_index}
pub use Rattle.std.proofs.lemmas.List.{append-nil}
pub use Rattle.std.proofs.lemmas.Option.{same_Some, none-some}
pub use Rattle.std.specs.Option.{option_to_list}
pub use Rattle.wq_words.proofs.Common.{cases_lt}
pub use Rattle.wq_words.specs.declared.layout.Layout.{Layout}
pub use Rattle.wq_check.specs.declared.cause.Cause.{Cause}
pub use Rattle.wq_text.specs.declared.fault.FaultKind.{FaultKind}
pub use Rattle.wq_text.specs.declared.fault.ScriptError.{ScriptError}
pub use Rattle.wq_text.specs.declared.header.Awaited.{Awaited}
pub use Rattle.wq_text.specs.Line.{Grammar, Lines, line_gives}
pub use Rattle.wq_text.specs.Text.{LinesLead, end_fault}
pub use Rattle.wq_text.specs.Header.{layout_at}
pub use Rattle.wq_text.specs.Word.{parts}
pub use Rattle.wq_recording.specs.declared.violation.Violation.{Violation}
pub use Rattle.wq_recording.specs.Verdict.{Rules, Verdict, IsLineAt, IsLegalText, IsFirstViolation, IsRefusedText, HasVerdict, HasFaultAt}
pub use Rattle.wq_recording.specs.Verdict.{last_fault, short_line, recording_line}
pub use Rattle.wq_recording.specs.Recording.{ViolatesAmong}
pub use Rattle.wq_recording.specs.Judging.{HasTold, IsMadeAt, TellsAll, ComesTo}
