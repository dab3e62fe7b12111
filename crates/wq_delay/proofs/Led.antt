-- The row of a timetable that was led on, by what a sort of its end promises.
use Rattle.std.proofs.lemmas.List.{take-append-le, drop-append-le, take_all, drop_all}
use Rattle.wq_delay.proofs.Common.{◌≡◌, ℕ, ◌*◌, ◌<◌, ◌≤◌, List, [], ◌++◌, length, take, drop, filter, Some, All, Option, IsPermutation, sym, ap, ◌∙◌, subst}
use Rattle.wq_delay.proofs.Common.{arith, DuePlace, DueItem, waiting, stands, remaining, IsTimetable, IsGathering, PutsBehind, AreSorted, take-append-drop}
use Rattle.wq_delay.proofs.Leading.{timetable_end}

module _ {places : List (Option DuePlace)} {next previous : List ℕ} {row : List DueItem} {room front count tick : ℕ}
    (t : IsTimetable places next previous row room front count tick) (now : ℕ) (forward : tick ≤ now)
    {given : List (Option DuePlace)} (value : given ≡ places) (kept : List DueItem) (same : filter (stands given) kept ≡ filter (stands given) row) where
  pub timetable_led : {next' previous' : List ℕ} {found sorted : List DueItem} (grows : PutsBehind given kept found)
      → IsGathering given next' previous' (remaining given found) now
      → ((k : ℕ) (p : DuePlace) → waiting given (remaining given found) k ≡ Some p → now < p.due)
      → {late : ℕ} → late ≡ length kept → take late sorted ≡ take late found → IsPermutation (drop late found) (drop late sorted)
      → AreSorted (drop late sorted) → {room' front' : ℕ} → 3 * length given ≤ room' → filter (stands given) (take front' kept) ≡ []
      → front' ≤ length kept → All (λ e. e.place.due ≤ tick) kept → IsTimetable places next' previous' sorted room' front' count now
  timetable_led {found = found} {sorted = sorted} grows gathered none_due {late} late_is front_is moves is_sorted enough passed low early =
      let before : take late found ≡ kept = ap (take late) grows.is ∙ (take-append-le late kept grows.more (omega (arith, late_is))
      ∙ take_all late kept (omega (arith, late_is))) in
      let behind : drop late found ≡ grows.more = ap (drop late) grows.is ∙ (drop-append-le late kept grows.more (omega (arith, late_is))
      ∙ ap (λ (z : List DueItem). z ++ grows.more) (drop_all late kept (omega (arith, late_is)))) in
      let whole : sorted ≡ kept ++ drop late sorted = sym (take-append-drop late sorted)
      ∙ ap (λ (z : List DueItem). z ++ drop late sorted) (front_is ∙ before) in
      timetable_end t now forward value kept same grows gathered none_due whole
      (subst (λ (z : List DueItem). IsPermutation z (drop late sorted)) behind moves) is_sorted enough passed low early
