-- How lists of numbers, and what is said of them, are written.
use Rattle.std.specs.Prelude.{ℕ, ◌-◌, Bool, ◌&&◌, not, ◌==◌, List, [], ◌∷◌, ◌++◌, length, flat_map, nat_lt, if◌then◌else◌, codes}
use Rattle.std.specs.Fmt.{decimal}
use Rattle.wq_words.specs.declared.layout.Layout.{Layout}
use Rattle.wq_words.specs.Numbers.{stop_number}
use Rattle.wq_meaning.specs.Report.{line}

-- an item by its number, a barrier as b0, b1 .., the stop item by its name
abbrev pub name_of : Layout → ℕ → List ℕ
name_of layout k =
    if nat_lt k layout.items then decimal k
    else if nat_lt k (stop_number layout) then codes "b" ++ decimal (k - layout.items)
    else codes "stop"

abbrev pub named : Layout → ℕ → List ℕ
named layout k = codes " " ++ name_of layout k

abbrev pub list_text : Layout → List ℕ → List ℕ
list_text layout [] = codes " nothing"
list_text layout (k ∷ ks) = flat_map (named layout) (k ∷ ks)

-- a line of a word and a list
abbrev pub row_text : Layout → List ℕ → List ℕ → List ℕ
row_text layout word ks = line (word ++ list_text layout ks)

-- what an advance says of the items that were due
abbrev pub advance_word : Bool → List ℕ → List ℕ
advance_word is_closed ks = if is_closed && not (length ks == 0) then codes "refused" else codes "pushed"

-- what a drain says of what is left
abbrev pub left_text : ℕ → List ℕ
left_text left = if left == 0 then codes "empty" else codes "too long left " ++ decimal left
