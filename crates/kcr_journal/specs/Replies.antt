-- What the text of a reply tells beside the command's number.
use Rattle.std.specs.Prelude.{ℕ, ◌+◌, ◌==◌, ◌||◌, List, [], take, drop}
use Rattle.std.specs.{List.position, List.filter_map, List.slice_split, Option.option_map_or}
use Rattle.kcr_forms.specs.Forms.{initials_of}

-- what comes after the first such byte, nothing if there is none
unfoldable pub after_byte : ℕ → List ℕ → List ℕ
after_byte byte text = option_map_or (λ i. drop (i + 1) text) (position (λ b. b == byte) text) []

-- what comes after this many colons
abbrev pub after_two : List ℕ → List ℕ
after_two text = after_byte 58 (after_byte 58 text)

-- a member's value: what comes before the next comma or brace
unfoldable pub value_in : List ℕ → List ℕ
value_in text = option_map_or (λ i. take i text) (position (λ b. b == 44 || b == 125) text) text

-- the number of an exception, which is the second member
abbrev pub exception_in : List ℕ → List ℕ
exception_in reply = value_in (after_two reply)

-- the step that an exception passes, which is the fourth
abbrev pub passed_in : List ℕ → List ℕ
passed_in reply = value_in (after_two (after_two reply))

-- who fills the seats: the initials between quotes
unfoldable pub seated_in : List ℕ → List (List ℕ)
seated_in reply = filter_map initials_of (slice_split (λ b. b == 34) reply)
