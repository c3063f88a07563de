-- JSON texts (RFC 8259), compact: no blanks, members and values parted by commas.
use Rattle.std.specs.Prelude.{ℕ, List, ◌++◌, codes}
use Rattle.std.specs.List.{join_with_byte}

-- a text that needs no escape, in quotes: no register's code, day or moment has a quote, a backslash or a control
-- character
abbrev pub quoted : List ℕ → List ℕ
quoted text = codes "\"" ++ (text ++ codes "\"")

-- a member of an object: its name, and the JSON text of its value
abbrev pub member : List ℕ → List ℕ → List ℕ
member name value = quoted name ++ (codes ":" ++ value)

abbrev pub object : List (List ℕ) → List ℕ
object members = codes "{" ++ (join_with_byte 44 members ++ codes "}")

abbrev pub array : List (List ℕ) → List ℕ
array values = codes "[" ++ (join_with_byte 44 values ++ codes "]")
