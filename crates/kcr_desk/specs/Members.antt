-- Values that are lists: members between commas, with the blanks around them dropped.
use Rattle.std.specs.Prelude.{ℕ, Bool, List, [], ◌∷◌, map, if◌then◌else◌, ◌==◌, Option, Some, None}
use Rattle.std.specs.{Borrow.Bor, Str.bytes_eq, List.list_any, Char.to_ascii_lowercase}
use Rattle.httparse.specs.Grammar.{trim_ows}
use Rattle.kcr_desk.specs.declared.members.Members.{Members}

-- the same bytes, in any case
abbrev pub same_case : List ℕ → List ℕ → Bool
same_case a b = bytes_eq (map to_ascii_lowercase a) (map to_ascii_lowercase b)

-- the pieces, with a byte added to the front of the first
abbrev pub cons_first : ℕ → List (List ℕ) → List (List ℕ)
cons_first b [] = (b ∷ []) ∷ []
cons_first b (piece ∷ pieces) = (b ∷ piece) ∷ pieces

-- the pieces between commas
abbrev pub split_commas : List ℕ → List (List ℕ)
split_commas [] = [] ∷ []
split_commas (b ∷ bs) = let pieces = split_commas bs in if b == 44 then [] ∷ pieces else cons_first b pieces

-- the members of a list value
unfoldable pub members : List ℕ → List (List ℕ)
members value = map trim_ows (split_commas value)

-- the value has this member, in any case
abbrev pub has_member : List ℕ → List ℕ → Bool
has_member text value = list_any (λ member. same_case member text) (members value)

-- some value has this member
abbrev pub some_has_member : List ℕ → List (List ℕ) → Bool
some_has_member text values = list_any (has_member text) values

abbrev pub members_of_rest : Option (Bor (List ℕ)) → List (List ℕ)
members_of_rest None = []
members_of_rest (Some rest) = members rest.now

abbrev pub members_left : Members → List (List ℕ)
members_left it = members_of_rest it.rest
