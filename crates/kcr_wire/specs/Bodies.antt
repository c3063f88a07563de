-- The body of a command: its key, and the members of its act in their order.
use Rattle.std.specs.Prelude.{ℕ, List, [], ◌∷◌, ◌++◌, map, codes}
use Rattle.serde_json.specs.Data.{Data, unsigned, boolean, number, string, array, object, Members, no_members, member}
use Rattle.serde_json.specs.{View.items_of, Written.compact_text}
use Rattle.json.specs.Print.{quoted}
use Rattle.kcr_base.specs.{Refusal.member_text, declared.refusal.Member.Member}
use Rattle.kcr_history.specs.Texts.{MemberValue, Word, Whole, Truth, Several, members_of}
use Rattle.kcr_history.specs.declared.commands.Command.{Command}

-- a value, as JSON
abbrev pub json_of : MemberValue → Data
json_of (Word text) = string text
json_of (Whole n) = number (unsigned n)
json_of (Truth truth) = boolean truth
json_of (Several texts) = array (items_of (map string texts))

-- members, each under its name
abbrev pub json_members : List (Member × MemberValue) → Members
json_members [] = no_members
json_members (m ∷ ms) = member (member_text m.0) (json_of m.1) (json_members ms)

-- the body of a command's request: an object whose first member is the key
abbrev pub body_of : Command → Data
body_of command = object (member (codes "key") (string command.key) (json_members (members_of command.act)))

-- its text, JSON without blanks
unfoldable pub body_text : Command → List ℕ
body_text command = compact_text (body_of command)

-- a member behind another one: a comma, its name, a colon and its value
abbrev pub next_member : List ℕ → Data → List ℕ
next_member name value = codes "," ++ (quoted name ++ (codes ":" ++ compact_text value))
