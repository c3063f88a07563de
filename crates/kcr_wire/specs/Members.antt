-- A body as JSON, and its members.
use Rattle.std.specs.Prelude.{ℕ, List, [], ◌∷◌, Bool, Option, Some, None, option_map, option_and_then, if◌then◌else◌}
use Rattle.std.specs.Str.{is_utf8}
use Rattle.serde_json.specs.Data.{Data, Items, no_items, item}
use Rattle.serde_json.specs.Read.{read}
use Rattle.serde_json.specs.Find.{get, as_str, as_bool, as_number, as_u64, as_array}
use Rattle.kcr_base.specs.{Refusal.member_text, declared.refusal.Member.Member}
use Rattle.kcr_forms.specs.{Forms.number_to, Reading.Reading}

-- the bytes, if they are UTF-8
unfoldable pub text_in : List ℕ → Option (List ℕ)
text_in bytes = if is_utf8 bytes then Some bytes else None

-- the value that a body is, if it is UTF-8 and JSON
unfoldable pub json_of : List ℕ → Option Data
json_of body = option_and_then read (text_in body)

-- the text of a member
abbrev pub text_at : Member → Data → Option (List ℕ)
text_at name d = option_and_then as_str (get (member_text name) d)

-- the whole number of a member, without sign, fraction or exponent
abbrev pub whole_at : Member → Data → Option ℕ
whole_at name d = option_and_then as_u64 (option_and_then as_number (get (member_text name) d))

-- the truth value of a member
abbrev pub truth_at : Member → Data → Option Bool
truth_at name d = option_and_then as_bool (get (member_text name) d)

-- the values of an array, if each of its items is a text that gives one
unfoldable pub each_in : {V : Type 0} → (List ℕ → Option V) → Items → Option (List V)
each_in form no_items = Some []
each_in form (item d rest) =
    option_and_then (λ value. option_map (λ values. value ∷ values) (each_in form rest))
    (option_and_then form (as_str d))

-- the values of a member that is an array
abbrev pub values_at : {V : Type 0} → (List ℕ → Option V) → Member → Data → Option (List V)
values_at form name d = option_and_then (each_in form) (option_and_then as_array (get (member_text name) d))

-- each member stands under its name, so what is left is the whole
abbrev pub body : Reading Data
body = record {
  word = λ form name d. option_and_then form (text_at name d);
  last = λ form name d. option_and_then form (text_at name d);
  number = λ limit name d. option_and_then (number_to limit) (whole_at name d);
  truth = truth_at;
  list = λ form make name d. option_and_then make (values_at form name d);
  rest = λ d. d;
}
