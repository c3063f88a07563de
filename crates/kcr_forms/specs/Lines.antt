-- The lines of a stored text as members.
use Rattle.std.specs.Prelude.{ℕ, ◌==◌, List, [], ◌∷◌, Option, Some, option_map, option_and_then}
use Rattle.std.specs.{List.slice_split, Option.option_map_or}
use Rattle.kcr_forms.specs.{Forms.number_of, Forms.truth_of, Reading.Reading, Split.Reader, Split.split_at_byte}

-- the values that texts give, if each gives one
abbrev pub each_of : {V : Type 0} → Reader V → List (List ℕ) → Option (List V)
each_of read [] = Some []
each_of read (text ∷ texts) = option_and_then (λ value. option_map (λ values. value ∷ values) (each_of read texts)) (read text)

-- the texts between commas
abbrev pub between_commas : List ℕ → List (List ℕ)
between_commas text = slice_split (λ b. b == 44) text

-- what the first of several lines gives
abbrev pub on_line : {V : Type 0} → Reader V → Reader V
on_line read text = option_and_then (λ p. read p.0) (split_at_byte 10 text)

-- each member but the last is on a line of its own
abbrev pub lines : Reading (List ℕ)
lines = record {
  word = λ read name text. on_line read text;
  last = λ read name text. read text;
  number = λ limit name text. on_line (number_of limit) text;
  truth = λ name text. on_line truth_of text;
  list = λ read make name text. on_line (λ line. option_and_then make (each_of read (between_commas line))) text;
  rest = λ text. option_map_or (λ p. p.1) (split_at_byte 10 text) text;
}
