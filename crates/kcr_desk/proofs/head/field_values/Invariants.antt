use Rattle.kcr_desk.proofs.Common.{◌≡◌, ◌++◌, ℕ, List, [], ◌∷◌, length, map, drop, ⊤, header_bytes, span_bytes, IsWithin, values_of}
use Rattle.kcr_desk.specs.declared.head.FieldValues.{FieldValues, TheVariants.Absent, TheVariants.One, TheVariants.Many}
use Rattle.kcr_desk.proofs.head.field_values.Given as goal

-- the values that were found so far
abbrev pub seen : List ℕ → FieldValues → List (List ℕ)
seen buf (One s) = span_bytes buf s ∷ []
seen buf found = []

abbrev pub IsSeen : List ℕ → FieldValues → Type 0
IsSeen buf Absent = ⊤
IsSeen buf (One s) = IsWithin (length buf) s
IsSeen buf Many = ⊥

abbrev pub invariant-loop-header : goal.invariant-loop-header
invariant-loop-header l = record {
  values : values_of l.name (map (header_bytes l.buf) l.headers)
      ≡ seen l.buf l.found ++ values_of l.name (map (header_bytes l.buf) (drop l.header-index l.headers));
  is_seen : IsSeen l.buf l.found;
}
