-- What a refusal of a script says.
use Rattle.std.specs.Prelude.{⊤, ℕ}
use Rattle.kcr_base.specs.declared.refusal.Refusal.{Refusal, TheVariants.Memory, TheVariants.Script}

-- it is out of memory, or names a row of which this holds
abbrev pub IfRow : (ℕ → Type 0) → Refusal → Type 0
IfRow P Memory = ⊤
IfRow P (Script row) = P row
IfRow P other = ⊥
