-- Which refusals a statement gives.
use Rattle.std.specs.Prelude.{◌≡◌, ◌⊎◌}
use Rattle.kcr_base.specs.declared.refusal.Refusal.{Refusal, TheVariants.Memory, TheVariants.Disk}

-- the database gave no answer
abbrev pub IsFault : Refusal → Type 0
IsFault refusal = (refusal ≡ Memory) ⊎ (refusal ≡ Disk)
