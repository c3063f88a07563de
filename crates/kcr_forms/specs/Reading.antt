-- What a source of members gives.
use Rattle.std.specs.Prelude.{ℕ, List, Bool, Option, Result}
use Rattle.std.specs.Option.{ok_or}
use Rattle.kcr_base.specs.declared.refusal.{Member.Member, Refusal.Refusal}
use Rattle.kcr_base.specs.declared.refusal.Refusal.TheVariants as refusal

-- a member by its name, for each kind of value, and what is left after it
pub record Reading (S : Type 0) : Type 1 where
  -- a value by its text, which is not the last one
  pub word : {V : Type 0} → (List ℕ → Option V) → Member → S → Option V
  -- the last value, by its text
  pub last : {V : Type 0} → (List ℕ → Option V) → Member → S → Option V
  -- a number from 1 to a limit
  pub number : ℕ → Member → S → Option ℕ
  -- a truth value
  pub truth : Member → S → Option Bool
  -- a list of values, each by its text, if they may be listed
  pub list : {V : Type 0} → (List ℕ → Option V) → (List V → Option (List V)) → Member → S → Option (List V)
  -- what is left
  pub rest : S → S

-- a member that is of its form, or the refusal that names it
abbrev pub formed : {A : Type 0} → Member → Option A → Result A Refusal
formed m value = ok_or value (refusal.Form m)
