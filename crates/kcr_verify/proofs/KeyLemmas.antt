-- The text of a bound value, and what a database shows as a transaction begins.
use Rattle.kcr_verify.proofs.Common.{◌≡◌, true, false, if◌then◌else◌, refl, is_nan, Database, Held, state, Ghosts, bound_value, Value, Kind}
use Rattle.kcr_verify.proofs.Common.{cell_text}
use Rattle.sqlite.specs.declared.types.Value.TheVariants.{Null, Real}

-- a value that is bound has the same text
pub bound_text : (k : Kind) (v : Value) → cell_text k (bound_value v) ≡ cell_text k v
bound_text k (Real x) = elim (is_nan x) as (λ b. cell_text k (if b then Null else Real x) ≡ cell_text k (Real x)) [ true ↦ refl | false ↦ refl ]
bound_text k other = refl

-- what a database has as a transaction begins it had before
pub begun_shows : {S : Type 0} (g : Ghosts S) (old begun : Held S) (P : Database → Type 0) → begun ≡ record old { in_transaction = true }
    → P (state g begun).now → P (state g old).now
begun_shows g old begun P is has = rw is at has
