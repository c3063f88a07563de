-- For how long a writer waits that reads the clock before and after.
use Rattle.std.proofs.Common.{◌≡◌, ℕ, zero, Option, Result, Err, arith}
use Rattle.kcr_edges.specs.{Asked.Asked, Asked.Becomes, Asked.told_time, Waits.OffersBytes}

-- no bytes were offered, since the clock failed
pub none_offered : {E : Type 0} (told : Result ℕ E) (e : E) (old new : Option Asked) → told ≡ Err e → Becomes (told_time told) old new
    → OffersBytes zero old new
none_offered told e old new is fails = grind (arith, fails)

-- the clock was read before bytes were offered
pub read_before : {E : Type 0} (told : Result ℕ E) (over : ℕ) (old now new : Option Asked) → Becomes (told_time told) old now
    → OffersBytes over now new → OffersBytes over old new
read_before told over old now new is offers = grind (arith, is, offers)

-- the clock was read after bytes were offered
pub read_after : {E : Type 0} (told : Result ℕ E) (over : ℕ) (old now new : Option Asked) → OffersBytes over old now
    → Becomes (told_time told) now new → OffersBytes over old new
read_after told over old now new offers is = grind (arith, is, offers)
