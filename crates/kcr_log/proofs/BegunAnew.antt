-- A search for a later count, step by step.
use Rattle.std.proofs.Common.{◌≡◌, ◌+◌, ◌-◌, ◌<◌, ◌||◌, ℕ, suc, arith}
use Rattle.kcr_log.specs.{BegunAnew.is_later, BegunAnew.next, BegunAnew.same, declared.begun_anew.Count.Count}

-- one step, of the `most - at` that are left
pub step : (most at : ℕ) (c d after : Count) → at < most → after ≡ next c
    → is_later (most - at) c d ≡ (same after d || is_later (most - (at + 1)) after d)
unfolding is_later
step most at c d after less is = let left : most - at ≡ suc (most - (at + 1)) = omega arith in rw (is, left)
