use Rattle.std.proofs.Common.{◌≡◌, suc, length, map, take}
use Rattle.kcr_base.proofs.positions.counted_from_one.Given as goal

abbrev pub invariant-loop-place : goal.invariant-loop-place
invariant-loop-place l = (length l.positions ≡ 16) × (take l.place l.positions ≡ map suc (take l.place l.indices))
