-- A file that was filled at once.
use Rattle.std.proofs.Common.{◌≡◌, ◌<◌, ◌≤◌, ℕ, List, [], length, arith, zero-add, inl, inr}
use Rattle.std.proofs.{lemmas.List.ext_get_or, Math.Nat.eq-zero-or-pos}
use Rattle.sqlite_disk.specs.Disk.{Holds, Torn}

-- what has these bytes from its beginning, and had none before, is these bytes
pub filled : (old new bytes : List ℕ) → old ≡ [] → (0 < length bytes → Holds new 0 bytes) → Torn 0 (length bytes) old new → new ≡ bytes
filled old new bytes none holds torn =
    let at_most = (rw none at torn).no_longer in
    let at_least : length bytes ≤ length new =
    elim (eq-zero-or-pos (length bytes)) [ inl z ↦ omega arith | inr some ↦ omega (arith, (holds some).within) ] in
    ext_get_or 0 new bytes (omega arith) (λ i below. rw zero-add at ((holds (omega arith)).each i (omega arith)))
