-- One call after the other in a transaction.
use Rattle.kcr_rows.proofs.Common.{◌∙◌, arith, Trees, State, HasCleanDisk, KeepsCommit, Survives}
use Rattle.sqlite.proofs.StateLemmas.{survives_then}

-- a disk that is clean after a call was clean before it
pub was_clean : (old new : State) (P : Trees → Type 0) → Survives old new P → HasCleanDisk new → HasCleanDisk old
was_clean old new P s clean = omega (arith, s.clean)

-- a crash after two calls that commit nothing leaves what it left before them
pub survives_on : (old mid new : State) → Survives old mid (λ _. ⊥) → Survives mid new (λ _. ⊥) → Survives old new (λ _. ⊥)
survives_on old mid new one two = survives_then old mid new _ _ (λ _. ⊥) (λ _ db none. none) (λ _ db none. none) one two

-- two calls one after the other leave what is committed if each does
pub keeps_then : (a b c : State) → KeepsCommit a b → KeepsCommit b c → KeepsCommit a c
keeps_then a b c p q = record { was_open = λ live. p.was_open (q.was_open live); committed = λ live. q.committed live ∙ p.committed (q.was_open live) }
