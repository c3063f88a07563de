-- A register in memory, whose disk is never in doubt.
use Rattle.kcr_tool.proofs.Common.{[], refl, Held, HasCleanDisk, History, RegisterState, IsFresh}
use Rattle.sqlite.specs.{Held.state, Steps.over_memory}
use Rattle.sqlite_trees.specs.{declared.memory.MemStore.MemStore, View.doubt}
use Rattle.kcr_store.specs.Calls.{OfHistory}

-- the disk of a register in memory is clean
pub never_in_doubt : (conn : Held MemStore) → HasCleanDisk (state over_memory conn)
unfolding doubt
never_in_doubt conn = refl

-- what is said of the history of one that was just made
pub of_fresh : (before after : RegisterState MemStore) (Says : History → Type 0) → IsFresh over_memory before
    → OfHistory over_memory before after Says → Says []
of_fresh before after Says fresh says = says (never_in_doubt after.conn) [] fresh.stands
