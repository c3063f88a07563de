-- A database over files that are never in doubt.
use Rattle.kcr_tool.proofs.Common.{◌≡◌, ◌&&◌, Bool, true, refl, file_state, Held, HasCleanDisk}
use Rattle.sqlite_trees.specs.View.{doubt}
use Rattle.sqlite_disk.specs.declared.Disk.{Ghosts}
use Rattle.sqlite_pool.specs.Pool.{state}
use Rattle.sqlite_store.specs.declared.store.FileStore.{FileStore}

no_doubt : (log file : Bool) → log ≡ true → file ≡ true → doubt (log && file) ≡ 0
unfolding doubt
no_doubt log file p q = rw (p, q) refl

-- over files that are clean the disk is clean
pub never_in_doubt : {D : Type 0} {g : Ghosts D} → ((file : D) → g.is_clean file ≡ true) → (conn : Held (FileStore D g)) → HasCleanDisk (file_state conn)
unfolding state
never_in_doubt clean conn = no_doubt _ _ (clean _) (clean _)
