-- What a stop leaves of a register's files.
use Rattle.kcr_store.proofs.Common.{rules, ◌⊎◌, inl, inr, IsTrue, HoldsDatabase, AreDatabases, State, HasCleanDisk, Ghosts, Trees, Image}
use Rattle.kcr_store.proofs.Common.{FilesHoldHistory, LeavesEither, OpensAtEither, tried, AfterCrash, RegisterHistory, IsTables}
use Rattle.std.proofs.Math.Logic.{∥∥₁_map}
use Rattle.sqlite.proofs.Theorems.{opens_again}
use Rattle.sqlite_disk.specs.declared.Disk.{Ghosts as DiskGhosts}
use Rattle.sqlite_store.specs.{FileStore.view, FileStore.recovers, FileStore.state as stored, declared.store.FileStore.FileStore}

held : (s : RegisterHistory) (left : Image) (db : Trees) → HoldsDatabase left db → IsTables s.accepted db ⊎ IsTables (tried s) db
    → FilesHoldHistory s.accepted left ⊎ FilesHoldHistory (tried s) left
held s left db holds tables = search rules

-- each image that a crash may leave of the store holds the tables of one of the two histories
pub left_either : {D : Type 0} {g : DiskGhosts D} (it : FileStore D g) (old : State) → IsTrue (view it).is_numbered → AreDatabases (recovers it)
    → HasCleanDisk old → ((db : Trees) → recovers it db → old.may_leave db) → (s : RegisterHistory) → AfterCrash s.accepted (tried s) old
    → (left : Image) → (stored it).may_leave left → LeavesEither s left
left_either it old numbered sound clean outcomes s crash left may =
    ∥∥₁_map (opens_again it numbered sound left may) (λ found. held s left found.0 found.2 (crash clean found.0 (outcomes found.0 found.1)))

-- what is opened from one stands at one of the two
pub opens_either : {S : Type 0} (g : Ghosts S) (s : RegisterHistory) (left : Image) → LeavesEither s left → OpensAtEither g s left
opens_either g s left either next stands =
    ∥∥₁_map either (λ found. elim found [ inl one ↦ inl (stands s.accepted one) | inr other ↦ inr (stands (tried s) other) ])
