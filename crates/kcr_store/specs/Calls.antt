-- What a call of a register says of its history, and what it leaves.
use Rattle.std.specs.Prelude.{◌≡◌, ◌↔◌, Bool, true, false, if◌then◌else◌, Some, IsTrue, Result, Err, IfErr, unwrap_or, ◌⊎◌}
use Rattle.sqlite.specs.{Store.Ghosts, Held.state, State.HasCleanDisk, State.Survives}
use Rattle.kcr_base.specs.declared.refusal.Refusal.{Refusal, TheVariants.Broken, TheVariants.Disk}
use Rattle.kcr_history.specs.{History.History, Tables.Tables}
use Rattle.kcr_store.specs.Register.{HasRows, RegisterRows, RegisterState, RegisterHistory, IsConsistent, ShowsAt, StandsAt, whole}

-- whatever its database holds, nothing was committed: a crash leaves nothing that it would not have left before, and
-- whatever rows it had it has
pub record CommitsNothing {S : Type 0} (g : Ghosts S) (old new : RegisterState S) : Type 0 where
  pub survives : Survives (state g old.conn) (state g new.conn) (λ _. ⊥)
  pub number : new.last_number ≡ old.last_number
  pub rows : (m : Tables) → HasRows m (state g old.conn) → HasRows m (state g new.conn)

-- said of each history at which the register stood, by a call that leaves the disk clean: it stands at another, and
-- this is said of the two
abbrev pub Leads : {S : Type 0} → Ghosts S → RegisterState S → RegisterState S → (RegisterHistory → RegisterHistory → Type 0)
    → Type 0
Leads g old new Says =
    HasCleanDisk (state g new.conn) → (s : RegisterHistory) → StandsAt g s old
    → (after : RegisterHistory) × StandsAt g after new × Says s after

-- the same of whatever rows the register showed: it shows others, and this is said of the two
abbrev pub RowsLead : {S : Type 0} → Ghosts S → RegisterState S → RegisterState S → (RegisterRows → RegisterRows → Type 0)
    → Type 0
RowsLead g old new Says =
    HasCleanDisk (state g new.conn) → (t : RegisterRows) → ShowsAt g t old
    → (after : RegisterRows) × ShowsAt g after new × Says t after

-- said of each history of a register that is not broken, by a call that leaves the disk clean
abbrev pub OfHistory : {S : Type 0} → Ghosts S → RegisterState S → RegisterState S → (History → Type 0) → Type 0
OfHistory g old new Says = HasCleanDisk (state g new.conn) → (A : History) → StandsAt g (whole A) old → Says A

-- said of whatever rows a register that is not broken had, by a call that leaves the disk clean
abbrev pub OfRows : {S : Type 0} → Ghosts S → RegisterState S → RegisterState S → (Tables → Type 0) → Type 0
OfRows g old new Says =
    HasCleanDisk (state g new.conn) → old.is_broken ≡ false → (m : Tables) → HasRows m (state g old.conn) → Says m

-- once a fault has broken it, a crash may leave the history that it had
abbrev pub left_at : Bool → RegisterHistory → RegisterHistory
left_at is_broken s = if is_broken then record s { in_doubt = Some (unwrap_or s.in_doubt s.accepted) } else s

-- a register that a fault has broken
abbrev pub after_fault : {S : Type 0} → RegisterState S → RegisterState S
after_fault seen = record seen { is_broken = true }

-- if this came it has broken the register, and else that is as it was
abbrev pub BreaksIf : {S : Type 0} → Type 0 → RegisterState S → RegisterState S → Type 0
BreaksIf Came old new = (Came × (new ≡ after_fault old)) ⊎ (¬ Came × (new ≡ old))

-- an I/O error has broken it, and after anything else it is as it was
abbrev pub BreaksOnFault : {A S : Type 0} → RegisterState S → RegisterState S → Result A Refusal → Type 0
BreaksOnFault old new result = BreaksIf (result ≡ Err Disk) old new

-- a call that reads: it stands where it did, and an I/O error alone breaks it. A broken one says so and stays as it
-- was, and a refusal of another is one of those that it may give
pub record ReadsHistory {A S : Type 0} (g : Ghosts S) (MayFail : Refusal → Type 0) (old new : RegisterState S)
    (result : Result A Refusal) : Type 0 where
  pub broken : IsTrue old.is_broken → (result ≡ Err Broken) × (new ≡ old)
  pub cause : old.is_broken ≡ false → IfErr result MayFail
  pub breaks : old.is_broken ≡ false → IsTrue new.is_broken ↔ (result ≡ Err Disk)
  pub nothing : CommitsNothing g old new
  pub stands : (s : RegisterHistory) → StandsAt g s old → StandsAt g (left_at new.is_broken s) new
  -- a disk that is honest at the end was so at the beginning
  pub clean : HasCleanDisk (state g new.conn) → HasCleanDisk (state g old.conn)
  pub kept : IsConsistent g new
