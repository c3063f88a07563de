-- What a call that writes a report leaves.
use Rattle.std.specs.Prelude.{◌≡◌, ◌≢◌, ◌<◌, ◌⊎◌, ◌↔◌, ⊤, ℕ, false, List, Option, Result, Err, IfErr, MatchResult, IsSome, IsTrue, OnOk, take}
use Rattle.std.specs.{List.flat_map, Io.KnownBytes.Appends}
use Rattle.sqlite.specs.{Store.Ghosts, State.HasCleanDisk, Held.Held, Held.state}
use Rattle.kcr_base.specs.{Counted.inner_of, Counted.failures_of, declared.counted.Counted.Counted, declared.refusal.Refusal.Refusal}
use Rattle.kcr_base.specs.declared.refusal.Refusal.TheVariants as Refusals
use Rattle.kcr_history.specs.{Ceremonies.is_ceremony, History.History, Tables.Tables}
use Rattle.kcr_tables.specs.Refusals.{IsFault}
use Rattle.kcr_store.specs.Register.{RegisterState, RegisterHistory, IsConsistent, StandsAt}
use Rattle.kcr_store.specs.Calls.{CommitsNothing, OfHistory, OfRows, left_at}
use Rattle.kcr_store.specs.{Frame.OfRowsShown, Frame.OnlyReads, ShownBy.IsNotPlannedBy, Rows.IsNotPlanned, Rows.NamesCeremony}
use Rattle.kcr_print.specs.{ByRows.row_of_ceremony, Written.WritesPrefix}
use Rattle.kcr_print.specs.declared.fault.PrintFault.{PrintFault, TheVariants.Refused, TheVariants.Write}

-- memory ran out, the device failed, or the report is refused for what it is asked for; or a write failed
abbrev pub Stops : (Refusal → Type 0) → PrintFault → Type 0
Stops Denies (Refused refusal) = IsFault refusal ⊎ Denies refusal
Stops Denies Write = ⊤

-- the whole report is written, or a prefix of it and then why it stops
abbrev pub IsPrinted : (Refusal → Type 0) → List ℕ → Result ⊤ PrintFault → Option (List ℕ) → Option (List ℕ) → Type 0
IsPrinted Denies text result old new =
    MatchResult result (λ _. Appends old new text) (λ fault. WritesPrefix old new text × Stops Denies fault)

-- a refusal leaves the writer as it was
abbrev pub RefusesUnwritten : {W : Type 0} → Counted W → Counted W → Result ⊤ PrintFault → Type 0
RefusesUnwritten old new result = (refusal : Refusal) → result ≡ Err (Refused refusal) → new ≡ old

-- a refusal leaves whole rows written: the lines of the first N
abbrev pub RefusesBetweenRows
    : {Row : Type 0} → (Row → List ℕ) → List Row → Result ⊤ PrintFault → Option (List ℕ) → Option (List ℕ) → Type 0
RefusesBetweenRows lines rows result old new =
    (refusal : Refusal) → result ≡ Err (Refused refusal) → (n : ℕ) × Appends old new (flat_map lines (take n rows))

-- a call that reads a register that is not broken: it stands where it did, nothing was committed, and an I/O error alone
-- breaks it
pub record KeepsRegister {S : Type 0} (g : Ghosts S) (before after : RegisterState S) (result : Result ⊤ PrintFault) : Type 0 where
  pub nothing : CommitsNothing g before after
  pub breaks : before.is_broken ≡ false → IsTrue after.is_broken ↔ (result ≡ Err (Refused Refusals.Disk))
  pub stands : (s : RegisterHistory) → StandsAt g s before → StandsAt g (left_at after.is_broken s) after

-- the writer's count tells whether a write failed
pub record CountsWriteFaults {W : Type 0} (old new : Counted W) (result : Result ⊤ PrintFault) : Type 0 where
  pub calm : result ≢ Err Write → failures_of new ≡ failures_of old
  pub fault : result ≡ Err Write → failures_of old < failures_of new

-- by whatever rows a register has that is not broken
abbrev pub PrintsRows : {S W : Type 0} → Ghosts S → (W → Option (List ℕ)) → RegisterState S → RegisterState S
    → Counted W → Counted W → Result ⊤ PrintFault → (Tables → Refusal → Type 0) → (Tables → List ℕ) → Type 0
PrintsRows g contents before after old new result Denies text =
    OfRows g before after
    (λ m. IsPrinted (Denies m) (text m) result (contents (inner_of old)) (contents (inner_of new)))

-- a part of a report over the connection of a register that is not broken: this text of its rows is printed, and they are
-- only read; the part is denied only for what it is asked for
pub record PrintsPart {S W : Type 0} (g : Ghosts S) (contents : W → Option (List ℕ))
    (before after : Held S) (old new : Counted W) (result : Result ⊤ PrintFault)
    (Denies : Tables → Refusal → Type 0) (MayDeny : Refusal → Type 0) (text : Tables → List ℕ) : Type 0 where
  pub printed : OfRowsShown g before after
      (λ m. IsPrinted (Denies m) (text m) result (contents (inner_of old)) (contents (inner_of new)))
  pub reads : OnlyReads g (Stops MayDeny) before after result
  pub told : CountsWriteFaults old new result

-- a report over any register: of one that is not broken this text of its history is printed, and an I/O error breaks
-- it. A broken one answers so, and nothing is written
pub record Prints {S W : Type 0} (g : Ghosts S) (contents : W → Option (List ℕ))
    (before after : RegisterState S) (old new : Counted W) (result : Result ⊤ PrintFault)
    (Denies : History → Refusal → Type 0) (MayDeny : Refusal → Type 0) (text : History → List ℕ) : Type 0 where
  pub broken : IsTrue before.is_broken → (result ≡ Err (Refused Refusals.Broken)) × (after ≡ before) × (new ≡ old)
  pub printed : OfHistory g before after
      (λ A. IsPrinted (Denies A) (text A) result (contents (inner_of old)) (contents (inner_of new)))
  pub cause : before.is_broken ≡ false → IfErr result (Stops MayDeny)
  pub leaves : KeepsRegister g before after result
  pub clean : HasCleanDisk (state g after.conn) → HasCleanDisk (state g before.conn)
  pub kept : IsConsistent g after
  pub told : CountsWriteFaults old new result

-- what is printed whole is of a ceremony that has a row
abbrev pub IsOfRow : {S : Type 0} → Ghosts S → RegisterState S → RegisterState S → Result ⊤ PrintFault → ℕ → Type 0
IsOfRow g before after result ceremony =
    OfRows g before after (λ m. OnOk result (IsSome (row_of_ceremony ceremony m)))

-- so it is of one that was planned
abbrev pub IsOfPlanned : {S : Type 0} → Ghosts S → RegisterState S → RegisterState S → Result ⊤ PrintFault → ℕ → Type 0
IsOfPlanned g before after result ceremony =
    OfHistory g before after (λ A. OnOk result (IsTrue (is_ceremony A ceremony)))

-- a refusal that names the ceremony leaves the writer as it was
abbrev pub DeniesUnwritten : {W : Type 0} → ℕ → Counted W → Counted W → Result ⊤ PrintFault → Type 0
DeniesUnwritten ceremony old new result =
    (refusal : Refusal) → NamesCeremony ceremony refusal → result ≡ Err (Refused refusal) → new ≡ old

-- a part of the report of a ceremony: it is denied only if the ceremony has no row, and before it is begun
pub record PrintsCeremonyPart {S W : Type 0} (report_by : Tables → ℕ → List ℕ) (ceremony : ℕ) (g : Ghosts S)
    (contents : W → Option (List ℕ)) (before after : Held S) (old new : Counted W)
    (result : Result ⊤ PrintFault) : Type 0 where
  pub puts : PrintsPart g contents before after old new result
      (λ m. IsNotPlannedBy m ceremony) (NamesCeremony ceremony) (λ m. report_by m ceremony)
  pub row : OfRowsShown g before after (λ m. OnOk result (IsSome (row_of_ceremony ceremony m)))
  pub unwritten : DeniesUnwritten ceremony old new result

-- the report of a ceremony: it is denied only if the ceremony was never planned, and before it is begun
pub record PrintsPlanned {S W : Type 0} (report : History → ℕ → List ℕ) (report_by : Tables → ℕ → List ℕ)
    (ceremony : ℕ) (g : Ghosts S) (contents : W → Option (List ℕ)) (before after : RegisterState S)
    (old new : Counted W) (result : Result ⊤ PrintFault) : Type 0 where
  pub prints : Prints g contents before after old new result
      (λ A. IsNotPlanned A ceremony) (NamesCeremony ceremony) (λ A. report A ceremony)
  pub planned : IsOfPlanned g before after result ceremony
  -- whoever wrote the rows: the text is that of the rows, and it is denied only if there is no row of the ceremony
  pub by_rows : PrintsRows g contents before after old new result
      (λ m. IsNotPlannedBy m ceremony) (λ m. report_by m ceremony)
  pub row : IsOfRow g before after result ceremony
  pub unwritten : DeniesUnwritten ceremony old new result
