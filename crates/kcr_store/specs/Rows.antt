-- What a register gives one row at a time, and the row of one ceremony.
use Rattle.std.specs.Prelude.{◌≡◌, ◌⊎◌, ℕ, false, IsTrue, List, Option, Result, IfOk}
use Rattle.std.specs.Borrow.{Fml, RattleType, MutBor, LendsIfOk}
use Rattle.sqlite.specs.{Store.Ghosts, Held.Held}
use Rattle.kcr_base.specs.declared.refusal.Refusal.{Refusal}
use Rattle.kcr_base.specs.declared.refusal.Refusal.TheVariants as Refusals
use Rattle.kcr_base.specs.declared.refusal.Thing.TheVariants as Things
use Rattle.kcr_history.specs.{Ceremonies.is_ceremony, History.History, Tables.ceremony_row, declared.row_types.CeremonyRow.CeremonyRow}
use Rattle.kcr_history.specs.Tables as machine
use Rattle.kcr_reading.specs.Remaining.{IsNextOf}
use Rattle.kcr_tables.specs.Refusals.{IsFault}
use Rattle.kcr_store.specs.{Register.RegisterState, declared.rows.Rows.Rows}
use Rattle.kcr_store.specs.contracts.register.Register as register
use Rattle.kcr_store.specs.contracts.unbroken.Unbroken as unbroken

-- ROWS

-- a register that nothing has broken lends its connection, and has it as it was left; a broken one is as it was
abbrev pub LendsConnection : (S : RattleType) (g : Ghosts S.Denot)
    → MutBor (RegisterState S.Denot) → Result (MutBor (Held S.Denot)) Refusal → Fml
LendsConnection S g lender result =
    LendsIfOk (register.the_row S g) (unbroken.the_row S g) lender result (λ conn. record lender.now { conn = conn }) lender.now

-- rows over this connection as it was, of which all these are to come, by whatever tables
pub record BeginsAll {S R Row : Type 0} (old : Held S) (rows : Rows S R Row) (to_come : R → machine.Tables → List Row)
    (all : machine.Tables → List Row) : Type 0 where
  pub same : rows.unbroken.now ≡ old
  pub all_come : (m : machine.Tables) → to_come rows.reading m ≡ all m

-- the next of the rows that are to come by these tables, or none past the last
abbrev pub GivesNext : {R Row : Type 0}
    → (R → machine.Tables → List Row) → R → R → Result (Option Row) Refusal → machine.Tables → Type 0
GivesNext to_come old new result m = IfOk result (λ row. IsNextOf (to_come old m) row (to_come new m))

-- THE ROW OF A CEREMONY

-- the refusal says that no ceremony with this number was planned
abbrev pub NamesCeremony : ℕ → Refusal → Type 0
NamesCeremony ceremony refusal = refusal ≡ Refusals.Unknown (Things.Ceremony ceremony)

-- none with this number was planned, and the refusal says so
abbrev pub IsNotPlanned : History → ℕ → Refusal → Type 0
IsNotPlanned A ceremony refusal = (is_ceremony A ceremony ≡ false) × NamesCeremony ceremony refusal

-- the ceremony was planned, and this is its row
pub record IsRowOf (A : History) (ceremony : ℕ) (row : CeremonyRow) : Type 0 where
  pub planned : IsTrue (is_ceremony A ceremony)
  pub row_is : row ≡ ceremony_row A ceremony

-- why there is no row: out of memory or an I/O error, or the ceremony was never planned
abbrev pub HasNoRow : History → ℕ → Refusal → Type 0
HasNoRow A ceremony refusal = IsFault refusal ⊎ IsNotPlanned A ceremony refusal

-- what may be answered in place of a row, whatever the history
abbrev pub MayHaveNoRow : ℕ → Refusal → Type 0
MayHaveNoRow ceremony refusal = IsFault refusal ⊎ NamesCeremony ceremony refusal
