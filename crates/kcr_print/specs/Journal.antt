-- The journal of a register: the lines of its accepted commands, in the order of their numbers.
use Rattle.std.specs.Prelude.{ℕ, List, map, Option, Result, ⊤}
use Rattle.std.specs.List.{flat_map}
use Rattle.sqlite.specs.Store.{Ghosts}
use Rattle.kcr_base.specs.{Counted.inner_of, declared.counted.Counted.Counted}
use Rattle.kcr_forms.specs.Values.{AreValues}
use Rattle.kcr_history.specs.Tables.{Tables, tables}
use Rattle.kcr_journal.specs.Journal.{journal, row_line}
use Rattle.kcr_reading.specs.Commands.{commands_within}
use Rattle.kcr_store.specs.{Calls.OfHistory, Register.RegisterState}
use Rattle.kcr_print.specs.{Reports.IsPrinted, Reports.Prints, Reports.PrintsRows, declared.fault.PrintFault.PrintFault}

-- the lines of the rows, whatever rows these are
abbrev pub row_journal : Option ℕ → Tables → List ℕ
row_journal asked m =
    flat_map (λ line. line) (map (row_line asked m.people) (commands_within 0 4294967295 m))

-- the journal of a register: what its rows keep, whoever wrote them, and of a history whose commands are of values, their
-- lines
pub record PrintsJournal {S W : Type 0} (g : Ghosts S) (contents : W → Option (List ℕ)) (before now : RegisterState S)
    (old new : Counted W) (result : Result ⊤ PrintFault) (asked : Option ℕ) : Type 0 where
  pub prints : Prints g contents before now old new result (λ _ _. ⊥) (λ _. ⊥) (λ A. row_journal asked (tables A))
  pub by_rows : PrintsRows g contents before now old new result (λ _ _. ⊥) (row_journal asked)
  pub lines : OfHistory g before now (λ A. AreValues A
      → IsPrinted (λ _. ⊥) (journal asked A) result (contents (inner_of old)) (contents (inner_of new)))
