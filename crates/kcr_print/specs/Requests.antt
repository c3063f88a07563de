-- The accepted commands as requests, in the order of their numbers.
use Rattle.std.specs.Prelude.{ℕ, ◌-◌, List, [], map, take, drop, reverse, Option, Result, ⊤}
use Rattle.std.specs.{List.flat_map, Option.option_map_or}
use Rattle.sqlite.specs.Store.{Ghosts}
use Rattle.kcr_base.specs.{Counted.inner_of, declared.counted.Counted.Counted}
use Rattle.kcr_wire.specs.{Requests.request_text, ActTexts.act_of}
use Rattle.kcr_forms.specs.Values.{AreValues}
use Rattle.kcr_history.specs.{History.History, Tables.Tables, Tables.tables, declared.commands.Command.Command, declared.row_types.KeyRow.KeyRow}
use Rattle.kcr_reading.specs.Commands.{commands_within}
use Rattle.kcr_store.specs.{Calls.OfHistory, Calls.OfRows, Register.RegisterState}
use Rattle.kcr_print.specs.Reports.{IsPrinted, Prints, PrintsRows, RefusesBetweenRows}
use Rattle.kcr_print.specs.declared.fault.PrintFault.{PrintFault}

-- the accepted commands after the first N, up to the one with the number `until`, in the order of their numbers
unfoldable pub commands_between : ℕ → ℕ → History → List Command
commands_between after until A = map (λ entry. entry.command) (take (until - after) (drop after (reverse A)))

-- their requests, one after the other
abbrev pub requests_between : ℕ → ℕ → History → List ℕ
requests_between after until A = flat_map request_text (commands_between after until A)

-- the request of the command whose text a row has; none if it is no command's
abbrev pub row_request : KeyRow → List ℕ
row_request row = option_map_or (λ act. request_text (record { key = row.key; act = act })) (act_of row.command) []

-- those of the rows, whatever rows these are
abbrev pub row_requests : ℕ → ℕ → Tables → List ℕ
row_requests after until m = flat_map row_request (commands_within after until m)

-- the export of a register: what its rows keep, whoever wrote them, and of a history whose commands are of values, their
-- requests; a refusal leaves whole requests written
pub record Exports {S W : Type 0} (g : Ghosts S) (contents : W → Option (List ℕ)) (before now : RegisterState S)
    (old new : Counted W) (result : Result ⊤ PrintFault) (after until : ℕ) : Type 0 where
  pub prints : Prints g contents before now old new result (λ _ _. ⊥) (λ _. ⊥) (λ A. row_requests after until (tables A))
  pub by_rows : PrintsRows g contents before now old new result (λ _ _. ⊥) (row_requests after until)
  pub whole_rows : OfRows g before now (λ m. RefusesBetweenRows row_request (commands_within after until m)
      result (contents (inner_of old)) (contents (inner_of new)))
  pub requests : OfHistory g before now (λ A. AreValues A
      → IsPrinted (λ _. ⊥) (requests_between after until A) result (contents (inner_of old)) (contents (inner_of new)))
  pub whole : OfHistory g before now (λ A. AreValues A → RefusesBetweenRows request_text (commands_between after until A)
      result (contents (inner_of old)) (contents (inner_of new)))
