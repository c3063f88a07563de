-- The lines that the rows of accepted commands keep are those of the commands.
use Rattle.kcr_print.proofs.Common.{◌≡◌, ℕ, List, map, take, reverse, ap, subst, ◌∙◌, Result, ⊤, AllByRecursion, flat_map, take-map}
use Rattle.kcr_print.proofs.Common.{IsPermutation-reverse, state, HasCleanDisk, Ghosts, Trees, all-permutation, inner_of, Counted, AreValues, History}
use Rattle.kcr_print.proofs.Common.{IsRegister, key_row, people, tables, KeyRow, RegisterState, PrintsJournal, row_journal, IsPrinted, Prints}
use Rattle.kcr_print.proofs.Common.{PrintsRows, PrintFault}
use Rattle.std.proofs.Common.{Option}
use Rattle.kcr_journal.specs.Journal.{journal, row_line}
use Rattle.kcr_journal.proofs.EntryLemmas.{IsGood, good-entries, rows-are}
use Rattle.kcr_print.proofs.RequestLemmas.{none, past_is, held_by, all_take}

rows_tell : (asked : Option ℕ) (A : History) → IsRegister A → AreValues A → row_journal asked (tables A) ≡ journal asked A
rows_tell asked A is values =
    let f = row_line asked (people A) in
    let good : AllByRecursion IsGood (take 4294967295 (reverse A)) =
    all_take IsGood 4294967295 (reverse A) (all-permutation IsGood A (reverse A) (IsPermutation-reverse A) (good-entries A is values)) in
    ap (λ (l : List KeyRow). flat_map (λ (line : List ℕ). line) (map f l)) (past_is A is none 4294967295 0 ∙ take-map key_row 4294967295 (reverse A))
    ∙ rows-are asked (people A) (take 4294967295 (reverse A)) good

-- so it is with every register: its file holds the tables, whatever a crash may leave
pub journal_lines : {S W : Type 0} (g : Ghosts S) {contents : W → Option (List ℕ)} {before now : RegisterState S} {x y : Counted W} {r : Result ⊤ PrintFault}
    (asked : Option ℕ) → (HasCleanDisk (state g before.conn) → ∥ ((db : Trees) × (state g before.conn).may_leave db) ∥₁)
    → Prints g contents before now x y r (λ _ _. ⊥) (λ _. ⊥) (λ A. row_journal asked (tables A))
    → PrintsRows g contents before now x y r (λ _ _. ⊥) (row_journal asked) → PrintsJournal g contents before now x y r asked
journal_lines g {contents = contents} {before = before} {x = x} {y = y} {r = r} asked left prints by_rows = record {
  prints = prints;
  by_rows = by_rows;
  lines = λ clean A at values.
      subst (λ (text : List ℕ). IsPrinted (λ _. ⊥) text r (contents (inner_of x)) (contents (inner_of y)))
      (held_by g before left A at (prints.clean clean) (λ register. rows_tell asked A register values)) (prints.printed clean A at);
}
