use Rattle.kcr_store.proofs.Common.{arith, ◌∙◌, ℕ, ap, MatchResult, is_some, Trees, Refusal, named_stays, History, IsSheetShown, tables}
use Rattle.kcr_store.proofs.Common.{StayWithName, clean_before, TreesHoldTables, IsQuestionRefusal, IsSheetShownBy, IsMissingBy, IsQuestionRefusalBy}
use Rattle.std.specs.{Global.Global, Prelude.Result, declared.vec.Vec.Vec}
use Rattle.kcr_history.specs.declared.questions.Question.TheVariants.{Sheet}
use Rattle.kcr_store.proofs.{PlannedLemmas.planned_row, StoreLemmas.held_in, QuestionLemmas.sheet_of_history, QuestionLemmas.shown_or_fault}
use Rattle.kcr_store.proofs.lists.read_sheet.Goals as goal

pub returns-clause-rows : goal.returns-clause-rows
returns-clause-rows g c clean m had =
    let before = clean_before c.remaining_rows.ensures.frame.within clean in
    let found = c.in_ok-find_ceremony.ensures in
    let held = found.tables before m (had (found.opened before)) in
    let ceremony = c.args.ceremony in
    shown_or_fault _ (λ stays. IsSheetShownBy m ceremony stays.items) (IsMissingBy m (Sheet ceremony))
    c.remaining_rows.result (λ stays is. record {
      planned = ap is_some (found.rows before m had);
      stays = is ∙ c.new.ensures m ∙ ap (λ n. named_stays n m) c.get.ensures.value;
    }) (c.remaining_rows.ensures.rows clean m held) c.remaining_rows.ensures.frame.within.cause

-- the sheet of a history, or a fault
sheet_or_fault : (A : History) (ceremony : ℕ) {db : Trees} → TreesHoldTables (tables A) db → (result : Result (Vec StayWithName Global) Refusal)
    → MatchResult result (λ stays. IsSheetShownBy (tables A) ceremony stays.items) (IsQuestionRefusalBy (tables A) (Sheet ceremony))
    → MatchResult result (λ stays. IsSheetShown A ceremony stays.items) (IsQuestionRefusal A (Sheet ceremony))
sheet_or_fault A ceremony kept result is = grind (arith, sheet_of_history A ceremony kept, planned_row A ceremony)

pub returns-clause-shown : goal.returns-clause-shown
returns-clause-shown g c clean accepted had =
    let before = clean_before c.remaining_rows.ensures.frame.within clean in
    let was = had (c.in_ok-find_ceremony.ensures.opened before) in
    sheet_or_fault accepted c.args.ceremony was.tables.kept c.remaining_rows.result
    (returns-clause-rows g c clean (tables accepted) (λ live. held_in accepted _ (had live)))
