use Rattle.kcr_store.proofs.Common.{rules, ◌∙◌, ap, seated_steps, exceptions_of, tables, clean_before, within_fails, within_then, within_to}
use Rattle.kcr_store.proofs.{QuestionLemmas.steps_of_history, StoreLemmas.held_in}
use Rattle.kcr_store.proofs.lists.read_steps.Goals as goal

pub returns-clause-rows : goal.returns-clause-rows
returns-clause-rows g c clean m had =
    let clean2 = clean_before c.in_ok-exceptions.ensures.frame.within clean in
    let clean1 = clean_before c.in_ok-steps.ensures.frame.within clean2 in
    let held = had (c.in_ok-row.ensures.opened clean1) in
    let held1 = c.in_ok-row.ensures.tables clean1 m held in
    let held2 = c.in_ok-steps.ensures.frame.tables clean2 m held1 in
    record {
      row = c.in_ok-row.ensures.rows clean1 m had;
      steps = c.in_ok-steps.ensures.rows clean2 m held1 ∙ c.new.ensures m ∙ ap (λ n. seated_steps n m) c.get.ensures.value;
      exceptions = c.in_ok-exceptions.ensures.rows clean m held2 ∙ c.new-2.ensures m ∙ ap (λ n. exceptions_of n m) c.get-2.ensures.value;
    }

pub returns-clause-shown : goal.returns-clause-shown
returns-clause-shown g c clean accepted had = search (rules, held_in, steps_of_history, returns-clause-rows g c)

pub returns-clause-frame : goal.returns-clause-frame
returns-clause-frame g c =
    within_to _ tt (within_then (within_then c.in_ok-row.ensures.frame c.in_ok-steps.ensures.frame.within) c.in_ok-exceptions.ensures.frame.within)

pub returns-in_err-steps-clause-frame : goal.returns-in_err-steps-clause-frame
returns-in_err-steps-clause-frame g c = search (rules, within_then, within_fails)

pub returns-in_err-exceptions-clause-frame : goal.returns-in_err-exceptions-clause-frame
returns-in_err-exceptions-clause-frame g c = search (rules, within_then, within_fails)
