use Rattle.kcr_store.proofs.Common.{rules, ◌∙◌, sym, Ok, Err, tables, within_then, within_to, within_fails, clean_before}
use Rattle.kcr_store.proofs.ByRows.{accepted_told, by_early, by_fault, by_late, by_repeat, caused, handed_on}
use Rattle.kcr_store.proofs.StoreLemmas.{held_in, fault_steps}
use Rattle.kcr_store.proofs.transaction.decide_and_write.Goals as goal

-- ---- by whatever rows the tables hold

pub returns-in-Some-clause-by_rows : goal.returns-in-Some-clause-by_rows
returns-in-Some-clause-by_rows g c clean m had =
    let kept = c.in_ok-row.ensures in
    let held = had (kept.opened clean) in
    by_repeat c.decide_repeat.result (sym (kept.row clean m held) ∙ c.in-Some.is) c.decide_repeat.ensures.by_row (kept.frame.tables clean m held)

pub returns-in_err-view-clause-by_rows : goal.returns-in_err-view-clause-by_rows
returns-in_err-view-clause-by_rows g c clean m had =
    let kept = c.in_ok-row.ensures in
    let failed = c.in_err-view.ensures.frame in
    let before = clean_before failed clean in
    let held = had (kept.opened before) in
    handed_on (by_early (sym (kept.row before m held) ∙ c.in_default.is) _ (failed.cause.by_rows clean m (kept.frame.tables before m held)))
    c.from_residual-in_err-view.ensures.1

pub returns-in_err-change_all-clause-by_rows : goal.returns-in_err-change_all-clause-by_rows
returns-in_err-change_all-clause-by_rows g c clean m had =
    handed_on (by_fault _ c.in_err-change_all.ensures.frame.cause) c.from_residual-in_err-change_all.ensures.1

pub returns-in_err-verdict-clause-by_rows : goal.returns-in_err-verdict-clause-by_rows
returns-in_err-verdict-clause-by_rows g c clean m had =
    let kept = c.in_ok-row.ensures in
    let seen = c.in_ok-view.ensures in
    let before = clean_before seen.frame clean in
    let held = had (kept.opened before) in
    handed_on (by_late (sym (kept.row before m held) ∙ c.in_default.is) (Err c.in_err-verdict.field-0.0)
    (seen.view clean m (kept.frame.tables before m held)) seen.cleared c.in_err-verdict.ensures.by_rows tt) c.from_residual-in_err-verdict.ensures.1

pub returns-clause-by_rows : goal.returns-clause-by_rows
returns-clause-by_rows g c clean m had =
    let kept = c.in_ok-row.ensures in
    let seen = c.in_ok-view.ensures in
    let last = clean_before c.in_ok-change_all.ensures.frame clean in
    let before = clean_before seen.frame last in
    let held = had (kept.opened before) in
    let held1 = kept.frame.tables before m held in
    let made = c.in_ok-change_all.ensures.tables clean m (seen.tables last m held1) in
    by_late (sym (kept.row before m held) ∙ c.in_default.is) (Ok c.in_ok-verdict.verdict) (seen.view last m held1) seen.cleared
    c.in_ok-verdict.ensures.by_rows (rw c.as_slice.ensures.value at made)

-- ---- over the tables of a history, and what is left

pub returns-in-Some-clause-frame : goal.returns-in-Some-clause-frame
returns-in-Some-clause-frame g c =
    let kept = c.in_ok-row.ensures in
    within_to c.decide_repeat.result
    (caused g.S.Store c.args.tx.now c.find_row.new.tx c.decide_repeat.result kept.opened (returns-in-Some-clause-by_rows g c)) kept.frame.within

pub returns-in_err-view-clause-frame : goal.returns-in_err-view-clause-frame
returns-in_err-view-clause-frame g c =
    let kept = c.in_ok-row.ensures in
    let failed = c.in_err-view.ensures.frame in
    within_then kept.frame.within (within_fails _ c.from_residual-in_err-view.ensures.1 (λ refuses clean A had number.
    let before = clean_before failed clean in
    let was = had (kept.opened before) in
    let held = held_in _ _ was in
    failed.cause.step clean A was.tables.register (kept.frame.tables before (tables A) held) (sym (kept.row before (tables A) held) ∙ c.in_default.is) number) failed)

pub returns-in_err-change_all-clause-frame : goal.returns-in_err-change_all-clause-frame
returns-in_err-change_all-clause-frame g c = search (rules, within_then, within_fails, fault_steps)

pub returns-in_err-verdict-clause-frame : goal.returns-in_err-verdict-clause-frame
returns-in_err-verdict-clause-frame g c =
    let kept = c.in_ok-row.ensures in
    let seen = c.in_ok-view.ensures.frame in
    let made = c.from_residual-in_err-verdict.result in
    within_to made (caused g.S.Store c.args.tx.now c.read_cleared.new.tx made (λ clean. kept.opened (clean_before seen clean))
    (returns-in_err-verdict-clause-by_rows g c)) (within_then kept.frame.within seen)

pub returns-clause-done : goal.returns-clause-done
returns-clause-done g c clean inside A number had =
    let kept = c.in_ok-row.ensures in
    let seen = c.in_ok-view.ensures.frame in
    let put = c.in_ok-change_all.ensures.frame in
    let last = clean_before put clean in
    let was = had (kept.opened (clean_before seen last)) in
    let by = returns-clause-by_rows g c clean (tables A) (λ live. held_in A _ (had live)) in
    let told = accepted_told A c.args.command.now c.args.count was.tables.register number c.in_ok-verdict.verdict was by in
    (told.0, told.1, put.inside clean ((within_then kept.frame.within seen).inside last inside))

pub returns-clause-frame : goal.returns-clause-frame
returns-clause-frame g c =
    within_to _ tt (within_then (within_then c.in_ok-row.ensures.frame.within c.in_ok-view.ensures.frame) c.in_ok-change_all.ensures.frame)
