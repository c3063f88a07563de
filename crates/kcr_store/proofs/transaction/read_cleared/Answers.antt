use Rattle.kcr_store.proofs.Common.{rules, refl, inl, inr, Err, IfErr-weaker, Memory, asks_of, IsViewOf, View, is_full_by}
use Rattle.kcr_store.proofs.Common.{if_ok, within_then, within_to, within_fails, clean_before, StaysInTransaction, RefusesNew}
use Rattle.kcr_history.specs.Early.{Completes, early_asks}
use Rattle.kcr_machine.proofs.Completed.{still-cleared}
use Rattle.kcr_store.proofs.{ByRows.refuses_new, WholeLemmas.survives_still}
use Rattle.kcr_store.proofs.transaction.read_cleared.Goals as goal

-- ---- all rows are read

pub returns-clause-view : goal.returns-clause-view
returns-clause-view g c clean m held =
    let last = c.read_remaining_rows.ensures in
    let before = clean_before last.frame.within clean in
    let front = c.in_ok-front.ensures in
    let early = front.view before m held in
    let asked = c.in-Ok.asked in
    if_ok (λ view. IsViewOf (early_asks asked) m c.in_ok-front.front → IsViewOf asked m view) (IsViewOf (asks_of c.args.command.now) m)
    (λ view is. rw (← c.in-Ok.ensures) (is early)) c.read_remaining_rows.result (last.view clean m (front.frame.tables before m held))

pub returns-clause-cleared : goal.returns-clause-cleared
returns-clause-cleared g c =
    if_ok (Completes c.in_ok-front.front) _ (λ view completes. still-cleared c.in_ok-front.front view (is_full_by c.args.count) c.args.command.now.act completes
    c.in_ok-check_early.ensures.told) c.read_remaining_rows.result c.read_remaining_rows.ensures.completes

pub returns-clause-tables : goal.returns-clause-tables
returns-clause-tables g c clean m held = search (rules, clean_before)

pub returns-clause-frame : goal.returns-clause-frame
returns-clause-frame g c =
    let last = c.read_remaining_rows.ensures.frame.within in
    let MayRefuse = RefusesNew g.S.Store c.args.count c.args.command.now c.args.tx.now c.read_remaining_rows.new.tx in
    let cause = IfErr-weaker c.read_remaining_rows.result _ MayRefuse (λ e fault. refuses_new e (λ clean m held. inl fault)) last.cause in
    within_then c.in_ok-front.ensures.frame.within (search (rules, cause, last))

-- ---- it is refused

-- nothing was read
pub returns-in_default-clause-frame : goal.returns-in_default-clause-frame
returns-in_default-clause-frame g c =
    let cause : RefusesNew g.S.Store c.args.count c.args.command.now c.args.tx.now c.args.tx.now Memory =
    refuses_new Memory (λ clean m held. inl (inl refl)) in
    search (rules, survives_still, cause)

pub returns-in_err-front-clause-frame : goal.returns-in_err-front-clause-frame
returns-in_err-front-clause-frame g c =
    within_fails _ c.from_residual.ensures.1 (λ fault. refuses_new _ (λ clean m held. inl fault)) c.in_err-front.ensures.frame.within

pub returns-in_err-check_early-clause-frame : goal.returns-in_err-check_early-clause-frame
returns-in_err-check_early-clause-frame g c =
    let front = c.in_ok-front.ensures in
    let MayRefuse = RefusesNew g.S.Store c.args.count c.args.command.now c.args.tx.now c.read_early_rows.new.tx in
    let refused : StaysInTransaction {A = View} g.S.Store MayRefuse c.args.tx.now c.read_early_rows.new.tx (Err c.in_err-check_early.field-0.0) =
    within_to _ (refuses_new _ (λ clean m held.
    let view = front.view clean m held in
    inr (record { view = c.in_ok-front.front; rows = rw c.in-Ok.ensures at view; told = c.in_err-check_early.ensures.told }))) front.frame.within in
    within_fails _ c.from_residual-in_err-check_early.ensures.1 (λ it. it) refused
