use Rattle.kcr_verify.proofs.Common.{rules, ◌≡◌, Some, None, IfOk-weaker, whole, HasRows}
use Rattle.kcr_history.specs.Tables as machine
use Rattle.kcr_verify.proofs.StandLemmas.{still_stands}
use Rattle.kcr_verify.proofs.VerifyLemmas.{at_each, first_is_keys, first_with_keys, some_weaker}
use Rattle.kcr_verify.proofs.compare.first_difference.Goals as goal

pub returns-clause-none : goal.returns-clause-none
returns-clause-none g c clean A at =
    let frame = c.in_ok-row.ensures.frame in
    let nothing : c.in_ok-row.field-0 ≡ None = search rules in
    let keys = rw nothing at c.in_ok-row.ensures.rows (c.first_differing.ensures.frame.clean clean) A at in
    IfOk-weaker c.first_differing.result _ _
    (λ found all none. at_each (λ table. HasRows table (machine.tables A) c.args.rows.now) keys (all none))
    (c.first_differing.ensures.none clean A (still_stands frame.unbroken (frame.stands (whole A) at)))

pub returns-clause-register : goal.returns-clause-register
returns-clause-register g c clean A at =
    let frame = c.in_ok-row.ensures.frame in
    let before = c.in_ok-row.ensures.register (c.first_differing.ensures.frame.clean clean) A at in
    IfOk-weaker c.first_differing.result _ _ (λ found _. before)
    (c.first_differing.ensures.none clean A (still_stands frame.unbroken (frame.stands (whole A) at)))

pub returns-clause-some : goal.returns-clause-some
returns-clause-some g c clean A at =
    let frame = c.in_ok-row.ensures.frame in
    let nothing : c.in_ok-row.field-0 ≡ None = search rules in
    let keys = rw nothing at c.in_ok-row.ensures.rows (c.first_differing.ensures.frame.clean clean) A at in
    IfOk-weaker c.first_differing.result _ _
    (λ found some. some_weaker _ _ (λ it first. (first_with_keys A c.args.rows.now it.0 keys first.0, first.1)) found some)
    (c.first_differing.ensures.some clean A (still_stands frame.unbroken (frame.stands (whole A) at)))

pub returns-in-Some-clause-some : goal.returns-in-Some-clause-some
returns-in-Some-clause-some g c clean A at =
    let is : c.in_ok-row.field-0 ≡ Some c.in-Some.row = search rules in
    let differs = rw is at c.in_ok-row.ensures.rows clean A at in
    (first_is_keys A c.args.rows.now differs.0, differs.1)
