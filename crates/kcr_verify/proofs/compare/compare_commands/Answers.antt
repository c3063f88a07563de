use Rattle.kcr_verify.proofs.{Common.IfOk-weaker, FirstRowLemmas.compared_commands}
use Rattle.kcr_verify.proofs.compare.compare_commands.Goals as goal

pub returns-clause-register : goal.returns-clause-register
returns-clause-register g c clean A at =
    IfOk-weaker c.first_row.result _ _ (λ found _. (c.in_ok-commands.ensures.shown clean A at).0) c.first_row.ensures.row

pub returns-clause-rows : goal.returns-clause-rows
returns-clause-rows g c clean A at =
    let shown = c.in_ok-commands.ensures.shown clean A at in
    let put = c.sort_by_number.ensures in
    IfOk-weaker c.first_row.result _ _
    (compared_commands A _ _ c.args.rows.now shown.0 shown.1.same put.same put.order c.requires.order) (rw c.deref.ensures.value at c.first_row.ensures.row)
