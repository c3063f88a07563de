use Rattle.kcr_store.proofs.Common.{[], IfOk-weaker, tables, clean_before, held_of}
use Rattle.kcr_store.proofs.StoreLemmas.{listed}
use Rattle.kcr_store.proofs.database_rows.empty_register_rows.Goals as goal

pub returns-clause-rows : goal.returns-clause-rows
returns-clause-rows g c clean has =
    let held = c.in_ok-make.ensures.made (clean_before c.read_full_view.ensures.frame.within clean) has in
    IfOk-weaker c.read_full_view.result _ _ (λ view lists. listed held.tables.kept held.tables.stands lists)
    (c.read_full_view.ensures.rows clean _ (held_of (tables []) _ held))
