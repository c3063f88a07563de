use Rattle.kcr_store.proofs.Common.{IfOk-weaker, tables, clean_before, held_of}
use Rattle.kcr_store.proofs.StoreLemmas.{listed}
use Rattle.kcr_store.proofs.database_rows.migrated_rows.Goals as goal

pub returns-clause-rows : goal.returns-clause-rows
returns-clause-rows g c clean t held number =
    let holds = c.in_ok-migrate.ensures.rows (clean_before c.read_full_view.ensures.frame.within clean) t held number in
    IfOk-weaker c.read_full_view.result _ _ (λ view lists. record { db = _; kept = holds.kept; lists = lists }) (c.read_full_view.ensures.rows clean _ holds)

pub returns-clause-own : goal.returns-clause-own
returns-clause-own g c clean A s =
    let held = c.in_ok-migrate.ensures.brought (clean_before c.read_full_view.ensures.frame.within clean) A s in
    IfOk-weaker c.read_full_view.result _ _ (λ view lists. listed held.tables.kept held.tables.stands lists)
    (c.read_full_view.ensures.rows clean _ (held_of (tables A) _ held))
