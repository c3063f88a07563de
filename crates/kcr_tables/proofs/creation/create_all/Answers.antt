use Rattle.kcr_tables.proofs.Common.{rules, ◌≡◌, ◌<◌, subst, arith, state, IsSound, schema_prefix, HasEmptyTables, within_then, clean_before}
use Rattle.kcr_tables.proofs.FirstLemmas.{holds_nothing}
use Rattle.kcr_tables.proofs.creation.create_all.Goals as goal

pub loop-at-preserved : goal.loop-at-preserved
loop-at-preserved g c = search (rules, within_then, clean_before)

pub returns-clause-holds : goal.returns-clause-holds
returns-clause-holds g c clean has =
    let now = state g.S.Store c.loop-at.tx.conn.now in
    let at : c.loop-at.at ≡ 17 = search rules in
    let was = subst (λ n. HasEmptyTables n now.now × (0 < n → IsSound (schema_prefix n) now.now.trees)) at (c.loop-at.invariant.built clean has) in
    holds_nothing now.now was.0.schema was.0.empty (was.1 (omega arith))
