use Rattle.kcr_verify.proofs.Common.{◌≡◌, IfOk, rules, IfSome, Database, begun_has, undone_outside, IsInvalidIn}
use Rattle.kcr_rows.proofs.InsideLemmas.{was_clean}
use Rattle.kcr_tables.specs.Schema.{register_schema}
use Rattle.kcr_verify.proofs.KeyLemmas.{begun_shows}
use Rattle.kcr_verify.proofs.invalid.search_database.Goals as goal

pub returns-clause-found : goal.returns-clause-found
returns-clause-found g c clean has =
    let before = was_clean _ _ _ c.rollback.ensures.survives (search rules) in
    let is = c.transaction-tx.ensures.begun in
    let begun = begun_has g.S.Store c.args.conn.now _ (λ (d : Database). d.schema ≡ register_schema) is has in
    begun_shows g.S.Store c.args.conn.now _ (λ (d : Database). IfOk c.search_tables-found.result (λ found. IfSome found (IsInvalidIn d.trees))) is
    (c.search_tables-found.ensures.found before begun)

pub returns-clause-frame : goal.returns-clause-frame
returns-clause-frame g c =
    let back = c.rollback.ensures in
    let left =
    undone_outside g.S.Store c.args.conn.now _ c.transaction-tx.ensures.begun _ c.search_tables-found.ensures.frame.within.survives c.rollback.new.self.0
    back.survives back.ended in
    search rules
