use Rattle.kcr_older.proofs.Common.{with_bare_tables, with_own_stays, number_of, refl, ◌∙◌, clean_before}
use Rattle.std.proofs.lemmas.Result.{on_ok_weaker}
use Rattle.kcr_older.proofs.Bringing.{same_number, brought_from}
use Rattle.kcr_older.proofs.migration.migrate.Goals as goal

pub returns-clause-rows : goal.returns-clause-rows
returns-clause-rows g c clean t held number =
    let clean3 = clean_before c.set_version.ensures.frame clean in
    let clean2 = clean_before c.backfill.ensures.frame clean3 in
    let from = c.args.from in
    let grown = c.in_ok-create_missing_tables.ensures.holds clean2 t held in
    let filled = c.in_ok-backfill.ensures.holds clean3 (with_bare_tables from t) grown in
    c.set_version.ensures.holds clean (number_of from) (with_own_stays from (with_bare_tables from t)) (same_number from t ∙ number) filled

pub returns-clause-brought : goal.returns-clause-brought
returns-clause-brought g c clean A s =
    let from = c.args.from in
    on_ok_weaker c.set_version.result (λ after. brought_from from A _ _ s after)
    (returns-clause-rows g c clean _ (record { schema = s.schema; kept = s.tables.kept }) refl)
