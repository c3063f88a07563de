use Rattle.kcr_store.proofs.Common.{◌+◌, pos, state, migrated_tables, HoldsFirst, HoldsHistoryAs, number_of, tables}
use Rattle.kcr_store.proofs.{Common.clean_before, Common.IsKeptView, Common.IsListed, ListingLemmas.given_answer, ListingLemmas.given_rows}
use Rattle.kcr_store.proofs.OpenLemmas.{is_known, still_has, there}
use Rattle.kcr_store.proofs.database_rows.older_rows.Goals as goal

pub returns-in-Err-clause-gives : goal.returns-in-Err-clause-gives
returns-in-Err-clause-gives g c clean live = record {
  answer = λ is.
      rw c.number.ensures at (c.in-Err.ensures.answer clean live (there (number_of c.args.from) (is_known c.args.from) _ is));
  rows = λ t held number. tt;
  own = λ A s. tt;
}

pub returns-in-Ok-clause-gives : goal.returns-in-Ok-clause-gives
returns-in-Ok-clause-gives g c clean live =
    let from = c.args.from in
    let old = state g.S.Store c.args.tx.now.conn.now in
    let mid = state g.S.Store c.expect_number.new.tx.conn.now in
    let before = clean_before c.migrated_rows.ensures.frame clean in
    let known = there (number_of from) (is_known from) in
    record {
      answer = λ is.
          given_answer (pos (number_of from)) old.now c.given.result
          (rw c.number.ensures at (c.in-Ok.ensures.answer before live (known _ is))) c.given.ensures.kind;
      rows = λ t held number.
          let still = still_has (λ db. HoldsFirst (14 + number_of from) db t) old mid (c.in-Ok.ensures.same before (known _ held.schema)) held in
          given_rows (IsKeptView (migrated_tables from t)) c.migrated_rows.result c.given.result c.given.ensures.rows
          (c.migrated_rows.ensures.rows clean t still number);
      own = λ A s.
          let still = still_has (HoldsHistoryAs (number_of from) A) old mid (c.in-Ok.ensures.same before (known _ s.schema)) s in
          given_rows (IsListed (tables A)) c.migrated_rows.result c.given.result c.given.ensures.rows (c.migrated_rows.ensures.own clean A still);
    }
