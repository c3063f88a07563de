use Rattle.kcr_tables.proofs.Common.{sym, ap, subst, ◌∙◌, Database, early_asks, if_ok, clean_before, HasNoInvalidRow}
use Rattle.kcr_tables.proofs.FrameLemmas.{fails_as, reads_on}
use Rattle.kcr_tables.proofs.view.rows_of.Goals as goal

pub returns-in_err-front-clause-frame : goal.returns-in_err-front-clause-frame
returns-in_err-front-clause-frame g c = fails_as c.from_residual.ensures.1 c.in_err-front.ensures.frame

pub returns : goal.returns
returns g c =
    let asks = c.args.asks.now in
    let front = c.in_ok-front.ensures in
    let rest = c.read_remaining_rows.ensures in
    let clean1 = clean_before rest.frame.within in record {
      view = λ clean m h.
          if_ok _ _ (λ view shows. shows (front.view (clean1 clean) m h)) c.read_remaining_rows.result
          (rest.view clean m (front.frame.tables (clean1 clean) m h));
      exact = λ clean has.
          let is = front.frame.same (clean1 clean) has in
          if_ok _ _ (λ view shown.
          subst (λ (db : Database). HasNoInvalidRow asks db.trees view) is
          (shown (subst (λ (db : Database). HasNoInvalidRow (early_asks asks) db.trees c.in_ok-front.front) (sym is) (front.exact (clean1 clean) has))))
          c.read_remaining_rows.result (rest.exact clean (ap (λ (db : Database). db.schema) is ∙ has));
      frame = reads_on front.frame rest.frame;
    }
