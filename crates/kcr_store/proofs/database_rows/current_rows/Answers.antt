use Rattle.kcr_store.proofs.Common.{refl, inr, pos, IfOk-weaker, state, clean_before, Holds, IsKeptView}
use Rattle.kcr_store.proofs.{ListingLemmas.given_answer, ListingLemmas.given_rows, OpenLemmas.still_has, OpenLemmas.there}
use Rattle.kcr_store.proofs.database_rows.current_rows.Goals as goal

pub returns-in-Err-clause-gives : goal.returns-in-Err-clause-gives
returns-in-Err-clause-gives g c clean live =
    record { answer = λ is. c.in-Err.ensures.answer clean live (there 3 (inr (inr refl)) _ is); rows = λ t held. tt }

pub returns-in-Ok-clause-gives : goal.returns-in-Ok-clause-gives
returns-in-Ok-clause-gives g c clean live =
    let old = state g.S.Store c.args.tx.now.conn.now in
    let before = clean_before c.read_full_view.ensures.frame.within clean in
    record {
      answer = λ is. given_answer (pos 3) old.now c.given.result (c.in-Ok.ensures.answer before live (there 3 (inr (inr refl)) _ is)) c.given.ensures.kind;
      rows = λ t held.
          let same = c.in-Ok.ensures.same before (there 3 (inr (inr refl)) _ held.schema) in
          let still = still_has (λ db. Holds db t) old (state g.S.Store c.expect_number.new.tx.conn.now) same held in
          given_rows (IsKeptView t) c.read_full_view.result c.given.result c.given.ensures.rows
          (IfOk-weaker c.read_full_view.result _ _ (λ view lists. record { db = _; kept = held.kept; lists = lists }) (c.read_full_view.ensures.rows clean t still));
    }
