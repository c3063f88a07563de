use Rattle.kcr_store.proofs.Common.{state, clean_before, HoldsHistoryAs, number_of, HoldsRowsAs}
use Rattle.kcr_store.proofs.OpenLemmas.{is_known, still_has, there}
use Rattle.kcr_store.proofs.open.renewed_count.Goals as goal

pub returns-in-Err-clause-answer : goal.returns-in-Err-clause-answer
returns-in-Err-clause-answer g c clean live is =
    rw c.number.ensures at (c.in-Err.ensures.answer clean live (there (number_of c.args.from) (is_known c.args.from) _ is))

pub returns-in-Ok-clause-answer : goal.returns-in-Ok-clause-answer
returns-in-Ok-clause-answer g c clean live is =
    let before = clean_before c.brought_count.ensures.frame clean in
    rw c.number.ensures at (c.in_default.ensures.answer before live (there (number_of c.args.from) (is_known c.args.from) _ is))

pub returns-in-Ok-clause-brought : goal.returns-in-Ok-clause-brought
returns-in-Ok-clause-brought g c clean A s =
    let before = clean_before c.brought_count.ensures.frame clean in
    let same = c.in_default.ensures.same before (there (number_of c.args.from) (is_known c.args.from) _ s.schema) in
    c.in-Ok.ensures.brought clean A
    (still_has (HoldsHistoryAs (number_of c.args.from) A) (state g.S.Store c.args.tx.now.conn.now) (state g.S.Store c.expect_number.new.tx.conn.now) same s)

pub returns-in-Ok-clause-rows : goal.returns-in-Ok-clause-rows
returns-in-Ok-clause-rows g c clean t held =
    let before = clean_before c.brought_count.ensures.frame clean in
    let same = c.in_default.ensures.same before (there (number_of c.args.from) (is_known c.args.from) _ held.0.schema) in
    c.in-Ok.ensures.rows clean t
    (still_has (HoldsRowsAs c.args.from t) (state g.S.Store c.args.tx.now.conn.now) (state g.S.Store c.expect_number.new.tx.conn.now) same held)
