use Rattle.kcr_store.proofs.Common.{Stores, inr, refl, state, clean_before}
use Rattle.kcr_store.proofs.OpenLemmas.{still_has, there}
use Rattle.kcr_store.proofs.open.count_in.Goals as goal

pub returns-in-Err-clause-answer : goal.returns-in-Err-clause-answer
returns-in-Err-clause-answer g c clean live is = c.in-Err.ensures.answer clean live (there 3 (inr (inr refl)) _ is)

pub returns-in-Ok-clause-answer : goal.returns-in-Ok-clause-answer
returns-in-Ok-clause-answer g c clean live is =
    c.in_default.ensures.answer (clean_before c.last_number.ensures.frame.within clean) live (there 3 (inr (inr refl)) _ is)

pub returns-in-Ok-clause-count : goal.returns-in-Ok-clause-count
returns-in-Ok-clause-count g c clean A had =
    let before = clean_before c.last_number.ensures.frame.within clean in
    let was = had (c.in_default.ensures.opened before) in
    let same = c.in_default.ensures.same before (there 3 (inr (inr refl)) _ was.schema) in
    c.in-Ok.ensures.count clean A
    (λ _. still_has (Stores A) (state g.S.Store c.args.tx.now.conn.now) (state g.S.Store c.expect_number.new.tx.conn.now) same was)
