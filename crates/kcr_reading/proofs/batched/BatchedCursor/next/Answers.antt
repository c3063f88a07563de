use Rattle.kcr_reading.proofs.{Common.subst, Common.IsNextOf, Common.read_ahead, AheadLemmas.gives_ready, AheadLemmas.gives_read}
use Rattle.kcr_reading.proofs.batched.BatchedCursor.next.Goals as goal

pub returns-in-Some-clause-gives : goal.returns-in-Some-clause-gives
returns-in-Some-clause-gives g c clean m live = gives_ready _ _ _ _ _ c.in-Some.is c.take_first.ensures

pub returns-clause-gives : goal.returns-clause-gives
returns-clause-gives g c clean m live =
    let read = c.in_ok-rows.ensures.gives clean m live in
    let first = subst (λ l. IsNextOf l c.take_first-2.result (read_ahead c.take_first-2.new.ready)) c.into_iter.ensures.rest c.take_first-2.ensures in
    gives_read _ _ _ _ _ _ c.take_first.result c.take_first-2.result c.in_default.is c.take_first.ensures read first
