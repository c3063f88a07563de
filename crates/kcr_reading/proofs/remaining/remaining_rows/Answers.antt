use Rattle.kcr_reading.proofs.{Common.clean_before, Common.reads_to, Common.reads_on, RemainingLemmas.one_taken, RemainingLemmas.none_left}
use Rattle.kcr_reading.proofs.remaining.remaining_rows.Goals as goal

pub loop-preserved : goal.loop-preserved
loop-preserved g c =
    let had = c.loop.invariant in
    let step = c.in_ok-row.ensures in record {
      frame = reads_to tt (reads_on had.frame step.frame);
      rows = λ clean m h.
          let before = clean_before step.frame.within clean in
          one_taken _ _ _ _ _ c.in-Some.row _ (had.rows before m h) c.in-Some.is (step.gives clean m (λ _. had.frame.tables before m h))
          c.in_ok-push.ensures.items;
    }

pub returns-in_default-clause-rows : goal.returns-in_default-clause-rows
returns-in_default-clause-rows g c clean m h =
    let had = c.loop.invariant in
    let step = c.in_ok-row.ensures in
    let before = clean_before step.frame.within clean in
    none_left _ _ _ _ _ (had.rows before m h) c.in_default.is (step.gives clean m (λ _. had.frame.tables before m h))
