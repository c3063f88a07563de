use Rattle.kcr_reading.proofs.Common.{rules, take_all, map_more, reads_to, reads_on, clean_before}
use Rattle.kcr_reading.proofs.names.with_names.Goals as goal

pub loop-row-preserved : goal.loop-row-preserved
loop-row-preserved g c =
    let had = c.loop-row.invariant in
    let step = c.in_ok-named.ensures in record {
      frame = reads_to tt (reads_on had.frame step.frame);
      names = λ clean m h.
          let before = clean_before step.frame.within clean in
          let made = had.names before m h in
          let last = step.name clean m (had.frame.tables before m h) in
          search (rules, made, last, map_more);
    }

pub returns-clause-names : goal.returns-clause-names
returns-clause-names g c clean m h =
    let made = c.loop-row.invariant.names clean m h in search (rules, made, take_all)
