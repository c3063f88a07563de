use Rattle.kcr_verify.proofs.Common.{rules, [], arith, counted_at, stands_whole, whole}
use Rattle.kcr_verify.proofs.ReplayLemmas.{begins, ends, goes_on, stops, stops_number}
use Rattle.kcr_verify.proofs.replay.replay.Goals as goal

pub returns-then-row-index-clause-led : goal.returns-then-row-index-clause-led
returns-then-row-index-clause-led g c clean =
    let at = c.loop-index.invariant.led clean in
    (whole at.0, at.1, stops_number _ _ _ c.index-rows-index.result at.2 (search rules) (search rules) (search rules))

pub returns-in-Ok-Some-clause-led : goal.returns-in-Ok-Some-clause-led
returns-in-Ok-Some-clause-led g c clean =
    let at = c.loop-index.invariant.led (c.in-Ok-Some.ensures.frame.clean clean) in
    let end = c.in-Ok-Some.ensures.led clean (whole at.0) at.1 in
    (end.0, end.1, stops _ _ _ c.index-rows-index.result at.2 (search rules) (search rules) (search rules) _ _ (rw c.in-Ok-Some.field-0-is at end.2))

pub returns-in-Err-clause-led : goal.returns-in-Err-clause-led
returns-in-Err-clause-led g c clean =
    let at = c.loop-index.invariant.led (c.in-Err.ensures.frame.clean clean) in
    let end = c.in-Err.ensures.led clean (whole at.0) at.1 in
    (end.0, end.1, record { of_machine = end.2.of_machine at.2.of_machine; told = tt; own = λ A h values is. tt })

pub loop-index-init : goal.loop-index-init
loop-index-init g c = record {
  intact = record { unbroken = c.requires.stands.broken; kept = c.requires.kept };
  clean = λ now. now;
  led = λ now. ([], c.requires.stands, begins c.args.rows.now);
}

pub loop-index-preserved : goal.loop-index-preserved
loop-index-preserved g c = record {
  intact = search rules;
  clean = λ now. c.loop-index.invariant.clean (c.in-Ok-None.ensures.frame.clean now);
  led = λ now.
      let at = c.loop-index.invariant.led (c.in-Ok-None.ensures.frame.clean now) in
      let end = c.in-Ok-None.ensures.led now (whole at.0) at.1 in
      let unbroken = c.in-Ok-None.ensures.frame.unbroken in (
        end.0.accepted,
        stands_whole unbroken (counted_at unbroken end.1),
        goes_on _ _ _ c.index-rows-index.result at.2 (search rules) (search rules) (search rules) _ (rw c.in-Ok-None.field-0-is at end.2),
      );
}

pub returns-clause-led : goal.returns-clause-led
returns-clause-led g c clean = let at = c.loop-index.invariant.led clean in (whole at.0, at.1, ends _ _ _ (omega arith) at.2)
