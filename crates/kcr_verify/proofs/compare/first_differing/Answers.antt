use Rattle.kcr_verify.proofs.Common.{rules, ◌≡◌, ◌<◌, Some, None, arith, length, subst, AllByRecursion, take_all, whole, HasRows}
use Rattle.kcr_history.specs.Tables as machine
use Rattle.kcr_verify.proofs.{StandLemmas.still_stands, VerifyLemmas.first_at, VerifyLemmas.one_more_table}
use Rattle.kcr_verify.proofs.compare.first_differing.Goals as goal

pub loop-table-preserved : goal.loop-table-preserved
loop-table-preserved g c =
    let had = c.loop-table.invariant in
    let step = c.in_ok-row.ensures in
    let i = c.loop-table.table-index in
    let low : i < length c.args.tables.now = search rules in
    let none : c.in_ok-row.field-0 ≡ None = search rules in
    record {
      intact = record { unbroken = step.frame.unbroken; kept = step.frame.kept };
      stands = λ s at. still_stands step.frame.unbroken (step.frame.stands s (had.stands s at));
      clean = λ now. had.clean (step.frame.clean now);
      have = λ now A at.
          one_more_table (λ table. HasRows table (machine.tables A) c.args.rows.now) c.args.tables.now i _ low (search rules)
          (had.have (step.frame.clean now) A at) (rw none at step.rows now A (had.stands (whole A) at));
    }

pub returns-in-Some-clause-some : goal.returns-in-Some-clause-some
returns-in-Some-clause-some g c clean A at =
    let had = c.loop-table.invariant in
    let step = c.in_ok-row.ensures in
    let i = c.loop-table.table-index in
    let low : i < length c.args.tables.now = search rules in
    let is : c.in_ok-row.field-0 ≡ Some c.in-Some.row = search rules in
    let differs = rw is at step.rows clean A (had.stands (whole A) at) in (
      first_at A c.args.rows.now c.args.tables.now i _ low (search rules) (had.have (step.frame.clean clean) A at) differs.0,
      differs.1,
    )

pub returns-clause-none : goal.returns-clause-none
returns-clause-none g c clean A at none =
    subst (AllByRecursion (λ table. HasRows table (machine.tables A) c.args.rows.now))
    (take_all c.loop-table.table-index c.args.tables.now (omega arith)) (c.loop-table.invariant.have clean A at)
