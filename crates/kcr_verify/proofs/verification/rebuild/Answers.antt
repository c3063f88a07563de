use Rattle.kcr_verify.proofs.Common.{rules, ◌≡◌, Some, None, refl, length, subst, err_from_is_err_and, IsOfMachine, FullView, left_at, whole}
use Rattle.kcr_verify.proofs.{Common.counted_at, Common.stands_whole, StandLemmas.left_accepted, StandLemmas.still_stands}
use Rattle.kcr_verify.proofs.VerifyLemmas.{compared_all, stopped, told_of}
use Rattle.kcr_verify.proofs.verification.rebuild.Goals as goal
use Rattle.kcr_verify.proofs.verification.rebuild.Goals.{in-Some-2, in-None}

-- the commands stopped before the tables were compared
pub returns-in-Some-clause-led : goal.returns-in-Some-clause-led
returns-in-Some-clause-led g c clean =
    let end = c.in_ok-difference.ensures.led clean in
    let is : c.in_ok-difference.field-0 ≡ Some c.in-Some.difference = search rules in
    let put = c.sort_by_number.ensures in
    (end.0, end.1, stopped c.args.rows _ _ _ (record { same = put.same; order = put.order }) (rw (c.deref.ensures.value, is) at end.2))

-- the commands were taken
pub returns-clause-led : goal.returns-clause-led
returns-clause-led g c clean =
    let rows : FullView = record c.args.rows { keys = c.sort_by_number.new.rows } in
    let put = c.sort_by_number.ensures in
    let frame = c.in_ok-table.ensures.frame in
    let given = c.in_ok-difference.ensures.led (frame.clean clean) in
    let B = given.0.accepted in
    let unbroken = c.in_ok-difference.ensures.frame.unbroken in
    let at = stands_whole unbroken (counted_at unbroken given.1) in
    let nothing : c.in_ok-difference.field-0 ≡ None = search rules in
    let told : c.match-branch-4.result ≡ told_of c.in_ok-table.field-0 (length rows.keys.items) = elim c.match-branch-4.branch [
      | in-Some-2 w ↦ rw w.in-Some-2.is (search rules)
      | in-None w ↦ search rules
    ] in (
      whole B,
      still_stands frame.unbroken (frame.stands (whole B) at),
      rw told (compared_all c.args.rows rows B c.in_ok-table.field-0 (record { others = refl; keys = put.same }) put.order
          (rw (c.deref.ensures.value, nothing) at given.2) (c.in_ok-table.ensures.none clean B at) (c.in_ok-table.ensures.some clean B at)),
    )

-- a fault of the fresh register's device, after the commands were taken
pub returns-in_err-table-clause-led : goal.returns-in_err-table-clause-led
returns-in_err-table-clause-led g c clean =
    let frame = c.in_err-table.ensures.frame in
    let given = c.in_ok-difference.ensures.led (frame.clean clean) in
    let B = given.0.accepted in
    let unbroken = c.in_ok-difference.ensures.frame.unbroken in
    let at = stands_whole unbroken (counted_at unbroken given.1) in
    let broken = c.first_difference.new.register.is_broken in
    let p = err_from_is_err_and c.from_residual-in_err-table.result c.from_residual-in_err-table.ensures.1 in (
      left_at broken (whole B),
      frame.stands (whole B) at,
      rw p.1 (record {
        of_machine = subst IsOfMachine (left_accepted broken (whole B)) given.2.of_machine;
        told = tt;
        own = λ A h values listed. tt;
        register = λ A h values listed. tt;
      }),
    )
