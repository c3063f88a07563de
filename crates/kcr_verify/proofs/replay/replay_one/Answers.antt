use Rattle.kcr_verify.proofs.Common.{rules, ◌≡◌, ◌≢◌, false, Ok, subst, false_from_ne_true, err_from_is_err_and, Disk, IsOfMachine, left_at}
use Rattle.kcr_verify.proofs.{Common.counted_at, Common.none_in_doubt, Common.stands_whole, StandLemmas.left_accepted, StandLemmas.still_stands}
use Rattle.kcr_verify.proofs.StepLemmas.{answers_else, leads_on, read_of, refuses, takes}
use Rattle.kcr_verify.proofs.replay.replay_one.Goals as goal

pub returns-then-eq-clause-led : goal.returns-then-eq-clause-led
returns-then-eq-clause-led g c clean s at =
    let end = c.in-Ok.ensures.step clean s at in
    let step = end.2.step (none_in_doubt c.requires.unbroken at) in
    let read = read_of c.args.row.now c.as_bytes.ensures c.in-Some.is c.in_ok-act.ensures.found c.in_ok-act.ensures.only in
    (end.0, end.1, takes _ _ read _ _ c.in-Ok.reply step (search rules))

pub returns-in_ok-is_seating-in-Ok-clause-led : goal.returns-in_ok-is_seating-in-Ok-clause-led
returns-in_ok-is_seating-in-Ok-clause-led g c clean s at =
    let frame = c.in_ok-is_seating-in-Ok.ensures.frame in
    let end = c.in-Ok.ensures.step (frame.clean clean) s at in
    let step = end.2.step (none_in_doubt c.requires.unbroken at) in
    let read = read_of c.args.row.now c.as_bytes.ensures c.in-Some.is c.in_ok-act.ensures.found c.in_ok-act.ensures.only in
    let unbroken : c.apply.new.self.is_broken ≡ false = search rules in
    let told = c.in_ok-is_seating-in-Ok.ensures.told clean end.0.accepted (stands_whole unbroken (counted_at unbroken end.1)) in
    let found : c.in_ok-found-2.found ≡ c.args.row.now.reply = search rules in
    (end.0, still_stands frame.unbroken (frame.stands end.0 end.1), rw found (answers_else _ _ read _ _ c.in-Ok.reply _ step (search rules) (rw found at told)))

-- a fault of the register's device, after the command was taken
pub returns-in_err-is_seating-in-Ok-clause-led : goal.returns-in_err-is_seating-in-Ok-clause-led
returns-in_err-is_seating-in-Ok-clause-led g c clean s at =
    let frame = c.in_err-is_seating-in-Ok.ensures.frame in
    let end = c.in-Ok.ensures.step (frame.clean clean) s at in
    let step = end.2.step (none_in_doubt c.requires.unbroken at) in
    let broken = c.seating_told.new.register.is_broken in
    let made = leads_on s.accepted (record { key = c.args.row.now.key; act = c.in-Some.act }) (Ok c.in-Ok.reply) end.0.accepted step in
    let p = err_from_is_err_and c.from_residual-in_err-is_seating-in-Ok.result c.from_residual-in_err-is_seating-in-Ok.ensures.1 in (
      left_at broken end.0,
      frame.stands end.0 end.1,
      rw p.1 (record {
        of_machine = λ before. subst IsOfMachine (left_accepted broken end.0) (made before);
        told = tt;
        own = λ entry h values is. tt;
      }),
    )

-- the refusal is not the one of the register's device, so the register is not broken
pub returns-in-Err-clause-frame : goal.returns-in-Err-clause-frame
returns-in-Err-clause-frame g c =
    let disk : c.in-Err.refusal ≢ Disk = search rules in
    record {
      unbroken = false_from_ne_true _ (λ broken. disk (let e = (c.in-Err.ensures.breaks c.requires.unbroken).0 broken in cc));
      cause = tt;
      clean = c.in-Err.ensures.clean;
      kept = c.in-Err.ensures.kept;
    }

pub returns-in-Err-clause-led : goal.returns-in-Err-clause-led
returns-in-Err-clause-led g c clean s at =
    let end = c.in-Err.ensures.step clean s at in
    let step = end.2.step (none_in_doubt c.requires.unbroken at) in
    let read = read_of c.args.row.now c.as_bytes.ensures c.in-Some.is c.in_ok-act.ensures.found c.in_ok-act.ensures.only in
    let found : c.in_ok-found-2.found ≡ c.args.row.now.reply = search rules in
    (end.0, end.1, rw found (refuses _ _ read _ _ c.in-Err.refusal step (search rules) (search rules)))
