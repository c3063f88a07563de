use Rattle.kcr_store.proofs.Common.{arith, length, ap, PersonShown, AreRolesOf}
use Rattle.std.proofs.lemmas.List.Elements.{All-push}
use Rattle.kcr_store.proofs.ShownLemmas.{one_more}
use Rattle.kcr_store.proofs.shown.people_shown.Goals as goal

pub loop-person-preserved : goal.loop-person-preserved
loop-person-preserved c =
    let at = c.loop-person in
    let first = c.in-Some.ensures.steps.0 in
    let more = c.in_ok-push.ensures.items in
    let HasRoles : PersonShown → Type 0 = λ person. AreRolesOf c.args.trainings.now c.args.withdrawals.now person.who person.roles.items in
    let short = ap length first in record {
      people = rw more (one_more at.shown.items c.in_ok-person_shown.field-0 c.in-Some.person _ _ _ at.invariant.people first
          c.in_ok-person_shown.ensures.person);
      left = omega (arith, at.invariant.left, c.in-Some.ensures.steps.1);
      roles = rw more (All-push HasRoles at.shown.items c.in_ok-person_shown.field-0 at.invariant.roles c.in_ok-person_shown.ensures.roles);
    }
