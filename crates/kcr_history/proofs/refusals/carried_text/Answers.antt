use Rattle.kcr_history.proofs.{Common.refl, Listed.carried}
use Rattle.kcr_history.proofs.refusals.carried_text.Goals as goal

pub returns-in-Turn : goal.returns-in-Turn
returns-in-Turn c = let a = c.followed_by_text-in-Turn in carried a.result c.in-Turn.is (rw (c.in-Turn.is, c.as_str-in-Turn.ensures.value) refl) a.ensures

pub returns-in-Lone : goal.returns-in-Lone
returns-in-Lone c =
    let a = c.led_by_text-in-Lone in carried a.result c.in-Lone.is (rw (c.in-Lone.is, c.as_str-in-Lone.ensures, c.code-in-Lone.ensures) refl) a.ensures

pub returns-in-Absent : goal.returns-in-Absent
returns-in-Absent c =
    let a = c.followed_by_text-in-Absent in
    carried a.result c.in-Absent.is (rw (c.in-Absent.is, c.as_str-in-Absent.ensures, c.text-in-Absent.ensures) refl) a.ensures
