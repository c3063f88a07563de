use Rattle.kcr_store.proofs.Common.{◌≡◌, ◌≢◌, refl, rules, Disk, Accepted, Refused, InDoubt}
use Rattle.kcr_store.proofs.{ByRows.calm_breaks, ByRows.rows_led, WholeLemmas.accepted_leads, WholeLemmas.broken_leads, WholeLemmas.seen_unbroken}
use Rattle.kcr_store.proofs.register.Register.apply.Goals as goal

pub returns-in-Accepted-clause-step : goal.returns-in-Accepted-clause-step
returns-in-Accepted-clause-step g c =
    rw (← c.self.view_is, ← c.lent.view_is) (accepted_leads g.S.Store _ _ c.args.command.now (cc) c.in-Accepted.verdict (cc)
    c.number_after-self-inside.ensures c.in-Accepted.ensures.step)

pub returns-in-Refused-Disk-clause-step : goal.returns-in-Refused-Disk-clause-step
returns-in-Refused-Disk-clause-step g c =
    let unbroken = seen_unbroken c.self.view_is c.is_broken.ensures.value c.if-is_broken.false in
    rw (← c.self.view_is, ← c.lent.view_is) (broken_leads g.S.Store _ _ c.args.command.now unbroken refl c.in-Refused-Disk.ensures.step)

pub returns-in-InDoubt-clause-step : goal.returns-in-InDoubt-clause-step
returns-in-InDoubt-clause-step g c =
    rw (← c.self.view_is, ← c.lent.view_is) (broken_leads g.S.Store _ _ c.args.command.now (cc) refl c.in-InDoubt.ensures.step)

pub returns-in-Accepted-clause-by_rows : goal.returns-in-Accepted-clause-by_rows
returns-in-Accepted-clause-by_rows g c _ = rw (← c.self.view_is, ← c.lent.view_is) c.in-Accepted.ensures.by_rows

pub returns-in-Refused-clause-by_rows : goal.returns-in-Refused-clause-by_rows
returns-in-Refused-clause-by_rows g c _ = rw (← c.self.view_is, ← c.lent.view_is) c.in-Refused.ensures.by_rows

-- ---- the rows after it

pub returns-in-Accepted-clause-rows : goal.returns-in-Accepted-clause-rows
returns-in-Accepted-clause-rows g c =
    rw (← c.self.view_is, ← c.lent.view_is) (rows_led g.S.Store _ _ c.args.command.now (cc) (Accepted c.in-Accepted.verdict)
    c.number_after-self-inside.ensures (calm_breaks (cc) (λ ok. let p = ok in cc)) c.in-Accepted.ensures.rows)

pub returns-in-Refused-Disk-clause-rows : goal.returns-in-Refused-Disk-clause-rows
returns-in-Refused-Disk-clause-rows g c =
    let unbroken = seen_unbroken c.self.view_is c.is_broken.ensures.value c.if-is_broken.false in
    rw (← c.self.view_is, ← c.lent.view_is) (rows_led g.S.Store _ _ c.args.command.now unbroken (Refused Disk) refl (λ _. refl, λ _. refl)
    (rw c.in-Refused-Disk.field-0-is at c.in-Refused-Disk.ensures.rows))

pub returns-in-Refused-clause-rows : goal.returns-in-Refused-clause-rows
returns-in-Refused-clause-rows g c =
    let other : c.in-Refused.refusal ≢ Disk = search rules in
    rw (← c.self.view_is, ← c.lent.view_is) (rows_led g.S.Store _ _ c.args.command.now (cc) (Refused c.in-Refused.refusal) refl
    (calm_breaks (cc) (λ is. other (let e : c.in-Refused.refusal ≡ Disk = cc in e))) c.in-Refused.ensures.rows)

pub returns-in-InDoubt-clause-rows : goal.returns-in-InDoubt-clause-rows
returns-in-InDoubt-clause-rows g c =
    rw (← c.self.view_is, ← c.lent.view_is) (rows_led g.S.Store _ _ c.args.command.now (cc) (InDoubt c.in-InDoubt.error) refl (λ _. refl, λ _. refl)
    c.in-InDoubt.ensures.rows)
