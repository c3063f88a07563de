use Rattle.kcr_reading.proofs.Common.{◌<◌, ◌∙◌, sym, arith}
use Rattle.kcr_reading.proofs.CommandLemmas.{none_within, next_some, next_none}
use Rattle.kcr_reading.proofs.commands.CommandCursorCursor.next.Goals as goal
use Rattle.kcr_reading.proofs.commands.CommandCursorCursor.next.Goals.{then-is_some, else-is_some}

pub returns-then-self-clause-gives : goal.returns-then-self-clause-gives
returns-then-self-clause-gives g c clean m live =
    let none = none_within c.args.self.now.last c.args.self.now.until m (omega arith) in (none, none)

pub returns-clause-gives : goal.returns-clause-gives
returns-clause-gives g c clean m live =
    let last = c.args.self.now.last in
    let until = c.args.self.now.until in
    let low : last < until = omega arith in
    let is = c.in_ok-row.ensures.row clean m (live (c.in_ok-row.ensures.opened clean)) in
    elim c.if-is_some.branch [
      | then-is_some w ↦ rw w.self-is (next_some last until m c.in_ok-row.row low is (sym c.is_some.ensures ∙ w.if-is_some.true))
      | else-is_some w ↦ rw w.self-is (next_none last until m c.in_ok-row.row low is (sym c.is_some.ensures ∙ w.if-is_some.false))
    ]
