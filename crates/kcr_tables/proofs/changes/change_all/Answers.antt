use Rattle.kcr_tables.proofs.Common.{rules, ◌≡◌, ◌∙◌, get_or, sym, ap, subst, take_all, fold_more, state, Holds, rows_after, changed_all, within_then}
use Rattle.kcr_tables.proofs.{Common.clean_before, HoldLemmas.held_of, JointLemmas.changes_hold}
use Rattle.kcr_history.specs.declared.views.Change.{Change}
use Rattle.kcr_history.specs.Tables as machine
use Rattle.kcr_tables.proofs.changes.change_all.Goals as goal

pub loop-change-preserved : goal.loop-change-preserved
loop-change-preserved g c =
    let new = state g.S.Store c.make_change.new.tx.conn.now in
    let had = c.loop-change.invariant in
    let step = c.in_ok-make_change.ensures in record {
      frame = within_then had.frame step.frame;
      built = λ clean t held.
          let changes = c.args.changes.now in
          let i = c.loop-change.change-index in
          let item = c.change-item.result in
          let was = had.built (clean_before step.frame clean) t held in
          let at : get_or changes i item ≡ item = search rules in
          let more = fold_more (λ (rows : machine.Tables) (x : Change). rows_after x rows) t.rows changes i item (search rules)
          ∙ ap (λ (x : Change). rows_after x (changed_all (Rattle.std.proofs.Common.take i changes) t).rows) at in
          subst (λ (rows : machine.Tables). Holds new.now (record t { rows = rows })) (sym more) (step.holds clean _ was);
    }

pub returns-clause-holds : goal.returns-clause-holds
returns-clause-holds g c clean t held = search (rules, take_all)

pub returns-clause-tables : goal.returns-clause-tables
returns-clause-tables g c clean m h =
    let old = state g.S.Store c.args.tx.now.conn.now in
    let new = state g.S.Store c.loop-change.tx.conn.now in
    changes_hold c.args.changes.now m old.now new.now h (returns-clause-holds g c clean h.tables.t (held_of m old.now h))
