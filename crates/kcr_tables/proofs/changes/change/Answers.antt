use Rattle.kcr_tables.proofs.Common.{[], ◌∷◌, state, on_ok_then}
use Rattle.kcr_tables.proofs.{HoldLemmas.held_of, JointLemmas.changes_hold}
use Rattle.kcr_tables.proofs.changes.change.Goals as goal

pub returns-clause-tables : goal.returns-clause-tables
returns-clause-tables g c clean m h =
    let old = state g.S.Store c.args.tx.now.conn.now in
    let new = state g.S.Store c.make_change.new.tx.conn.now in
    on_ok_then _ _ (λ held. changes_hold (c.args.made.now ∷ []) m old.now new.now h held) c.make_change.result
    (c.make_change.ensures.holds clean h.tables.t (held_of m old.now h))
