use Rattle.kcr_tables.proofs.Common.{rules, [], ◌∷◌, map, subst, state, Row, Shown, count_row}
use Rattle.kcr_tables.proofs.CountLemmas.{count_sql, count_bare, count_shown, count_told}
use Rattle.kcr_tables.proofs.FrameLemmas.{reads_by, reads_to}
use Rattle.kcr_tables.proofs.select_stays.entries_of.Goals as goal

pub returns-in-Some-clause-rows : goal.returns-in-Some-clause-rows
returns-in-Some-clause-rows g c clean t held =
    let old = state g.S.Store c.args.tx.now.conn.now in
    let new = state g.S.Store c.query_rows.new.tx.conn.now in
    let counts = c.in_ok-counts.counts.items in
    let shown = subst (λ (v : Row). Shown count_sql v old new (map count_row counts)) (λ i. c.number_cell-c0.ensures i ∷ []) (c.in_ok-counts.ensures.shown clean) in
    count_told counts _ (count_shown c.args.ceremony old new (map count_row counts) held.schema shown t.rows.stays held.kept.stays)
    c.in-Some.count.now (search rules) (search rules)

pub returns-in-Some-clause-frame : goal.returns-in-Some-clause-frame
returns-in-Some-clause-frame g c =
    reads_to tt (reads_by count_sql count_bare c.in_ok-counts.ensures.same c.in_ok-counts.ensures.frame)
