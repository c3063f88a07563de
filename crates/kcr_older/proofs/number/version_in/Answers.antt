use Rattle.kcr_older.proofs.Common.{◌∙◌, ap, map, sym, ◌∷◌, [], subst, state, Shown, Value, map-map, only_number}
use Rattle.kcr_older.specs.declared.number.Cell.{Cell}
use Rattle.kcr_older.proofs.{NumberText.text, NumberLemmas.is_there, NumberLemmas.number_read, NumberLemmas.number_same}
use Rattle.kcr_older.proofs.number.version_in.Goals as goal

pub returns-clause-number : goal.returns-clause-number
returns-clause-number g c clean live has =
    let old = state g.S.Store c.args.tx.now.conn.now in
    let new = state g.S.Store c.query_rows.new.tx.conn.now in
    let table = is_there _ has in
    let value = λ (cell : Cell). cell.value in
    let row = λ (v : Value). v ∷ [] in
    let values = map value c.in_ok-cells.cells.items in
    let shown : Shown text [] old new (map row values) =
    subst (Shown text [] old new) (sym (map-map row value c.in_ok-cells.cells.items)) (c.in_ok-cells.ensures.shown clean) in
    c.only_number.ensures ∙ ap (λ l. only_number (map value l)) c.as_slice.ensures.value
    ∙ number_read old new table.0 table.1 values (live (c.in_ok-cells.ensures.opened clean)).0 shown

pub returns-clause-same : goal.returns-clause-same
returns-clause-same g c clean has =
    let table = is_there _ has in
    number_same (state g.S.Store c.args.tx.now.conn.now) (state g.S.Store c.query_rows.new.tx.conn.now) table.0 table.1 _ (c.in_ok-cells.ensures.shown clean)
