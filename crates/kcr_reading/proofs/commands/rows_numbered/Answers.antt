use Rattle.kcr_reading.proofs.Common.{rules, ◌==◌, [], ◌∷◌, map, IfOk, subst, IsPermutation-trans, Row, state, HasCleanDisk, Shown}
use Rattle.kcr_reading.proofs.Common.{IsPermutation-filter, key_row, if_ok, KeyRow, is_plain, register_schema, reads_by, held_of, passing_told}
use Rattle.kcr_tables.specs.KeysLaws as laws
use Rattle.kcr_reading.proofs.CommandLemmas.{number_text, number_shown, is_numbered}
use Rattle.kcr_reading.proofs.commands.rows_numbered.Goals as goal

pub returns : goal.returns
returns g c =
    let number = c.args.number in
    let old = state g.S.Store c.args.tx.now.conn.now in
    let new = state g.S.Store c.query_rows.new.tx.conn.now in
    let did = c.query_rows.ensures in
    let text = number_shown number in
    let shown = λ (clean : HasCleanDisk new). subst (λ (v : Row). IfOk c.query_rows.result (λ all. Shown number_text v old new (map key_row all.items)))
    (λ i. c.number_cell.ensures i ∷ []) (did.shown clean) in
    let told = passing_told text key_row laws.one_value old new c.query_rows.result shown laws.table.rows_in (laws.table_laws.keeps old.now.trees)
    (λ (row : KeyRow). row.accepted == number) (is_numbered number) in record {
      rows = λ clean m h. if_ok _ _ (λ all same.
          IsPermutation-trans _ _ _ (IsPermutation-filter (λ (row : KeyRow). row.accepted == number) _ _ h.tables.stands.rows.keys) same) c.query_rows.result
          (told clean h.tables.t (held_of m old.now h));
      opened = search rules;
      frame = reads_by number_text (is_plain register_schema number_text _ text.means) did.same did.frame;
    }
