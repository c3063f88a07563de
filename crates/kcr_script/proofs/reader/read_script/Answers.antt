use Rattle.kcr_script.proofs.Common.{map, sym, ap, ◌∙◌, fields_of}
use Rattle.kcr_script.proofs.{RowLemmas.are_rows_same, ScriptReading.script_is}
use Rattle.kcr_script.proofs.reader.read_script.Goals as goal

pub returns-in-Ok-clause-only : goal.returns-in-Ok-clause-only
returns-in-Ok-clause-only c steps h =
    let same = are_rows_same c.args.text.now _ _ h.1 c.in-Ok.ensures.rows ∙ ap (map fields_of) (sym c.deref.ensures.value) in
    c.read_rows.ensures.only steps (rw same at h.2)

pub returns-in-Ok-clause-value : goal.returns-in-Ok-clause-value
returns-in-Ok-clause-value c =
    let rows = map fields_of c.deref.result.now in
    let are = rw (← c.deref.ensures.value) at c.in-Ok.ensures.rows in
    script_is c.args.text.now rows are c.read_rows.result c.read_rows.ensures.found c.read_rows.ensures.fault
