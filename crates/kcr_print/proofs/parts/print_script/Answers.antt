use Rattle.kcr_print.proofs.Common.{◌≡◌, ℕ, [], ap, sym, option_map_or, state, HasCleanDisk, exception_line, Tables, CeremonyRow, seated_steps}
use Rattle.kcr_print.proofs.Common.{exceptions_of, annotated_by, row_of_ceremony, script_by, head_lines, foot_lines, seated_lines}
use Rattle.std.proofs.Common.{Some}
use Rattle.kcr_print.proofs.PartLemmas.{puts_last, puts_then, puts_more, puts_reading, puts_text, stops_planned, denied_planned, ends_planned, no_planned, puts_line, row_read}
use Rattle.kcr_print.proofs.parts.print_script.Goals as goal

pub returns-in_err-row : goal.returns-in_err-row
returns-in_err-row g c =
    let fault = c.from_residual.ensures in
    let said = c.in_err-row.ensures in
    denied_planned _ fault.0 fault.1 (no_planned said.peeks said.rows)

-- the text of the row that was read
script_of : (ceremony : ℕ) (m : Tables) (row : CeremonyRow) → row_of_ceremony ceremony m ≡ Some row → script_by ceremony m row ≡ annotated_by m ceremony
script_of ceremony m row is = ap (λ o. option_map_or (script_by ceremony m) o []) (sym is)

pub returns-in_err-write_row : goal.returns-in_err-write_row
returns-in_err-write_row g c =
    let n = c.args.ceremony in
    let row = c.in_ok-row.row in
    let fault = c.from_residual-in_err-write_row.ensures in
    let read = c.in_ok-row.ensures in
    let said = c.in_err-write_row.ensures in
    stops_planned _ fault.0 fault.1 said.cause
    (puts_text (λ m. annotated_by m n)
    (puts_more _ (puts_more _ (puts_more _ (puts_line (head_lines row) read.peeks said.written said.cause said.told))))
    (λ clean m has. script_of n m row (row_read g.S.Store read.peeks read.rows clean m has)))

pub returns-in_err-write_rows : goal.returns-in_err-write_rows
returns-in_err-write_rows g c =
    let n = c.args.ceremony in
    let row = c.in_ok-row.row in
    let fault = c.from_residual-in_err-write_rows.ensures in
    let read = c.in_ok-row.ensures in
    let said = c.in_ok-write_row.ensures in
    let done = c.in_err-write_rows.ensures.prints in
    stops_planned _ fault.0 fault.1 done.reads.cause
    (puts_text (λ m. annotated_by m n)
    (puts_more _ (puts_more _ (puts_then (puts_line (head_lines row) read.peeks said.written said.cause said.told)
    (puts_reading seated_lines seated_steps c.new.ensures c.get-number.ensures.value done))))
    (λ clean m has. script_of n m row (row_read g.S.Store read.peeks read.rows (done.reads.clean clean) m has)))

pub returns-in_err-write_rows-2 : goal.returns-in_err-write_rows-2
returns-in_err-write_rows-2 g c =
    let n = c.args.ceremony in
    let row = c.in_ok-row.row in
    let number = c.get-number.ensures.value in
    let fault = c.from_residual-in_err-write_rows-2.ensures in
    let read = c.in_ok-row.ensures in
    let said = c.in_ok-write_row.ensures in
    let done = c.in_ok-write_rows.ensures.prints in
    let more = c.in_err-write_rows-2.ensures.prints in
    stops_planned _ fault.0 fault.1 more.reads.cause
    (puts_text (λ m. annotated_by m n)
    (puts_more _ (puts_then (puts_then (puts_line (head_lines row) read.peeks said.written said.cause said.told)
    (puts_reading seated_lines seated_steps c.new.ensures number done))
    (puts_reading exception_line exceptions_of c.new-2.ensures number more)))
    (λ clean m has. script_of n m row (row_read g.S.Store read.peeks read.rows (done.reads.clean (more.reads.clean clean)) m has)))

pub returns : goal.returns
returns g c =
    let n = c.args.ceremony in
    let row = c.in_ok-row.row in
    let number = c.get-number.ensures.value in
    let read = c.in_ok-row.ensures in
    let said = c.in_ok-write_row.ensures in
    let done = c.in_ok-write_rows.ensures.prints in
    let more = c.in_ok-write_rows-2.ensures.prints in
    let end = c.write_row-2.ensures in
    let clean = λ (h : HasCleanDisk (state g.S.Store c.write_rows-2.new.register)). done.reads.clean (more.reads.clean h) in
    ends_planned c.ceremony_row.new.self (row_read g.S.Store read.peeks read.rows) clean end.cause
    (puts_text (λ m. annotated_by m n)
    (puts_last (foot_lines row) (puts_then (puts_then (puts_line (head_lines row) read.peeks said.written said.cause said.told)
    (puts_reading seated_lines seated_steps c.new.ensures number done)) (puts_reading exception_line exceptions_of c.new-2.ensures number more))
    end.written end.cause end.told)
    (λ honest m has. script_of n m row (row_read g.S.Store read.peeks read.rows (clean honest) m has)))
