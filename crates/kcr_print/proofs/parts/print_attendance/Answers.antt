use Rattle.kcr_print.proofs.Common.{named_stays, header_line, named_line}
use Rattle.kcr_print.proofs.PartLemmas.{puts_then, puts_more, puts_reading, stops_planned, denied_planned, ends_planned, no_planned, puts_line, row_read}
use Rattle.kcr_print.proofs.parts.print_attendance.Goals as goal

pub returns-in_err-ceremony_row : goal.returns-in_err-ceremony_row
returns-in_err-ceremony_row g c =
    let fault = c.from_residual.ensures in
    let said = c.in_err-ceremony_row.ensures in
    denied_planned _ fault.0 fault.1 (no_planned said.peeks said.rows)

pub returns-in_err-write_row : goal.returns-in_err-write_row
returns-in_err-write_row g c =
    let fault = c.from_residual-in_err-write_row.ensures in
    let said = c.in_err-write_row.ensures in
    stops_planned _ fault.0 fault.1 said.cause
    (puts_more _ (puts_line header_line c.in_ok-ceremony_row.ensures.peeks said.written said.cause said.told))

pub returns : goal.returns
returns g c =
    let row = c.in_ok-ceremony_row.ensures in
    let head = c.in_ok-write_row.ensures in
    let rest = c.write_rows.ensures.prints in
    ends_planned c.ceremony_row.new.self (row_read g.S.Store row.peeks row.rows) rest.reads.clean rest.reads.cause
    (puts_then (puts_line header_line row.peeks head.written head.cause head.told)
    (puts_reading named_line named_stays c.new.ensures c.get.ensures.value rest))
