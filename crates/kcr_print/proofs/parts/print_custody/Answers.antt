use Rattle.kcr_print.proofs.Common.{safe_line, loose_line, loose_items, packed_bags, safes_in_order, packed_lines}
use Rattle.kcr_print.proofs.PartLemmas.{puts_all, puts_err, puts_more, puts_then}
use Rattle.kcr_print.proofs.parts.print_custody.Goals as goal

pub returns-in_err-write_rows : goal.returns-in_err-write_rows
returns-in_err-write_rows g c =
    let safes = puts_all safe_line safes_in_order c.new.ensures c.in_err-write_rows.ensures.prints in
    puts_err _ _ c.from_residual.ensures.1 (puts_more _ (puts_more _ safes))

pub returns-in_err-write_rows-2 : goal.returns-in_err-write_rows-2
returns-in_err-write_rows-2 g c =
    let safes = puts_all safe_line safes_in_order c.new.ensures c.in_ok-write_rows.ensures.prints in
    let bags = puts_all packed_lines packed_bags c.new-2.ensures c.in_err-write_rows-2.ensures.prints in
    puts_err _ _ c.from_residual-in_err-write_rows-2.ensures.1 (puts_more _ (puts_then safes bags))

pub returns : goal.returns
returns g c =
    let safes = puts_all safe_line safes_in_order c.new.ensures c.in_ok-write_rows.ensures.prints in
    let bags = puts_all packed_lines packed_bags c.new-2.ensures c.in_ok-write_rows-2.ensures.prints in
    puts_then (puts_then safes bags) (puts_all loose_line loose_items c.new-3.ensures c.write_rows-3.ensures.prints)
