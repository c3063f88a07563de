use Rattle.kcr_print.proofs.Common.{◌≡◌}
use Rattle.kcr_print.proofs.RowLemmas.{Goes}
use Rattle.kcr_print.proofs.write_rows.write_rows.Given as goal

-- the rows so far were written, and those of the reading are left
abbrev pub invariant-loop : goal.invariant-loop
invariant-loop g l = record {
  same_reference : l.rows.unbroken.ghost_name ≡ l.initial.rows.unbroken.ghost_name;
  goes : Goes g.S.Store g.W.Write.contents g.R.Cursor.to_come g.P.PrintLines.lines l.fn.register l.rows.unbroken.now l.initial.writer l.writer
      l.fn.reading l.rows.reading;
}
