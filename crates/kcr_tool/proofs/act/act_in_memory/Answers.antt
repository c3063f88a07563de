use Rattle.kcr_tool.proofs.{Common.None, Common.writing, Empty.of_fresh, Notes.noted_of}
use Rattle.kcr_tool.proofs.act.act_in_memory.Goals as goal

pub returns-in_ok-register-in-Run-clause-own : goal.returns-in_ok-register-in-Run-clause-own
returns-in_ok-register-in-Run-clause-own g c =
    rw c.in-Run.is (of_fresh _ c.run.new.register _ c.in_ok-register-in-Run.ensures.new c.run.ensures.own)

pub returns-in_ok-register-in-Write-clause-own : goal.returns-in_ok-register-in-Write-clause-own
returns-in_ok-register-in-Write-clause-own g c =
    rw c.in-Write.is (of_fresh _ c.write_report-ended.new.register _ c.in_ok-register-in-Write.ensures.new c.write_report-ended.ensures.own)

pub returns-in_ok-register-in-Write-clause-noted : goal.returns-in_ok-register-in-Write-clause-noted
returns-in_ok-register-in-Write-clause-noted g c =
    let w = writing g.F.Write.contents c.args.faults.now c.note.new.faults in
    rw c.in-Write.is (noted_of _ _ c.in-Write.report None w c.may_note-is_told.ensures c.note.ensures)
