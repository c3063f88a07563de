use Rattle.kcr_tool.proofs.act.run_invocation.Goals as goal

pub returns-in-Some-clause-noted : goal.returns-in-Some-clause-noted
returns-in-Some-clause-noted g c = rw c.in-Some.is c.act_on_file.ensures.noted

pub returns-in-None-clause-noted : goal.returns-in-None-clause-noted
returns-in-None-clause-noted g c = rw c.in-None.is c.act_in_memory.ensures.noted
