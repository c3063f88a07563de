use Rattle.kcr_edges.proofs.memory.connect.Goals as goal

pub returns-in-Ok-open_files-clause-found : goal.returns-in-Ok-open_files-clause-found
returns-in-Ok-open_files-clause-found c clean =
    let found = c.in-Ok-open_files.ensures.found clean in
    rw (← c.in-Ok.ensures.log.0, ← c.in-Ok.ensures.file.0) (record { holds = found.holds; reads = found.reads })
