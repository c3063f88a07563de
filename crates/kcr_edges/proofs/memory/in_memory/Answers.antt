use Rattle.std.proofs.Common.{◌∙◌, ap}
use Rattle.sqlite_disk.specs.Memory.{memory_bytes}
use Rattle.kcr_edges.proofs.Filling.{filled}
use Rattle.kcr_edges.proofs.memory.in_memory.Goals as goal

pub returns-clause-bytes : goal.returns-clause-bytes
returns-clause-bytes c =
    ap memory_bytes c.new.ensures
    ∙ filled _ _ _ c.new-memory.ensures.empty c.in_ok-write_at.ensures.written c.in_ok-write_at.ensures.others
