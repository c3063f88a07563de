-- A file in memory that notes whether a write to it has failed.
use Rattle.sqlite_disk.specs.declared.memory.Memory.{Memory}
use Rattle.kcr_edges.specs.declared.noted.CopyFile.{CopyFile}

-- the file itself
abbrev pub file_of : CopyFile → Memory
file_of n = n.file
