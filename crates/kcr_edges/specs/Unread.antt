-- Why a register's file is not read.
use Rattle.std.specs.Prelude.{◌≢◌}
use Rattle.kcr_log.specs.declared.judgement.Log.TheVariants as logs
use Rattle.kcr_edges.specs.declared.reading.Unread.{Unread, TheVariants.Damaged}

-- if the log is said to be damaged, it is
abbrev pub IsCause : Unread → Type 0
IsCause (Damaged log) = log ≢ logs.Sound
IsCause other = Unit {0}
