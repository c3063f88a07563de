-- Laws of logs: no stop leaves a damaged log.
use Rattle.kcr_log.specs.Written.{StopsCutShort}
use Rattle.kcr_log.proofs.Writing.{behind-shut, over-zeros, over-older}
-- whenever the emptying of a log stops, whose pages are all in the file, the log is one that is being emptied, which `judge` never refuses
pub use Rattle.kcr_log.proofs.Emptying.{stops_emptied}

-- whichever way a transaction is written behind those that are there, and whenever that stops, the log is one that is cut short, which `judge` never refuses
pub stops_cut_short : StopsCutShort
stops_cut_short header log done = (
  behind-shut header log done,
  λ new end. over-zeros header new log done end,
  λ old new end reached. over-older header old new log done end reached,
)
