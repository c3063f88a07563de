use Rattle.kcr_reading.proofs.Common.{filter_every}
use Rattle.kcr_reading.proofs.safes.SafeCursor.new.Goals as goal

pub returns : goal.returns
returns c m = filter_every _
