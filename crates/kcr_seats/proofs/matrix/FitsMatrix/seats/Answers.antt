use Rattle.std.proofs.Common.{arith}
use Rattle.kcr_seats.specs.Matrix.{seats_of}
use Rattle.kcr_seats.proofs.matrix.FitsMatrix.seats.Goals as goal

pub returns : goal.returns
unfolding seats_of
returns c = (let ok = c.args.self.now.rows.ok in omega arith)
