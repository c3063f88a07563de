use Rattle.std.proofs.Common.{arith}
use Rattle.kcr_base.proofs.number.Number.read.Goals as goal

pub returns-in_err-read_number-clause-only : goal.returns-in_err-read_number-clause-only
returns-in_err-read_number-clause-only g c n h =
    absurd (cc (c.in_err-read_number.ensures.only n (omega (arith, h.number.until, g.met.K.Numbered.fits)) h.text))

pub returns-clause-only : goal.returns-clause-only
returns-clause-only g c n h =
    grind (arith, c.in_ok-read_number.ensures.only n (omega (arith, h.number.until, g.met.K.Numbered.fits)) h.text, c.new.ensures, h.number)
