use Rattle.std.proofs.Common.{rules, ◌∙◌, arith}
use Rattle.clap.specs.Words.{found_of}
use Rattle.std.specs.Str.Parse.{ParsesUnsigned, ExplainsUnsignedError, HasUnsignedDigitsIfOk}
use Rattle.kcr_arguments.proofs.Numbers.{number_read, number_outside, number_none}
use Rattle.kcr_arguments.proofs.words.read_number.Goals as goal

pub returns-in_err-number-clause-number : goal.returns-in_err-number-clause-number
returns-in_err-number-clause-number c =
    c.from_residual.ensures ∙ number_none _ (λ bs r. ParsesUnsigned 32 10 bs r × ExplainsUnsignedError 10 bs r × HasUnsignedDigitsIfOk bs r) (λ u x g. g.0)
    c.args.least c.args.most c.args.name.now (found_of c.args.matches.now) (omega (arith, c.ranges.most.fits)) c.in_err-number.ensures.value

pub returns-then-number-least-clause-number : goal.returns-then-number-least-clause-number
returns-then-number-least-clause-number c =
    number_outside _ (λ bs r. ParsesUnsigned 32 10 bs r × ExplainsUnsignedError 10 bs r × HasUnsignedDigitsIfOk bs r) (λ u x g. g.0)
    c.args.least c.args.most c.args.name.now (found_of c.args.matches.now) (omega (arith, c.ranges.most.fits))
    c.in_ok-number.number c.in_ok-number.ensures.value (λ low high. grind arith)

pub returns-clause-number : goal.returns-clause-number
returns-clause-number c =
    number_read _ (λ bs r. ParsesUnsigned 32 10 bs r × ExplainsUnsignedError 10 bs r × HasUnsignedDigitsIfOk bs r) (λ u x g. g.0)
    c.args.least c.args.most c.args.name.now (found_of c.args.matches.now) (omega (arith, c.ranges.most.fits))
    c.in_ok-number.number c.in_ok-number.ensures.none c.in_ok-number.ensures.value (search rules) (search rules)
