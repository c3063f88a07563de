use Rattle.std.proofs.Common.{arith, ◌<◌}
use Rattle.std.proofs.lemmas.List.Elements.{All-same}
use Rattle.kcr_base.specs.{Day.day_text, Moment.moment_text}
use Rattle.kcr_base.proofs.DayLemmas.{moment_ascii}
use Rattle.kcr_base.proofs.moment.Moment.text.Goals as goal

pub returns-clause-bytes : goal.returns-clause-bytes
unfolding day_text moment_text
returns-clause-bytes c = grind arith

pub returns-clause-ascii : goal.returns-clause-ascii
returns-clause-ascii c =
    All-same (λ b. b < 128) _ (moment_text c.args.self) (returns-clause-bytes c) (moment_ascii c.args.self c.number-second.ensures.range)
