use Rattle.std.proofs.Common.{arith, ◌<◌}
use Rattle.std.proofs.lemmas.List.Elements.{All-same}
use Rattle.kcr_base.proofs.DayLemmas.{day_text_of_date, number_in_range, day_ascii}
use Rattle.kcr_base.proofs.day.Day.text.Goals as goal

pub returns-clause-bytes : goal.returns-clause-bytes
returns-clause-bytes c = grind (arith, day_text_of_date _ _ _ _ c.date-year.ensures.date)

pub returns-clause-ascii : goal.returns-clause-ascii
returns-clause-ascii c =
    All-same (λ b. b < 128) _ _ (returns-clause-bytes c) (day_ascii c.args.self (number_in_range _ _ _ _ c.date-year.ensures.date))
