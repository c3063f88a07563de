use Rattle.kcr_reading.proofs.Common.{◌∙◌}
use Rattle.kcr_reading.proofs.{ChoiceLemmas.by_tables, CustodyLemmas.within}
use Rattle.kcr_reading.proofs.bags.items_within.Goals as goal

pub returns-clause-rows : goal.returns-clause-rows
returns-clause-rows g c = by_tables c.find_rows.result _ _ c.find_rows.ensures.rows (λ m k rows is. is ∙ within c.args.serial.now m k)
