use Rattle.kcr_tables.proofs.{Common.rules, ExactLemmas.shown_as}
use Rattle.kcr_tables.proofs.table.select_all.Goals as goal

pub returns-then-asked-clause-exact : goal.returns-then-asked-clause-exact
returns-then-asked-clause-exact g c clean has = search (rules, shown_as)
