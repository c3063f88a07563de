use Rattle.kcr_tables.proofs.{Common.rules, ExactLemmas.shown_as}
use Rattle.kcr_tables.proofs.select_stays.select_stays.Goals as goal

pub returns-in-All-clause-exact : goal.returns-in-All-clause-exact
returns-in-All-clause-exact g c clean has = search (rules, shown_as)
