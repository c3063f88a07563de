use Rattle.kcr_rows.proofs.Common.{rules, cases_Bool}
use Rattle.kcr_rows.proofs.statements.execute.Goals as goal

pub returns-in-Ok-clause-runs : goal.returns-in-Ok-clause-runs
returns-in-Ok-clause-runs g c clean = search (rules, cases_Bool)
