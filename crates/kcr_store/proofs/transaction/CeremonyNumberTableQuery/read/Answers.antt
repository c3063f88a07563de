use Rattle.kcr_store.proofs.Common.{on_ok, ⊤}
use Rattle.kcr_store.proofs.transaction.CeremonyNumberTableQuery.read.Goals as goal

-- of a row that may be anything there is nothing to say
pub returns-clause-by_rows : goal.returns-clause-by_rows
returns-clause-by_rows g c = on_ok ⊤ c.find_ceremony.result tt
