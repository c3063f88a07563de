use Rattle.kcr_store.proofs.{Common.tables, StoreLemmas.held_in}
use Rattle.kcr_store.proofs.rows.Rows.next.Goals as goal

pub returns-clause-gives : goal.returns-clause-gives
returns-clause-gives g c =
    rw (← c.lent.view_is)
    (λ A was clean. c.next_row.ensures.rows clean (tables A) (λ live. held_in A _ (was.shows (c.next_row.ensures.frame.clean clean) live).now))
