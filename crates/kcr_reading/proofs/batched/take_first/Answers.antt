use Rattle.kcr_reading.proofs.Common.{IsSome, true≢false, sym, subst, into_iter_items, IsNextOf, read_ahead}
use Rattle.kcr_reading.proofs.{AheadLemmas.gives_taken, FirstLemmas.no_rows}
use Rattle.kcr_reading.proofs.batched.take_first.Goals as goal

pub returns-in-Some : goal.returns-in-Some
returns-in-Some g c =
    let rows = c.in-Some.rows in
    let left = into_iter_items c.next.new.self in
    subst (λ o. IsNextOf (read_ahead o) c.next.result left) (sym c.in-Some.is) (gives_taken (into_iter_items rows) left c.next.result c.next.ensures.items
    (λ none. no_rows rows.rest.len (into_iter_items rows) (sym rows.rest.ok.0)
    (λ low. true≢false (sym (subst IsSome none (c.next.ensures.variant.1 low))))))
