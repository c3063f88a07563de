use Rattle.kcr_reading.proofs.Common.{◌∙◌, List, map, ap, if_ok, clean_before, Stay, with_name}
use Rattle.kcr_reading.proofs.ChoiceLemmas.{several_made}
use Rattle.kcr_reading.proofs.stays.StayBatchesBatchSource.next_batch.Goals as goal

pub returns-clause-gives : goal.returns-clause-gives
returns-clause-gives g c clean m live =
    let before = clean_before c.with_names.ensures.frame.within clean in
    let h = live (c.in_ok-stays.ensures.opened before) in
    let still = c.in_ok-stays.ensures.frame.tables before m h in
    let given = c.in_ok-stays.ensures.gives before m h in
    if_ok _ _ (λ all names. several_made (with_name m.people) _ _ _ given all.items
    (names ∙ ap (λ (l : List Stay). map (with_name m.people) l) c.as_slice.ensures.value)) c.with_names.result (c.with_names.ensures.names clean m still)
