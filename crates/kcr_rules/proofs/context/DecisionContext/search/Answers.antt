use Rattle.kcr_rules.proofs.context.DecisionContext.search.Goals as goal

pub returns : goal.returns
returns c =
    rw (
      c.deref-2.ensures.value,
      c.deref-4.ensures.value,
      c.deref-5.ensures.value,
      c.requires.present,
      c.facility.ensures,
      c.day.ensures,
    ) at c.seat_uncounted.ensures
