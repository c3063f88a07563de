use Rattle.kcr_rules.proofs.Common.{suc, map, refl, ap, ◌∙◌, inl, length-map, Short}
use Rattle.kcr_rules.proofs.context.DecisionContext.seat_people.Goals as goal

pub returns-in-Short : goal.returns-in-Short
returns-in-Short c = λ _.
    inl (
      map suc c.in-Short.numbers.items,
      record { numbers = c.in-Short.numbers.items; least = rw c.in-Short.is at c.in_ok-numbers.ensures; counted = refl },
      ap Short (c.from_indices.ensures ∙ ap (map suc) c.deref-in-Short.ensures.value),
    )

pub returns-in_ok-named-in-Seated : goal.returns-in_ok-named-in-Seated
returns-in_ok-named-in-Seated c =
    let first = rw c.in-Seated.is at c.in_ok-numbers.ensures in
    let named = rw (c.deref.ensures.value, c.requires.present) at c.in_ok-named-in-Seated.ensures in (
      record { numbers = c.in-Seated.numbers.items; first = first; named = named },
      rw (named, length-map, first.seating.each_seat) c.requires.few,
    )
