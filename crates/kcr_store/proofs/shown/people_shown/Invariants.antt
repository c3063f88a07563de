use Rattle.kcr_store.proofs.Common.{◌≡◌, ◌++◌, length, map, All, into_iter_items, into_iter_len, person_of, AreRolesOf}
use Rattle.kcr_store.proofs.shown.people_shown.Given as goal

-- those shown so far and those that are left are all, and each has their roles
abbrev pub invariant-loop-person : goal.invariant-loop-person
invariant-loop-person l = record {
  people : map person_of l.shown.items ++ into_iter_items l.person-iterator ≡ into_iter_items l.initial.person-iterator;
  left : into_iter_len l.person-iterator ≡ length (into_iter_items l.person-iterator);
  roles : All (λ person. AreRolesOf l.trainings l.withdrawals person.who person.roles.items) l.shown.items;
}
