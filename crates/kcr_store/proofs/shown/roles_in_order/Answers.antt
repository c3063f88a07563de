use Rattle.kcr_store.proofs.Common.{rules, subst, IsPermutation, answers_always, role_number}
use Rattle.kcr_store.proofs.ShownLemmas.{in_order}
use Rattle.kcr_store.proofs.shown.roles_in_order.Goals as goal

pub returns : goal.returns
returns c = record {
  roles = subst (λ l. IsPermutation l c.sort_unstable_by_key.new.self.items) (c.in_ok-roles.ensures) c.sort_unstable_by_key.ensures.permutation;
  order =
      in_order _ (c.sort_unstable_by_key.ensures.sorted (λ role. (role.since, role_number role.role, role.until))
      (answers_always _ _ _ (λ f a r g h. search rules)));
}
