use Rattle.kcr_verify.proofs.Common.{rules, answers_always, KeyRow}
use Rattle.kcr_verify.proofs.sort.sort_by_number.Goals as goal

pub returns-clause-order : goal.returns-clause-order
returns-clause-order c = c.sort_unstable_by_key.ensures.sorted (λ (row : KeyRow). row.accepted) (answers_always _ _ _ (λ f a r f' k. search rules))
