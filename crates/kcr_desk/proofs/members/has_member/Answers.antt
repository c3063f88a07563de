use Rattle.kcr_desk.proofs.Common.{rules, tests, same_case, members_left}
use Rattle.std.proofs.lemmas.Iterator.{Consumers.YieldsList-from_first, Search.any_from_yields_List}
use Rattle.kcr_desk.proofs.members.has_member.Goals as goal

pub returns : goal.returns
returns c =
    any_from_yields_List (λ e. same_case e c.args.text.now) _ _ _ c.any.ensures.ran
    (YieldsList-from_first (λ x. x.now) members_left _ c.new.ensures) (λ x b q k. search (rules, tests))
