use Rattle.kcr_desk.proofs.Common.{◌≡◌, ◌+◌, ◌-◌, [], ◌∷◌, length, take, drop, rules, ap, ◌∙◌, add-one, take_rest, members_of_rest, members_left}
use Rattle.kcr_desk.specs.Members.{members}
use Rattle.kcr_desk.proofs.MembersLemmas.{members_at, members_whole}
use Rattle.kcr_desk.proofs.members.MembersIterator.next.Goals.{After-trim, After-trim-in-None}
use Rattle.kcr_desk.proofs.members.MembersIterator.next.Goals as goal

-- the element ends at the first comma
at_comma : (c : After-trim) → members_left c.args.self.now
    ≡ c.trim.result.now ∷ members (take (length c.in_ok-rest.rest.now - (c.in-Some.comma + 1)) (drop (c.in-Some.comma + 1) c.in_ok-rest.rest.now))
at_comma c =
    let split = members_at c.in_ok-rest.rest.now c.in-Some.comma (search rules) (search rules) (search rules) in
    let element = c.trim.ensures in ap members_of_rest c.in_ok-rest.was ∙ split ∙ simp (take_rest, add-one, element)

at_end : (c : After-trim-in-None) → members_left c.args.self.now ≡ c.trim-in-None.result.now ∷ []
at_end c =
    let element = c.trim-in-None.ensures in ap members_of_rest c.in_ok-rest.was ∙ members_whole c.in_ok-rest.rest.now (search rules) ∙ simp element

pub returns-in-Some-clause-steps : goal.returns-in-Some-clause-steps
returns-in-Some-clause-steps c = at_comma c

pub returns-in-Some-clause-goes : goal.returns-in-Some-clause-goes
returns-in-Some-clause-goes c = let shorter = ap length (at_comma c) in search (rules, shorter)

pub returns-in-None-clause-steps : goal.returns-in-None-clause-steps
returns-in-None-clause-steps c = at_end c

pub returns-in-None-clause-goes : goal.returns-in-None-clause-goes
returns-in-None-clause-goes c = let shorter = ap length (at_end c) in search (rules, shorter)
