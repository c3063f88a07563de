-- What is shown has no float, so its text is exact.
use Rattle.kcr_wire.proofs.Common.{◌≡◌, ℕ, false, List, refl, Option, Some, None, Data, string, has_float, members_have_float, compact_text}
use Rattle.kcr_history.specs.declared.questions.{RoleShown.RoleShown, Shown.Shown, PersonShown.PersonShown}
use Rattle.kcr_history.specs.declared.questions.Shown.TheVariants as shown
use Rattle.kcr_wire.specs.ShownJson.{withdrawn_member, role_json, person_json, holder_json, shown_json, shown_text}
use Rattle.kcr_wire.proofs.BodyPieces.{each-whole}

withdrawn-no_float : (o : Option ℕ) → members_have_float (withdrawn_member o) ≡ false
withdrawn-no_float None = refl
withdrawn-no_float (Some day) = refl

role-no_float : (r : RoleShown) → has_float (role_json r) ≡ false
role-no_float r = rw (withdrawn-no_float r.withdrawn) refl

person-no_float : (p : PersonShown) → has_float (person_json p) ≡ false
person-no_float p = rw (each-whole role_json role-no_float p.roles.items) refl

shown-no_float : (answer : Shown) → has_float (shown_json answer) ≡ false
shown-no_float (shown.People people) = rw (each-whole person_json person-no_float people.items) refl
shown-no_float (shown.Custodians custodians) = rw (each-whole holder_json (λ _. refl) custodians.holders.items) refl
shown-no_float (shown.Bag bag) = rw (each-whole string (λ _. refl) bag.items.items) refl
shown-no_float (shown.Room room) = rw (each-whole string (λ _. refl) room.people.items) refl
shown-no_float answer = refl

-- the text of a value that is the answer's
pub shown-written : (answer : Shown) (d : Data) (text : List ℕ) → d ≡ shown_json answer → (has_float d ≡ false → text ≡ compact_text d)
    → text ≡ shown_text answer
unfolding shown_text
shown-written answer d text e h = let w : text ≡ compact_text d = h (rw e (shown-no_float answer)) in rw e at w
