-- The shape of each command: the members behind its path, with the forms of their values.
use Rattle.std.specs.Prelude.{ℕ, List, [], ◌∷◌, Bool, Option}
use Rattle.kcr_base.specs.{Day.day_text, Role.role_text, Facility.facility_text, Forms.serial_of, Forms.line_of, Moment.moment_text, Place.place_text}
use Rattle.kcr_base.specs.declared.{limits.TheConstants.MAX_REMARK, refusal.Member.Member}
use Rattle.kcr_base.specs.declared.refusal.Member.TheVariants as member
use Rattle.kcr_custody.specs.Destinations.{destination_text}
use Rattle.kcr_room.specs.Room.{way_text}
use Rattle.kcr_history.specs.declared.commands.{Act.Act, Deed.Deed}
use Rattle.kcr_history.specs.declared.commands.Act.TheVariants as act
use Rattle.kcr_history.specs.declared.commands.Deed.TheVariants as deed
use Rattle.kcr_forms.specs.Forms.{initials_of, day_of, moment_of, place_of, facility_of, role_of, way_of, destination_of, script_of}
use Rattle.kcr_forms.specs.declared.post.{Post.Post, PersonPath.TheVariants.Roles, PersonPath.TheVariants.Withdrawals}
use Rattle.kcr_forms.specs.declared.post.Post.TheVariants as post
use Rattle.kcr_forms.specs.declared.post.CollectionPath.TheVariants.{People, Custodians, Boxes, Items, Ceremonies}
use Rattle.kcr_forms.specs.declared.post.PlacePath.TheVariants.{Replacement, Release}
use Rattle.kcr_forms.specs.declared.post.CeremonyPath.TheVariants.{Opening, Closing, Sheet, Exceptions}
use Rattle.kcr_forms.specs.declared.post.BagPath.TheVariants.{Seal, Take, Put, Cut}

-- the form of a member's value: a value with a text, by the text of each value and its reader; a number from 1 to 9999;
-- a truth value; a list of 1 to N codes, no two of them the same, by N and their reader
pub data Form : Type 1 where
  Text : {V : Type 0} → (V → List ℕ) → (List ℕ → Option V) → Form
  Number : Form
  Truth : Form
  Codes : ℕ → (List ℕ → Option (List ℕ)) → Form

-- what its values are
abbrev pub ValueOf : Form → Type 0
ValueOf (Text {V} text_of read) = V
ValueOf Number = ℕ
ValueOf Truth = Bool
ValueOf (Codes most read) = List (List ℕ)

-- a text that is its own value
abbrev pub code : (List ℕ → Option (List ℕ)) → Form
code read = Text (λ text. text) read

abbrev pub day : Form
day = Text day_text day_of

-- the moment of an act
abbrev pub at : Member × Form
at = (member.At, Text moment_text moment_of)

-- what makes an act of the values of these members, given one after the other
abbrev pub Makes : List (Member × Form) → Type 0
Makes [] = Act
Makes (m ∷ ms) = ValueOf m.1 → Makes ms

-- the members of a command in their order, and the act that their values make
pub data Shape : Type 1 where
  row : (members : List (Member × Form)) → Makes members → Shape

-- what is done in a ceremony, and the moment of it, which is told last
abbrev pub done : ℕ → Deed → ℕ → Act
done ceremony does moment = act.Ceremony ceremony moment does

-- the command that is posted to each path
abbrev pub shape : Post → Shape
shape (post.Collection People) = row ((member.Who, code initials_of) ∷ (member.Name, code (line_of 120)) ∷ []) act.Enter
shape (post.Collection Custodians) = row ((member.Place, Text place_text place_of) ∷ (member.Who, code initials_of) ∷ (member.Day, day) ∷ []) act.Appoint
shape (post.Collection Boxes) = row ((member.Facility, Text facility_text facility_of) ∷ (member.Box, Number) ∷ (member.Place, Text place_text place_of) ∷ []) act.AddBox
shape (post.Collection Items) = row ((member.Ceremony, Number) ∷ (member.Item, code serial_of) ∷ at ∷ []) (λ ceremony item. done ceremony (deed.AddItem item))
shape (post.Collection Ceremonies) = row ((member.Number, Number) ∷ (member.Facility, Text facility_text facility_of) ∷ (member.Day, day) ∷ (member.Script, code script_of) ∷ []) act.Plan
shape (post.Person who Roles) = row ((member.Role, Text role_text role_of) ∷ (member.From, day) ∷ (member.Until, day) ∷ []) (act.Train who)
shape (post.Person who Withdrawals) = row ((member.Role, Text role_text role_of) ∷ (member.Day, day) ∷ []) (act.Withdraw who)
shape (post.Place place Replacement) = row ((member.Who, code initials_of) ∷ (member.Day, day) ∷ []) (act.Replace place)
shape (post.Place place Release) = row ((member.Day, day) ∷ []) (act.Release place)
shape (post.Ceremony ceremony Opening) = row (at ∷ []) (done ceremony deed.Open)
shape (post.Ceremony ceremony Closing) = row (at ∷ []) (done ceremony deed.Close)
shape (post.Ceremony ceremony Sheet) = row ((member.Way, Text way_text way_of) ∷ (member.Who, Codes 32 initials_of) ∷ at ∷ []) (λ way who. done ceremony (deed.RecordSheet way who))
shape (post.Ceremony ceremony Exceptions) = row ((member.Text, code (line_of MAX_REMARK)) ∷ (member.Pass, Truth) ∷ at ∷ []) (λ text pass. done ceremony (deed.RecordException text pass))
shape (post.Signature ceremony step) = row (at ∷ []) (done ceremony (deed.Sign step))
shape (post.Safe ceremony safe) = row ((member.Open, Truth) ∷ (member.By, code initials_of) ∷ at ∷ []) (λ is_open by. done ceremony (deed.SetSafe safe is_open by))
shape (post.Bag ceremony serial Seal) = row ((member.Items, Codes 64 serial_of) ∷ at ∷ []) (λ items. done ceremony (deed.Seal serial items))
shape (post.Bag ceremony serial Take) = row (at ∷ []) (done ceremony (deed.Take serial))
shape (post.Bag ceremony serial Put) = row ((member.To, Text destination_text destination_of) ∷ at ∷ []) (λ to. done ceremony (deed.Put serial to))
shape (post.Bag ceremony serial Cut) = row (at ∷ []) (done ceremony (deed.Cut serial))
