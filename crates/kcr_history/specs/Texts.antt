-- The texts of commands and of replies to accepted ones.
use Rattle.std.specs.Prelude.{ℕ, Bool, true, false, List, [], ◌∷◌, ◌++◌, map, codes, Option, Some, None, option_map}
use Rattle.std.specs.{Fmt.decimal, List.join_with_byte, List.fold}
use Rattle.kcr_base.specs.{Same.same_text, Day.day_text, declared.refusal.Member.Member}
use Rattle.kcr_base.specs.{Facility.facility_text, Moment.moment_text, Place.place_text, Role.role_text}
use Rattle.kcr_base.specs.declared.refusal.Member.TheVariants as Members
use Rattle.kcr_custody.specs.declared.SafeNumber.{SafeNumber, TheVariants.One, TheVariants.Two}
use Rattle.kcr_custody.specs.Destinations.{destination_text}
use Rattle.kcr_room.specs.Room.{way_text}
use Rattle.kcr_history.specs.declared.commands.{Act.Act, ReplyData.ReplyData}
use Rattle.kcr_history.specs.declared.commands.Deed.{Deed, TheVariants.Take, TheVariants.Put, TheVariants.Cut}
use Rattle.kcr_history.specs.declared.commands.Act.TheVariants.{Enter, Train, Withdraw, Appoint, Replace, Release, AddBox, Plan, Ceremony}
use Rattle.kcr_history.specs.declared.commands.Deed.TheVariants.{AddItem, Open, Close, RecordSheet, Sign, RecordException, SetSafe, Seal}
use Rattle.kcr_history.specs.Json.{quoted, member, object, array}

-- VALUES

-- a safe's number, as in a path
abbrev pub safe_text : SafeNumber → List ℕ
safe_text One = codes "1"
safe_text Two = codes "2"

abbrev pub truth_text : Bool → List ℕ
truth_text true = codes "true"
truth_text false = codes "false"

-- texts with commas between them
abbrev pub listed : List (List ℕ) → List ℕ
listed texts = join_with_byte 44 texts

-- COMMANDS

-- a value on a line of its own: a line feed, then the value
abbrev pub line : List ℕ → List ℕ
line value = 10 ∷ value

-- a path of a person, of a place, of a ceremony, of a bag in a ceremony
abbrev pub at_person : List ℕ → List ℕ → List ℕ
at_person who rest = codes "/people/" ++ who ++ codes "/" ++ rest

abbrev pub at_place : List ℕ → List ℕ → List ℕ
at_place place rest = codes "/custodians/" ++ place ++ codes "/" ++ rest

abbrev pub at_ceremony : ℕ → List ℕ → List ℕ
at_ceremony ceremony rest = codes "/ceremonies/" ++ decimal ceremony ++ codes "/" ++ rest

abbrev pub at_bag : ℕ → List ℕ → List ℕ → List ℕ
at_bag ceremony serial rest = at_ceremony ceremony (codes "bags/" ++ serial ++ codes "/" ++ rest)

abbrev pub at_step : ℕ → ℕ → List ℕ
at_step ceremony step = at_ceremony ceremony (codes "steps/" ++ decimal step ++ codes "/signature")

abbrev pub at_safe : ℕ → SafeNumber → List ℕ
at_safe ceremony safe = at_ceremony ceremony (codes "safes/" ++ safe_text safe)

-- the path to which the command of an act in a ceremony is posted, and that of any act
abbrev pub deed_path : ℕ → Deed → List ℕ
deed_path ceremony Open = at_ceremony ceremony (codes "opening")
deed_path ceremony Close = at_ceremony ceremony (codes "closing")
deed_path ceremony (RecordSheet way who) = at_ceremony ceremony (codes "sheet")
deed_path ceremony (Sign step) = at_step ceremony step
deed_path ceremony (RecordException text pass) = at_ceremony ceremony (codes "exceptions")
deed_path ceremony (AddItem item) = codes "/items"
deed_path ceremony (SetSafe safe is_open by) = at_safe ceremony safe
deed_path ceremony (Seal serial items) = at_bag ceremony serial (codes "seal")
deed_path ceremony (Take serial) = at_bag ceremony serial (codes "take")
deed_path ceremony (Put serial to) = at_bag ceremony serial (codes "put")
deed_path ceremony (Cut serial) = at_bag ceremony serial (codes "cut")

abbrev pub path_text : Act → List ℕ
path_text (Enter who name) = codes "/people"
path_text (Train who role since until) = at_person who (codes "roles")
path_text (Withdraw who role day) = at_person who (codes "withdrawals")
path_text (Appoint place who day) = codes "/custodians"
path_text (Replace place who day) = at_place (place_text place) (codes "replacement")
path_text (Release place day) = at_place (place_text place) (codes "release")
path_text (AddBox facility number place) = codes "/boxes"
path_text (Plan number facility day script) = codes "/ceremonies"
path_text (Ceremony ceremony at deed) = deed_path ceremony deed

-- the value of a member: a text, a number, a truth value, a list of texts
pub data MemberValue : Type 0 where
  Word : List ℕ → MemberValue
  Whole : ℕ → MemberValue
  Truth : Bool → MemberValue
  Several : List (List ℕ) → MemberValue

-- a member that is a text
abbrev pub word : Member → List ℕ → Member × MemberValue
word name text = (name, Word text)

-- the members of the body of an act in a ceremony, but the key and the moment, in their order
abbrev pub deed_members : ℕ → Deed → List (Member × MemberValue)
deed_members ceremony (RecordSheet way who) = word Members.Way (way_text way) ∷ (Members.Who, Several who) ∷ []
deed_members ceremony (RecordException text pass) = word Members.Text text ∷ (Members.Pass, Truth pass) ∷ []
deed_members ceremony (AddItem item) = (Members.Ceremony, Whole ceremony) ∷ word Members.Item item ∷ []
deed_members ceremony (SetSafe safe is_open by) = (Members.Open, Truth is_open) ∷ word Members.By by ∷ []
deed_members ceremony (Seal serial items) = (Members.Items, Several items) ∷ []
deed_members ceremony (Put serial to) = word Members.To (destination_text to) ∷ []
deed_members ceremony deed = []

-- the members of an act's body but the key, in their order; the moment of what is done in a ceremony is its last
abbrev pub members_of : Act → List (Member × MemberValue)
members_of (Enter who name) = word Members.Who who ∷ word Members.Name name ∷ []
members_of (Train who role since until) =
    word Members.Role (role_text role) ∷ word Members.From (day_text since) ∷ word Members.Until (day_text until) ∷ []
members_of (Withdraw who role day) = word Members.Role (role_text role) ∷ word Members.Day (day_text day) ∷ []
members_of (Appoint place who day) =
    word Members.Place (place_text place) ∷ word Members.Who who ∷ word Members.Day (day_text day) ∷ []
members_of (Replace place who day) = word Members.Who who ∷ word Members.Day (day_text day) ∷ []
members_of (Release place day) = word Members.Day (day_text day) ∷ []
members_of (AddBox facility number place) =
    word Members.Facility (facility_text facility) ∷ (Members.Box, Whole number)
    ∷ word Members.Place (place_text place) ∷ []
members_of (Plan number facility day script) =
    (Members.Number, Whole number) ∷ word Members.Facility (facility_text facility)
    ∷ word Members.Day (day_text day) ∷ word Members.Script script ∷ []
members_of (Ceremony ceremony at deed) = deed_members ceremony deed ++ word Members.At (moment_text at) ∷ []

-- a value on a line
abbrev pub value_text : MemberValue → List ℕ
value_text (Word text) = text
value_text (Whole number) = decimal number
value_text (Truth truth) = truth_text truth
value_text (Several texts) = listed texts

-- a text with the value of a member on a line of its own behind it
abbrev pub with_line : List ℕ → Member × MemberValue → List ℕ
with_line text m = text ++ line (value_text m.1)

-- the path of the command's request, then the value of each member but the key, each on a line of its own
abbrev pub command_text : Act → List ℕ
command_text act = fold with_line (path_text act) (members_of act)

-- two commands are the same if their texts are equal
abbrev pub same_command : Act → Act → Bool
same_command a b = same_text (command_text a) (command_text b)

-- REPLIES

-- a member, if there is a value for it
abbrev pub member_if : List ℕ → Option (List ℕ) → List (List ℕ)
member_if name None = []
member_if name (Some value) = member name value ∷ []

-- the JSON text of a list of people
abbrev pub people_array : List (List ℕ) → List ℕ
people_array people = array (map quoted people)

-- the JSON text of the reply to an accepted command: its number; an exception's number, the seating and the step if
-- there are such
abbrev pub reply_text : ReplyData → List ℕ
reply_text reply =
    object
    (member (codes "accepted") (decimal reply.accepted)
    ∷ (member_if (codes "exception") (option_map decimal reply.exception)
    ++ (member_if (codes "seating") (option_map people_array reply.seating)
    ++ member_if (codes "step") (option_map decimal reply.step))))
