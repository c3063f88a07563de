-- The JSON of answers to questions.
use Rattle.std.specs.Prelude.{ℕ, List, Option, Some, None, codes, map}
use Rattle.serde_json.specs.Data.{Data, Members, string, array, object, no_members, member}
use Rattle.serde_json.specs.{View.items_of, Written.compact_text}
use Rattle.kcr_base.specs.{Day.day_text, Role.role_text, Moment.moment_text, Place.place_text}
use Rattle.kcr_custody.specs.Spots.{spot_text}
use Rattle.kcr_history.specs.declared.questions.{RoleShown.RoleShown, RoomShown.RoomShown, PersonShown.PersonShown, HolderShown.HolderShown}
use Rattle.kcr_history.specs.declared.questions.{CustodiansShown.CustodiansShown, BagShown.BagShown, Shown.Shown}
use Rattle.kcr_history.specs.declared.questions.Shown.TheVariants as shown

-- the member `withdrawn`, if a training is withdrawn
abbrev pub withdrawn_member : Option ℕ → Members
withdrawn_member None = no_members
withdrawn_member (Some day) = member (codes "withdrawn") (string (day_text day)) no_members

-- a training of a person
abbrev pub role_json : RoleShown → Data
role_json shown =
    object (member (codes "from") (string (day_text shown.since))
    (member (codes "role") (string (role_text shown.role))
    (member (codes "until") (string (day_text shown.until)) (withdrawn_member shown.withdrawn))))

-- a person with their trainings
abbrev pub person_json : PersonShown → Data
person_json p =
    object (member (codes "name") (string p.name)
    (member (codes "roles") (array (items_of (map role_json p.roles.items)))
    (member (codes "who") (string p.who) no_members)))

-- the people with their trainings
abbrev pub people_json : List PersonShown → Data
people_json ps = object (member (codes "people") (array (items_of (map person_json ps))) no_members)

-- a place, and who holds it
abbrev pub holder_json : HolderShown → Data
holder_json held =
    object (member (codes "place") (string (place_text held.place))
    (member (codes "who") (string held.who) no_members))

-- a day, and the places that are held on it
abbrev pub custodians_json : CustodiansShown → Data
custodians_json c =
    object (member (codes "day") (string (day_text c.day))
    (member (codes "places") (array (items_of (map holder_json c.holders.items))) no_members))

-- a bag: the codes of its items, its serial, and its spot
abbrev pub bag_json : BagShown → Data
bag_json bag =
    object (member (codes "items") (array (items_of (map string bag.items.items)))
    (member (codes "serial") (string bag.serial)
    (member (codes "spot") (string (spot_text bag.spot)) no_members)))

-- a moment, and who is in the room at it
abbrev pub room_json : RoomShown → Data
room_json room =
    object (member (codes "at") (string (moment_text room.at))
    (member (codes "in") (array (items_of (map string room.people.items))) no_members))

-- What is shown, as JSON. No request asks for steps, a sheet, custody or all rows, so these are an empty object.
abbrev pub shown_json : Shown → Data
shown_json (shown.People people) = people_json people.items
shown_json (shown.Custodians custodians) = custodians_json custodians
shown_json (shown.Bag bag) = bag_json bag
shown_json (shown.Room room) = room_json room
shown_json (shown.Steps steps) = object no_members
shown_json (shown.Sheet stays) = object no_members
shown_json (shown.Custody custody) = object no_members
shown_json (shown.All view) = object no_members

-- the answer to a question
unfoldable pub shown_text : Shown → List ℕ
shown_text answer = compact_text (shown_json answer)
