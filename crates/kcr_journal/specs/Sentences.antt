-- What happened, as a sentence: one for each kind of act.
use Rattle.std.specs.Prelude.{ℕ, Bool, true, false, List, [], ◌∷◌, ◌++◌, map, codes}
use Rattle.std.specs.{Fmt.decimal, List.flat_map}
use Rattle.kcr_base.specs.{Day.day_text, Role.role_text, Facility.facility_text, Place.place_text}
use Rattle.kcr_base.specs.declared.place.{Facility.Facility, Place.Place, Role.Role}
use Rattle.kcr_custody.specs.declared.SafeNumber.{SafeNumber}
use Rattle.kcr_custody.specs.declared.Destination.{Destination, TheVariants.SafeOne, TheVariants.DepositBox}
use Rattle.kcr_people.specs.declared.Person.{Person}
use Rattle.kcr_room.specs.declared.Way.{Way}
use Rattle.kcr_room.specs.declared.Way.TheVariants as way
use Rattle.kcr_history.specs.{Texts.safe_text, declared.commands.Act.Act}
use Rattle.kcr_history.specs.declared.commands.Deed.{Deed, TheVariants.Take, TheVariants.Put, TheVariants.Cut}
use Rattle.kcr_history.specs.declared.commands.Act.TheVariants.{Enter, Train, Withdraw, Appoint, Replace, Release, AddBox, Plan, Ceremony}
use Rattle.kcr_history.specs.declared.commands.Deed.TheVariants.{AddItem, Open, Close, RecordSheet, Sign, RecordException, SetSafe, Seal}

-- texts, one behind the other
abbrev pub joined : List (List ℕ) → List ℕ
joined texts = flat_map (λ text. text) texts

-- texts with a comma and a blank between each two
abbrev pub comma_list : List (List ℕ) → List ℕ
comma_list [] = []
comma_list (text ∷ texts) = text ++ flat_map (λ next. codes ", " ++ next) texts

-- a person by name and initials, as `Ann Abel (AA)`
abbrev pub person_text : Person → List ℕ
person_text person = person.name ++ codes " (" ++ person.who ++ codes ")"

abbrev pub people_text : List Person → List ℕ
people_text people = comma_list (map person_text people)

-- where a bag is put
abbrev pub destination_text : Destination → List ℕ
destination_text SafeOne = codes "safe 1"
destination_text (DepositBox number) = codes "box " ++ decimal number

-- what people do with the room
abbrev pub way_words : Way → List ℕ
way_words way.Enter = codes "entered"
way_words way.Leave = codes "left"

-- what happens to a safe
abbrev pub turned_word : Bool → List ℕ
turned_word true = codes "opened"
turned_word false = codes "shut"

-- ACTS ON PEOPLE, PLACES AND BOXES. `people` is who the command names, as a text

abbrev pub entered : List ℕ → List ℕ
entered people = people ++ codes " was entered."

abbrev pub trained : List ℕ → Role → ℕ → ℕ → List ℕ
trained people role since until =
    people ++ joined
    (codes " is trained as " ∷ role_text role ∷ codes " from " ∷ day_text since ∷ codes " until " ∷ day_text until
    ∷ codes "." ∷ [])

abbrev pub withdrawn : List ℕ → Role → ℕ → List ℕ
withdrawn people role day =
    people ++ joined
    (codes " is no longer trained as " ∷ role_text role ∷ codes " from " ∷ day_text day ∷ codes " on." ∷ [])

abbrev pub appointed : Place → List ℕ → ℕ → List ℕ
appointed place people day =
    people ++ joined (codes " holds " ∷ place_text place ∷ codes " from " ∷ day_text day ∷ codes " on." ∷ [])

abbrev pub replaced : Place → List ℕ → ℕ → List ℕ
replaced place people day =
    people ++ joined (codes " takes over " ∷ place_text place ∷ codes " from " ∷ day_text day ∷ codes " on." ∷ [])

abbrev pub released : Place → ℕ → List ℕ
released place day = joined (place_text place ∷ codes " is vacant from " ∷ day_text day ∷ codes " on." ∷ [])

abbrev pub box_added : Facility → ℕ → Place → List ℕ
box_added facility number place =
    joined
    (codes "Box " ∷ decimal number ∷ codes " at " ∷ facility_text facility ∷ codes " was added for "
    ∷ place_text place ∷ codes "." ∷ [])

-- ACTS OF A CEREMONY. `people` is who comes or goes, who fills the seats, or who opens or shuts a safe, as a text

abbrev pub planned : ℕ → Facility → ℕ → List ℕ
planned ceremony facility day =
    joined
    (codes "Ceremony " ∷ decimal ceremony ∷ codes " was planned at " ∷ facility_text facility ∷ codes " for "
    ∷ day_text day ∷ codes "." ∷ [])

abbrev pub opened : ℕ → List ℕ
opened ceremony = joined (codes "Ceremony " ∷ decimal ceremony ∷ codes " was opened." ∷ [])

abbrev pub closed : ℕ → List ℕ
closed ceremony = joined (codes "Ceremony " ∷ decimal ceremony ∷ codes " was closed." ∷ [])

abbrev pub moved : ℕ → Way → List ℕ → List ℕ
moved ceremony way people =
    people ++ joined (codes " " ∷ way_words way ∷ codes " the room of ceremony " ∷ decimal ceremony ∷ codes "." ∷ [])

abbrev pub signed : ℕ → ℕ → List ℕ → List ℕ
signed ceremony step people =
    joined
    (codes "Step " ∷ decimal step ∷ codes " of ceremony " ∷ decimal ceremony ∷ codes " was signed by " ∷ people
    ∷ codes "." ∷ [])

-- what an exception does beside: one that passes has its step, and who fills the seats
abbrev pub passing : Bool → List ℕ → List ℕ → List ℕ
passing false step people = []
passing true step people = joined (codes " passed step " ∷ step ∷ codes " with " ∷ people ∷ [])

-- an exception with this number
abbrev pub stated : ℕ → List ℕ → Bool → List ℕ → List ℕ → List ℕ → List ℕ
stated ceremony text pass people number step =
    joined (codes "Exception " ∷ number ∷ codes " of ceremony " ∷ decimal ceremony ∷ [])
    ++ passing pass step people ++ joined (codes ": " ∷ text ∷ [])

abbrev pub turned : ℕ → SafeNumber → Bool → List ℕ → List ℕ
turned ceremony safe is_open people =
    people ++ joined
    (codes " " ∷ turned_word is_open ∷ codes " safe " ∷ safe_text safe ∷ codes " in ceremony " ∷ decimal ceremony
    ∷ codes "." ∷ [])

abbrev pub item_added : ℕ → List ℕ → List ℕ
item_added ceremony item =
    joined (codes "Item " ∷ item ∷ codes " was added in ceremony " ∷ decimal ceremony ∷ codes "." ∷ [])

abbrev pub sealed : ℕ → List ℕ → List (List ℕ) → List ℕ
sealed ceremony serial items =
    joined
    (codes "Bag " ∷ serial ∷ codes " was sealed with " ∷ comma_list items ∷ codes " in ceremony " ∷ decimal ceremony
    ∷ codes "." ∷ [])

abbrev pub taken : ℕ → List ℕ → List ℕ
taken ceremony serial =
    joined (codes "Bag " ∷ serial ∷ codes " was taken to the table in ceremony " ∷ decimal ceremony ∷ codes "." ∷ [])

abbrev pub put_away : ℕ → List ℕ → Destination → List ℕ
put_away ceremony serial to =
    joined
    (codes "Bag " ∷ serial ∷ codes " was put into " ∷ destination_text to ∷ codes " in ceremony " ∷ decimal ceremony
    ∷ codes "." ∷ [])

abbrev pub cut_open : ℕ → List ℕ → List ℕ
cut_open ceremony serial =
    joined (codes "Bag " ∷ serial ∷ codes " was cut open in ceremony " ∷ decimal ceremony ∷ codes "." ∷ [])

-- ALL ACTS. `exception` and `passes` are the numbers of an exception and of the step that it passes

abbrev pub sentence_of_deed : ℕ → Deed → List ℕ → List ℕ → List ℕ → List ℕ
sentence_of_deed ceremony Open people exception passes = opened ceremony
sentence_of_deed ceremony Close people exception passes = closed ceremony
sentence_of_deed ceremony (RecordSheet way who) people exception passes = moved ceremony way people
sentence_of_deed ceremony (Sign step) people exception passes = signed ceremony step people
sentence_of_deed ceremony (RecordException text pass) people exception passes =
    stated ceremony text pass people exception passes
sentence_of_deed ceremony (AddItem item) people exception passes = item_added ceremony item
sentence_of_deed ceremony (SetSafe safe is_open by) people exception passes = turned ceremony safe is_open people
sentence_of_deed ceremony (Seal serial items) people exception passes = sealed ceremony serial items
sentence_of_deed ceremony (Take serial) people exception passes = taken ceremony serial
sentence_of_deed ceremony (Put serial to) people exception passes = put_away ceremony serial to
sentence_of_deed ceremony (Cut serial) people exception passes = cut_open ceremony serial

abbrev pub sentence : Act → List ℕ → List ℕ → List ℕ → List ℕ
sentence (Enter who name) people exception passes = entered people
sentence (Train who role since until) people exception passes = trained people role since until
sentence (Withdraw who role day) people exception passes = withdrawn people role day
sentence (Appoint place who day) people exception passes = appointed place people day
sentence (Replace place who day) people exception passes = replaced place people day
sentence (Release place day) people exception passes = released place day
sentence (AddBox facility number place) people exception passes = box_added facility number place
sentence (Plan ceremony facility day script) people exception passes = planned ceremony facility day
sentence (Ceremony ceremony at deed) people exception passes = sentence_of_deed ceremony deed people exception passes
