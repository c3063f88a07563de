-- Worked examples: people, days and moments, acts, and histories.
use Rattle.std.specs.Prelude.{ℕ, suc, ◌+◌, ◌*◌, List, [], ◌∷◌, ◌++◌, codes, Option, Some, None}
use Rattle.std.specs.Fmt.{decimal}
use Rattle.kcr_base.specs.declared.place.Facility.TheVariants.{East, West}
use Rattle.kcr_base.specs.declared.place.{Place.TheVariants.Co, Role.TheVariants.Ca, Role.TheVariants.Iw}
use Rattle.kcr_room.specs.declared.Way.TheVariants as Ways
use Rattle.kcr_history.specs.{declared.commands.Act.Act, History.History, Machine.reply_to, Machine.with_command}
use Rattle.kcr_history.specs.declared.commands.Act.TheVariants.{Enter, Train, Appoint, Plan, Ceremony}
use Rattle.kcr_history.specs.declared.commands.Deed.TheVariants.{AddItem, Open, RecordSheet, Sign, Seal, Cut}
use Rattle.kcr_laws.specs.Runs.{new_command}

-- PEOPLE, DAYS AND MOMENTS

abbrev pub AA : List ℕ
AA = codes "AA"

abbrev pub BB : List ℕ
BB = codes "BB"

abbrev pub CC : List ℕ
CC = codes "CC"

abbrev pub EA : List ℕ
EA = codes "EA"

abbrev pub EB : List ℕ
EB = codes "EB"

abbrev pub EE : List ℕ
EE = codes "EE"

abbrev pub WC : List ℕ
WC = codes "WC"

-- 2025-01-01
abbrev pub new_year : ℕ
new_year = 20089

-- 2025-02-13
abbrev pub that_day : ℕ
that_day = 20132

-- a moment of 2025-02-13
abbrev pub clock : ℕ → ℕ → ℕ → ℕ
clock hours minutes seconds = 86400 * that_day + (3600 * hours + (60 * minutes + seconds))

-- COMMANDS

-- the act accepted, with these people if seats are needed
abbrev pub with_act : History → Act → Option (List (List ℕ)) → History
with_act A act people = with_command A (new_command A act) (reply_to A act people)

-- the acts accepted one after the other, none of which needs seats
abbrev pub with_acts : History → List Act → History
with_acts A [] = A
with_acts A (act ∷ acts) = with_acts (with_act A act None) acts

-- acts that are all accepted, and need no seats: the first is the nth accepted command
abbrev pub accepted_from : ℕ → List Act → List (Act × List ℕ)
accepted_from n [] = []
accepted_from n (act ∷ acts) = (act, codes "{\"accepted\":" ++ (decimal n ++ codes "}")) ∷ accepted_from (suc n) acts

-- a text of these lines, each ended by a line feed
abbrev pub lines : List (List ℕ) → List ℕ
lines [] = []
lines (text ∷ texts) = text ++ (10 ∷ lines texts)

-- A CEREMONY ON 2025-02-13

abbrev pub first_row : List ℕ
first_row = codes "step,activity,seats\n"

-- a script of one step with these seats
abbrev pub script_of_one : List ℕ → List ℕ
script_of_one seats = first_row ++ (codes "1,Check bags," ++ (seats ++ codes "\n"))

-- seven people; two of them trained; four custodians; ceremony 61 planned at EAST with the script, and opened at
-- 20:00:00
abbrev pub opening_acts : List ℕ → List Act
opening_acts script =
    Enter AA (codes "Ann Abel")
    ∷ Enter BB (codes "Bob Berg")
    ∷ Enter CC (codes "Cole, Cy")
    ∷ Enter EA (codes "Eva Ames")
    ∷ Enter EB (codes "Eli Boon")
    ∷ Enter EE (codes "Eda East")
    ∷ Enter WC (codes "Wim Cobb")
    ∷ Train AA Ca new_year that_day
    ∷ Train AA Iw new_year that_day
    ∷ Train BB Ca new_year that_day
    ∷ Appoint (Co East 1) EA new_year
    ∷ Appoint (Co East 2) EB new_year
    ∷ Appoint (Co East 5) EE new_year
    ∷ Appoint (Co West 3) WC new_year
    ∷ Plan 61 East that_day script
    ∷ Ceremony 61 (clock 20 0 0) Open
    ∷ []

abbrev pub opened_with : List ℕ → History
opened_with script = with_acts [] (opening_acts script)

-- people come into the room of ceremony 61, or go out of it
abbrev pub come : List (List ℕ) → ℕ → Act
come people at = Ceremony 61 at (RecordSheet Ways.Enter people)

abbrev pub leave : List (List ℕ) → ℕ → Act
leave people at = Ceremony 61 at (RecordSheet Ways.Leave people)

-- the ceremony opened, with these people in its room since 20:05:00
abbrev pub opened_with_people : List ℕ → List (List ℕ) → History
opened_with_people script people = with_act (opened_with script) (come people (clock 20 5 0)) None

-- after AA and BB have signed the only step, BB as CA and AA as IW
abbrev pub signed_by_two : History
signed_by_two =
    with_act (opened_with_people (script_of_one (codes "CA;IW")) (AA ∷ BB ∷ [])) (Ceremony 61 (clock 20 10 0) (Sign 1))
    (Some (BB ∷ AA ∷ []))

-- two bags
abbrev pub bag_7 : List ℕ
bag_7 = codes "BB51184287"

abbrev pub bag_8 : List ℕ
bag_8 = codes "BB51184288"

abbrev pub HSM4 : List ℕ
HSM4 = codes "HSM4"

-- after an item was sealed, its bag cut, and the item sealed again in another; the only step signed; and nobody left in
-- the room
abbrev pub bag_on_table : History
bag_on_table =
    with_act
    (with_act
    (with_acts (opened_with_people (script_of_one (codes "IW")) (AA ∷ BB ∷ []))
    (Ceremony 61 (clock 20 6 0) (AddItem HSM4)
    ∷ Ceremony 61 (clock 20 7 0) (Seal bag_7 (HSM4 ∷ []))
    ∷ Ceremony 61 (clock 20 8 0) (Cut bag_7)
    ∷ Ceremony 61 (clock 20 9 0) (Seal bag_8 (HSM4 ∷ []))
    ∷ []))
    (Ceremony 61 (clock 20 10 0) (Sign 1)) (Some (AA ∷ [])))
    (leave (AA ∷ BB ∷ []) (clock 20 15 0)) None

-- a person, and nothing else
abbrev pub entered : History
entered = with_acts [] (Enter AA (codes "Ann Abel") ∷ [])
