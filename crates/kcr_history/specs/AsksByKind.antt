-- Which rows each kind of command asks for.
use Rattle.std.specs.Prelude.{ℕ, true, false, List, [], ◌∷◌, Option, Some, None}
use Rattle.kcr_base.specs.{Days.day_of, declared.place.Place.Place}
use Rattle.kcr_room.specs.declared.Way.{Way}
use Rattle.kcr_room.specs.declared.Way.TheVariants as Ways
use Rattle.kcr_history.specs.declared.{commands.Act.Act, commands.Command.Command, views.Asks.Asks, views.ItemFilter.ItemFilter}
use Rattle.kcr_history.specs.declared.commands.Deed.{Deed, TheVariants.Take, TheVariants.Put, TheVariants.Cut}
use Rattle.kcr_history.specs.declared.commands.Act.TheVariants.{Enter, Train, Withdraw, Appoint, Replace, Release, AddBox, Plan, Ceremony}
use Rattle.kcr_history.specs.declared.commands.Deed.TheVariants.{AddItem, Open, Close, RecordSheet, Sign, RecordException, SetSafe, Seal}
use Rattle.kcr_history.specs.declared.views.AppointmentFilter.TheVariants as Appointments
use Rattle.kcr_history.specs.declared.views.ItemFilter.TheVariants as Items
use Rattle.kcr_history.specs.declared.views.Selection.{Selection, TheVariants.Nothing, TheVariants.Matching, TheVariants.All}
use Rattle.kcr_history.specs.declared.views.TrainingFilter.TheVariants as Trainings

-- no rows
abbrev pub asks_nothing : Asks
asks_nothing =
    record {
      people = Nothing;
      trainings = Nothing;
      withdrawals = Nothing;
      appointments = Nothing;
      boxes = false;
      safes = false;
      bags = Nothing;
      items = Nothing;
      ceremonies = Nothing;
      marks = Nothing;
      steps = None;
      exceptions = Nothing;
      stays = Nothing;
      stay_count = None;
    }

-- the ceremony with its mark, the stays in its room that last to the moment, and of these people the last stay anywhere
abbrev pub asks_room : ℕ → List (List ℕ) → ℕ → Asks
asks_room ceremony people at =
    record asks_nothing {
      ceremonies =
          Matching ceremony;
      marks = Matching ceremony;
      stays = Matching (record { ceremony = ceremony; at = at; people = people });
    }

-- the same, and whatever tells who in the room is trained at the moment: the trainings that last to its day, whosever
-- they are, and all withdrawals
abbrev pub asks_trained : ℕ → ℕ → Asks
asks_trained ceremony at =
    record (asks_room ceremony [] at) { trainings = Matching (Trainings.EndingOnOrAfter (day_of at)); withdrawals = All }

-- what a bag's way into a safe or out of it asks for: the bag, the safes, the boxes and the appointments that last
-- beyond the day, which tell the holders of their places
abbrev pub asks_bag : ℕ → List ℕ → ℕ → Asks
asks_bag ceremony serial at =
    record (asks_trained ceremony at) {
      bags = Matching serial;
      safes = true;
      boxes = true;
      appointments = Matching (Appointments.EndingAfter (day_of at));
    }

-- the person
abbrev pub asks_person : List ℕ → Asks
asks_person who = record asks_nothing { people = Matching (who ∷ []) }

-- the person, their trainings and their last appointment
abbrev pub asks_to_train : List ℕ → Asks
asks_to_train who =
    record (asks_person who) {
      trainings = Matching (Trainings.Person who);
      appointments = Matching (Appointments.Person who);
    }

-- the person, their trainings and withdrawals, and the marks, which settle days
abbrev pub asks_to_withdraw : List ℕ → Asks
asks_to_withdraw who =
    record (asks_person who) { trainings = Matching (Trainings.Person who); withdrawals = Matching who; marks = All }

-- the person and their trainings, the last appointment to the place and that of the person, and the marks
abbrev pub asks_to_appoint : Place → List ℕ → Asks
asks_to_appoint place who =
    record (asks_person who) {
      trainings = Matching (Trainings.Person who);
      appointments = Matching (Appointments.LastToPlaceAndOfPerson place who);
      marks = All;
    }

-- the last appointment to the place, and the marks
abbrev pub asks_to_release : Place → Asks
asks_to_release place = record asks_nothing { appointments = Matching (Appointments.Place place); marks = All }

-- to close a ceremony: its room, its next step, the safes and the bags
abbrev pub asks_to_close : ℕ → ℕ → Asks
asks_to_close ceremony at =
    record (asks_room ceremony [] at) {
      steps = Some (record { ceremony = ceremony; step = None });
      safes = true;
      bags = All;
    }

-- who opens or shuts a safe, with their trainings
abbrev pub asks_to_turn : ℕ → List ℕ → ℕ → Asks
asks_to_turn ceremony by at =
    record (asks_room ceremony [] at) {
      people = Matching (by ∷ []);
      trainings = Matching (Trainings.Person by);
      withdrawals = Matching by;
      safes = true;
    }

-- all boxes
abbrev pub asks_boxes : Asks
asks_boxes = record asks_nothing { boxes = true }

-- ceremonies alone
abbrev pub asks_ceremonies : Selection ℕ → Asks
asks_ceremonies ceremonies = record asks_nothing { ceremonies = ceremonies }

-- the item
abbrev pub asks_to_add : ℕ → List ℕ → ℕ → Asks
asks_to_add ceremony item at = record (asks_trained ceremony at) { items = Matching (Items.Codes (item ∷ [])) }

-- if people come in, how many stays the ceremony has
abbrev pub stay_count_asked : Way → ℕ → Option ℕ
stay_count_asked Ways.Enter ceremony = Some ceremony
stay_count_asked Ways.Leave ceremony = None

-- the people, with the room and their last stays anywhere, and how many stays there are
abbrev pub asks_sheet : ℕ → Way → List (List ℕ) → ℕ → Asks
asks_sheet ceremony way people at =
    record (asks_room ceremony people at) { people = Matching people; stay_count = stay_count_asked way ceremony }

-- the step, and the appointments that last beyond the day
abbrev pub asks_to_sign : ℕ → ℕ → ℕ → Asks
asks_to_sign ceremony step at =
    record (asks_trained ceremony at) {
      steps = Some (record { ceremony = ceremony; step = Some step });
      appointments = Matching (Appointments.EndingAfter (day_of at));
    }

-- the next step and the exceptions of the ceremony
abbrev pub asks_to_except : ℕ → ℕ → Asks
asks_to_except ceremony at =
    record (asks_trained ceremony at) {
      steps = Some (record { ceremony = ceremony; step = None });
      exceptions = Matching ceremony;
    }

-- the bag and items
abbrev pub asks_items : ℕ → List ℕ → ItemFilter → ℕ → Asks
asks_items ceremony serial items at = record (asks_trained ceremony at) { bags = Matching serial; items = Matching items }

abbrev pub asks_sealed : ℕ → List ℕ → List (List ℕ) → ℕ → Asks
asks_sealed ceremony serial codes at = asks_items ceremony serial (Items.Codes codes) at

-- of people those that the command names; of trainings and appointments theirs, or in a room those that last to the day
-- of the act; presence is read from the stays that last to its moment; a ceremony's own rows by its number
abbrev pub asks_of_deed : ℕ → ℕ → Deed → Asks
asks_of_deed ceremony at (AddItem item) = asks_to_add ceremony item at
asks_of_deed ceremony at Open = asks_ceremonies All
asks_of_deed ceremony at Close = asks_to_close ceremony at
asks_of_deed ceremony at (RecordSheet way people) = asks_sheet ceremony way people at
asks_of_deed ceremony at (Sign step) = asks_to_sign ceremony step at
asks_of_deed ceremony at (RecordException text pass) = asks_to_except ceremony at
asks_of_deed ceremony at (SetSafe safe state by) = asks_to_turn ceremony by at
asks_of_deed ceremony at (Seal serial items) = asks_sealed ceremony serial items at
asks_of_deed ceremony at (Take serial) = asks_bag ceremony serial at
asks_of_deed ceremony at (Put serial to) = asks_bag ceremony serial at
asks_of_deed ceremony at (Cut serial) = asks_items ceremony serial (Items.Bag serial) at

abbrev pub asks_of_act : Act → Asks
asks_of_act (Enter who name) = asks_person who
asks_of_act (Train who role since until) = asks_to_train who
asks_of_act (Withdraw who role day) = asks_to_withdraw who
asks_of_act (Appoint place who day) = asks_to_appoint place who
asks_of_act (Replace place who day) = asks_to_appoint place who
asks_of_act (Release place day) = asks_to_release place
asks_of_act (AddBox facility number place) = asks_boxes
asks_of_act (Plan number facility day script) = asks_ceremonies (Matching number)
asks_of_act (Ceremony ceremony at deed) = asks_of_deed ceremony at deed

-- what the decision of a command reads
abbrev pub asks_of : Command → Asks
asks_of x = asks_of_act x.act
