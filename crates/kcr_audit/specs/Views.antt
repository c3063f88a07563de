-- The rows of a view as tables.
use Rattle.kcr_history.specs.{declared.views.FullView.FullView, Tables.Tables}

-- begin: written by tools/tables.py

-- the rows of each table
abbrev pub tables_of : FullView → Tables
tables_of view =
    record {
      people = view.view.people.items;
      trainings = view.view.trainings.items;
      withdrawals = view.view.withdrawals.items;
      appointments = view.view.appointments.items;
      boxes = view.view.boxes.items;
      safes = view.view.safes.items;
      bags = view.view.bags.items;
      items = view.view.items.items;
      ceremonies = view.view.ceremonies.items;
      marks = view.view.marks.items;
      steps = view.view.steps.items;
      seatings = view.view.seatings.items;
      sheet = view.sheet.items;
      stays = view.view.stays.items;
      exceptions = view.view.exceptions.items;
      keys = view.keys.items;
    }

-- end: written by tools/tables.py
