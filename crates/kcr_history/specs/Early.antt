-- The part of what a command asks for that is read first, since it tells whether the command is refused whoever is in
-- the room.
use Rattle.std.specs.Prelude.{◌≡◌, None}
use Rattle.kcr_history.specs.declared.views.{Asks.Asks, View.View, Selection.TheVariants.Nothing}

-- the rows asked for, but for trainings, withdrawals, appointments and stays
abbrev pub early_asks : Asks → Asks
early_asks asks =
    record asks {
      trainings = Nothing;
      withdrawals = Nothing;
      appointments = Nothing;
      stays = Nothing;
      stay_count = None;
    }

-- the view has the rows of the one that was read first, and its own trainings, withdrawals, appointments and stays
abbrev pub Completes : View → View → Type 0
Completes early view =
    view ≡ record early {
      trainings = view.trainings;
      withdrawals = view.withdrawals;
      appointments = view.appointments;
      stays = view.stays;
      stay_count = view.stay_count;
    }
