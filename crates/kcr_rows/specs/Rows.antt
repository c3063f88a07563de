-- Written by tools/tables.py from tools/table_list.py: do not edit.
-- The row that stands for a value.
use Rattle.std.specs.Prelude.{[], ◌∷◌, pos}
use Rattle.sqlite.specs.{declared.types.Value.TheVariants.Int, declared.types.Value.TheVariants.Text, Order.Row}
use Rattle.kcr_base.specs.{Role.role_text, Place.place_text, Facility.facility_text}
use Rattle.kcr_rows.specs.{Values.int_or_null, Values.truth_number, declared.row_impls.Version.Version}
use Rattle.kcr_rows.specs.States.{safe_digit, loose_value, within_value, ceremony_number, step_number, way_number}
use Rattle.kcr_custody.specs.Spots.{spot_text}
use Rattle.kcr_script.specs.Seats.{written}
use Rattle.kcr_people.specs.declared.{Person.Person, Training.Training, Appointment.Appointment, Withdrawal.Withdrawal}
use Rattle.kcr_custody.specs.declared.{BoxRow.BoxRow, SafeRow.SafeRow, Bag.Bag, Item.Item}
use Rattle.kcr_history.specs.declared.row_types.{CeremonyRow.CeremonyRow, ExceptionRow.ExceptionRow}
use Rattle.kcr_history.specs.declared.row_types.{MarkRow.MarkRow, KeyRow.KeyRow, StepRow.StepRow, SeatingRow.SeatingRow}
use Rattle.kcr_room.specs.declared.{SheetRow.SheetRow, Stay.Stay}

abbrev pub person_row : Person → Row
person_row x = Text x.who ∷ Text x.name ∷ []

abbrev pub training_row : Training → Row
training_row x = Text x.who ∷ Text (role_text x.role) ∷ Int (pos x.since) ∷ Int (pos x.until) ∷ []

abbrev pub appointment_row : Appointment → Row
appointment_row x = Text (place_text x.place) ∷ Int (pos x.since) ∷ Text x.who ∷ int_or_null x.until ∷ []

abbrev pub box_row : BoxRow → Row
box_row x = Text (facility_text x.facility) ∷ Int (pos x.number) ∷ Text (place_text x.place) ∷ []

abbrev pub safe_row : SafeRow → Row
safe_row x = Text (facility_text x.facility) ∷ Int (pos (safe_digit x.safe)) ∷ Int (pos (truth_number x.is_open)) ∷ []

abbrev pub bag_row : Bag → Row
bag_row x = Text x.serial ∷ Text (spot_text x.spot) ∷ []

abbrev pub item_row : Item → Row
item_row x = Text x.code ∷ loose_value x.rest ∷ within_value x.rest ∷ []

abbrev pub ceremony_row : CeremonyRow → Row
ceremony_row x = Int (pos x.number) ∷ Text (facility_text x.facility) ∷ Int (pos x.day)
    ∷ Int (pos (ceremony_number x.state)) ∷ int_or_null x.opened ∷ int_or_null x.closed ∷ []

abbrev pub mark_row : MarkRow → Row
mark_row x = Int (pos x.ceremony) ∷ Int (pos x.at) ∷ []

abbrev pub step_row : StepRow → Row
step_row x = Int (pos x.ceremony) ∷ Int (pos x.step) ∷ Text x.activity ∷ Text (written x.seats)
    ∷ Int (pos (step_number x.state)) ∷ int_or_null x.at ∷ []

abbrev pub seating_row : SeatingRow → Row
seating_row x = Int (pos x.ceremony) ∷ Int (pos x.step) ∷ Int (pos x.seat) ∷ Text x.who ∷ []

abbrev pub sheet_row : SheetRow → Row
sheet_row x = Text x.who ∷ Int (pos x.at) ∷ Int (pos x.ceremony) ∷ Int (pos (way_number x.way)) ∷ []

abbrev pub exception_row : ExceptionRow → Row
exception_row x = Int (pos x.ceremony) ∷ Int (pos x.exception) ∷ Text x.text ∷ Int (pos x.at) ∷ int_or_null x.passed
    ∷ []

abbrev pub version_row : Version → Row
version_row x = Int (pos x.number) ∷ []

abbrev pub key_row : KeyRow → Row
key_row x = Text x.key ∷ Int (pos x.accepted) ∷ Text x.command ∷ Text x.reply ∷ []

abbrev pub stay_row : Stay → Row
stay_row x = Text x.who ∷ Int (pos x.since) ∷ Int (pos x.ceremony) ∷ int_or_null x.until ∷ []

abbrev pub withdrawal_row : Withdrawal → Row
withdrawal_row x = Text x.who ∷ Text (role_text x.role) ∷ Int (pos x.since) ∷ Int (pos x.until) ∷ Int (pos x.day) ∷ []
