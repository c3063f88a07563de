-- Written by tools/tables.py from tools/table_list.py: do not edit.
-- What the cells of each table's columns are.
use Rattle.std.specs.Prelude.{List, [], ◌∷◌}
use Rattle.kcr_rows.specs.declared.kinds.Kind.{Kind}
use Rattle.kcr_rows.specs.declared.kinds.Kind.TheVariants.{Activity, Box, Ceremony, CeremonyState, Command, Day, Truth, Version, Way, Within}
use Rattle.kcr_rows.specs.declared.kinds.Kind.TheVariants.{DayOrNull, Exception, Facility, Initials, Key, Loose, Moment}
use Rattle.kcr_rows.specs.declared.kinds.Kind.TheVariants.{MomentOrNull, Name, Officer, Place, Remark, Role, Safe, Seat}
use Rattle.kcr_rows.specs.declared.kinds.Kind.TheVariants.{Seats, Serial, Spot, Step, StepOrNull, StepState, Text}

abbrev pub person_kinds : List Kind
person_kinds = Initials ∷ Name ∷ []

abbrev pub training_kinds : List Kind
training_kinds = Initials ∷ Role ∷ Day ∷ Day ∷ []

abbrev pub appointment_kinds : List Kind
appointment_kinds = Place ∷ Day ∷ Initials ∷ DayOrNull ∷ []

abbrev pub box_kinds : List Kind
box_kinds = Facility ∷ Box ∷ Officer ∷ []

abbrev pub safe_kinds : List Kind
safe_kinds = Facility ∷ Safe ∷ Truth ∷ []

abbrev pub bag_kinds : List Kind
bag_kinds = Serial ∷ Spot ∷ []

abbrev pub item_kinds : List Kind
item_kinds = Serial ∷ Loose ∷ Within ∷ []

abbrev pub ceremony_kinds : List Kind
ceremony_kinds = Ceremony ∷ Facility ∷ Day ∷ CeremonyState ∷ MomentOrNull ∷ MomentOrNull ∷ []

abbrev pub mark_kinds : List Kind
mark_kinds = Ceremony ∷ Moment ∷ []

abbrev pub step_kinds : List Kind
step_kinds = Ceremony ∷ Step ∷ Activity ∷ Seats ∷ StepState ∷ MomentOrNull ∷ []

abbrev pub seating_kinds : List Kind
seating_kinds = Ceremony ∷ Step ∷ Seat ∷ Initials ∷ []

abbrev pub sheet_kinds : List Kind
sheet_kinds = Initials ∷ Moment ∷ Ceremony ∷ Way ∷ []

abbrev pub exception_kinds : List Kind
exception_kinds = Ceremony ∷ Exception ∷ Remark ∷ Moment ∷ StepOrNull ∷ []

abbrev pub version_kinds : List Kind
version_kinds = Version ∷ []

abbrev pub key_kinds : List Kind
key_kinds = Key ∷ Command ∷ Text ∷ Text ∷ []

abbrev pub stay_kinds : List Kind
stay_kinds = Initials ∷ Moment ∷ Ceremony ∷ MomentOrNull ∷ []

abbrev pub withdrawal_kinds : List Kind
withdrawal_kinds = Initials ∷ Role ∷ Day ∷ Day ∷ Day ∷ []
