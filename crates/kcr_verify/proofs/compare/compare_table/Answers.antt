use Rattle.kcr_verify.proofs.compare.compare_table.Goals as goal

pub returns-in-People-clause-rows : goal.returns-in-People-clause-rows
returns-in-People-clause-rows g c clean A at = rw (c.in-People.is, ← c.deref.ensures.value) (c.compare_rows.ensures.rows clean A at)

pub returns-in-Trainings-clause-rows : goal.returns-in-Trainings-clause-rows
returns-in-Trainings-clause-rows g c clean A at = rw (c.in-Trainings.is, ← c.deref-in-Trainings.ensures.value) (c.compare_rows-in-Trainings.ensures.rows clean A at)

pub returns-in-Withdrawals-clause-rows : goal.returns-in-Withdrawals-clause-rows
returns-in-Withdrawals-clause-rows g c clean A at = rw (c.in-Withdrawals.is, ← c.deref-in-Withdrawals.ensures.value) (c.compare_rows-in-Withdrawals.ensures.rows clean A at)

pub returns-in-Appointments-clause-rows : goal.returns-in-Appointments-clause-rows
returns-in-Appointments-clause-rows g c clean A at = rw (c.in-Appointments.is, ← c.deref-in-Appointments.ensures.value) (c.compare_rows-in-Appointments.ensures.rows clean A at)

pub returns-in-Boxes-clause-rows : goal.returns-in-Boxes-clause-rows
returns-in-Boxes-clause-rows g c clean A at = rw (c.in-Boxes.is, ← c.deref-in-Boxes.ensures.value) (c.compare_rows-in-Boxes.ensures.rows clean A at)

pub returns-in-Safes-clause-rows : goal.returns-in-Safes-clause-rows
returns-in-Safes-clause-rows g c clean A at = rw (c.in-Safes.is, ← c.deref-in-Safes.ensures.value) (c.compare_rows-in-Safes.ensures.rows clean A at)

pub returns-in-Bags-clause-rows : goal.returns-in-Bags-clause-rows
returns-in-Bags-clause-rows g c clean A at = rw (c.in-Bags.is, ← c.deref-in-Bags.ensures.value) (c.compare_rows-in-Bags.ensures.rows clean A at)

pub returns-in-Items-clause-rows : goal.returns-in-Items-clause-rows
returns-in-Items-clause-rows g c clean A at = rw (c.in-Items.is, ← c.deref-in-Items.ensures.value) (c.compare_rows-in-Items.ensures.rows clean A at)

pub returns-in-Ceremonies-clause-rows : goal.returns-in-Ceremonies-clause-rows
returns-in-Ceremonies-clause-rows g c clean A at = rw (c.in-Ceremonies.is, ← c.deref-in-Ceremonies.ensures.value) (c.compare_rows-in-Ceremonies.ensures.rows clean A at)

pub returns-in-Marks-clause-rows : goal.returns-in-Marks-clause-rows
returns-in-Marks-clause-rows g c clean A at = rw (c.in-Marks.is, ← c.deref-in-Marks.ensures.value) (c.compare_rows-in-Marks.ensures.rows clean A at)

pub returns-in-Steps-clause-rows : goal.returns-in-Steps-clause-rows
returns-in-Steps-clause-rows g c clean A at = rw (c.in-Steps.is, ← c.deref-in-Steps.ensures.value) (c.compare_rows-in-Steps.ensures.rows clean A at)

pub returns-in-Seatings-clause-rows : goal.returns-in-Seatings-clause-rows
returns-in-Seatings-clause-rows g c clean A at = rw (c.in-Seatings.is, ← c.deref-in-Seatings.ensures.value) (c.compare_rows-in-Seatings.ensures.rows clean A at)

pub returns-in-Sheet-clause-rows : goal.returns-in-Sheet-clause-rows
returns-in-Sheet-clause-rows g c clean A at = rw (c.in-Sheet.is, ← c.deref-in-Sheet.ensures.value) (c.compare_rows-in-Sheet.ensures.rows clean A at)

pub returns-in-Stays-clause-rows : goal.returns-in-Stays-clause-rows
returns-in-Stays-clause-rows g c clean A at = rw (c.in-Stays.is, ← c.deref-in-Stays.ensures.value) (c.compare_rows-in-Stays.ensures.rows clean A at)

pub returns-in-Exceptions-clause-rows : goal.returns-in-Exceptions-clause-rows
returns-in-Exceptions-clause-rows g c clean A at = rw (c.in-Exceptions.is, ← c.deref-in-Exceptions.ensures.value) (c.compare_rows-in-Exceptions.ensures.rows clean A at)

pub returns-in-Keys-clause-rows : goal.returns-in-Keys-clause-rows
returns-in-Keys-clause-rows g c clean A at = rw (c.in-Keys.is, ← c.deref-in-Keys.ensures.value) (c.compare_commands.ensures.rows clean A at)
