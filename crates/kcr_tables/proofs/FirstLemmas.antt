-- Written by tools/tables.py from tools/table_list.py: do not edit.
-- A new register.
use Rattle.std.proofs.Common.{◌≡◌}
use Rattle.sqlite.specs.Effect.{Database}
use Rattle.sqlite_catalog.specs.Listing.{IsSound}
use Rattle.kcr_rows.specs.Columns.{AreEmpty}
use Rattle.kcr_rows.proofs.CreateLemmas.{bare}
use Rattle.kcr_tables.specs.StoredTables.{Holds, people_place, trainings_place, appointments_place, boxes_place, safes_place, bags_place, items_place}
use Rattle.kcr_tables.specs.StoredTables.{ceremonies_place, marks_place, steps_place, seatings_place, sheet_place, exceptions_place, versions_place, keys_place}
use Rattle.kcr_tables.specs.StoredTables.{stays_place, withdrawals_place}
use Rattle.kcr_tables.specs.{NewTables.empty_tables, Schema.all_tables, Creation.schema_prefix}

-- a database with the schema of a register and no entries holds no rows
pub holds_nothing : (db : Database) → db.schema ≡ schema_prefix 17 → AreEmpty all_tables db.trees → IsSound (schema_prefix 17) db.trees → Holds db empty_tables
holds_nothing db is empty sound =
    let (people, (trainings, (appointments, (boxes, (safes, (bags, (items, (ceremonies, (marks, others))))))))) = empty in
    let (steps, (seatings, (sheet, (exceptions, (versions, (keys, (stays, (withdrawals, _)))))))) = others in
    record {
      schema = is;
      kept = record {
        sound = sound;
        people = bare people_place db.trees people;
        trainings = bare trainings_place db.trees trainings;
        appointments = bare appointments_place db.trees appointments;
        boxes = bare boxes_place db.trees boxes;
        safes = bare safes_place db.trees safes;
        bags = bare bags_place db.trees bags;
        items = bare items_place db.trees items;
        ceremonies = bare ceremonies_place db.trees ceremonies;
        marks = bare marks_place db.trees marks;
        steps = bare steps_place db.trees steps;
        seatings = bare seatings_place db.trees seatings;
        sheet = bare sheet_place db.trees sheet;
        exceptions = bare exceptions_place db.trees exceptions;
        versions = bare versions_place db.trees versions;
        keys = bare keys_place db.trees keys;
        stays = bare stays_place db.trees stays;
        withdrawals = bare withdrawals_place db.trees withdrawals;
        spot = tt;
        seats = tt;
      };
    }
