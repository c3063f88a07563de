-- The four safes of a new register, put one after the other.
use Rattle.kcr_tables.proofs.Common.{◌≡◌, [], List, refl, ap, put_in, safe_row, version_row}
use Rattle.sqlite.specs.Order.{value_cmp}
use Rattle.sqlite_tied.specs.Compute.{everything}
use Rattle.kcr_base.specs.declared.place.Facility.TheVariants.{East, West}
use Rattle.kcr_custody.specs.declared.{SafeNumber.TheVariants.One, SafeNumber.TheVariants.Two, SafeRow.SafeRow}
use Rattle.kcr_tables.specs.NewTables.{empty_tables, new_tables, shut}

-- in the order of their keys
safes_are : put_in 2 safe_row (shut West Two)
    (put_in 2 safe_row (shut West One) (put_in 2 safe_row (shut East Two) (put_in 2 safe_row (shut East One) []))) ≡ new_tables.rows.safes
unfolding value_cmp everything lib.Ieee.is_nan lib.Ieee.lt
safes_are = refl

-- the four safes put into empty tables, beside the number of the version, make a new register
pub first_is : record {
  rows = record empty_tables.rows {
    safes = put_in 2 safe_row (shut West Two) (put_in 2 safe_row (shut West One) (put_in 2 safe_row (shut East Two) (put_in 2 safe_row (shut East One) [])));
  };
  versions = put_in 1 version_row (record { number = 3 }) [];
} ≡ new_tables
first_is = ap (λ (l : List SafeRow). record new_tables { rows = record new_tables.rows { safes = l } }) safes_are
