-- When two codes are the same, and their order, as tests that compute.
use Rattle.std.specs.Prelude.{ℕ, Bool, false, ◌&&◌, nat_eq, List, Option, Some, None}
use Rattle.std.specs.{Ordering.nat_cmp, Ordering.is_lt, Cmp.Lexicographic.pointwise, Cmp.Lexicographic.slice_cmp}
use Rattle.kcr_base.specs.declared.place.Facility.{Facility, TheVariants.East, TheVariants.West}
use Rattle.kcr_base.specs.declared.place.{Role.Role, Place.Place, Place.TheVariants.Co, Place.TheVariants.Rksh}
use Rattle.kcr_base.specs.declared.place.Role.TheVariants.{Ca, Iw, Sa, Ssc1, Ssc2, Rkos, Sw}

-- two codes or texts are the same bytes
abbrev pub same_text : List ℕ → List ℕ → Bool
same_text a b = pointwise nat_eq a b

-- there is a code, and it is this one
abbrev pub is_this : List ℕ → Option (List ℕ) → Bool
is_this code None = false
is_this code (Some other) = same_text other code

-- the first stands before the second in byte order
abbrev pub is_before : List ℕ → List ℕ → Bool
is_before a b = is_lt (slice_cmp nat_cmp a b)

-- the place of a facility in their order
abbrev pub facility_number : Facility → ℕ
facility_number East = 0
facility_number West = 1

abbrev pub same_facility : Facility → Facility → Bool
same_facility a b = nat_eq (facility_number a) (facility_number b)

-- the place of a role in their order
abbrev pub role_number : Role → ℕ
role_number Ca = 0
role_number Iw = 1
role_number Sa = 2
role_number Ssc1 = 3
role_number Ssc2 = 4
role_number Rkos = 5
role_number Sw = 6

abbrev pub same_role : Role → Role → Bool
same_role a b = nat_eq (role_number a) (role_number b)

-- the same kind of place, at the same facility, with the same number
abbrev pub same_place : Place → Place → Bool
same_place (Co f n) (Co g m) = same_facility f g && nat_eq n m
same_place (Co f n) (Rksh m) = false
same_place (Rksh n) (Co g m) = false
same_place (Rksh n) (Rksh m) = nat_eq n m
