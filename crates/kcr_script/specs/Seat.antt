-- The texts of seats.
use Rattle.std.specs.Prelude.{ℕ, ◌+◌, nat_lt, Bool, List, [], ◌∷◌, ◌++◌, codes}
use Rattle.kcr_base.specs.declared.place.Role.TheVariants.{Ca, Iw, Sa, Ssc1, Ssc2, Rkos, Sw}
use Rattle.kcr_script.specs.declared.seat.Seat.{Seat}
use Rattle.kcr_script.specs.declared.seat.Seat.TheVariants.{Staff, AnyCo, AnyRksh, Co, Rksh}
use Rattle.kcr_base.specs.{Place.IsPlaceNumber, Role.role_text}

-- the text of a seat
abbrev pub seat_text : Seat → List ℕ
seat_text (Staff role) = role_text role
seat_text AnyCo = codes "CO"
seat_text AnyRksh = codes "RKSH"
seat_text (Co n) = codes "CO/" ++ (48 + n) ∷ []
seat_text (Rksh n) = codes "RKSH/" ++ (48 + n) ∷ []

-- a seat whose number, if it has one, is that of a place
abbrev pub IsSeat : Seat → Type 0
IsSeat (Staff role) = Unit {0}
IsSeat AnyCo = Unit {0}
IsSeat AnyRksh = Unit {0}
IsSeat (Co n) = IsPlaceNumber n
IsSeat (Rksh n) = IsPlaceNumber n

-- the seats without a number by 0 to 8, and 9 for the others
abbrev pub kind : Seat → ℕ
kind (Staff Ca) = 0
kind (Staff Iw) = 1
kind (Staff Sa) = 2
kind (Staff Ssc1) = 3
kind (Staff Ssc2) = 4
kind (Staff Rkos) = 5
kind (Staff Sw) = 6
kind AnyCo = 7
kind AnyRksh = 8
kind (Co n) = 9
kind (Rksh n) = 9

-- whether a star may follow the seat
abbrev pub can_repeat : Seat → Bool
can_repeat s = nat_lt (kind s) 9
