-- The texts of the roles of staff.
use Rattle.std.specs.Prelude.{ℕ, List, codes}
use Rattle.kcr_base.specs.declared.place.Role.{Role}
use Rattle.kcr_base.specs.declared.place.Role.TheVariants.{Ca, Iw, Sa, Ssc1, Ssc2, Rkos, Sw}

abbrev pub role_text : Role → List ℕ
role_text Ca = codes "CA"
role_text Iw = codes "IW"
role_text Sa = codes "SA"
role_text Ssc1 = codes "SSC1"
role_text Ssc2 = codes "SSC2"
role_text Rkos = codes "RKOS"
role_text Sw = codes "SW"
