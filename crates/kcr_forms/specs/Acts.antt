-- Acts whose parts are values of their types.
use Rattle.std.specs.Prelude.{⊤, ℕ, List, All, IsUtf8}
use Rattle.kcr_base.specs.{Day.IsDay, Line.IsLine, Lists.IsListed, Place.IsPlace}
use Rattle.kcr_base.specs.{Initials.IsInitials, Serial.IsSerial, Moment.IsMoment, Number.IsNumber}
use Rattle.kcr_base.specs.declared.limits.TheConstants.{MAX_CEREMONY, MAX_REMARK, MAX_STEPS}
use Rattle.kcr_custody.specs.Destinations.{IsDestination}
use Rattle.kcr_history.specs.declared.commands.{Act.Act, Deed.Deed}
use Rattle.kcr_history.specs.declared.commands.Act.TheVariants.{Enter, Train, Withdraw, Appoint, Replace, Release, AddBox, Plan, Ceremony}
use Rattle.kcr_history.specs.declared.commands.Deed.TheVariants.{Open, Close, RecordSheet, Sign, RecordException, AddItem, SetSafe}
use Rattle.kcr_history.specs.declared.commands.Deed.TheVariants.{Seal, Take, Put, Cut}

-- one to thirty-two people, none of them twice
pub record ArePeople (people : List (List ℕ)) : Type 0 where
  pub listed : IsListed 32 people
  pub each : All IsInitials people

-- one to sixty-four items, none of them twice
pub record AreItems (items : List (List ℕ)) : Type 0 where
  pub listed : IsListed 64 items
  pub each : All IsSerial items

-- each part of what is done in a ceremony is a value of its type; those of which all are, as roles, are left out
abbrev pub IsDeed : Deed → Type 0
IsDeed Open = ⊤
IsDeed Close = ⊤
IsDeed (RecordSheet way who) = ArePeople who
IsDeed (Sign step) = IsNumber MAX_STEPS step
IsDeed (RecordException text pass) = IsLine MAX_REMARK text
IsDeed (AddItem item) = IsSerial item
IsDeed (SetSafe safe is_open by) = IsInitials by
IsDeed (Seal serial items) = IsSerial serial × AreItems items
IsDeed (Take serial) = IsSerial serial
IsDeed (Put serial to) = IsSerial serial × IsDestination to
IsDeed (Cut serial) = IsSerial serial

-- the same of an act
abbrev pub IsAct : Act → Type 0
IsAct (Enter who name) = IsInitials who × IsLine 120 name
IsAct (Train who role since until) = IsInitials who × IsDay since × IsDay until
IsAct (Withdraw who role day) = IsInitials who × IsDay day
IsAct (Appoint place who day) = IsPlace place × IsInitials who × IsDay day
IsAct (Replace place who day) = IsPlace place × IsInitials who × IsDay day
IsAct (Release place day) = IsPlace place × IsDay day
IsAct (AddBox facility number place) = IsNumber MAX_CEREMONY number × IsPlace place
IsAct (Plan number facility day script) = IsNumber MAX_CEREMONY number × IsDay day × IsUtf8 script
IsAct (Ceremony ceremony at deed) = IsNumber MAX_CEREMONY ceremony × IsDeed deed × IsMoment at
