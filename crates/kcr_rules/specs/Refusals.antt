-- Which refusals an act may get, by their numbers.
use Rattle.std.specs.Prelude.{ℕ, Bool, true, false, nat_eq, List, [], ◌∷◌}
use Rattle.std.specs.List.{list_any}
use Rattle.kcr_base.specs.{Refusal.number_of, declared.refusal.Refusal.Refusal}
use Rattle.kcr_history.specs.declared.commands.Act.{Act}
use Rattle.kcr_history.specs.declared.commands.Deed.{Deed, TheVariants.Take, TheVariants.Put, TheVariants.Cut}
use Rattle.kcr_history.specs.declared.commands.Act.TheVariants.{Enter, Train, Withdraw, Appoint, Replace, Release, AddBox, Plan, Ceremony}
use Rattle.kcr_history.specs.declared.commands.Deed.TheVariants.{AddItem, Open, Close, RecordSheet, SetSafe, Sign, RecordException, Seal}

-- the refusals of an act of this kind that not every act may get
abbrev pub refusals_of_deed : Deed → List ℕ
refusals_of_deed (AddItem item) = 12 ∷ 13 ∷ 20 ∷ 22 ∷ 30 ∷ []
refusals_of_deed Open = 12 ∷ 14 ∷ 20 ∷ 21 ∷ []
refusals_of_deed Close = 12 ∷ 20 ∷ 22 ∷ 31 ∷ []
refusals_of_deed (RecordSheet way people) = 12 ∷ 20 ∷ 22 ∷ 24 ∷ 25 ∷ 26 ∷ []
refusals_of_deed (SetSafe safe state by) = 12 ∷ 20 ∷ 22 ∷ 28 ∷ 30 ∷ []
refusals_of_deed (Sign step) = 12 ∷ 20 ∷ 22 ∷ 23 ∷ 32 ∷ []
refusals_of_deed (RecordException text true) = 12 ∷ 20 ∷ 22 ∷ 23 ∷ 32 ∷ []
refusals_of_deed (RecordException text false) = 12 ∷ 20 ∷ 22 ∷ []
refusals_of_deed (Seal serial items) = 12 ∷ 13 ∷ 20 ∷ 22 ∷ 29 ∷ 30 ∷ []
refusals_of_deed (Take serial) = 12 ∷ 20 ∷ 22 ∷ 28 ∷ 29 ∷ 30 ∷ []
refusals_of_deed (Put serial to) = 12 ∷ 20 ∷ 22 ∷ 28 ∷ 29 ∷ 30 ∷ []
refusals_of_deed (Cut serial) = 12 ∷ 20 ∷ 22 ∷ 29 ∷ 30 ∷ []

abbrev pub own_refusals : Act → List ℕ
own_refusals (Enter who name) = 13 ∷ []
own_refusals (Train who role since until) = 12 ∷ 13 ∷ 14 ∷ 15 ∷ []
own_refusals (Withdraw who role day) = 12 ∷ 17 ∷ 18 ∷ []
own_refusals (Appoint place who day) = 12 ∷ 15 ∷ 16 ∷ 18 ∷ []
own_refusals (Replace place who day) = 12 ∷ 14 ∷ 15 ∷ 16 ∷ 17 ∷ 18 ∷ []
own_refusals (Release place day) = 14 ∷ 17 ∷ 18 ∷ []
own_refusals (AddBox facility number place) = 13 ∷ 14 ∷ []
own_refusals (Plan number facility day script) = 13 ∷ 19 ∷ []
own_refusals (Ceremony ceremony at deed) = refusals_of_deed deed

-- one of these; or the register is full (27), out of memory (33), or an I/O error or an invalid row (34)
abbrev pub may_refuse : Act → Refusal → Bool
may_refuse act refusal = list_any (nat_eq (number_of refusal)) (27 ∷ 33 ∷ 34 ∷ own_refusals act)
