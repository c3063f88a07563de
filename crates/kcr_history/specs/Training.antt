-- What the history says of people, their training and the holders of places.
use Rattle.std.specs.Prelude.{ℕ, ◌==◌, Bool, true, false, ◌&&◌, nat_le, List, Option, Some, None, unwrap_or, if◌then◌else◌}
use Rattle.kcr_base.specs.Same.{same_text, is_this, same_role, same_place}
use Rattle.kcr_base.specs.declared.place.{Place.Place, Role.Role}
use Rattle.kcr_history.specs.{declared.commands.Act.Act, History.History, History.has_command, History.last_value_of_acts}
use Rattle.kcr_history.specs.declared.commands.Act.TheVariants.{Enter, Train, Withdraw, Appoint, Replace, Release}

-- PEOPLE

-- the command enters the person
abbrev pub enters : List ℕ → Act → Bool
enters who (Enter p name) = same_text p who
enters who act = false

-- the person is in the register: some accepted command has entered these initials
abbrev pub is_person : History → List ℕ → Bool
is_person A who = has_command (enters who) A

-- TRAINING

-- what a command says of the person's training for the role on the day: a training that covers the day, both ends
-- inclusive, that they are trained; a withdrawal from that day or an earlier one on, that they are not
abbrev pub training_effect : List ℕ → Role → ℕ → Act → Option Bool
training_effect who role day (Train p r since until) =
    if same_text p who && same_role r role && nat_le since day && nat_le day until then Some true else None
training_effect who role day (Withdraw p r from) =
    if same_text who p && same_role role r && nat_le from day then Some false else None
training_effect who role day act = None

-- the person is trained for the role on the day: the last command that says something of it says so
abbrev pub trained : History → List ℕ → Role → ℕ → Bool
trained A who role day = unwrap_or (last_value_of_acts (training_effect who role day) A) false

-- the command trains the person, for whatever role and days
abbrev pub trains_person : List ℕ → Act → Bool
trains_person who (Train p r since until) = same_text p who
trains_person who act = false

-- the person was ever trained: withdrawn training counts
abbrev pub ever_trained : History → List ℕ → Bool
ever_trained A who = has_command (trains_person who) A

-- the very same training
abbrev pub is_training : List ℕ → Role → ℕ → ℕ → Act → Bool
is_training who role since until (Train p r s u) = same_text who p && same_role role r && since == s && until == u
is_training who role since until act = false

-- CUSTODIANS

-- what a command says of the holder of a place from its day on: a person, or nobody
abbrev pub holder_effect : Place → ℕ → Act → Option (Option (List ℕ))
holder_effect place day (Appoint at who since) = if same_place at place && nat_le since day then Some (Some who) else None
holder_effect place day (Replace at who since) = if same_place at place && nat_le since day then Some (Some who) else None
holder_effect place day (Release at since) = if same_place at place && nat_le since day then Some None else None
holder_effect place day act = None

-- who holds the place on the day: whom the last command of the place with a day at most that day puts there
abbrev pub holder : History → Place → ℕ → Option (List ℕ)
holder A place day = unwrap_or (last_value_of_acts (holder_effect place day) A) None

-- the person holds the place on the day
abbrev pub is_holder : History → Place → ℕ → List ℕ → Bool
is_holder A place day who = is_this who (holder A place day)

-- the command puts the person in a place
abbrev pub puts : List ℕ → Act → Bool
puts who (Appoint at p since) = same_text p who
puts who (Replace at p since) = same_text p who
puts who act = false

-- the person was ever put in a place
abbrev pub was_custodian : History → List ℕ → Bool
was_custodian A who = has_command (puts who) A
