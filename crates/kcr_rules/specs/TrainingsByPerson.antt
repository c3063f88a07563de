-- The trainings of each of some people.
use Rattle.std.specs.Prelude.{ℕ, List, map, filter}
use Rattle.kcr_people.specs.declared.Training.{Training}
use Rattle.kcr_history.specs.Views.{is_training_of}

-- for each of the people their own trainings, in the people's order
abbrev pub trainings_by_person : List Training → List (List ℕ) → List (List Training)
trainings_by_person trainings people = map (λ who. filter (is_training_of who) trainings) people
