-- What the rows of a register's tables say is what its history says.

-- the number of an accepted command is how many have been accepted with it
pub use Rattle.kcr_history.proofs.Steps.{numbers}
-- of any history: a person is in the table of people, was ever trained, or was ever put in a place by the rows if and
-- only if some command says so
pub use Rattle.kcr_history.proofs.Words.{is_person-people, ever_trained-trainings, ever_put-appointments}
-- by the trainings and withdrawals of a register somebody is trained for a role on a day if and only if the last command
-- on it is a training that covers the day
pub use Rattle.kcr_history.proofs.Trained.{trained-rows}
-- by the appointments of a register a place is held on a day by whom the last command of the place with a day at most
-- that day puts there
pub use Rattle.kcr_history.proofs.Orderly.{holder-appointments}
-- the settled day is that of the greatest row of marks, in whatever order the rows come
pub use Rattle.kcr_history.proofs.Settled.{settled-rows}
