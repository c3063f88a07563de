-- Laws of scripts: what is read of a text is what the text stands for, and has its form.
use Rattle.kcr_script.proofs.Common.{◌↔◌, Ok, Err, Seat, Step, StandsFor, IsSeats, IsScript, BreaksScript}
use Rattle.std.specs.Prelude.{◌≡◌, ℕ, List, Some}
use Rattle.kcr_script.specs.Reading.{seats_of, script_of}
use Rattle.kcr_script.proofs.{SeatLemmas.stands_are_seats, SeatReading.seats_read, SeatReading.seats_stand}
use Rattle.kcr_script.proofs.ScriptReading.{script_read, break_read, read_is_script, read_breaks}
-- a script has 1 to `MAX_STEPS` steps, each with an activity of 1 to 500 bytes and 1 to 16 seats whose numbers are 1 to 7
pub use Rattle.kcr_script.proofs.ScriptReading.{script_has_steps, steps_have_form}

-- what is read as the seats of a text are those for which it stands, and nothing is read where it stands for none
pub seats_are_read : (text : List ℕ) (seats : List Seat) → (seats_of text ≡ Some seats) ↔ StandsFor text seats
seats_are_read text seats = (seats_stand text seats, seats_read text seats)

-- what is read as the steps of a text are those of which it is the script
pub scripts_are_read : (text : List ℕ) (steps : List Step) → (script_of text ≡ Ok steps) ↔ IsScript text steps
scripts_are_read text steps = (read_is_script text steps, script_read text steps)

-- if a text is the script of no steps, the first row that breaks a rule is named
pub faults_are_read : (text : List ℕ) (row : ℕ) → (script_of text ≡ Err row) ↔ BreaksScript text row
faults_are_read text row = (read_breaks text row, break_read text row)

-- the seats of a text are 1 to 16, and their numbers are 1 to 7
pub seats_have_form : (text : List ℕ) (seats : List Seat) → seats_of text ≡ Some seats → IsSeats seats
seats_have_form text seats e = stands_are_seats text seats (seats_stand text seats e)
