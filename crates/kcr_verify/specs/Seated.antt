-- Whether the people of a stored reply fill the seats of its command.
use Rattle.std.specs.Prelude.{◌≡◌, ◌≢◌, ℕ, Bool, List, [], Option, Some, None, option_map, if◌then◌else◌}
use Rattle.kcr_history.specs.{Audit.ceremony_in, Audit.is_seating_by, Machine.SeatRequest, Machine.seat_request}
use Rattle.kcr_history.specs.{Ceremonies.is_ceremony, History.History, Seating.is_seating}
use Rattle.kcr_history.specs.declared.{commands.Act.Act, views.FullView.FullView}
use Rattle.kcr_journal.specs.Replies.{seated_in}

-- whether the people fill the seats that a command asks for in a planned ceremony; `None` if it asks for none
abbrev pub fill : History → Option SeatRequest → List (List ℕ) → Option Bool
fill A None people = None
fill A (Some s) people =
    if is_ceremony A s.ceremony then Some (is_seating A s.ceremony s.at s.seats people) else None

-- the same by the rows of a register
abbrev pub fill_by : FullView → Option SeatRequest → List (List ℕ) → Option Bool
fill_by view None people = None
fill_by view (Some s) people =
    option_map (λ row. is_seating_by view row s.at s.seats people) (ceremony_in view s.ceremony)

-- after A, what is told of the people whom the found reply to a command names
pub record TellsSeating (A : History) (act : Act) (expected found : List ℕ) (told : Option Bool) : Type 0 where
  -- nothing, if it names nobody, or those whom the expected reply names
  pub nobody : seated_in found ≡ [] → told ≡ None
  pub same : seated_in found ≡ seated_in expected → told ≡ None
  -- if it names others: whether they fill the seats
  pub others : seated_in found ≢ [] → seated_in found ≢ seated_in expected
      → told ≡ fill A (seat_request A act) (seated_in found)
