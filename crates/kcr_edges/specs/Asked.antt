-- What a socket was asked, as the clauses of its methods tell.
use Rattle.std.specs.Prelude.{◌≡◌, ◌+◌, ◌∷◌, ℕ, List, Option, Some, Result, Ok, Err, IfSome}

-- what was asked of a socket so far
pub record Asked : Type 0 where
  -- the milliseconds since the connection was accepted, when the clock was last read
  pub time : ℕ
  -- for how many milliseconds at most a call waits, as it was last set
  pub timeout : ℕ
  -- of each call that waited, the last first: the time, and for how long it waited at most
  pub waits : List (ℕ × ℕ)
  -- how many of the calls that read the clock or set the timeout failed
  pub failures : ℕ

-- a call that reads the clock or sets the timeout failed
abbrev pub failed : Asked → Asked
failed a = record a { failures = a.failures + 1 }

-- the clock was read
abbrev pub told_time : {E : Type 0} → Result ℕ E → Asked → Asked
told_time (Ok time) a = record a { time = time }
told_time (Err e) a = failed a

-- the timeout was set
abbrev pub set_timeout : {E : Type 0} → ℕ → Result Unit E → Asked → Asked
set_timeout millis (Ok done) a = record a { timeout = millis }
set_timeout millis (Err e) a = failed a

-- a call waited
abbrev pub waited : Asked → Asked
waited a = record a { waits = (a.time, a.timeout) ∷ a.waits }

-- what was asked changed so, if it is known
abbrev pub Becomes : (Asked → Asked) → Option Asked → Option Asked → Type 0
Becomes f old new = IfSome old (λ a. new ≡ Some (f a))
