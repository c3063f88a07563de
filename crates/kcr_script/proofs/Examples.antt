-- Worked examples of scripts and of seat texts.
use Rattle.kcr_script.proofs.Common.{Ok, Err, codes, refl, AnyCo}
use Rattle.std.specs.Prelude.{◌≡◌, [], ◌++◌, Some, None, replicate}
use Rattle.kcr_script.specs.Examples.{first_row, two_rows, two_steps, mark}
use Rattle.kcr_script.specs.Reading.{seats_of, script_of}
use Rattle.kcr_script.proofs.OnLiterals.{script_on_literals}

-- a script of two steps, with and without a byte order mark
pub two_steps_read : script_of two_rows ≡ Ok two_steps
unfolding script_on_literals
two_steps_read = refl

pub read_behind_a_mark : script_of (mark ++ two_rows) ≡ Ok two_steps
unfolding script_on_literals
read_behind_a_mark = refl

-- the rows that break a rule in texts that are none
pub one_behind_a_star : script_of (first_row ++ codes "1,Check bags,CO*1\n") ≡ Err 2
unfolding script_on_literals
one_behind_a_star = refl

pub empty_text : script_of [] ≡ Err 1
unfolding script_on_literals
empty_text = refl

pub no_step : script_of first_row ≡ Err 2
unfolding script_on_literals
no_step = refl

-- items of the same seat add up
pub eight_seats : seats_of (codes "CO*4;CO*4") ≡ Some (replicate 8 AnyCo)
unfolding script_on_literals
eight_seats = refl

-- a text that would stand for seventeen seats stands for none
pub seventeen_seats : seats_of (codes "CO*7;CO*7;CO*3") ≡ None
unfolding script_on_literals
seventeen_seats = refl
