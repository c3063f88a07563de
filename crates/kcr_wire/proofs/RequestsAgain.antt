-- A command's path and body are read as the command.
use Rattle.kcr_wire.proofs.Common.{◌≡◌, Ok, IsKey, Command, IsAct, path_text}
use Rattle.kcr_wire.specs.{Commands.command_of, Bodies.body_text}
use Rattle.kcr_wire.proofs.{BodiesRead.body-read, BodiesRead.command-again, Targets.act-target}

-- the path and the body of a command are read as this command
pub told_again : (c : Command) → IsKey c.key → IsAct c.act → command_of (path_text c.act) (body_text c) ≡ Ok c
unfolding command_of
told_again c is_key is = rw (act-target c.act is, body-read c is_key is) (command-again c.key c.act is_key is)
