-- The act that a text tells: its path, and the members on the lines after it.
use Rattle.std.specs.Prelude.{ℕ, List, Option, Some, None, option_and_then, if◌then◌else◌}
use Rattle.std.specs.Result.{result_ok}
use Rattle.kcr_base.specs.Same.{same_text}
use Rattle.kcr_forms.specs.{Lines.lines, Posts.posted_act, Split.Reader, Split.split_at_byte}
use Rattle.kcr_history.specs.{Texts.command_text, declared.commands.Act.Act}
use Rattle.kcr_wire.specs.{Endpoints.target_of, declared.endpoint.Endpoint.Endpoint}
use Rattle.kcr_wire.specs.declared.endpoint.Endpoint.TheVariants as target

-- the act of these lines at a path that takes commands
abbrev pub told_at : List ℕ → Endpoint → Option Act
told_at text (target.Post post) = result_ok (posted_act lines post text)
told_at text (target.Ask inquiry) = None

-- the act of a text: the first line is its path, and the lines after it are its members
unfoldable pub act_told : Reader Act
act_told text = option_and_then (λ p. option_and_then (told_at p.1) (result_ok (target_of p.0))) (split_at_byte 10 text)

-- the act, if this is its text
abbrev pub if_told : Act → List ℕ → Option Act
if_told act text = if same_text (command_text act) text then Some act else None

-- the act whose text this is
unfoldable pub act_of : Reader Act
act_of text = option_and_then (λ act. if_told act text) (act_told text)
