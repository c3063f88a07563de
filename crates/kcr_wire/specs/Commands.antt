-- The command that a POST is, or the first of the refusals path, method, json and form.
use Rattle.std.specs.Prelude.{ℕ, List, option_and_then, Result, Ok, Err}
use Rattle.std.specs.Option.{ok_or}
use Rattle.serde_json.specs.Data.{Data}
use Rattle.kcr_base.specs.declared.refusal.Member.TheVariants as member
use Rattle.kcr_base.specs.declared.refusal.Refusal.{Refusal}
use Rattle.kcr_base.specs.declared.refusal.Refusal.TheVariants as refusal
use Rattle.kcr_forms.specs.{Forms.key_of, Reading.formed, declared.post.Post.Post, OrMemory.and_then, Posts.posted_act}
use Rattle.kcr_history.specs.declared.commands.Command.{Command}
use Rattle.kcr_wire.specs.{Endpoints.target_of, declared.endpoint.Endpoint.Endpoint, Members.json_of, Members.text_at, Members.body}
use Rattle.kcr_wire.specs.declared.endpoint.Endpoint.TheVariants as target

-- the key of the command
abbrev pub key_at : Data → Result (List ℕ) Refusal
key_at d = formed member.Key (option_and_then key_of (text_at member.Key d))

-- the command of a path: its key, which is read before all other members, and its act
abbrev pub posted_command : Post → Data → Result Command Refusal
posted_command post d = and_then (key_at d) (λ key. and_then (posted_act body post d) (λ does. Ok (record { key = key; act = does })))

-- the command of a body that is posted to a path
abbrev pub posted : Endpoint → List ℕ → Result Command Refusal
posted (target.Post post) bytes = and_then (ok_or (json_of bytes) refusal.Json) (posted_command post)
posted (target.Ask inquiry) bytes = Err refusal.Method

-- the command that the target and the body of a POST are
unfoldable pub command_of : List ℕ → List ℕ → Result Command Refusal
command_of target body = and_then (target_of target) (λ t. posted t body)
