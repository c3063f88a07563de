-- The requests of commands as the messages of a stream, and what a register makes of its own commands.
use Rattle.std.specs.Prelude.{◌≢◌, ℕ, ◌≤◌, false, List, [], ◌∷◌, length, map, codes, None}
use Rattle.std.specs.{List.flat_map, List.AllByRecursion, Fmt.decimal}
use Rattle.httparse.specs.Grammar.{RequestHead, crlf}
use Rattle.kcr_base.specs.{Key.IsKey, declared.refusal.Refusal.TheVariants.Memory, declared.refusal.Refusal.TheVariants.Disk}
use Rattle.kcr_desk.specs.{declared.head.TheConstants.MAX_BODY, Run.Exchange, Stream.Message, Texts.ResponseValue}
use Rattle.kcr_forms.specs.Acts.{IsAct}
use Rattle.kcr_history.specs.{History.History, Texts.path_text, Texts.reply_text, declared.commands.Command.Command, declared.commands.Entry.Entry}
use Rattle.kcr_wire.specs.{Bodies.body_text, Requests.request_text}
use Rattle.kcr_desk.specs.Answers.{RegisterHistory, json_response, refusal_response}

-- the head of a request with a path and a body of this size
abbrev pub posted_head : List ℕ → ℕ → RequestHead
posted_head path size = record {
  blank = [];
  method = codes "POST";
  target = path;
  minor = 1;
  line_end = crlf;
  fields = record { name = codes "Host"; raw = codes " l"; end = crlf }
      ∷ record { name = codes "Content-Length"; raw = 32 ∷ decimal size; end = crlf } ∷ [];
  last = crlf;
}

-- its message, which does not close the stream and does not wait
abbrev pub posted_message : List ℕ → List ℕ → Message
posted_message path body = record {
  head = posted_head path (length body);
  plan = record { length = length body; closes = false; expects_continue = false };
  body = body;
}

-- the message of a command's request
abbrev pub message_of : Command → Message
message_of x = posted_message (path_text x.act) (body_text x)

-- the parts of the command are values of their types, and its body is not too long for a message
pub record IsSendable (x : Command) : Type 0 where
  pub key : IsKey x.key
  pub act : IsAct x.act
  pub short : length (body_text x) ≤ MAX_BODY

-- the requests of commands, one after the other, with nothing between them
abbrev pub requests_text : List Command → List ℕ
requests_text commands = flat_map request_text commands

-- WHAT A RUN LEAVES

-- a register that is not broken
abbrev pub whole : History → RegisterHistory
whole A = record { accepted = A; in_doubt = None }

-- nobody was told that memory ran out or that the disk failed
abbrev pub HadNoFault : Exchange → Type 0
HadNoFault x = (x.reply ≢ refusal_response None Memory) × (x.reply ≢ refusal_response None Disk)

-- what an accepted command was told
abbrev pub kept_reply : Entry → ResponseValue
kept_reply entry = json_response (reply_text entry.reply)

-- the commands of entries
abbrev pub commands_of : List Entry → List Command
commands_of entries = map (λ (entry : Entry). entry.command) entries

abbrev pub AreSendable : List Entry → Type 0
AreSendable entries = AllByRecursion (λ (entry : Entry). IsSendable entry.command) entries
