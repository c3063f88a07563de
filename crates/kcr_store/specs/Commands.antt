-- What a command makes of a register, and what a question is answered.
use Rattle.std.specs.Prelude.{◌≡◌, ◌≢◌, ◌⊎◌, ◌↔◌, unwrap_or, ℕ, true, Option, Some, None, Result, Ok, Err, MatchResult, IsSome}
use Rattle.kcr_base.specs.Same.{same_text}
use Rattle.kcr_base.specs.declared.refusal.Refusal.{Refusal, TheVariants.Memory, TheVariants.Disk, TheVariants.Broken}
use Rattle.kcr_history.specs.declared.commands.{ReplyData.ReplyData, Command.Command, Reply.Reply}
use Rattle.kcr_history.specs.{History.History, Tables.tables, Texts.reply_text, Texts.command_text}
use Rattle.kcr_history.specs.declared.{row_types.KeyRow.KeyRow, questions.Question.Question, questions.Shown.Shown}
use Rattle.kcr_history.specs.Machine.{machine, Accepts, Refuses, with_command}
use Rattle.kcr_machine.specs.RowDecision.{IsReplyOf, MayBeRefused}
use Rattle.kcr_tables.specs.Refusals.{IsFault}
use Rattle.kcr_store.specs.{Register.RegisterHistory, FullView.IsListed}
use Rattle.kcr_history.specs.Questions.{IsShown, NamesAsked, IsMissing}
use Rattle.kcr_history.specs.declared.questions.Question.TheVariants as asked
use Rattle.kcr_history.specs.declared.questions.Shown.TheVariants as shown

-- The register went from A to A' by the command, and gave this result: the machine's reply as its text, or the
-- machine's refusal. Out of memory and an I/O error say nothing of the command, and leave the list.
abbrev pub AppliesCommand : History → Command → Result Reply Refusal → History → Type 0
AppliesCommand A command (Ok reply) A' = (a : ReplyData) × machine A command (Accepts a) A' × (reply.text ≡ reply_text a)
AppliesCommand A command (Err refusal) A' =
    (A' ≡ A) × (refusal ≢ Memory → refusal ≢ Disk → machine A command (Refuses refusal) A')

-- the history with the command in front, if it gets a new reply; a repeat gets none
abbrev pub with_reply : History → Command → Option ReplyData → History
with_reply A command None = A
with_reply A command (Some reply) = with_command A command reply

-- the number of the last command after it: that of the new reply; a repeat gets none
abbrev pub number_after : ℕ → Option ReplyData → ℕ
number_after count None = count
number_after count (Some reply) = reply.accepted

-- the history, or the one to which the machine goes from it if it accepts the command
abbrev pub IsSameOrNext : History → Command → History → Type 0
IsSameOrNext A command A' = (A' ≡ A) ⊎ ((a : ReplyData) × machine A command (Accepts a) A')

-- a command over a register that stands at the one history leaves it at the other: a broken one says so; another goes
-- the machine's step, and a fault of the device breaks it, and then a crash may have left the history with the command
pub record TakesStep (before : RegisterHistory) (x : Command) (result : Result Reply Refusal) (after : RegisterHistory)
    : Type 0 where
  pub broken : IsSome before.in_doubt → (result ≡ Err Broken) × (after ≡ before)
  pub step : before.in_doubt ≡ None → AppliesCommand before.accepted x result after.accepted
  pub breaks : before.in_doubt ≡ None → IsSome after.in_doubt ↔ (result ≡ Err Disk)
  pub tried : before.in_doubt ≡ None → IsSameOrNext before.accepted x (unwrap_or after.in_doubt after.accepted)

-- what a question may be refused with, whatever the history: out of memory, an I/O error, or that what it asks
-- for is unknown
abbrev pub MayRefuseQuestion : Question → Refusal → Type 0
MayRefuseQuestion question refusal = IsFault refusal ⊎ NamesAsked question refusal

-- why a question is refused: out of memory or an I/O error, or what it asks for is not there
abbrev pub IsQuestionRefusal : History → Question → Refusal → Type 0
IsQuestionRefusal A question refusal = IsFault refusal ⊎ IsMissing A question refusal

-- what a question is shown: for `All` the rows of all tables, each table's in the order of their keys
abbrev pub IsShownTo : History → Question → Shown → Type 0
IsShownTo A asked.All (shown.All view) = IsListed (tables A) view
IsShownTo A question shown = IsShown A question shown

-- the result of a question: what is shown, or why it is refused
abbrev pub IsQuestionResult : History → Question → Result Shown Refusal → Type 0
IsQuestionResult A question result = MatchResult result (IsShownTo A question) (IsQuestionRefusal A question)

-- the reply by the row of the command's key: what the row keeps for this very command, or, where there is no row, the
-- text of a reply of the command's kind
abbrev pub IsRepliedBy : Option KeyRow → Command → Reply → Type 0
IsRepliedBy None command reply = IsReplyOf command.act reply.text
IsRepliedBy (Some row) command reply =
    (same_text row.command (command_text command.act) ≡ true) × (reply.text ≡ row.reply)

-- what a command may get, whatever the tables hold: such a reply by some row or by none, or a refusal of its own
abbrev pub MayBeReplied : Command → Result Reply Refusal → Type 0
MayBeReplied command result =
    MatchResult result (λ reply. (row : Option KeyRow) × IsRepliedBy row command reply) (MayBeRefused command)
