-- What a decision says, by the row of its key or whatever the rows are.
use Rattle.std.specs.Prelude.{◌≡◌, ◌≢◌, ℕ, Bool, true, false, nat_le, List, [], None, ◌⊎◌, Some, MatchResult, Result, IsSome, IsTrue}
use Rattle.kcr_base.specs.{Same.same_text, declared.limits.TheConstants.MAX_COMMANDS}
use Rattle.kcr_base.specs.declared.refusal.Refusal.{Refusal, TheVariants.Key, TheVariants.Memory}
use Rattle.kcr_history.specs.declared.commands.{Act.Act, Act.TheVariants.Ceremony, ReplyData.ReplyData, Command.Command}
use Rattle.kcr_history.specs.declared.commands.Deed.TheVariants.{Sign, RecordException}
use Rattle.kcr_history.specs.{declared.row_types.KeyRow.KeyRow, declared.views.Verdict.Verdict, Texts.command_text, Texts.reply_text}
use Rattle.kcr_rules.specs.Refusals.{may_refuse}

-- a register whose last command has this number is full
abbrev pub is_full_by : ℕ → Bool
is_full_by last = nat_le MAX_COMMANDS last

-- the key has a row of the same command: its reply, and no change
pub record RepeatsRow (row : KeyRow) (x : Command) (verdict : Verdict) : Type 0 where
  pub same : same_text row.command (command_text x.act) ≡ true
  pub changes : verdict.changes.items ≡ []
  pub reply : verdict.reply.text ≡ row.reply
  pub new_reply : verdict.new_reply ≡ None

-- a decision of a command whose key has this row
abbrev pub IsRowRepeat : KeyRow → Command → Result Verdict Refusal → Type 0
IsRowRepeat row x result =
    MatchResult result
    (RepeatsRow row x)
    (λ refusal. refusal ≢ Memory → (same_text row.command (command_text x.act) ≡ false) × (refusal ≡ Key))

-- WHATEVER THE ROWS ARE

-- the reply is one of an act of this kind: that of a signature has its step and who is seated, that of an exception
-- the exception's number, and of one that passes a step also the step and who is seated; any other has its number alone
abbrev pub IsReplyDataOf : Act → ReplyData → Type 0
IsReplyDataOf (Ceremony ceremony at (Sign step)) reply =
    (reply.exception ≡ None) × IsSome reply.seating × (reply.step ≡ Some step)
IsReplyDataOf (Ceremony ceremony at (RecordException text true)) reply =
    IsSome reply.exception × IsSome reply.seating × IsSome reply.step
IsReplyDataOf (Ceremony ceremony at (RecordException text false)) reply =
    IsSome reply.exception × (reply.seating ≡ None) × (reply.step ≡ None)
IsReplyDataOf act reply = (reply.exception ≡ None) × (reply.seating ≡ None) × (reply.step ≡ None)

-- the reply is the text of such a reply
abbrev pub IsReplyOf : Act → List ℕ → Type 0
IsReplyOf act text = (reply : ReplyData) × IsReplyDataOf act reply × (text ≡ reply_text reply)

-- the refusal is one that acts of the command's kind may get
abbrev pub IsOwnRefusal : Command → Refusal → Type 0
IsOwnRefusal x refusal = IsTrue (may_refuse x.act refusal)

-- what a command whose key is new comes to: a reply of its act's kind, or such a refusal
abbrev pub IsOfKind : Command → Result Verdict Refusal → Type 0
IsOfKind x result = MatchResult result (λ verdict. IsReplyOf x.act verdict.reply.text) (IsOwnRefusal x)

-- what any command may be refused with: the same, or that its key is another command's
abbrev pub MayBeRefused : Command → Refusal → Type 0
MayBeRefused x refusal = (refusal ≡ Key) ⊎ IsOwnRefusal x refusal
