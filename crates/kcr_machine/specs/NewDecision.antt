-- A decision of a command whose key is new, by the rows of a view.
use Rattle.std.specs.Prelude.{◌≡◌, ◌≢◌, ◌+◌, ℕ, List, [], ◌∷◌, ◌++◌, Option, None, Result, MatchOption, MatchResult}
use Rattle.kcr_base.specs.declared.refusal.Refusal.{Refusal, TheVariants.Memory}
use Rattle.kcr_history.specs.declared.commands.{Act.Act, Command.Command, ReplyData.ReplyData}
use Rattle.kcr_history.specs.declared.{row_types.KeyRow.KeyRow, views.Change.TheVariants.PutKey, views.Verdict.Verdict, views.View.View}
use Rattle.kcr_history.specs.Texts.{command_text, reply_text}
use Rattle.kcr_rules.specs.ByRows.{late_refusal_by, seat_request_by, IsSeatedFor, all_changes_by, exception_by, reply_step_by, IsRefusalOf}
use Rattle.kcr_machine.specs.RowDecision.{is_full_by}

-- the row of a command that is accepted now
abbrev pub new_key_row : Command → ReplyData → KeyRow
new_key_row x reply =
    record { key = x.key; accepted = reply.accepted; command = command_text x.act; reply = reply_text reply }

-- the reply after the command of this number, with the people who are seated
abbrev pub reply_by : View → ℕ → Act → Option (List (List ℕ)) → ReplyData
reply_by view last act people =
    record {
      accepted = last + 1;
      exception = exception_by view act;
      seating = people;
      step = reply_step_by view act;
    }

-- the key is new: the act's changes and the row of the command, and the next number's reply
pub record AcceptsNew (view : View) (last : ℕ) (x : Command) (verdict : Verdict) (new_reply : ReplyData) : Type 0 where
  pub fine : late_refusal_by view (is_full_by last) x.act ≡ None
  pub seated : IsSeatedFor view (seat_request_by view x.act) new_reply.seating
  pub next : new_reply ≡ reply_by view last x.act new_reply.seating
  pub changes : verdict.changes.items ≡ all_changes_by view x.act new_reply.seating ++ PutKey (new_key_row x new_reply) ∷ []
  pub reply : verdict.reply.text ≡ reply_text new_reply

-- a decision of a command that is cleared and whose key is new, after the command of this number
abbrev pub IsRowDecision : View → ℕ → Command → Result Verdict Refusal → Type 0
IsRowDecision view last x result =
    MatchResult result
    (λ verdict. MatchOption verdict.new_reply ⊥ (AcceptsNew view last x verdict))
    (λ refusal. refusal ≢ Memory → IsRefusalOf view (is_full_by last) x.act refusal)
