-- A command that is given again is a step of the register.
use Rattle.kcr_verify.proofs.Common.{◌≡◌, Bool, Option, Some, None, Result, sym, ◌≢◌, ◌⊎◌, inl, inr, ◌∷◌, List, ℕ, Ok, Err, refl, ap, ◌∙◌, subst}
use Rattle.kcr_verify.proofs.Common.{IfSome, Held, state, HasCleanDisk, Refusal, Memory, Disk, History, HasFirstSeatings, IsOfMachine, IsRegister}
use Rattle.kcr_verify.proofs.Common.{machine, Accepts, Refuses, key_row, reply_text, command_text, KeyRow, Act, Command, Entry, IsAct, step_leads_on}
use Rattle.kcr_verify.proofs.Common.{machine_first, TellsSeating, AnswersElse, AreValues, GivesRow, IsOther, IsFirstOther}
use Rattle.sqlite.specs.Steps.{over_memory}
use Rattle.sqlite_trees.specs.{declared.memory.MemStore.MemStore, View.doubt}
use Rattle.kcr_history.specs.declared.commands.Reply.{Reply}
use Rattle.kcr_store.specs.Commands.{AppliesCommand}
use Rattle.kcr_verify.specs.declared.verification.Difference.TheVariants as Differences
use Rattle.kcr_verify.proofs.{NumberLemmas.passes_back, SeatingLemmas.accepted_step, SeatingLemmas.refused_step}

-- the disk of a register in memory is never in doubt
pub never_in_doubt : (conn : Held MemStore) → HasCleanDisk (state over_memory conn)
unfolding doubt
never_in_doubt conn = refl

-- whatever a command is answered, the machine leads to the history after it
pub leads_on : (A : History) (command : Command) (result : Result Reply Refusal) (A' : History) → AppliesCommand A command result A' → IsOfMachine A → IsOfMachine A'
leads_on A command (Ok reply) A' step made = step_leads_on A command (Accepts step.0) A' made step.1
leads_on A command (Err refusal) A' step made = rw step.0 made

-- the act was read of a row's text, which is that of no other
pub record IsRead (row : KeyRow) (act : Act) : Type 0 where
  pub text : command_text act ≡ row.command
  pub only : (told : Act) → IsAct told → command_text told ≡ row.command → told ≡ act

-- a reader that answers the act of a text, and no other, reads the row's act
pub read_of : {found : Option Act} {text : List ℕ} {act : Act} (row : KeyRow) → text ≡ row.command → found ≡ Some act → IfSome found (λ act. command_text act ≡ text)
    → ((told : Act) → IsAct told → command_text told ≡ text → found ≡ Some told) → IsRead row act
read_of row bytes is means only = record {
  text = rw is at means ∙ bytes;
  only = λ told values same. cc (only told values (same ∙ sym bytes), is);
}

-- what is said of a row whose command was given to a register of A
module _ (row : KeyRow) (act : Act) (read : IsRead row act) (A A' : History) where
  abbrev given : Command
  given = record { key = row.key; act = act }

  -- where the row is that of the next entry, the command is the entry's
  same_command : (entry : Entry) → AreValues (entry ∷ A) → row ≡ key_row entry → given ≡ entry.command
  same_command entry values is =
      let act_is = read.only entry.command.act values.0 (sym (ap (λ (r : KeyRow). r.command) is)) in
      rw (is, act_is) refl

  -- a reply is the entry's, and the register then has it; or it is another, and so is the seating
  replied : (entry : Entry) → IsRegister (entry ∷ A) → AreValues (entry ∷ A) → row ≡ key_row entry → (reply : Reply) → AppliesCommand A given (Ok reply) A'
      → ((reply.text ≡ row.reply) × (A' ≡ entry ∷ A)) ⊎ ((reply.text ≢ row.reply) × IsOther A entry)
  replied entry h values is reply step =
      let m : machine A entry.command (Accepts step.0) A' = subst (λ (x : Command). machine A x (Accepts step.0) A') (same_command entry values is) step.1 in
      let text : row.reply ≡ reply_text entry.reply = ap (λ (r : KeyRow). r.reply) is in
      elim (accepted_step A entry.command.key values.1 entry.command.act entry.reply step.0 A' (h.0.new_key, h.0.no_fault) h.0.answered m) [
        | inl this ↦ inl (step.2 ∙ ap reply_text this.0 ∙ sym text, this.1)
        | inr other ↦ inr (λ same. other.0 (sym step.2 ∙ same ∙ text), other.1)
      ]

  -- the reply is the row's
  pub takes : (reply : Reply) → AppliesCommand A given (Ok reply) A' → reply.text ≡ row.reply → GivesRow row A A' (Ok None)
  takes reply step same = record {
    of_machine = leads_on A given (Ok reply) A' step;
    told = record { command = given; told = record { key = refl; text = read.text }; reply = step.0; step = step.1; text = sym step.2 ∙ same };
    own = λ entry h values is. elim (replied entry h values is reply step) [ inl this ↦ this.1 | inr other ↦ absurd (other.0 same) ];
  }

  -- it is another
  pub answers_else : (reply : Reply) (is_seating : Option Bool) → AppliesCommand A given (Ok reply) A' → reply.text ≢ row.reply
      → TellsSeating A' act reply.text row.reply is_seating → GivesRow row A A' (Ok (Some (Differences.Reply row.accepted reply.text row.reply is_seating)))
  answers_else reply is_seating step other seating = record {
    of_machine = leads_on A given (Ok reply) A' step;
    told =
        let answer : AnswersElse row reply.text A A' = record {
          command = given;
          told = record { key = refl; text = read.text };
          reply = step.0;
          step = step.1;
          text = (sym step.2, λ same. other (step.2 ∙ same));
        } in
        (refl, refl, answer, seating);
    own = λ entry h values is. elim (replied entry h values is reply step) [
      | inl this ↦ absurd (other this.0)
      | inr differs ↦ (ap (λ (r : KeyRow). r.accepted) is, differs.1)
    ];
  }

  -- it is refused, but not as out of memory or by an I/O error
  pub refuses : (refusal : Refusal) → AppliesCommand A given (Err refusal) A' → refusal ≢ Memory → refusal ≢ Disk
      → GivesRow row A A' (Ok (Some (Differences.Refused row.accepted refusal row.reply)))
  refuses refusal step memory disk =
      let m : machine A given (Refuses refusal) A' = step.1 memory disk in
      record {
        of_machine = leads_on A given (Err refusal) A' step;
        told = (refl, refl, record { command = given; told = record { key = refl; text = read.text }; step = rw step.0 at m }, step.0);
        own = λ entry h values is.
            absurd (refused_step A entry.command.key entry.command.act entry.reply refusal A' (h.0.new_key, h.0.no_fault) h.0.answered
            (subst (λ (x : Command). machine A x (Refuses refusal) A') (same_command entry values is) m));
      }

-- no command of a history that the machine leads to has another seating than the first
pub never_other : (A : History) → IsOfMachine A → (number : ℕ) → IsFirstOther A number → ⊥
never_other A m number other =
    other.other (passes_back HasFirstSeatings (λ entry B h. h.1) other.later (other.entry ∷ other.before) (rw other.whole at (machine_first A m))).0
