-- Commands one after the other, and what each is answered.
use Rattle.std.specs.Prelude.{◌≡◌, ℕ, suc, List, [], ◌∷◌, ◌++◌, length, codes}
use Rattle.std.specs.Fmt.{decimal}
use Rattle.kcr_history.specs.{declared.commands.Act.Act, declared.commands.Command.Command, History.History, Texts.reply_text, Refusals.refusal_text}
use Rattle.kcr_history.specs.Machine.{Outcome, Accepts, Refuses, machine}

-- the act under a key that no command has yet, if the nth command's key is `kn`
abbrev pub new_command : History → Act → Command
new_command A act = record { key = codes "k" ++ decimal (suc (length A)); act = act }

-- the JSON text of what is answered
abbrev pub outcome_text : Outcome → List ℕ
outcome_text (Accepts reply) = reply_text reply
outcome_text (Refuses refusal) = refusal_text refusal

-- the acts come one after the other, each under a new key, and the machine answers each with its text; A' is the
-- history then
abbrev pub AreSteps : History → List (Act × List ℕ) → History → Type 0
AreSteps A [] A' = A' ≡ A
AreSteps A (said ∷ rest) A' =
    (outcome : Outcome) × (between : History) × machine A (new_command A said.0) outcome between
    × (outcome_text outcome ≡ said.1) × AreSteps between rest A'

-- the same, as a statement that keeps its name: from history A these acts get these answers, and lead to A'
pub record AreAnswered (A : History) (said : List (Act × List ℕ)) (A' : History) : Type 0 where
  pub steps : AreSteps A said A'
