-- What the definitions give on words that are written out.
use Rattle.std.proofs.Common.{◌≡◌, codes, Some, [], ◌∷◌, true, false, refl}
use Rattle.clap.proofs.OnLiterals.{clap_on_literals}
use Rattle.kcr_arguments.specs.{Commands.tool_app, declared.words.Task.TheVariants.Run}
use Rattle.kcr_arguments.specs.Tasks.{faults_of, met_in, task_of, is_existing, is_explained}

taken : faults_of (codes "kcr" ∷ codes "run" ∷ []) ≡ []
unfolding faults_of tool_app clap_on_literals
taken = refl

runs : task_of (codes "kcr" ∷ codes "run" ∷ []) ≡ Some Run
unfolding task_of met_in tool_app clap_on_literals
runs = refl

existing : is_existing (codes "kcr" ∷ codes "run" ∷ codes "--existing" ∷ []) ≡ true
unfolding is_existing met_in tool_app clap_on_literals
existing = refl

created : is_existing (codes "kcr" ∷ codes "run" ∷ codes "--explain" ∷ []) ≡ false
unfolding is_existing met_in tool_app clap_on_literals
created = refl

explained : is_explained (codes "kcr" ∷ codes "custody" ∷ codes "--explain" ∷ []) ≡ true
unfolding is_explained met_in tool_app clap_on_literals
explained = refl

plain : is_explained (codes "kcr" ∷ codes "custody" ∷ []) ≡ false
unfolding is_explained met_in tool_app clap_on_literals
plain = refl
