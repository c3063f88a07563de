-- The rows of a table that are asked for.
use Rattle.std.specs.Prelude.{Bool, true, false, List, [], filter, if◌then◌else◌}
use Rattle.std.specs.List.{list_any}
use Rattle.kcr_history.specs.declared.views.Selection.{Selection, TheVariants.Nothing, TheVariants.Matching, TheVariants.All}

abbrev pub asked_of : {X K : Type 0} → (K → X → Bool) → Selection K → List X → List X
asked_of is_under Nothing rows = []
asked_of is_under (Matching key) rows = filter (is_under key) rows
asked_of is_under All rows = rows

abbrev pub asked_all : {X : Type 0} → Bool → List X → List X
asked_all true rows = rows
asked_all false rows = []

-- those under a key, or none if the key is the same as one before
abbrev pub asked_once : {X K : Type 0} → (K → K → Bool) → (K → X → Bool) → K → List K → List X → List X
asked_once same is_under key before rows = if list_any (same key) before then [] else filter (is_under key) rows

-- whether a row is under one of the keys
abbrev pub is_under_any : {X K : Type 0} → (K → X → Bool) → List K → X → Bool
is_under_any is_under keys row = list_any (λ key. is_under key row) keys
