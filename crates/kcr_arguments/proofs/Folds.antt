-- A loop that folds a list.
use Rattle.std.proofs.Common.{◌≡◌, ◌+◌, ◌<◌, ◌∙◌, ℕ, List, length, get_or, take, ap, sym}
use Rattle.std.specs.Prelude.{fold}
use Rattle.std.proofs.lemmas.List.Sums.{fold_more}

-- one element more
pub fold_next : {A B : Type 0} (f : B → A → B) (b : B) (xs : List A) (i : ℕ) (d : A) (before after : B) → i < length xs
    → before ≡ fold f b (take i xs) → after ≡ f before (get_or xs i d) → after ≡ fold f b (take (i + 1) xs)
fold_next f b xs i d before after below is next = next ∙ ap (λ x. f x (get_or xs i d)) is ∙ sym (fold_more f b xs i d below)
