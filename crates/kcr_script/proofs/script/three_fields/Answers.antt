use Rattle.kcr_script.proofs.Common.{◌≡◌, ◌≢◌, ℕ, List, [], ◌∷◌, length, Some, None, sym, ◌∙◌, arith, fields_of}
use Rattle.csv.specs.Records.{field_at}
use Rattle.kcr_script.proofs.script.three_fields.Goals as goal

three_are : (f : List (List ℕ)) (a b c : List ℕ) → length f ≡ 3 → Some a ≡ field_at f 0 → Some b ≡ field_at f 1 → Some c ≡ field_at f 2
    → f ≡ a ∷ b ∷ c ∷ []
unfolding field_at
three_are (p ∷ q ∷ r ∷ []) a b c n x y z = cc
three_are other a b c n x y z = absurd (omega arith)

there : (f : List (List ℕ)) → length f ≡ 3 → (field_at f 0 ≢ None) × (field_at f 1 ≢ None) × (field_at f 2 ≢ None)
unfolding field_at
there (p ∷ q ∷ r ∷ []) n = (λ e. cc, λ e. cc, λ e. cc)
there other n = absurd (omega arith)

pub returns-in_err-get : goal.returns-in_err-get
returns-in_err-get c = absurd ((there (fields_of c.args.row.now) (sym c.len.ensures ∙ c.if-len-ne3.false)).0 (sym c.in_err-get.ensures.value))

pub returns-in_err-get-2 : goal.returns-in_err-get-2
returns-in_err-get-2 c = absurd ((there (fields_of c.args.row.now) (sym c.len.ensures ∙ c.if-len-ne3.false)).1 (sym c.in_err-get-2.ensures.value))

pub returns-in_err-get-3 : goal.returns-in_err-get-3
returns-in_err-get-3 c = absurd ((there (fields_of c.args.row.now) (sym c.len.ensures ∙ c.if-len-ne3.false)).2 (sym c.in_err-get-3.ensures.value))

pub returns : goal.returns
returns c =
    three_are (fields_of c.args.row.now) _ _ _
    (sym c.len.ensures ∙ c.if-len-ne3.false) c.in_ok-get.ensures.value c.in_ok-get-2.ensures.value c.in_ok-get-3.ensures.value
