use Rattle.kcr_desk.proofs.Common.{◌≡◌, ℕ, List, ◌++◌, append_assoc}
use Rattle.kcr_desk.specs.Texts.{head_text}
use Rattle.kcr_desk.proofs.response.add_head.Goals as goal

-- six pieces, each behind the one before
six : (p a b c d e f : List ℕ) {pa pb pc pd pe pf : List ℕ} → pa ≡ p ++ a → pb ≡ pa ++ b → pc ≡ pb ++ c → pd ≡ pc ++ d → pe ≡ pd ++ e → pf ≡ pe ++ f
    → pf ≡ p ++ (a ++ b ++ c ++ d ++ e ++ f)
six p a b c d e f ea eb ec ed ee ef = simp (ef, ee, ed, ec, eb, ea, append_assoc)

pub returns : goal.returns
unfolding head_text
returns c =
    six _ _ _ _ _ _ _ c.add_status.ensures.items (rw c.media_type_text.ensures.text at c.add_field.ensures.items)
    (rw c.format.ensures.text at c.add_field-2.ensures.items) c.add_allow.ensures.items c.add_close.ensures.items c.add.ensures.items
