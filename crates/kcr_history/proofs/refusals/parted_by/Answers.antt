use Rattle.kcr_history.proofs.Common.{◌≡◌, ℕ, List, [], ◌∷◌, ◌++◌, codes, refl, append_assoc, decimal, number_of, word_of, member, quoted, object}
use Rattle.kcr_history.proofs.refusals.parted_by.Goals as goal

pieces : (number carried word : List ℕ)
    → codes "{\"number\":" ++ (number ++ (codes "," ++ (carried ++ (codes ",\"refusal\":\"" ++ (word ++ codes "\"}")))))
    ≡ object (member (codes "number") number ∷ carried ∷ member (codes "refusal") (quoted word) ∷ [])
pieces number carried word = rw (append_assoc number, append_assoc carried, append_assoc word) refl

pub returns : goal.returns
returns c =
    rw (
      c.from_string.ensures,
      c.in_ok-text.ensures.ok,
      c.as_str.ensures.value,
      c.in_ok-carried.ensures,
      c.format-number.ensures.text,
      c.number.ensures,
      c.word-word.ensures,
    ) (pieces (decimal (number_of c.args.refusal.now)) (member c.args.name.now c.args.value.now) (word_of c.args.refusal.now))
