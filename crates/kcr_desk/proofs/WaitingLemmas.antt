-- Answers that wait, and are written one after the other.
use Rattle.kcr_desk.proofs.Common.{ℕ, List, [], ◌++◌, length, refl, sym, ap, ◌∙◌, subst, append_assoc, Option, Result, MatchResult, Appends}
use Rattle.kcr_desk.proofs.Common.{append-nil, MatchResult-weaker, take-length, IsQueued, WritesPrefix, Writes, appends_both, appends_nothing}
use Rattle.kcr_desk.proofs.Common.{front_both}

-- at first nothing is sent, and all waits
pub gathered_nothing : (a : Option (List ℕ)) (w : List ℕ) → IsQueued a a w w
gathered_nothing a w = record { sent = []; written = appends_nothing a; rest = refl }

-- what was written whole was written up to its end
pub front_of_whole : (a b : Option (List ℕ)) (x : List ℕ) → Appends a b x → WritesPrefix a b x
front_of_whole a b x h = (length x, subst (Appends a b) (sym (take-length x)) h)

-- more behind all, and behind what waits
pub with_more : {a b : Option (List ℕ)} {x w : List ℕ} (y : List ℕ) → IsQueued a b x w → IsQueued a b (x ++ y) (w ++ y)
with_more y p = record { sent = p.sent; written = p.written; rest = simp append_assoc at (ap (λ (t : List ℕ). t ++ y) p.rest) }

-- more behind two texts
pub with_more_behind : {a b : Option (List ℕ)} (x y z : List ℕ) {w : List ℕ} → IsQueued a b (x ++ y) w → IsQueued a b (x ++ (y ++ z)) (w ++ z)
with_more_behind x y z p = rw append_assoc at (with_more z p)

-- what waits is written
pub sent_whole : {a b : Option (List ℕ)} (c : Option (List ℕ)) {x w : List ℕ} → IsQueued a b x w → Appends b c w → Appends a c x
sent_whole {a} {b} c {w = w} p q = subst (Appends a c) p.rest (appends_both a b c p.sent w p.written q)

-- a prefix of it is
pub sent_front : {a b : Option (List ℕ)} (c : Option (List ℕ)) {x w : List ℕ} → IsQueued a b x w → WritesPrefix b c w → WritesPrefix a c x
sent_front {a} {b} c {w = w} p q = subst (WritesPrefix a c) p.rest (front_both a b c p.sent w p.written q)

-- and the rest of it waits
pub sent_on : {a b c : Option (List ℕ)} {x w v : List ℕ} → IsQueued a b x w → IsQueued b c w v → IsQueued a c x v
sent_on {a} {b} {c} p q = record {
  sent = p.sent ++ q.sent;
  written = appends_both a b c p.sent q.sent p.written q.written;
  rest = simp append_assoc (ap (λ t. p.sent ++ t) q.rest ∙ p.rest);
}

-- of all a prefix was sent and the rest waits, or after a fault a prefix was written
abbrev pub EnqueuesTo : {T E : Type 0} → Result T E → Option (List ℕ) → Option (List ℕ) → List ℕ → List ℕ → Type 0
EnqueuesTo r a b x w = MatchResult r (λ _. IsQueued a b x w) (λ _. WritesPrefix a b x)

-- likewise after Ok, and after a fault
pub gathers_on : {T E : Type 0} (r : Result T E) {a b : Option (List ℕ)} (c : Option (List ℕ)) {x w : List ℕ} (v : List ℕ)
    → IsQueued a b x w → EnqueuesTo r b c w v → EnqueuesTo r a c x v
gathers_on r c v p q = MatchResult-weaker r q (λ _. sent_on p) (λ _. sent_front c p)

-- if nothing waits behind it all was written
pub gathers_written : {T E : Type 0} (r : Result T E) (a b : Option (List ℕ)) (x : List ℕ) → Writes r a b x → EnqueuesTo r a b x []
gathers_written r a b x p = MatchResult-weaker r p (λ _ written. record { sent = x; written = written; rest = append-nil x }) (λ _ front. front)
