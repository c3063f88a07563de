-- Texts that are written one after the other.
use Rattle.kcr_print.proofs.Common.{◌≡◌, ℕ, ◌+◌, List, [], ◌++◌, length, take, min, sym, ap, ◌∙◌, subst, arith, append_assoc, Option, Some, None}
use Rattle.kcr_print.proofs.Common.{Result, Ok, Err, Appends, take-append-le, take_min, take-append-add, WritesPrefix, Writes}
use Rattle.std.proofs.lemmas.List.{append-nil}

-- two texts that are written one after the other are written together
pub appends_both : (a b c : Option (List ℕ)) (x y : List ℕ) → Appends a b x → Appends b c y → Appends a c (x ++ y)
appends_both None b c x y p q = tt
appends_both (Some a) (Some b) (Some c) x y p q = q ∙ ap (λ (t : List ℕ). t ++ y) p ∙ simp append_assoc
appends_both (Some a) (Some b) None x y p q = absurd q
appends_both (Some a) None c x y p q = absurd p

-- the empty text is written by writing nothing
pub appends_nothing : (a : Option (List ℕ)) → Appends a a []
appends_nothing None = tt
appends_nothing (Some a) = sym (append-nil a)

-- x, and then a beginning of y
pub front_both : (a b c : Option (List ℕ)) (x y : List ℕ) → Appends a b x → WritesPrefix b c y → WritesPrefix a c (x ++ y)
front_both a b c x y p q =
    (length x + q.0, subst (Appends a c) (sym (take-append-add x y q.0)) (appends_both a b c x (take q.0 y) p q.1))

-- a call that writes a text behind one that was written writes both, or after a fault a prefix of both
pub writes_then : {T E : Type 0} (r : Result T E) (a b c : Option (List ℕ)) (x y : List ℕ)
    → Appends a b x → Writes r b c y → Writes r a c (x ++ y)
writes_then (Ok v) a b c x y p q = appends_both a b c x y p q
writes_then (Err e) a b c x y p q = front_both a b c x y p q

-- a beginning of x is one of x and more
pub front_longer : (a b : Option (List ℕ)) (x y : List ℕ) → WritesPrefix a b x → WritesPrefix a b (x ++ y)
front_longer a b x y p =
    let n : ℕ = min p.0 (length x) in
    let e : take n (x ++ y) ≡ take p.0 x = take-append-le n x y (omega arith) ∙ take_min p.0 x in
    (n, subst (Appends a b) (sym e) p.1)
