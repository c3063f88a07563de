-- A stream is cut in one way only.
use Rattle.kcr_desk.proofs.Common.{◌≡◌, ℕ, ◌<◌, List, [], ◌∷◌, ◌++◌, length, refl, sym, ap, ◌∙◌, arith, length-append, ◌⊎◌, inl, is_cut, AreMessages}
use Rattle.kcr_desk.proofs.Common.{inr, Bool, MatchBool, Ok, Err, take-append_seam, drop-append_seam, RequestHead, request_unique, is_head}
use Rattle.kcr_desk.proofs.Common.{HasHead, framing_of, Message, IsMessage, IsEnd, Ending, clean_end, refused, cut_off, is_blank_rest, no_head, fails}
use Rattle.kcr_desk.proofs.HeadLemmas.{head_not_quiet}

same_front : (a b x y : List ℕ) → length a ≡ length b → a ++ x ≡ b ++ y → (a ≡ b) × (x ≡ y)
same_front a b x y l e = grind (arith, take-append_seam a x, take-append_seam b y, drop-append_seam a x, drop-append_seam b y)

-- bytes begin with at most one head, and one rest stands behind it
pub head_unique : (b : List ℕ) (h k : RequestHead) (r q : List ℕ) → HasHead b h r → HasHead b k q → (h ≡ k) × (r ≡ q)
head_unique b h k r q x y = request_unique b h k r q x.reads y.reads

-- bytes begin with at most one message, and one rest stands behind it
pub message_unique : (b : List ℕ) (m n : Message) (r q : List ℕ) → IsMessage b m r → IsMessage b n q → (m ≡ n) × (r ≡ q)
message_unique b m n r q x y =
    let heads = head_unique b m.head n.head (m.body ++ r) (n.body ++ q) x.head y.head in
    let plans : m.plan ≡ n.plan = cc (ap framing_of heads.0, x.plan, y.plan) in
    let bodies = same_front m.body n.body r q (x.body ∙ ap (λ p. p.length) plans ∙ sym y.body) heads.1 in
    (λ i. record { head = heads.0 i; plan = plans i; body = bodies.0 i }, bodies.1)

-- what an end is, if the bytes begin with this head and then rest
abbrev pub EndsBy : RequestHead → List ℕ → Ending → Type 0
EndsBy h rest clean_end = ⊥
EndsBy h rest (refused r head_only) = (framing_of h ≡ Err r) × (is_head h.method ≡ head_only)
EndsBy h rest (cut_off plan head_only) = (framing_of h ≡ Ok plan) × (is_head h.method ≡ head_only) × (length rest < plan.length)

-- an end of bytes that begin with a head is one by this head and the rest behind it
pub end_by : (b : List ℕ) (h : RequestHead) (rest : List ℕ) (e : Ending) → HasHead b h rest → IsEnd b e → EndsBy h rest e
end_by b h rest e has (is_blank_rest q) = head_not_quiet b h rest has.reads q
end_by b h rest e has (no_head none loud) = absurd (none h rest has)
end_by b h rest e has (fails k q has' why) = grind (arith, head_unique b h k rest q has has')
end_by b h rest e has (is_cut k q has' why short) = grind (arith, head_unique b h k rest q has has')

-- bytes that begin with a whole message are no end
pub message_not_end : (b : List ℕ) (m : Message) (r : List ℕ) (e : Ending) → IsMessage b m r → IsEnd b e → ⊥
message_not_end b m r e x end' =
    let by = end_by b m.head (m.body ++ r) e x.head end' in
    let long = length-append m.body r in
    grind (arith, by, long, x.plan, x.body)

-- two ends of bytes that begin with a head
same_ends : (h : RequestHead) (rest : List ℕ) (e f : Ending) → EndsBy h rest e → EndsBy h rest f → e ≡ f
same_ends h rest e f x y = grind (arith, x, y)

-- bytes have at most one end
pub end_unique : (b : List ℕ) (e f : Ending) → IsEnd b e → IsEnd b f → e ≡ f
end_unique b e f (fails h rest has why) y = same_ends h rest e f (why, refl) (end_by b h rest f has y)
end_unique b e f (is_cut h rest has why short) y = same_ends h rest e f (why, refl, short) (end_by b h rest f has y)
end_unique b e f x (fails h rest has why) = same_ends h rest e f (end_by b h rest e has x) (why, refl)
end_unique b e f x (is_cut h rest has why short) = same_ends h rest e f (end_by b h rest e has x) (why, refl, short)
end_unique b e f (is_blank_rest p) (no_head none loud) = absurd (loud p)
end_unique b e f (no_head none loud) (is_blank_rest q) = absurd (loud q)
end_unique b e f x y = refl

-- two choices by one test
pub match_both : {A B C D : Type 0} (closes : Bool) → MatchBool closes A B → MatchBool closes C D → (A × C) ⊎ (B × D)
match_both closes p q = grind arith

-- two cuts of one input are one
pub cut_unique : (b : List ℕ) (ms ns : List Message) (e f : Ending) → AreMessages b ms e → AreMessages b ns f → (ms ≡ ns) × (e ≡ f)
cut_unique b [] [] e f x y = (refl, end_unique b e f x y)
cut_unique b [] (n ∷ ns) e f x y = absurd (message_not_end b n y.0 e y.1 x)
cut_unique b (m ∷ ms) [] e f x y = absurd (message_not_end b m x.0 f x.1 y)
cut_unique b (m ∷ ms) (n ∷ ns) e f x y =
    let same = message_unique b m n x.0 y.0 x.1 y.1 in
    let rest : (ms ≡ ns) × (e ≡ f) = elim (match_both m.plan.closes x.2 (rw (← same.0, ← same.1) at y.2)) [
      | inl p ↦ (p.0.0 ∙ sym p.1.0, p.0.1 ∙ sym p.1.1)
      | inr p ↦ cut_unique x.0 ms ns e f p.0 p.1
    ] in
    (λ i. same.0 i ∷ rest.0 i, rest.1)
