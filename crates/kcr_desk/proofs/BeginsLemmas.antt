-- What was written after a fault is a prefix of what the whole input asks for.
use Rattle.kcr_desk.proofs.Common.{arith, ◌≡◌, ℕ, List, [], ◌∷◌, ◌++◌, refl, sym, ap, ◌∙◌, append_assoc, inl, inr, true, Ok, flat_map}
use Rattle.kcr_desk.proofs.Common.{append-nil, length, length-map, nil_from_length, RequestHead, Framing}
use Rattle.kcr_desk.proofs.Common.{Cut, is_head, Ending, cut_off, AreMessages, framing_of, nothing, continues, ends}
use Rattle.kcr_desk.proofs.Common.{continue_text, fault_response, Exchange, exchange_text, messages_of, ending_text, output, Begins, IsNextOutput}
use Rattle.kcr_desk.specs.Texts.{answer}
use Rattle.kcr_desk.proofs.CutLemmas.{match_both, EndsBy, end_by, head_unique, message_unique, message_not_end, end_unique}

-- front begins text
abbrev pub Starts : List ℕ → List ℕ → Type 0
Starts front text = (more : List ℕ) × (front ++ more ≡ text)

-- so it does behind the same text
starts_after : (x a b c d : List ℕ) → Starts (a ++ b) (c ++ d) → Starts ((x ++ a) ++ b) ((x ++ c) ++ d)
starts_after x a b c d s = let e : a ++ (b ++ s.0) ≡ c ++ d = simp append_assoc at s.1 in (s.0, simp append_assoc (ap (λ (t : List ℕ). x ++ t) e))

-- what an end answers to a head that is planned so begins with its continuation
continue_ends : (h : RequestHead) (r : List ℕ) (plan : Framing) (e : Ending) → framing_of h ≡ Ok plan → EndsBy h r e
    → Starts (continue_text plan) (ending_text e)
continue_ends h r plan (cut_off p head_only) why n = (answer head_only true (fault_response Cut), grind arith)
continue_ends h r plan e why n = grind arith

next_starts : (b next : List ℕ) (zs : List Exchange) (e : Ending) → IsNextOutput b next → AreMessages b (messages_of zs) e → Starts next (output zs e)
next_starts b next zs e nothing cut = (output zs e, refl)
next_starts b next [] e (continues h r has why) cut = continue_ends h r _ e why (end_by b h r e has cut)
next_starts b next (z ∷ zs) e (continues {plan = p} h r has why) cut =
    let heads = head_unique b h z.message.head r (z.message.body ++ cut.0) has cut.1.head in
    let same : p ≡ z.message.plan = cc (why, ap framing_of heads.0, cut.1.plan) in
    let rest = answer (is_head z.message.head.method) z.message.plan.closes z.reply ++ (flat_map exchange_text zs ++ ending_text e) in
    (rest, rw same (simp append_assoc))
next_starts b next [] e (ends f end') cut = ([], append-nil (ending_text f) ∙ ap ending_text (end_unique b f e end' cut))
next_starts b next (z ∷ zs) e (ends f end') cut = absurd (message_not_end b z.message cut.0 f cut.1 end')

-- after the same first messages, whatever the others are told
pub begins_output : (b next : List ℕ) (xs zs : List Exchange) (e : Ending) → Begins b (messages_of xs) next
    → AreMessages b (messages_of (xs ++ zs)) e → Starts (flat_map exchange_text xs ++ next) (output (xs ++ zs) e)
begins_output b next [] zs e begins cut = next_starts b next zs e begins cut
begins_output b next (x ∷ xs) zs e begins cut =
    let same = message_unique b x.message x.message begins.0 cut.0 begins.1 cut.1 in
    let there : Starts (flat_map exchange_text xs ++ next) (output (xs ++ zs) e) =
    elim (match_both x.message.plan.closes begins.2 (rw (← same.1) at cut.2)) [
      | inl p ↦ let none = nil_from_length xs (sym (length-map xs (λ (x : Exchange). x.message)) ∙ ap length p.0.0) in
          (output (xs ++ zs) e, rw (none, p.0.1) refl)
      | inr p ↦ begins_output begins.0 next xs zs e p.0 p.1
    ] in
    starts_after (exchange_text x) (flat_map exchange_text xs) next (flat_map exchange_text (xs ++ zs)) (ending_text e) there
