-- What the register answers to one message, from what its calls say.
use Rattle.kcr_desk.proofs.Common.{◌≡◌, List, ℕ, refl, sym, ap, subst, ◌∙◌, arith, ◌↔◌, Bool, is_some, Option, None}
use Rattle.kcr_desk.proofs.Common.{Result, Err, MatchBool, MatchOption, MatchResult, state, HasCleanDisk, Ghosts, Refusal}
use Rattle.kcr_desk.proofs.Common.{History, Leads, ReadsHistory, RowsLead, OfHistory, left_at, RegisterState, ShowsAt, StandsAt}
use Rattle.kcr_desk.proofs.Common.{RegisterHistory, TakesByRows, ReadsRows, whole, json_response, refusal_response, RespondsOrMemory}
use Rattle.kcr_desk.proofs.Common.{ReadsAsHistory, RespondsRefusal, RespondsUnread, Replies, Answered, AnswersReading, ResponseValue}
use Rattle.std.specs.Prelude.{◌⊎◌, ◌≢◌, false, IsTrue}
use Rattle.kcr_base.specs.declared.refusal.Refusal.TheVariants as Refusals
use Rattle.kcr_base.proofs.RefuseLemmas.{is_memory}
use Rattle.kcr_history.specs.Refusals.{carries}
use Rattle.kcr_desk.specs.Answers.{RegisterRows}
use Rattle.kcr_wire.specs.{Endpoints.allow_of, Endpoints.if_method, declared.allow.Allow.Allow}

-- a refusal is told, or out of memory in the place of one that carries something
abbrev pub TellsRefusal : Option Allow → Refusal → ResponseValue → Type 0
TellsRefusal allow refusal told =
    (told ≡ refusal_response allow refusal) ⊎ (IsTrue (carries refusal) × (told ≡ refusal_response None Refusals.Memory))

-- a refusal that is told, or out of memory in its place, is the response to its result
pub refused_or_memory : {Value : Type 0} (told_by : Result Value Refusal → ResponseValue) (told : ResponseValue) (r : Refusal)
    → told_by (Err r) ≡ refusal_response None r → TellsRefusal None r told → RespondsOrMemory told_by (Err r) told
refused_or_memory told_by told r as_refusal tells = grind arith

-- a text that is told is no refusal
pub text_is_not_memory : (text : List ℕ) (told : ResponseValue) → told ≡ json_response text → told ≡ refusal_response None Refusals.Memory → ⊥
text_is_not_memory text told e m = grind arith

-- the same history, of which none is in doubt
pub still : (before after : RegisterHistory) → after.accepted ≡ before.accepted → before.in_doubt ≡ None → after.in_doubt ≡ None → after ≡ before
still before after p q r = λ i. record { accepted = p i; in_doubt = (r ∙ sym q) i }

-- A RESULT THAT IS TOLD

-- said of whatever rows a register that is not broken shows, by a call that leaves the disk clean
abbrev pub OfShown : {S : Type 0} → Ghosts S → RegisterState S → RegisterState S → (RegisterRows → Type 0) → Type 0
OfShown g before after Says = before.is_broken ≡ false → HasCleanDisk (state g after.conn) → (t : RegisterRows) → ShowsAt g t before → Says t

-- what is made of that at which a register stood: one that is broken stays. One that is whole does this, and stays too
-- if out of memory is told and it is whole afterwards
abbrev pub Makes : {S Stand : Type 0} → RegisterState S → ResponseValue → Bool → Type 0 → Stand → Stand → Type 0
Makes after told is_broken Does s end =
    (IsTrue is_broken → end ≡ s)
    × (is_broken ≡ false → Does × (told ≡ refusal_response None Refusals.Memory → after.is_broken ≡ false → end ≡ s))

module _ {S Value : Type 0} (g : Ghosts S) (before after : RegisterState S) (told : ResponseValue) (told_by : Result Value Refusal → ResponseValue)
    (as_refusal : (r : Refusal) → told_by (Err r) ≡ refusal_response None r) (result : Result Value Refusal) where
  module _ (broken : IsTrue before.is_broken → (result ≡ Err Refusals.Broken) × (after ≡ before))
      (breaks : before.is_broken ≡ false → IsTrue after.is_broken ↔ (result ≡ Err Refusals.Disk)) where
    -- a broken register says so. With one that is whole the result does this, or something else if memory runs out
    answered_by : {Stand : Type 0} (s end : Stand) (Does : Result Value Refusal → Type 0) (is_broken : Bool) → before.is_broken ≡ is_broken
        → Makes after told is_broken (Does result) s end → RespondsOrMemory told_by result told
        → RespondsRefusal s told end Refusals.Memory ⊎ MatchBool is_broken (RespondsRefusal s told end Refusals.Broken)
        ((r : Result Value Refusal) × (told ≡ told_by r) × Does r)
    answered_by s end Does is_broken same made tells = grind (arith, broken, breaks, as_refusal, made.0, made.1)

    -- what is done of the result, if out of memory is told in its place only if the history and the rows stay
    pub result_answered : (Does : RegisterHistory → RegisterHistory → Result Value Refusal → Type 0)
        (ByRows : RegisterRows → Result Value Refusal → RegisterRows → Type 0) (MayBe : Result Value Refusal → Type 0)
        → (before.is_broken ≡ false → MayBe result) → Leads g before after (λ s end. Makes after told (is_some s.in_doubt) (Does s end result) s end)
        → RowsLead g before after (λ t end. Makes after told t.is_broken (ByRows t result end) t end)
        → (HasCleanDisk (state g after.conn) → HasCleanDisk (state g before.conn)) → RespondsOrMemory told_by result told
        → Answered g before told after (λ old new. MatchOption old.in_doubt ((r : Result Value Refusal) × (told ≡ told_by r) × Does old new r)
        (λ _. RespondsRefusal old told new Refusals.Broken)) (λ old new. TakesByRows told_by ByRows old told new)
        (λ old new. Replies told_by MayBe old told new)
    result_answered Does ByRows MayBe may leads rows_lead clean tells = record {
      clean = clean;
      reply = answered_by before.is_broken after.is_broken (λ r. MayBe r × (IsTrue after.is_broken ↔ (r ≡ Err Refusals.Disk))) before.is_broken refl
          (λ yes. ap (λ (r : RegisterState S). r.is_broken) (broken yes).1, λ whole. ((may whole, breaks whole), λ m calm. calm ∙ sym whole)) tells;
      answer = λ now s at.
          let end = leads now s at in
          let told_so = answered_by s end.0 (Does s end.0) (is_some s.in_doubt) at.broken end.2 tells in (end.0, end.1, grind arith);
      rows = λ now t at.
          let end = rows_lead now t at in
          (end.0, end.1, answered_by t end.0 (λ r. ByRows t r end.0) t.is_broken at.broken end.2 tells);
    }

  -- a reading is answered as its result says, or with out of memory
  module _ {MayFail : Refusal → Type 0} (looks : ReadsHistory g MayFail before after result) where
    pub reading_answered : (Says : History → Result Value Refusal → Type 0) (SaysBy : RegisterRows → Result Value Refusal → Type 0)
        (MayBe : Result Value Refusal → Type 0) → (before.is_broken ≡ false → MayBe result) → OfHistory g before after (λ A. Says A result)
        → OfShown g before after (λ t. SaysBy t result) → RespondsOrMemory told_by result told
        → AnswersReading g before told after told_by MayBe Says SaysBy
    reading_answered Says SaysBy MayBe may says says_by =
        result_answered looks.broken looks.breaks (λ old new r. ReadsAsHistory Says old.accepted r new) (ReadsRows SaysBy) MayBe may
        (λ clean s at.
        let says : s.in_doubt ≡ None → Says s.accepted result = λ none.
        says clean s.accepted (subst (λ (t : RegisterHistory). StandsAt g t before) (still (whole s.accepted) s refl refl none) at) in
        (left_at after.is_broken s, looks.stands s at, grind (arith, at.broken, looks.broken, looks.breaks, says)))
        (λ clean t at.
        let kept : ShowsAt g (record t { is_broken = after.is_broken }) after = grind (arith, looks.broken, looks.nothing.rows t.rows, at.shows) in
        let says = λ (whole : before.is_broken ≡ false). says_by whole clean t at in
        (record t { is_broken = after.is_broken }, kept, grind (arith, at.broken, looks.broken, looks.breaks, says)))
        looks.clean

-- NOTHING WAS ASKED OF THE REGISTER

module _ {S : Type 0} (g : Ghosts S) (before : RegisterState S) (told : ResponseValue) where
  -- out of memory answers any request, and leaves the register as it is
  pub memory_answered : (Answer : RegisterHistory → RegisterHistory → Type 0) (ByRows : RegisterRows → RegisterRows → Type 0) (Reply : Bool → Bool → Type 0)
      → told ≡ refusal_response None Refusals.Memory → Answered g before told before Answer ByRows Reply
  memory_answered Answer ByRows Reply tells = grind (arith)

  -- what was read is no request
  pub refused_answered : {Request : Type 0} (target : List ℕ) (Takes : RegisterHistory → RegisterHistory → Request → Type 0)
      (ByRows : RegisterRows → RegisterRows → Request → Type 0) (Replies : Bool → Bool → Request → Type 0)
      (expected : Result Request Refusal) (r : Refusal) → (r ≢ Refusals.Memory → expected ≡ Err r) → TellsRefusal (if_method r (allow_of target)) r told
      → Answered g before told before (λ old new. MatchResult expected (Takes old new) (RespondsUnread old target told new))
      (λ old new. MatchResult expected (ByRows old new) (RespondsUnread old target told new))
      (λ old new. MatchResult expected (Replies old new) (RespondsUnread old target told new))
  refused_answered target Takes ByRows Replies expected r reads tells = let memory = is_memory r in grind (arith, reads, memory)
