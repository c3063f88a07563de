-- The first refusal of an act is one that its kind may get.
use Rattle.kcr_rules.proofs.Common.{◌≡◌, inl, inr, ℕ, Bool, true, false, List, ◌∷◌, option_map, Option, Some, None, Result, Ok, Err, refl, sym, subst}
use Rattle.kcr_rules.proofs.Common.{IfErr, MatchOption, first_of, when, before_mark_refusal, not_after_mark_refusal, Refusal, Absent, Late, Script}
use Rattle.kcr_rules.proofs.Common.{Settled, Unknown, no_holder_refusal, shut_refusal, unknown_box_refusal, settled_refusal, Act, Ceremony}
use Rattle.kcr_rules.proofs.Common.{RecordSheet, Sign, RecordException, View, Effect, late_refusal_by, by_rows, has_too_many_steps, seat_request_by}
use Rattle.kcr_rules.proofs.Common.{IsCheckResult, IsEffectResult, IsUnseatedFor, room_refusal}
use Rattle.kcr_base.specs.declared.place.Place.{Place}
use Rattle.kcr_base.specs.declared.refusal.Absentee.TheVariants as Absentees
use Rattle.kcr_base.specs.declared.refusal.Thing.TheVariants as Things
use Rattle.kcr_base.specs.declared.refusal.Refusal.TheVariants as Refusals
use Rattle.kcr_base.proofs.RefuseLemmas.{is_memory}
use Rattle.kcr_custody.specs.declared.SafeNumber.{SafeNumber}
use Rattle.kcr_script.specs.declared.script.Step.{Step}
use Rattle.kcr_room.specs.declared.{Stay.Stay, Way.Way}
use Rattle.kcr_history.specs.{declared.commands.Deed.Deed, Conditions.Facts, Conditions.early_of_deed, Conditions.script_refusal}
use Rattle.kcr_rules.specs.Refusals.{may_refuse}

-- a refusal, if one is told, is one that the act may get
Own : Act → Option Refusal → Type 0
Own act None = Unit {0}
Own act (Some refusal) = may_refuse act refusal ≡ true

absent-own : (act : Act) → Own act None
unfolding Own
absent-own act = tt

-- of conditions in order the first that holds tells
next-own : (act : Act) (o : Option Refusal) (os : List (Option Refusal)) → Own act o → Own act (first_of os) → Own act (first_of (o ∷ os))
unfolding Own
next-own act None os own others = others
next-own act (Some refusal) os own others = own

when-own : (act : Act) (b : Bool) (refusal : Refusal) → may_refuse act refusal ≡ true → Own act (when b refusal)
unfolding Own
when-own act true refusal own = own
when-own act false refusal own = tt

map-own : {X : Type 0} (act : Act) (tell : X → Refusal) (o : Option X) → ((x : X) → may_refuse act (tell x) ≡ true) → Own act (option_map tell o)
unfolding Own
map-own act tell None own = tt
map-own act tell (Some x) own = own x

before-own : (act : Act) (at : ℕ) (o : Option ℕ) → ((mark : ℕ) → may_refuse act (Late mark) ≡ true) → Own act (before_mark_refusal at o)
before-own act at None own = absent-own act
before-own act at (Some mark) own = when-own act _ _ (own mark)

after-own : (act : Act) (at : ℕ) (o : Option ℕ) → ((mark : ℕ) → may_refuse act (Late mark) ≡ true) → Own act (not_after_mark_refusal at o)
after-own act at None own = absent-own act
after-own act at (Some mark) own = when-own act _ _ (own mark)

settled-own : (act : Act) (o : Option ℕ) (day : ℕ) → ((last : ℕ) → may_refuse act (Settled last) ≡ true) → Own act (settled_refusal o day)
settled-own act None day own = absent-own act
settled-own act (Some last) day own = when-own act _ _ (own last)

box-own : (act : Act) (place : ℕ → Option Place) (o : Option ℕ) → ((n : ℕ) → may_refuse act (Unknown (Things.Box n)) ≡ true) → Own act (unknown_box_refusal place o)
box-own act place None own = absent-own act
box-own act place (Some number) own = when-own act _ _ (own number)

shut-own : (act : Act) (is_open : SafeNumber → Bool) (o : Option SafeNumber) → may_refuse act Refusals.Safe ≡ true → Own act (shut_refusal is_open o)
shut-own act is_open None own = absent-own act
shut-own act is_open (Some safe) own = when-own act _ _ own

holder-own : (act : Act) (has : Place → Bool) (o : Option Place) → ((place : Place) → may_refuse act (Absent (Absentees.Place place)) ≡ true)
    → Own act (no_holder_refusal has o)
holder-own act has None own = absent-own act
holder-own act has (Some place) own = when-own act _ _ (own place)

script-own : (act : Act) (script : Result (List Step) ℕ) → ((row : ℕ) → may_refuse act (Script row) ≡ true) → Own act (script_refusal script)
unfolding Own
script-own act (Ok steps) own = tt
script-own act (Err row) own = own row

ruleset own_rules =
    (absent-own, next-own, when-own, map-own, before-own, after-own, settled-own, box-own, shut-own, holder-own, script-own, refl)

-- THE TWO STAGES

own-early : (facts : Facts) (c at : ℕ) (deed : Deed) → Own (Ceremony c at deed) (first_of (early_of_deed facts c at deed))
own-early facts c at (RecordException text true) = search own_rules depth 20
own-early facts c at (RecordException text false) = search own_rules depth 20
own-early facts c at deed = search own_rules depth 20

own-room : (stays : List Stay) (entered : ℕ) (full : Bool) (mark : Option ℕ) (c : ℕ) (way : Way) (people : List (List ℕ)) (at : ℕ)
    → Own (Ceremony c at (RecordSheet way people)) (room_refusal stays entered full mark c way people at)
unfolding Own
own-room stays entered full None c way people at = refl
own-room stays entered full (Some m) c way people at = search own_rules depth 20

own-late : (view : View) (full : Bool) (act : Act) → Own act (late_refusal_by view full act)
own-late view full (Ceremony c at (RecordSheet way people)) = search (own_rules, own-room) depth 20
own-late view full (Ceremony c at deed) = search own_rules depth 20
own-late view full act = search own_rules depth 20

-- RESULTS

-- an act whose seats are not filled is refused for that, or because the rows are impossible
own-unseated : (view : View) (act : Act) (r : Refusal) → IsUnseatedFor view (seat_request_by view act) r → may_refuse act r ≡ true
own-unseated view (Ceremony c at (Sign step)) r (inl short) = rw short.2
own-unseated view (Ceremony c at (Sign step)) r (inr crowd) = rw crowd.0
own-unseated view (Ceremony c at (RecordException text true)) r (inl short) = rw short.2
own-unseated view (Ceremony c at (RecordException text true)) r (inr crowd) = rw crowd.0
own-unseated view act r u = absurd u

own : (view : View) (act : Act) (r : Refusal) (o : Option Refusal) → Own act o
    → MatchOption o (IsUnseatedFor view (seat_request_by view act) r) (λ told. r ≡ told) → may_refuse act r ≡ true
unfolding Own
own view act r None late u = own-unseated view act r u
own view act r (Some told) late same = subst (λ q. may_refuse act q ≡ true) (sym same) late

-- an act is refused only for what acts of its kind may be refused for
pub effect-kind : (view : View) (full : Bool) (act : Act) (result : Result Effect Refusal) → IsEffectResult view full act result
    → IfErr result (λ r. may_refuse act r ≡ true)
effect-kind view full act (Ok acted) is = tt
effect-kind view full act (Err r) is = elim (is_memory r) [
  | inl e ↦ subst (λ q. may_refuse act q ≡ true) (sym e) refl
  | inr ne ↦ own view act r _ (own-late view full act) (is ne)
]

-- what the first stage tells of an act in a ceremony, if the rows have no more steps done than a script has
pub check_kind : {X : Type 0} (view : View) (full : Bool) (c at : ℕ) (deed : Deed) (result : Result X Refusal)
    → has_too_many_steps view (Ceremony c at deed) ≡ false → IsCheckResult view full (Ceremony c at deed) result
    → IfErr result (λ r. may_refuse (Ceremony c at deed) r ≡ true)
unfolding Own
check_kind view full c at deed (Ok x) few is = tt
check_kind view full c at deed (Err r) few is = subst (Own (Ceremony c at deed)) (is few) (own-early (by_rows view full) c at deed)
