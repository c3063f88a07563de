-- The first refusal in order.
use Rattle.std.specs.Prelude.{◌≡◌, ◌≢◌, ℕ, nat_lt, nat_le, Bool, true, false, not, List, [], ◌∷◌, Option, Some, None}
use Rattle.std.specs.Prelude.{option_map, find, Result, Ok, Err, MatchResult}
use Rattle.kcr_base.specs.declared.refusal.Refusal.{Refusal, TheVariants.Unknown, TheVariants.Late, TheVariants.Memory}
use Rattle.kcr_base.specs.declared.refusal.Thing.TheVariants as Things

-- the refusal, if its condition holds
abbrev pub when : Bool → Refusal → Option Refusal
when true refusal = Some refusal
when false refusal = None

-- the first refusal of a list of those that hold
abbrev pub first_of : List (Option Refusal) → Option Refusal
first_of [] = None
first_of (Some refusal ∷ rest) = Some refusal
first_of (None ∷ rest) = first_of rest

-- the refusal, or else the value
abbrev pub unless : {X : Type 0} → Option Refusal → X → Result X Refusal
unless (Some refusal) value = Err refusal
unless None value = Ok value

-- a test passes if it has no refusal, and else answers the refusal
abbrev pub IsTestResult : {X : Type 0} → Option Refusal → Result X Refusal → Type 0
IsTestResult refusal result = MatchResult result (λ _. refusal ≡ None) (λ r. refusal ≡ Some r)

-- the same for a call that may run out of memory: it returns the value, or the refusal
abbrev pub IsValueOrRefusal : {X : Type 0} → Option Refusal → X → Result X Refusal → Type 0
IsValueOrRefusal refusal value result =
    MatchResult result (λ x. (refusal ≡ None) × (x ≡ value)) (λ r. r ≢ Memory → refusal ≡ Some r)

-- WHAT ACTS OF SEVERAL KINDS TEST

-- there is no such person
abbrev pub unknown_person_refusal : Bool → List ℕ → Option Refusal
unknown_person_refusal is_known who = when (not is_known) (Unknown (Things.Person who))

-- the first of the people who is none
abbrev pub unknown_people_refusal : (List ℕ → Bool) → List (List ℕ) → Option Refusal
unknown_people_refusal is_known people =
    option_map (λ who. Unknown (Things.Person who)) (find (λ who. not (is_known who)) people)

-- there is no such ceremony
abbrev pub unknown_ceremony_refusal : Bool → ℕ → Option Refusal
unknown_ceremony_refusal is_known ceremony = when (not is_known) (Unknown (Things.Ceremony ceremony))

-- the moment is before the mark
abbrev pub before_mark_refusal : ℕ → Option ℕ → Option Refusal
before_mark_refusal at None = None
before_mark_refusal at (Some mark) = when (nat_lt at mark) (Late mark)

-- the moment is not later than the mark
abbrev pub not_after_mark_refusal : ℕ → Option ℕ → Option Refusal
not_after_mark_refusal at None = None
not_after_mark_refusal at (Some mark) = when (nat_le at mark) (Late mark)
