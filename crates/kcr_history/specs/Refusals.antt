-- The JSON texts of refusals.
use Rattle.std.specs.Prelude.{ℕ, Bool, true, false, List, [], ◌∷◌, ◌++◌, map, codes}
use Rattle.std.specs.Fmt.{decimal}
use Rattle.kcr_base.specs.{Day.day_text, Moment.moment_text, declared.refusal.Refusal.Refusal}
use Rattle.kcr_base.specs.Refusal.{number_of, word_of, member_text, thing_text, absentee_text, part_text}
use Rattle.kcr_base.specs.declared.refusal.Refusal.TheVariants.{Form, Unknown, Settled, Script, Late, Order, Turn, Lone, Absent, Unfinished, Short}
use Rattle.kcr_history.specs.Json.{quoted, member, object, array}

-- the refusal carries something beside its number and its word
abbrev pub carries : Refusal → Bool
carries (Form x) = true
carries (Unknown x) = true
carries (Settled x) = true
carries (Script x) = true
carries (Late x) = true
carries (Order x) = true
carries (Turn x) = true
carries (Lone x) = true
carries (Absent x) = true
carries (Unfinished x) = true
carries (Short x) = true
carries refusal = false

-- a refusal's members in byte order: what it carries stands before `number`, between `number` and `refusal`, or behind
-- both
abbrev pub refused_with : List (List ℕ) → Refusal → List (List ℕ) → List (List ℕ) → List ℕ
refused_with before refusal between after =
    object
    (before
    ++ (member (codes "number") (decimal (number_of refusal)) ∷ between)
    ++ (member (codes "refusal") (quoted (word_of refusal)) ∷ after))

-- the JSON text of a refusal: its number, its word, and what it carries
abbrev pub refusal_text : Refusal → List ℕ
refusal_text (Form x) = refused_with (member (codes "member") (quoted (member_text x)) ∷ []) (Form x) [] []
refusal_text (Unknown thing) =
    refused_with [] (Unknown thing) [] (member (codes "thing") (quoted (thing_text thing)) ∷ [])
refusal_text (Settled day) = refused_with (member (codes "day") (quoted (day_text day)) ∷ []) (Settled day) [] []
refusal_text (Script row) = refused_with [] (Script row) [] (member (codes "row") (decimal row) ∷ [])
refusal_text (Late mark) = refused_with (member (codes "mark") (quoted (moment_text mark)) ∷ []) (Late mark) [] []
refusal_text (Order next) = refused_with (member (codes "next") (decimal next) ∷ []) (Order next) [] []
refusal_text (Turn who) = refused_with [] (Turn who) [] (member (codes "who") (quoted who) ∷ [])
refusal_text (Lone moment) =
    refused_with (member (codes "moment") (quoted (moment_text moment)) ∷ []) (Lone moment) [] []
refusal_text (Absent who) = refused_with [] (Absent who) [] (member (codes "who") (quoted (absentee_text who)) ∷ [])
refusal_text (Unfinished part) =
    refused_with [] (Unfinished part) (member (codes "part") (quoted (part_text part)) ∷ []) []
refusal_text (Short seats) = refused_with [] (Short seats) [] (member (codes "seats") (array (map decimal seats)) ∷ [])
refusal_text refusal = refused_with [] refusal [] []
