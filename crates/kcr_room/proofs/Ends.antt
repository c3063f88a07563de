-- The ends of rows, told by their places, are those of the rows that follow.
use Rattle.kcr_room.proofs.Common.{◌≡◌, ℕ, suc, ◌+◌, ◌≤◌, ◌<◌, Bool, not, ◌||◌, ◌&&◌, ◌==◌, nat_le, nat_lt, List, [], ◌∷◌, ◌++◌, map, length, get_or}
use Rattle.kcr_room.proofs.Common.{drop, Option, None, refl, sym, ap, ◌∙◌, arith, append_assoc, drop-cons, length-append, list_any, AllByRecursion}
use Rattle.kcr_room.proofs.Common.{drop_all, list_any-append, SheetEvent, is_ahead, is_as_late, following, Followed, followed_rows_behind, ends_after}
use Rattle.kcr_room.proofs.Common.{next_of, stays_of, sheet_events_from, sheet_events_by, stays_with}
use Rattle.kcr_room.proofs.{Words.nat_tests, Words.same_text, Words.SheetRow, Lists.any-filter, Firsts.end-unique, Followed.lasts-next}

-- a row at a place
abbrev step_at : ℕ → SheetRow → SheetEvent
step_at place row = record { at = row.at; place = place; who = row.who }

-- the other step is of the same person and follows: at a later moment, or at the same one and listed later
abbrev pub follows : SheetEvent → SheetEvent → Bool
follows step other =
    same_text other.who step.who && (nat_lt step.at other.at || (step.at == other.at && nat_lt step.place other.place))

-- the end is later than t, or none, if and only if no step that follows is at t or before
abbrev pub IsEnd : List SheetEvent → SheetEvent → Option ℕ → Type 0
IsEnd steps step until = (t : ℕ) → ends_after t until ≡ not (list_any (λ other. follows step other && nat_le other.at t) steps)

-- of the rows listed before a row those follow that are ahead
any-before : (t : ℕ) (row : SheetRow) (last place : ℕ) (before : List SheetRow) → place + length before ≤ last
    → list_any (λ other. follows (step_at last row) other && nat_le other.at t) (sheet_events_from place before)
    ≡ list_any (λ other. is_ahead row other && nat_le other.at t) before
any-before t row last place [] h = refl
any-before t row last place (other ∷ before) h = grind (arith, nat_tests, h, any-before t row last (suc place) before (omega arith))

-- of those listed behind it those that are as late
any-behind : (t : ℕ) (row : SheetRow) (first place : ℕ) (behind : List SheetRow) → first < place
    → list_any (λ other. follows (step_at first row) other && nat_le other.at t) (sheet_events_from place behind)
    ≡ list_any (λ other. is_as_late row other && nat_le other.at t) behind
any-behind t row first place [] h = refl
any-behind t row first place (other ∷ behind) h = grind (arith, nat_tests, h, any-behind t row first (suc place) behind (omega arith))

steps-append : (place : ℕ) (rows more : List SheetRow) → sheet_events_from place (rows ++ more) ≡ sheet_events_from place rows ++ sheet_events_from (place + length rows) more
steps-append place [] more = grind arith
steps-append place (row ∷ rows) more = grind (arith, steps-append (suc place) rows more)

-- the steps that follow a row's step are those of the rows that follow
any-following : (t : ℕ) (all before behind : List SheetRow) (row : SheetRow) (place : ℕ) → all ≡ before ++ (row ∷ behind) → length before ≡ place
    → list_any (λ other. follows (step_at place row) other && nat_le other.at t) (sheet_events_by all)
    ≡ list_any (λ other. nat_le other.at t) (following before row behind)
any-following t all before behind row place e n =
    let steps = steps-append 0 before (row ∷ behind) in
    let front = any-before t row place 0 before (omega arith) in
    let back = any-behind t row place (suc place) behind (omega arith) in
    grind (arith, nat_tests, list_any-append, any-filter)

-- so ends told by places are the moments of the next rows
pub ends-next : (all : List SheetRow) (full : List (Option ℕ)) (place : ℕ) (before rows : List SheetRow) → all ≡ before ++ rows → length before ≡ place
    → place + length rows ≡ length full → AllByRecursion (λ step. IsEnd (sheet_events_by all) step (get_or full step.place None)) (sheet_events_from place rows)
    → drop place full ≡ map next_of (followed_rows_behind before rows)
ends-next all full place before [] e n l a = drop_all place full (omega arith)
ends-next all full place before (row ∷ rows) e n l a =
    let own : Followed = record { row = row; by = following before row rows } in
    let end = end-unique (get_or full place None) (next_of own) (λ t.
    a.0 t ∙ ap not (any-following t all before rows row place e n) ∙ sym (lasts-next t own)) in
    let rest = ends-next all full (suc place) (before ++ (row ∷ [])) rows (e ∙ sym (append_assoc before (row ∷ []) rows))
    (omega (arith, length-append before (row ∷ []))) (omega arith) a.1 in
    cc (drop-cons full place None (omega arith))

-- each row has one
pub ends-many : (before rows : List SheetRow) → length (map next_of (followed_rows_behind before rows)) ≡ length rows
ends-many before [] = refl
ends-many before (row ∷ rows) = ap suc (ends-many (before ++ (row ∷ [])) rows)

-- and the stays with these ends are the stays of the rows
pub with-ends : (before rows : List SheetRow) → stays_with rows (map next_of (followed_rows_behind before rows)) ≡ stays_of (followed_rows_behind before rows)
with-ends before [] = refl
with-ends before (row ∷ rows) = grind (arith, nat_tests, with-ends (before ++ (row ∷ [])) rows)
