-- The rows of a sheet with those that follow them.
use Rattle.kcr_room.proofs.Common.{◌≡◌, ℕ, cond, not, ◌&&◌, nat_le, List, [], ◌∷◌, ◌++◌, map, Option, Some, refl, ap, ◌∙◌, arith, append-nil}
use Rattle.kcr_room.proofs.Common.{append_assoc, list_any, filter, map-append, filter-append, min_moment, least, is_enter, is_ahead, is_as_late}
use Rattle.kcr_room.proofs.Common.{following, Followed, followed_rows_behind, ends_after, stay_from, next_of, stays_of, stays_by, any-map}
use Rattle.kcr_room.proofs.{Common.same-turned, Firsts.lasts-least}
use Rattle.kcr_room.proofs.Words.{nat_tests, same_text, SheetRow, Stay}

-- without the rows that follow them, the rows are as they were
pub followed-same : (before rows : List SheetRow) → map (λ followed. followed.row) (followed_rows_behind before rows) ≡ rows
followed-same before [] = refl
followed-same before (row ∷ rows) = ap (λ more. row ∷ more) (followed-same (before ++ (row ∷ [])) rows)

-- the next row is later than t if none that follows is at t or before
pub lasts-next : (t : ℕ) (followed : Followed) → ends_after t (next_of followed) ≡ not (list_any (λ other. nat_le other.at t) followed.by)
lasts-next t followed =
    lasts-least t (map (λ other. other.at) followed.by) ∙ ap not (any-map (λ n. nat_le n t) (λ other. other.at) followed.by)

-- ONE ROW MORE

-- a further row follows the rows of its person that are not later
abbrev more : SheetRow → Followed → Followed
more row followed = record { row = followed.row; by = followed.by ++ filter (is_as_late followed.row) (row ∷ []) }

followed-more : (before rows : List SheetRow) (row : SheetRow)
    → followed_rows_behind before (rows ++ (row ∷ []))
    ≡ map (more row) (followed_rows_behind before rows) ++ (record { row = row; by = following (before ++ rows) row [] } ∷ [])
followed-more before [] row = rw (append-nil before)
followed-more before (other ∷ rows) row =
    grind (arith, followed-more (before ++ (other ∷ [])) rows row, filter-append (is_as_late other) rows (row ∷ []), append_assoc)

least-more : (ts : List ℕ) (t : ℕ) → least (ts ++ (t ∷ [])) ≡ min_moment (Some t) (least ts)
least-more [] t = refl
least-more (n ∷ ts) t = grind (arith, nat_tests, least-more ts t)

-- a further row ends the stays of its person that did not begin later
abbrev pub cut : SheetRow → Stay → Stay
cut row stay =
    record stay { until = cond (same_text stay.who row.who && nat_le stay.since row.at) (min_moment (Some row.at) stay.until) stay.until }

-- the stay that begins with the row, if it is `in`
abbrev pub begun : SheetRow → Option ℕ → List Stay
begun row until = cond (is_enter row.way) (stay_from row until ∷ []) []

-- the stays with a further row, which comes behind those listed before
abbrev pub stays_next : List SheetRow → List Stay → SheetRow → List Stay
stays_next before stays row = map (cut row) stays ++ begun row (least (map (λ other. other.at) (filter (is_ahead row) before)))

next-more : (row : SheetRow) (followed : Followed)
    → stay_from followed.row (next_of (more row followed)) ≡ cut row (stay_from followed.row (next_of followed))
next-more row followed =
    let later = least-more (map (λ other. other.at) followed.by) row.at in
    grind (arith, nat_tests, map-append, append-nil, same-turned row.who followed.row.who)

stays-more : (row : SheetRow) (all : List Followed) → stays_of (map (more row) all) ≡ map (cut row) (stays_of all)
stays-more row [] = refl
stays-more row (followed ∷ all) = grind (arith, nat_tests, next-more row followed, stays-more row all)

stays-append : (front : List Followed) (row : SheetRow) (by : List SheetRow)
    → stays_of (front ++ (record { row = row; by = by } ∷ [])) ≡ stays_of front ++ begun row (least (map (λ other. other.at) by))
stays-append [] row by = grind (arith, nat_tests)
stays-append (followed ∷ front) row by = grind (arith, nat_tests, stays-append front row by)

-- the stays of rows with one more behind are the stays before, with this row
pub stays-snoc : (rows : List SheetRow) (row : SheetRow) → stays_by (rows ++ (row ∷ [])) ≡ stays_next rows (stays_by rows) row
stays-snoc rows row = simp (followed-more [] rows row, stays-append, stays-more, append-nil)
