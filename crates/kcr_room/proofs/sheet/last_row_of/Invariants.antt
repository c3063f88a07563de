use Rattle.kcr_room.proofs.Common.{◌≡◌, drop, filter, same_text, last_onto, last_row}
use Rattle.kcr_room.proofs.sheet.last_row_of.Given as goal

-- the last so far and of what is left is the last
abbrev pub invariant-loop-row : goal.invariant-loop-row
invariant-loop-row l =
    last_onto l.last (filter (λ row. same_text row.who l.who) (drop l.row-index l.rows)) ≡ last_row (filter (λ row. same_text row.who l.who) l.rows)
