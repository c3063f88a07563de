use Rattle.kcr_room.proofs.Common.{◌≡◌, length, attendance_in_by}
use Rattle.kcr_room.proofs.Listed.{in_order_onto}
use Rattle.kcr_room.proofs.sheet.attendance.Given as goal

-- those that are left, put one after the other among those that are listed, are the attendance
abbrev pub invariant-loop-stay : goal.invariant-loop-stay
invariant-loop-stay l = in_order_onto l.ceremony l.stays.items l.listed.items ≡ attendance_in_by l.initial.stays.items l.ceremony

abbrev pub decreases-loop-stay : goal.decreases-loop-stay
decreases-loop-stay l = length l.stays.items
