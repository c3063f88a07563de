-- The laws of the room, each from the file that proves it.

-- a sheet answers as its stays do: by both the same people are in a room, and as many
pub use Rattle.kcr_room.proofs.Agreement.{same-present, same-crowd}
-- of a sheet made in turn both are changed alike by a request that is not refused, and refuse a request alike where
-- nobody was ever alone in the room, nor too many
pub use Rattle.kcr_room.proofs.Refusals.{same_stays, same_refusal}
-- rows that are not refused keep every row in its turn; those present are those in the room by their last rows
pub use Rattle.kcr_room.proofs.Keeping.{turns_keep, present_are_in}
-- those present are listed in byte order, each once
pub use Rattle.kcr_room.proofs.Rising.{present_are_rising}
-- rows may come in any order if each person has at most one at a moment, as rows made in turn have
pub use Rattle.kcr_room.proofs.AnyOrder.{sheet-shares, stays-order, rows-present}
-- an attendance has each stay of the ceremony once and no other, by beginning, then initials
pub use Rattle.kcr_room.proofs.Listed.{attendance-moves, attendance-listed}
