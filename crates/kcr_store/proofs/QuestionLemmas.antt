-- What is shown of custodians, of a bag, of a ceremony and of a room, out of the rows of the tables.
use Rattle.kcr_store.proofs.Common.{◌≡◌, ℕ, true, List, [], ◌∷◌, map, filter, Some, refl, ◌⊎◌, ap, ◌∙◌, arith}
use Rattle.kcr_store.proofs.Common.{IsSome, MatchResult, IfErr, ok_or, list_any, IsPermutation, IsPermutation-map, IsPermutation-refl}
use Rattle.kcr_store.proofs.Common.{IsPermutation-reverse, IsPermutation-trans, Trees, ascending-filter, ascending-map, Refusal, Unknown}
use Rattle.kcr_store.proofs.Common.{filter-order, same-itself, holder_by, lasts_beyond, spot_by, lies_in, sealed_items, attendance_in_by}
use Rattle.kcr_store.proofs.Common.{present_in_by, stay_covers, stay_reaches, stays_by, StayWithName, History, is_ceremony, IsRegister}
use Rattle.kcr_store.proofs.Common.{AreCustodiansShown, AreStepsShown, IsBagShown, IsCustodyShown, IsRoomShown, IsSheetShown, holders_from, with_name}
use Rattle.kcr_store.proofs.Common.{Tables, SameTables, tables, people, appointments, bags, ceremonies, ceremony_row, is_of_serial, is_of_number}
use Rattle.kcr_store.proofs.Common.{ceremony_by, Rises, named_stays, TreesHoldTables, IsFault, AreCustodiansShownBy, AreStepsShownBy, HasNoRowBy}
use Rattle.kcr_store.proofs.Common.{IsBagShownBy, IsCustodyShownBy, IsRoomShownBy, IsRowBy, IsSheetShownBy}
use Rattle.std.specs.Prelude.{IsTrue, Result, IfOk}
use Rattle.kcr_base.specs.declared.refusal.Thing.TheVariants as Things
use Rattle.kcr_people.specs.declared.Appointment.{Appointment}
use Rattle.kcr_room.specs.{declared.Stay.Stay, Room.ascending}
use Rattle.kcr_room.proofs.{Lists.filter-kept, Orders.present-order}
use Rattle.kcr_history.specs.declared.{row_types.CeremonyRow.CeremonyRow, questions.CustodyShown.CustodyShown, questions.StepsShown.StepsShown}
use Rattle.kcr_history.specs.declared.questions.{BagShown.BagShown, RoomShown.RoomShown, CustodiansShown.CustodiansShown}
use Rattle.kcr_history.specs.{Custody.spot, Room.sheet}
use Rattle.kcr_machine.proofs.{BagsWords.spot-shown, InRoom.present-shown, InRoom.holder-lasting}
use Rattle.kcr_tables.proofs.NamedLemmas.{passing}
use Rattle.kcr_reading.proofs.StayLemmas.{one_attendance}
use Rattle.kcr_store.specs.Rows.{IsRowOf, HasNoRow}
use Rattle.kcr_store.proofs.{PlannedLemmas.planned_row, StoreLemmas.all_pairs, StoreLemmas.by_code}

-- ---- what some rows show

-- a row of the ceremony is one
pub one_planned : (ceremony : ℕ) → IsTrue (list_any (is_of_number ceremony) (ceremony_row [] ceremony ∷ []))
one_planned ceremony = grind arith

-- what is put in a bag is in it
pub codes_packed : (serial : List ℕ) (codes : List (List ℕ)) → map (λ item. item.code) (filter (lies_in serial) (sealed_items serial codes)) ≡ codes
codes_packed serial [] = refl
codes_packed serial (code ∷ codes) = grind (arith, same-itself, codes_packed serial codes)

-- ---- lists

-- what is said of a list that is read, and a reading is refused for a fault alone
pub shown_or_fault : {X : Type 0} (IsRead IsShown : X → Type 0) (IsMissing : Refusal → Type 0) (result : Result X Refusal) → ((x : X) → IsRead x → IsShown x)
    → IfOk result IsRead → IfErr result IsFault → MatchResult result IsShown (λ refusal. IsFault refusal ⊎ IsMissing refusal)
shown_or_fault IsRead IsShown IsMissing result shows read fault = grind arith

-- the stays of a file give the attendance of the sheet, in whatever order the history has them
sheet_shown : (A : History) {db : Trees} → TreesHoldTables (tables A) db → (ceremony : ℕ)
    → named_stays ceremony (tables A) ≡ map (with_name (people A)) (attendance_in_by (stays_by (sheet A)) ceremony)
sheet_shown A k ceremony =
    let sheets = IsPermutation-trans _ _ _ (IsPermutation-reverse (stays_by (sheet A))) k.stands.rows.stays in
    ap (map (with_name (people A))) (one_attendance ceremony sheets k.stands.rows.stays k.kept.stays.rising)

-- ---- what rows show, in whatever order they are

-- the row of the ceremony, or that there is none
pub row_by : (m : Tables) (ceremony : ℕ)
    → MatchResult (ok_or (ceremony_by m.ceremonies ceremony) (Unknown (Things.Ceremony ceremony))) (IsRowBy m ceremony) (HasNoRowBy m ceremony)
row_by m ceremony = grind arith

-- a stay by which somebody is in the room at the moment lasts to it
covers_reaches : (ceremony at : ℕ) (stay : Stay) → stay_covers ceremony at stay ≡ true → stay_reaches ceremony at stay ≡ true
covers_reaches ceremony at stay h = grind arith

-- who is in the room, by the stays that last to the moment
pub present_rows : (ceremony at : ℕ) (ms ts rows : List Stay) → IsPermutation ms ts → IsPermutation (filter (stay_reaches ceremony at) ts) rows
    → present_in_by rows ceremony at ≡ present_in_by ms ceremony at
present_rows ceremony at ms ts rows same are =
    present-order (filter (stay_reaches ceremony at) ts) rows are ceremony at
    ∙ ap (λ some. ascending (map (λ stay. stay.who) some)) (filter-kept (stay_covers ceremony at) (stay_reaches ceremony at) ts (covers_reaches ceremony at))
    ∙ present-order ms ts same ceremony at

module _ (m t : Tables) (same : SameTables m t) where
  -- who holds which place on a day
  pub holders_by : (day : ℕ) (shown : CustodiansShown) (rows : List Appointment) → IsPermutation (filter (lasts_beyond day) t.appointments) rows
      → shown.day ≡ day → shown.holders.items ≡ holders_from (λ place. holder_by rows place day) → AreCustodiansShownBy m day shown
  holders_by day shown rows are asked holders =
      let lasting = IsPermutation-trans _ _ _ (filter-order (lasts_beyond day) m.appointments t.appointments same.appointments) are in
      record { day = asked; rows = rows; lasting = lasting; holders = holders }

  -- the bag with its items
  pub bag_by : (rises : Rises t) (serial : List ℕ) (bag : BagShown) → bag.serial ≡ serial → spot_by m.bags serial ≡ Some bag.spot
      → bag.items.items ≡ map (λ item. item.code) (filter (lies_in serial) t.items) → IsBagShownBy m serial bag
  bag_by rises serial bag named lies codes = record {
    serial = named;
    spot = lies;
    items = rw codes (IsPermutation-map (λ item. item.code) _ _ (filter-order (lies_in serial) m.items t.items same.items));
    order = rw codes (all_pairs _ _ (ascending-map _ (λ item. item.code) (filter (lies_in serial) t.items)
        (ascending-filter _ (lies_in serial) t.items (by_code t.items rises.items))));
  }

-- ---- over the tables of a history it is what the history shows

-- the row of the ceremony, and if there is none it was never planned
module _ (A : History) (ceremony : ℕ) where
  -- a ceremony with a row was planned
  pub planned_of_history : IsSome (ceremony_by (ceremonies A) ceremony) → IsTrue (is_ceremony A ceremony)
  planned_of_history some = grind (arith, planned_row A ceremony)

  -- the row, or why there is none
  pub found_of_history : (result : Result CeremonyRow Refusal) → MatchResult result (IsRowBy (tables A) ceremony) (HasNoRowBy (tables A) ceremony)
      → MatchResult result (IsRowOf A ceremony) (HasNoRow A ceremony)
  found_of_history result is = grind (arith, planned_row A ceremony)

-- where the bag lies
pub spot_shown : (A : History) → IsRegister A → (serial : List ℕ) → spot_by (bags A) serial ≡ spot A serial
spot_shown A register serial = spot-shown A register serial (bags A) (IsPermutation-refl (filter (is_of_serial serial) (bags A)))

module _ (A : History) (register : IsRegister A) where
  -- the custodians shown by the tables are those of the history
  pub custodians_of_history : (day : ℕ) (shown : CustodiansShown) → AreCustodiansShownBy (tables A) day shown → AreCustodiansShown A day shown
  custodians_of_history day shown are =
      let kept = passing (lasts_beyond day) (appointments A) are.rows are.lasting in
      record { day = are.day; holders = are.holders ∙ (λ i. holders_from (λ place. holder-lasting A register are.rows day kept place i)) }

  -- the bag shown by the tables is that of the history
  pub bag_of_history : (serial : List ℕ) (bag : BagShown) → IsBagShownBy (tables A) serial bag → IsBagShown A serial bag
  bag_of_history serial bag is = grind (arith, spot_shown)

module _ (A : History) (ceremony : ℕ) where
  -- the room shown by the tables is that of the history
  pub room_of_history : (at : ℕ) (room : RoomShown) → IsRoomShownBy (tables A) ceremony at room → IsRoomShown A ceremony at room
  room_of_history at room is =
      let people = present-shown A ceremony at (tables A).stays (IsPermutation-refl (filter (stay_reaches ceremony at) (tables A).stays)) in
      grind (arith, planned_of_history, people)

  -- the steps shown by the tables are those of the history
  pub steps_of_history : (steps : StepsShown) → AreStepsShownBy (tables A) ceremony steps → AreStepsShown A ceremony steps
  steps_of_history steps are = grind (arith, planned_row A ceremony)

  -- the rows of a file give the attendance of the sheet
  pub sheet_of_history : {db : Trees} → TreesHoldTables (tables A) db → (stays : List StayWithName) → IsSheetShownBy (tables A) ceremony stays
      → IsSheetShown A ceremony stays
  sheet_of_history kept stays is = record { planned = planned_of_history A ceremony is.planned; stays = is.stays ∙ sheet_shown A kept ceremony }

-- what is shown of custody by the tables of a history is what the history shows
pub custody_of_history : (A : History) (custody : CustodyShown) → IsCustodyShownBy (tables A) custody → IsCustodyShown A custody
custody_of_history A custody is = record { safes = is.safes; bags = is.bags; loose = is.loose }
