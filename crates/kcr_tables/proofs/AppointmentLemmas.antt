-- What is shown of appointments: of a place and of a person the one that began last, or those that last beyond a day.
use Rattle.kcr_tables.proofs.Common.{◌≡◌, inl, inr, ◌&&◌, nat_le, Bool, true, ℕ, List, ◌++◌, filter, list_any, and_from, le-leb, All-from_recursion}
use Rattle.kcr_tables.proofs.Common.{All-permutation, IsPermutation-sym, IsPermutation-trans, Has, all_from, has_kept, IsIn, in-any, in-append}
use Rattle.kcr_tables.proofs.Common.{in-front, in-behind, in-filter, in-order, Appointment, lasts_beyond, Selection, Nothing, Matching, All}
use Rattle.kcr_tables.proofs.Common.{ShowsLastOf, ShowsAppointmentsOf, IncludesAppointments, is_appointment_to, is_appointment_of, Place, IsGreatest}
use Rattle.std.specs.List.Sorted.{IsPermutation}
use Rattle.kcr_base.proofs.RowsLemmas.{filter-order}
use Rattle.kcr_history.specs.declared.views.AppointmentFilter.{AppointmentFilter}
use Rattle.kcr_history.specs.declared.views.AppointmentFilter.TheVariants as Wanted
use Rattle.kcr_tables.proofs.HasLemmas.{has_in, in_has, filter_from, filter_is}
use Rattle.kcr_tables.proofs.{MostLemmas.shown_has, MostLemmas.shown_over, NamedLemmas.passing}

-- if the row passes, one that is shown passes too and begins no earlier
abbrev Reached : (Appointment → Bool) → List Appointment → Appointment → Type 0
Reached test rows row = test row ≡ true → list_any (λ shown. test shown && nat_le row.since shown.since) rows ≡ true

-- of the appointments that pass, one that none began after is shown, or none if none passes
abbrev pub IsLast : (Appointment → Bool) → List Appointment → List Appointment → Type 0
IsLast test table shown = IsGreatest (λ (x : Appointment). x.since) (filter test table) shown

module _ (test : Appointment → Bool) (table shown : List Appointment) (last : IsLast test table shown) where
  there : (x : Appointment) → Has shown x → Has (filter test table) x
  there = shown_has (λ (x : Appointment). x.since) (filter test table) shown last

  -- what is shown is the table's
  pub from_table : (x : Appointment) → IsIn x shown → IsIn x table
  from_table x i = has_in x table (filter_from test table x (there x (in_has x shown i)))

  -- and no other that passes began later, also if more is shown
  pub none_later : (rows : List Appointment) → ((x : Appointment) → IsIn x shown → IsIn x rows) → ShowsLastOf test table rows
  none_later rows among =
      All-from_recursion (Reached test rows) table (all_from (Reached test rows) table (λ x h passes.
      let over = shown_over (λ (x : Appointment). x.since) (filter test table) shown last x (has_kept test table x h passes) in
      in-any (λ (y : Appointment). test y && nat_le x.since y.since) over.0 rows (among over.0 (has_in over.0 shown over.1))
      (and_from _ _ (filter_is test table over.0 (there over.0 over.1)) (le-leb x.since over.0.since over.2))))

  -- what is shown is the table's, and none of the table's that passes began later
  pub last_shown : ((x : Appointment) → IsIn x shown → IsIn x table) × ShowsLastOf test table shown
  last_shown = (from_table, none_later shown (λ x i. i))

-- the last to a place and that of a person
pub both_shown : (place : Place) (who : List ℕ) (table front behind : List Appointment) → IsLast (is_appointment_to place) table front
    → IsLast (is_appointment_of who) table behind → IncludesAppointments (Matching (Wanted.LastToPlaceAndOfPerson place who)) table (front ++ behind)
both_shown place who table front behind to of = (
  λ x i. elim (in-append x front behind i) [ inl f ↦ from_table _ table front to x f | inr b ↦ from_table _ table behind of x b ],
  (none_later _ table front to _ (λ x i. in-front x front behind i), none_later _ table behind of _ (λ x i. in-behind x front behind i)),
)

-- those that last beyond a day, alone
pub beyond_shown : (day : ℕ) (table shown : List Appointment) → IsPermutation (filter (lasts_beyond day) table) shown
    → IncludesAppointments (Matching (Wanted.EndingAfter day)) table shown
beyond_shown day table shown is =
    (λ x i. (in-filter (lasts_beyond day) x table (in-order x _ shown is i)).0, passing (lasts_beyond day) table shown is)

-- the same of a table that has its rows in another order
pub appointments_shown : (asked : Selection AppointmentFilter) (xs ys rows : List Appointment) → IsPermutation xs ys → IncludesAppointments asked ys rows
    → IncludesAppointments asked xs rows
appointments_shown Nothing xs ys rows same h = tt
appointments_shown All xs ys rows same h = IsPermutation-trans _ _ _ same h
appointments_shown (Matching asked) xs ys rows same h = (λ x i. in-order x xs ys same (h.0 x i), lasts asked h.1)
  where
    turned : (test : Appointment → Bool) → ShowsLastOf test ys rows → ShowsLastOf test xs rows
    turned test = All-permutation (Reached test rows) ys xs (IsPermutation-sym xs ys same)

    lasts : (asked : AppointmentFilter) → ShowsAppointmentsOf asked ys rows → ShowsAppointmentsOf asked xs rows
    lasts (Wanted.Place place) l = turned (is_appointment_to place) l
    lasts (Wanted.Person who) l = turned (is_appointment_of who) l
    lasts (Wanted.LastToPlaceAndOfPerson place who) l = (turned (is_appointment_to place) l.0, turned (is_appointment_of who) l.1)
    lasts (Wanted.EndingAfter day) l = IsPermutation-trans _ _ _ (filter-order (lasts_beyond day) xs ys same) l
