-- Who fills seats has initials: they came by the sheet.
use Rattle.std.proofs.Common.{◌≡◌, ◌⊎◌, inl, inr, ℕ, true, List, [], ◌∷◌, map, filter, refl, subst, arith}
use Rattle.std.specs.List.{AllByRecursion}
use Rattle.std.proofs.lemmas.Bool.{cases_Bool, false≢true}
use Rattle.std.proofs.lemmas.List.Elements.{recursion_from_All}
use Rattle.sqlite_trees.proofs.ListLemmas.{all-append, all-map}
use Rattle.kcr_base.specs.{Initials.IsInitials, Same.same_text}
use Rattle.kcr_base.proofs.SameLemmas.{same-is}
use Rattle.kcr_forms.specs.{Acts.IsAct, Values.AreValues}
use Rattle.kcr_history.specs.{History.History, Seating.is_seating, Room.sheet, Room.sheet_after, Room.is_in}
use Rattle.kcr_history.specs.declared.commands.{Act.Act, Act.TheVariants.Ceremony, Deed.TheVariants.RecordSheet}
use Rattle.kcr_room.specs.{Requests.new_row, Room.is_of, declared.SheetRow.SheetRow}
use Rattle.kcr_script.specs.declared.seat.Seat.{Seat}

abbrev HasInitials : SheetRow → Type 0
HasInitials row = IsInitials row.who

rows-after : (act : Act) (rows : List SheetRow) → IsAct act → AllByRecursion HasInitials rows → AllByRecursion HasInitials (sheet_after act rows)
rows-after (Ceremony c at (RecordSheet way people)) rows is all =
    all-append HasInitials rows (map (new_row c way at) people) all
    (all-map HasInitials (new_row c way at) people (recursion_from_All IsInitials people is.1.each))
rows-after act rows is all = all

sheet-rows : (A : History) → AreValues A → AllByRecursion HasInitials (sheet A)
sheet-rows [] values = tt
sheet-rows (entry ∷ A) values = rows-after entry.command.act (sheet A) values.0 (sheet-rows A values.1)

-- nobody else has a row
none_or : (rows : List SheetRow) (who : List ℕ) (t : ℕ) → AllByRecursion HasInitials rows → (filter (is_of who t) rows ≡ []) ⊎ IsInitials who
none_or [] who t all = inl refl
none_or (row ∷ rows) who t all = elim (cases_Bool (same_text row.who who)) [
  | inl e ↦ inr (subst IsInitials (same-is row.who who e) all.0)
  | inr e ↦ elim (none_or rows who t all.1) [ inl none ↦ inl (grind (arith, e, none)) | inr is ↦ inr is ]
]

in-room : (A : History) → AreValues A → (who : List ℕ) (c t : ℕ) → is_in A who c t ≡ true → IsInitials who
in-room A values who c t h = elim (none_or (sheet A) who t (sheet-rows A values)) [ inl none ↦ absurd (false≢true (rw none at h)) | inr is ↦ is ]

-- in a history of values each person of a seating has initials of the right form
pub seated-initials : (A : History) → AreValues A → (c t : ℕ) (seats : List Seat) (people : List (List ℕ)) → is_seating A c t seats people ≡ true
    → AllByRecursion IsInitials people
seated-initials A values c t seats [] h = tt
seated-initials A values c t [] (who ∷ people) h = absurd (false≢true h)
seated-initials A values c t (seat ∷ seats) (who ∷ people) h =
    let here : is_in A who c t ≡ true = grind arith in
    let rest : is_seating A c t seats people ≡ true = grind arith in
    (in-room A values who c t here, seated-initials A values c t seats people rest)
