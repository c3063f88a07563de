-- The stays of a sheet, put one after the other into a table without rows.
use Rattle.kcr_older.proofs.Common.{rules, ◌≡◌, ℕ, ◌+◌, ◌≤◌, ◌==◌, ◌&&◌, true, false, List, [], ◌∷◌, ◌++◌, map, refl, sym, ap, ◌∙◌, inl, inr, arith}
use Rattle.kcr_older.proofs.Common.{append-nil, eq-eqb, reverse, list_any, count_by, IsPermutation, IsPermutation-refl, IsPermutation-sym}
use Rattle.kcr_older.proofs.Common.{IsPermutation-trans, IsPermutation-reverse, Stay, stay_from, next_of, stays_of, stays_by, cases_Bool, PutStay}
use Rattle.kcr_older.proofs.Common.{History, Tables, SameTables, tables}
use Rattle.std.proofs.lemmas.List.{Elements.All-from_recursion, Folds.list_any_none}
use Rattle.kcr_base.specs.{Rows.put_all, Same.same_text}
use Rattle.kcr_base.proofs.SameLemmas.{same-itself}
use Rattle.kcr_room.specs.{declared.SheetRow.SheetRow, Laws.ShareNoMoment, Room.is_enter, Room.following, Room.followed_rows_behind}
use Rattle.kcr_room.proofs.{Lists.count-cons, Lists.none-counted, AnyOrder.stays-order, AnyOrder.sheet-shares, AnyOrder.share-order}
use Rattle.kcr_history.specs.{Changes.same_stay, Changes.all_changed, Machine.IsRegister, Room.sheet}
use Rattle.kcr_machine.proofs.{SheetLeads.IsFresh, SheetLeads.put-fresh, SheetLeads.all_changed-stays, SheetFaults.sheet-made}

-- ---- the stays of a register's sheet, in whatever order its rows come

there : (A : History) (rows : List SheetRow) → IsPermutation (reverse (sheet A)) rows → IsPermutation (sheet A) rows
there A rows p = IsPermutation-trans _ _ _ (IsPermutation-reverse (sheet A)) p

-- no two rows of the table share person and moment
pub shared_none : (A : History) → IsRegister A → (rows : List SheetRow) → IsPermutation (reverse (sheet A)) rows → ShareNoMoment rows
shared_none A h rows p = share-order (sheet A) rows (there A rows p) (sheet-shares (sheet A) (sheet-made A h))

-- a law: the stays that are told by a register's sheet, whatever the order of its rows, are the register's stays
pub stays_follow_from_sheet : (A : History) → IsRegister A → (rows : List SheetRow) → IsPermutation (tables A).sheet rows
    → IsPermutation (tables A).stays (stays_by rows)
stays_follow_from_sheet A h rows p =
    IsPermutation-trans _ _ _ (IsPermutation-sym _ _ (IsPermutation-reverse (stays_by (sheet A))))
    (stays-order (sheet A) rows (there A rows p) (sheet-shares (sheet A) (sheet-made A h)))

-- ---- each stay has a key of its own

-- how many rows, and how many stays, are the person's of that moment
abbrev rows_at : List ℕ → ℕ → List SheetRow → ℕ
rows_at who t rows = count_by (λ row. same_text row.who who && row.at == t) rows

abbrev stays_at : List ℕ → ℕ → List Stay → ℕ
stays_at who t stays = count_by (λ stay. same_text stay.who who && stay.since == t) stays

none-any : (who : List ℕ) (t : ℕ) (stays : List Stay) → stays_at who t stays ≡ 0 → list_any (λ stay. same_text stay.who who && stay.since == t) stays ≡ false
none-any who t stays h = list_any_none _ stays (All-from_recursion _ stays (none-counted _ stays h))

-- of a sheet no two rows of which share person and moment, each stay has a key of its own
told-fresh : (before rows : List SheetRow) (old : List Stay) → ((who : List ℕ) (t : ℕ) → stays_at who t old + rows_at who t rows ≤ 1)
    → IsFresh same_stay (stays_of (followed_rows_behind before rows)) old
told-fresh before [] old free = tt
told-fresh before (row ∷ rows) old free =
    let x : Stay = stay_from row (next_of (record { row = row; by = following before row rows })) in
    let test = λ (who : List ℕ) (t : ℕ) (r : SheetRow). same_text r.who who && r.at == t in
    let count = λ (who : List ℕ) (t : ℕ). count-cons (test who t) row rows _ refl in
    let own : (same_text row.who row.who && row.at == row.at) ≡ true = rw (same-itself row.who) (eq-eqb row.at row.at refl) in
    let one = count-cons (test row.who row.at) row rows true own in
    let fresh = none-any row.who row.at old (omega (arith, free row.who row.at, one)) in
    let longer = λ (who : List ℕ) (t : ℕ). count-cons (λ (s : Stay). same_text s.who who && s.since == t) x old _ refl in
    elim (cases_Bool (is_enter row.way)) [
      | inl e ↦ rw e (fresh, told-fresh (before ++ (row ∷ [])) rows (x ∷ old) (λ who t. omega (arith, count who t, longer who t, free who t)))
      | inr e ↦ rw e (told-fresh (before ++ (row ∷ [])) rows old (λ who t. omega (arith, count who t, free who t)))
    ]

stays-put : (rows : List SheetRow) → ShareNoMoment rows → IsPermutation (put_all same_stay (stays_by rows) []) (stays_by rows)
stays-put rows h = put-fresh same_stay (stays_by rows) [] (told-fresh [] rows [] (λ who t. omega (arith, h who t)))

-- the machine's tables but for the stays, and the stays of the sheet put into them: the machine's tables
pub filled : (A : History) → IsRegister A → (rows : List SheetRow) → IsPermutation (tables A).sheet rows
    → SameTables (all_changed (map PutStay (stays_by rows)) (record (tables A) { stays = [] })) (tables A)
filled A h rows p =
    let bare : Tables = record (tables A) { stays = [] } in
    let put_is : all_changed (map PutStay (stays_by rows)) bare ≡ record (tables A) { stays = put_all same_stay (stays_by rows) [] }
    = ap (λ changes. all_changed changes bare) (sym (append-nil (map PutStay (stays_by rows)))) ∙ all_changed-stays (stays_by rows) [] bare in
    let same = IsPermutation-trans _ _ _ (stays-put rows (shared_none A h rows p)) (IsPermutation-sym _ _ (stays_follow_from_sheet A h rows p)) in
    rw put_is (search (rules, IsPermutation-refl, same))
