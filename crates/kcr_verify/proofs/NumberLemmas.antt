-- The rows of accepted commands in the order of their numbers.
use Rattle.kcr_verify.proofs.Common.{◌≡◌, ℕ, ◌+◌, ◌<◌, List, [], ◌∷◌, ◌++◌, map, length, drop, get_or, refl, reverse, sym, ap, ◌∙◌, arith}
use Rattle.kcr_verify.proofs.Common.{IsPermutation, IsSorted, Less, IsTotalOrder, nat_cmp_is, AllByRecursion, nat_cmp_total, on_total, append_assoc}
use Rattle.kcr_verify.proofs.Common.{map-append, reverse-append, drop_more, IsPermutation-sym, IsPermutation-trans, IsPermutation-reverse}
use Rattle.kcr_verify.proofs.Common.{IsAscending, ascending-append, sorted_unique, each-append, History, IsRegister, key_row, Entry, KeyRow, numbers}
use Rattle.kcr_verify.proofs.Common.{AreValues, by_number, rows_by_number}

number_total : IsTotalOrder by_number
number_total = on_total (λ (row : KeyRow). row.accepted) nat_cmp_total

-- one more entry, one more row at the end
pub one_more : (entry : Entry) (A : History) → rows_by_number (entry ∷ A) ≡ rows_by_number A ++ key_row entry ∷ []
one_more entry A = reverse-append (key_row entry ∷ []) (map key_row A)

below : (A : History) → IsRegister A → (row : KeyRow) → length A < row.accepted
    → AllByRecursion (λ x. AllByRecursion (λ y. by_number x y ≡ Less) (row ∷ [])) (rows_by_number A)
below [] h row less = tt
below (entry ∷ A) h row less =
    let is : entry.reply.accepted ≡ length (entry ∷ A) = numbers A entry h in
    let low : entry.reply.accepted < row.accepted = omega (arith, is, less) in
    rw (one_more entry A)
    (each-append _ (rows_by_number A) (key_row entry ∷ []) (below A h.1 row (omega (arith, less)))
    ((sym (nat_cmp_is entry.reply.accepted row.accepted Less low), tt), tt))

rising : (A : History) → IsRegister A → IsAscending (λ a b. by_number a b ≡ Less) (rows_by_number A)
rising [] h = tt
rising (entry ∷ A) h =
    let is : entry.reply.accepted ≡ length (entry ∷ A) = numbers A entry h in
    rw (one_more entry A)
    (ascending-append _ (rows_by_number A) (key_row entry ∷ []) (rising A h.1) (tt, tt) (below A h.1 (key_row entry) (omega (arith, is))))

-- of a register's rows one order is by number
pub in_number_order : (A : History) (rows sorted : List KeyRow) → IsRegister A → IsPermutation (map key_row A) rows → IsPermutation rows sorted
    → IsSorted by_number sorted → sorted ≡ rows_by_number A
in_number_order A rows sorted h same again order =
    let back = IsPermutation-sym _ _ (IsPermutation-reverse (map key_row A)) in
    let here = IsPermutation-trans _ rows sorted (IsPermutation-trans _ _ rows back same) again in
    sorted_unique by_number number_total (rows_by_number A) sorted (rising A h) here order

-- a history with an entry ends in one
ends_in : (x : Entry) (A : History) → (before : History) × (entry : Entry) × (x ∷ A ≡ before ++ entry ∷ [])
ends_in x [] = ([], x, refl)
ends_in x (y ∷ A) = let end = ends_in y A in (x ∷ end.0, end.1, ap (λ l. x ∷ l) end.2)

-- the first of the rows by number is that of the entry at the end of a history
pub next_entry : (later : History) (row : KeyRow) (rest : List KeyRow) → row ∷ rest ≡ rows_by_number later
    → (before : History) × (entry : Entry) × (later ≡ before ++ entry ∷ []) × (row ≡ key_row entry) × (rest ≡ rows_by_number before)
next_entry [] row rest e = cc
next_entry (x ∷ later) row rest e =
    let end = ends_in x later in
    let last : row ∷ rest ≡ key_row end.1 ∷ rows_by_number end.0 =
    e ∙ ap rows_by_number end.2 ∙ ap reverse (map-append key_row end.0 (end.1 ∷ [])) ∙ reverse-append (map key_row end.0) (key_row end.1 ∷ []) in
    (end.0, end.1, end.2, cc, cc)

-- what passes to a history from the one with one more entry passes to it from each that grew from it
pub passes_back : (P : History → Type 0) → ((entry : Entry) (A : History) → P (entry ∷ A) → P A) → (before A : History) → P (before ++ A) → P A
passes_back P back [] A h = h
passes_back P back (entry ∷ before) A h = passes_back P back before A (back entry (before ++ A) h)

-- the commands up to this index were accepted again, and the others are still to come
abbrev pub IsGiven : History → List KeyRow → ℕ → History → Type 0
IsGiven A rows index accepted =
    (later : History) × (A ≡ later ++ accepted) × (drop index rows ≡ rows_by_number later) × (length accepted ≡ index)

-- the row at the index is that of the entry that comes next
pub record IsNextRow (A : History) (rows : List KeyRow) (index : ℕ) (accepted : History) (row : KeyRow) : Type 0 where
  pub entry : Entry
  pub grown : IsRegister (entry ∷ accepted)
  pub values : AreValues (entry ∷ accepted)
  pub row_is : row ≡ key_row entry
  pub number : row.accepted ≡ index + 1
  pub then : IsGiven A rows (index + 1) (entry ∷ accepted)

-- the row at the index is that of the next entry, if the commands before it were accepted again
pub next_row : (A : History) → IsRegister A → AreValues A → (rows : List KeyRow) (index : ℕ) (accepted : History) (row : KeyRow)
    → IsGiven A rows index accepted → index < length rows → get_or rows index row ≡ row → IsNextRow A rows index accepted row
next_row A h values rows index accepted row given low at =
    let next = next_entry given.0 row (drop (index + 1) rows) (cc (drop_more rows index row low, given.2)) in
    let whole : A ≡ next.0 ++ (next.1 ∷ accepted) = cc (given.1, next.2, append_assoc next.0 (next.1 ∷ []) accepted) in
    let grown : IsRegister (next.1 ∷ accepted) = passes_back IsRegister (λ entry B g. g.1) next.0 _ (rw whole at h) in
    let numbered : next.1.reply.accepted ≡ length (next.1 ∷ accepted) = numbers accepted next.1 grown in
    let row_number : row.accepted ≡ next.1.reply.accepted = ap (λ (r : KeyRow). r.accepted) next.3 in
    record {
      entry = next.1;
      grown = grown;
      values = passes_back AreValues (λ entry B v. v.1) next.0 _ (rw whole at values);
      row_is = next.3;
      number = omega (arith, row_number, numbered, given.3);
      then = (next.0, whole, next.4, omega (arith, given.3));
    }
