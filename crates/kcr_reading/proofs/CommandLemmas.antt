-- The accepted commands, read by their numbers.
use Rattle.kcr_reading.proofs.Common.{◌≡◌, ℕ, ◌+◌, ◌-◌, ◌<◌, ◌≤◌, ◌==◌, pos, suc, List, [], ◌∷◌, ◌++◌, length, length-append, true, false, Option}
use Rattle.kcr_reading.proofs.Common.{Some, None, IsSome, is_some, codes, refl, sym, ap, ◌∙◌, arith, IsPermutation, option_map_or, option_to_list}
use Rattle.kcr_reading.proofs.Common.{false≢true, length_permutation, Int, all-permutation, key_row, has_value, value_is, number_ties, KeyRow}
use Rattle.kcr_reading.proofs.Common.{keys_place, is_given, shown_columns, column_names, IsNextOf}
use Rattle.sqlite_tied.specs.Compute.{everything}
use Rattle.kcr_history.specs.Tables as machine
use Rattle.kcr_tables.specs.Schema as schema
use Rattle.kcr_tables.specs.Unordered.{SelectsUnordered}
use Rattle.kcr_reading.specs.Commands.{only, numbered, commands_past, commands_within}

-- the text

-- the text that shows the row of keys with a number
abbrev pub number_text : List ℕ
number_text = codes "SELECT \"key\", accepted, command, reply FROM keys WHERE accepted = ?1"

-- it shows the rows that have this number
pub number_shown : (number : ℕ) → SelectsUnordered number_text keys_place (Int (pos number) ∷ []) (has_value 1 (Int (pos number)))
unfolding everything
number_shown number =
    record { test = is_given 0; project = shown_columns keys_place; order = []; names = column_names schema.keys; means = (refl, refl, refl); is = refl }

-- a row has this number as a value if and only if it is its accepted command's
pub is_numbered : (number : ℕ) (x : KeyRow) → has_value 1 (Int (pos number)) (key_row x) ≡ (x.accepted == number)
is_numbered number x = value_is (Int (pos x.accepted)) (Int (pos number)) refl refl ∙ sym (number_ties x.accepted number)

-- one alone, in whatever order they are

-- a list that has none or several elements has no only one
pub only_other : {X : Type 0} (ys : List X) → (length ys ≡ 1 → ⊥) → only ys ≡ None
only_other [] other = refl
only_other (y ∷ []) other = absurd (other refl)
only_other (y ∷ z ∷ ys) other = refl

-- the only element of a list, or that there is none, is the same in any order
pub only_same : {X : Type 0} (xs ys : List X) → IsPermutation xs ys → only xs ≡ only ys
only_same (x ∷ []) (y ∷ []) same = ap Some (sym (all-permutation (λ z. z ≡ x) (x ∷ []) (y ∷ []) same (refl, tt)).0)
only_same (x ∷ []) [] same = absurd (omega (arith, length_permutation _ _ same))
only_same (x ∷ []) (y ∷ z ∷ ys) same = absurd (omega (arith, length_permutation _ _ same))
only_same [] ys same = sym (only_other ys (λ e. omega (arith, length_permutation _ _ same)))
only_same (x ∷ z ∷ xs) ys same = sym (only_other ys (λ e. omega (arith, length_permutation _ _ same)))

-- the last of one is that one
pub only_popped : {X : Type 0} (ys rest : List X) (found : Option X) → length ys ≡ 1 → ys ≡ rest ++ option_to_list found → IsSome found → found ≡ only ys
only_popped ys [] (Some x) one split some = ap only (sym split)
only_popped ys (z ∷ rest) (Some x) one split some = absurd (let long = ap length split in omega (arith, length-append rest (x ∷ [])))
only_popped ys rest None one split some = absurd (false≢true some)

-- the next of those to come

-- if the last is at the end or past it, none is to come
pub none_within : (last until : ℕ) (m : machine.Tables) → until ≤ last → commands_within last until m ≡ []
unfolding commands_past
none_within last until m low = let none : until - last ≡ 0 = omega arith in ap (λ k. commands_past k last m) none

next_is : (last until : ℕ) (m : machine.Tables) → last < until
    → commands_within last until m ≡ option_map_or (λ row. row ∷ commands_within (last + 1) until m) (numbered (last + 1) m) []
unfolding commands_past
next_is last until m low = let more : until - last ≡ suc (until - (last + 1)) = omega arith in ap (λ k. commands_past k last m) more

-- one that was found is the next, and behind it come the others
pub next_some : (last until : ℕ) (m : machine.Tables) (found : Option KeyRow) → last < until → found ≡ numbered (last + 1) m → is_some found ≡ true
    → IsNextOf (commands_within last until m) found (commands_within (last + 1) until m)
next_some last until m None low is some = absurd (false≢true some)
next_some last until m (Some row) low is some =
    next_is last until m low ∙ ap (λ (o : Option KeyRow). option_map_or (λ row. row ∷ commands_within (last + 1) until m) o []) (sym is)

-- with none that was found none comes
pub next_none : (last until : ℕ) (m : machine.Tables) (found : Option KeyRow) → last < until → found ≡ numbered (last + 1) m → is_some found ≡ false
    → IsNextOf (commands_within last until m) found (commands_within last until m)
next_none last until m (Some row) low is none = absurd (false≢true (sym none))
next_none last until m None low is none =
    let all = next_is last until m low ∙ ap (λ (o : Option KeyRow). option_map_or (λ row. row ∷ commands_within (last + 1) until m) o []) (sym is) in
    (all, all)
