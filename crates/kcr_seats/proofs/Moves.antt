-- A seat is given to a person, and the others keep theirs.
use Rattle.std.proofs.Common.{◌≡◌, ◌≢◌, ℕ, ◌+◌, ◌<◌, ◌≤◌, ◌⊎◌, Bool, true, List, length, get_or, set, refl, arith}
use Rattle.std.proofs.lemmas.List.{length-set, get_or-set_same, get_or-set_other}
use Rattle.kcr_seats.specs.{Seating.IsSeating, Search.IsSeatedBut}
use Rattle.kcr_seats.proofs.Counting.{pigeonhole, same_or_not}

-- a place of the list is the one that was set, or has what it had
pub set_at : {X : Type 0} (w : List X) (seat : ℕ) (new d : X) (k : ℕ) → k < length w
    → ((k ≡ seat) × (get_or (set w seat new) k d ≡ new)) ⊎ ((k ≢ seat) × (get_or (set w seat new) k d ≡ get_or w k d))
set_at w seat new d k h = grind (arith, same_or_not k seat, get_or-set_same w seat new d, get_or-set_other w seat k new d)

-- if the one who is left out is none of the list, it is a seating
pub all_seated : {fits : ℕ → ℕ → Bool} {people root : ℕ} {w : List ℕ} (seats : ℕ) → length w ≡ seats → seats ≤ root
    → IsSeatedBut fits people root w → IsSeating fits seats people w
all_seated {fits} {people} {root} {w} seats long past y = record {
  each_seat = long;
  in_range = λ k l. y.in_range k (omega arith) (omega arith);
  fitting = λ k l. y.fitting k (omega arith) (omega arith);
  distinct = λ j k l m e. y.distinct j k (omega arith) (omega arith) (omega arith) (omega arith) e;
}

-- the seat is given to a person who had none but that of the new root
pub given : {fits : ℕ → ℕ → Bool} {people root : ℕ} {w : List ℕ} (new seat person : ℕ) → IsSeatedBut fits people root w
    → person < people → fits seat person ≡ true
    → ((k : ℕ) → k < length w → k ≢ new → k ≢ seat → (k ≢ root) × (get_or w k 0 ≢ person))
    → IsSeatedBut fits people new (set w seat person)
given {fits} {people} {root} {w} new seat person y known fit others = record {
  in_range = λ k l nk. (let l' = rw length-set at l in grind (arith, set_at w seat person 0 k l', others k l' nk, y.in_range k l'));
  fitting = λ k l nk. (let l' = rw length-set at l in grind (arith, set_at w seat person 0 k l', others k l' nk, y.fitting k l'));
  distinct = λ j k l m nj nk e. (
      let l' = rw length-set at l in let m' = rw length-set at m in
      grind (arith, set_at w seat person 0 j l', set_at w seat person 0 k m', others j l' nj, others k m' nk, y.distinct j k l' m'));
}

-- the same, whether or not they fit their seats
pub any_fit : {fits : ℕ → ℕ → Bool} {people root : ℕ} {w : List ℕ} (more : ℕ) → people ≤ more → IsSeatedBut fits people root w
    → IsSeatedBut (λ seat person. true) more root w
any_fit {fits} {people} {root} {w} more le y = record {
  in_range = λ k l ne. (let a : get_or w k 0 < people = y.in_range k l ne in omega arith);
  fitting = λ k l ne. refl;
  distinct = y.distinct;
}

-- all but the root are seated, so they are no more than the people
pub seats_few : {fits : ℕ → ℕ → Bool} {people root : ℕ} {w : List ℕ} → IsSeatedBut fits people root w → length w ≤ people + 1
seats_few {fits} {people} {root} {w} y =
    let moved = given (length w) root people (any_fit (people + 1) (omega arith) y) (omega arith) refl
    (λ k l _ ne. (ne, λ e. let a : get_or w k 0 < people = y.in_range k l ne in absurd (omega arith))) in
    let all = all_seated (length w) (length-set w root people) (omega arith) moved in
    let e = length-set w root people in
    rw e at (pigeonhole (set w root people) (people + 1) (λ i h. all.in_range i (rw e at h)) (λ i j h k. all.distinct i j (rw e at h) (rw e at k)))
