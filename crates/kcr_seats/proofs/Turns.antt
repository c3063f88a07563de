-- The sums of the steps.
use Rattle.std.proofs.Common.{◌≡◌, ℕ, ◌+◌, ◌*◌, ◌<◌, ◌≤◌, Bool, List, length, get_or, arith}
use Rattle.std.proofs.{Math.Nat.mul-le-mul_left, Math.Nat.mul-le-mul_right, lemmas.Grind.get_or_default_zero}
use Rattle.kcr_seats.specs.Search.{IsSeatedBut, all_steps, lower_steps, search_steps}
use Rattle.kcr_seats.specs.Seating.{IsSeating}
use Rattle.kcr_seats.proofs.Moves.{seats_few}

-- within the row at `next`
pub in_row : (n next other : ℕ) → next < n → other < n → next * (1 + n) + 1 + other + 1 ≤ n * (1 + n)
in_row n next other h k = let a : next + 1 ≤ n = omega arith in omega (arith, mul-le-mul_right (1 + n) a)

-- reach, the busy people, the search for a free person, and the shift
pub in_search : {fits : ℕ → ℕ → Bool} {people root : ℕ} {w : List ℕ} → IsSeatedBut fits people root w → (seats order : ℕ)
    → length w ≤ seats → order ≤ length w → length w * (1 + length w) + length w + order + length w ≤ search_steps seats people
unfolding search_steps
in_search {fits} {people} {root} {w} y seats order few short =
    let known : length w ≤ people + 1 = seats_few y in
    let rows : length w * length w ≤ length w * (people + 1) = mul-le-mul_left (length w) known in
    let all : (length w + 1) * (people + 1) ≤ (seats + 1) * (people + 1) = mul-le-mul_right (people + 1) (omega arith) in
    omega arith

-- the people below one of a seat
pub in_lower : {fits : ℕ → ℕ → Bool} {seats people seat here : ℕ} {w : List ℕ} → IsSeating fits seats people w → seat < seats
    → (person : ℕ) → here ≡ get_or w seat here → person ≤ here → person * (1 + seats + search_steps seats people) ≤ lower_steps seats people
unfolding lower_steps
in_lower {fits} {seats} {people} {seat} {here} {w} y lo person is le =
    let long : length w ≡ seats = y.each_seat in
    let some : get_or w seat here ≡ get_or w seat 0 = get_or_default_zero w seat here (omega arith) in
    let known : get_or w seat 0 < people = y.in_range seat lo in
    mul-le-mul_right (1 + seats + search_steps seats people) (omega (arith, is))

-- the try to seat the root, or the list of the seats that are too many, after the tries before it
pub in_turn : (seats people root : ℕ) → root < seats
    → root * (1 + search_steps seats people) + 1 + search_steps seats people + seats ≤ all_steps seats people
unfolding all_steps
in_turn seats people root h =
    let a : (root + 1) * (1 + search_steps seats people) ≤ seats * (1 + search_steps seats people) =
    mul-le-mul_right (1 + search_steps seats people) (omega arith) in
    omega arith

-- the first seating after the tries
pub in_improve : (seats people root : ℕ) → root ≤ seats
    → root * (1 + search_steps seats people) + seats * (1 + lower_steps seats people) ≤ all_steps seats people
unfolding all_steps
in_improve seats people root h = omega (arith, mul-le-mul_right (1 + search_steps seats people) h)

-- the table and the search
pub in_all : (seats people : ℕ) → seats * (1 + 2 * people) + all_steps seats people ≤ (people + 2) * 4 * (seats + 1) * (seats + 1) * (people + 1)
unfolding search_steps lower_steps all_steps
in_all seats people = omega arith

-- an iteration that is not the last leaves room for one more
pub in_loop : (n i cost : ℕ) → i < n → i * cost + cost ≤ n * cost
in_loop n i cost h = let a : i + 1 ≤ n = omega arith in omega (arith, mul-le-mul_right cost a)
