-- Which frames there are, and how many of them end a transaction.
use Rattle.std.proofs.Common.{◌≡◌, ℕ, zero, suc, ◌+◌, ◌<◌, ◌≤◌, true, false, List, refl, ap, arith}
use Rattle.std.proofs.lemmas.Bool.{or_from, cases_lt, Decides.nat_tests}
use Rattle.kcr_log.specs.declared.frames.Header.{Header}
use Rattle.kcr_log.specs.Frames.{frame_count, frame_of, carries, checks, commits, commits_from, ends_in, begins, begins_in}

-- a frame that has the salts is there
pub carried : (header : Header) (log : List ℕ) (i : ℕ) → carries header log i ≡ true → i < frame_count header log
unfolding carries
carried header log i h = grind (arith, nat_tests)

-- a frame that checks has the salts
pub checked : (header : Header) (log : List ℕ) (i : ℕ) → checks header log i ≡ true → carries header log i ≡ true
unfolding checks
checked header log i h = grind (arith, nat_tests)

-- a frame that checks has the number of a page
pub numbered : (header : Header) (log : List ℕ) (i : ℕ) → checks header log i ≡ true → 0 < (frame_of header log i).page
unfolding checks
numbered header log i h = grind (arith, nat_tests)

-- a frame without the salts ends the count
pub none-more : (header : Header) (log : List ℕ) (i n : ℕ) → carries header log i ≡ false → commits_from header log i n ≡ 0
unfolding commits_from
none-more header log i zero h = refl
none-more header log i (suc n) h = rw h refl

-- a frame without the salts ends no transaction
pub not-carried : (header : Header) (log : List ℕ) (i : ℕ) → carries header log i ≡ false → commits header log i ≡ false
unfolding commits
not-carried header log i h = rw h refl

-- if none but the last frame before `end` ends a transaction, at most one does
pub at-most-one : (header : Header) (log : List ℕ) (n i end : ℕ) → i ≤ end
    → ((j : ℕ) → i ≤ j → j + 1 < end → commits header log j ≡ false) → carries header log end ≡ false
    → commits_from header log i n ≤ 1
unfolding commits_from
at-most-one header log zero i end low inner last = omega arith
at-most-one header log (suc n) i end low inner last =
    let again = λ (l : i + 1 ≤ end). at-most-one header log n (i + 1) end l (λ j a b. inner j (omega arith) b) last in
    let here = inner i (omega arith) in
    let rest = none-more header log (i + 1) n in
    let e = λ (l : i ≡ end). ap (carries header log) l in
    let e' = λ (l : i + 1 ≡ end). ap (carries header log) l in
    grind (arith, nat_tests, again, here, rest, e, e', last, cases_lt (i + 1) end)

-- no frame begins a counted transaction if none does
pub none-begin : (header : Header) (log : List ℕ) (i n : ℕ)
    → ((j : ℕ) → i ≤ j → begins header log j ≡ false) → begins_in header log i n ≡ false
unfolding begins_in
none-begin header log i zero none = refl
none-begin header log i (suc n) none =
    or_from _ _ (none i (omega arith)) (none-begin header log (i + 1) n (λ j low. none j (omega arith)))

-- nor does one end a transaction
pub none-end : (header : Header) (log : List ℕ) (i n : ℕ)
    → ((j : ℕ) → i ≤ j → commits header log j ≡ false) → ends_in header log i n ≡ 0
unfolding ends_in
none-end header log i zero none = refl
none-end header log i (suc n) none =
    let here : commits header log i ≡ false = none i (omega arith) in
    rw here (omega (arith, none-end header log (i + 1) n (λ j low. none j (omega arith))))

-- if none but the last frame before `end` ends a transaction, and none from `end` on does, at most one ends
pub one-end : (header : Header) (log : List ℕ) (n i end : ℕ)
    → ((j : ℕ) → i ≤ j → j + 1 < end → commits header log j ≡ false)
    → ((j : ℕ) → end ≤ j → commits header log j ≡ false) → ends_in header log i n ≤ 1
unfolding ends_in
one-end header log zero i end inner past = omega arith
one-end header log (suc n) i end inner past =
    let here = inner i (omega arith) in
    let again = one-end header log n (i + 1) end (λ j low high. inner j (omega arith) high) past in
    let rest = λ (l : end ≤ i + 1). none-end header log (i + 1) n (λ j low. past j (omega arith)) in
    grind (arith, nat_tests, again, here, rest, cases_lt (i + 1) end)
