-- Why the first wrong frame of a log that a stop cut short was not safe.
use Rattle.std.proofs.Common.{◌≡◌, ℕ, zero, suc, ◌+◌, ◌-◌, ◌<◌, ◌≤◌, ◌⊎◌, ◌&&◌, nat_lt, true, false, List, inl, inr, arith}
use Rattle.std.proofs.lemmas.Bool.{Decides.nat_tests, le-ltb, and_left, and_right, or_from}
use Rattle.kcr_log.specs.{declared.frames.Header.Header, Stop.IsCutShort, Stop.MayCount}
use Rattle.kcr_log.specs.Frames.{frame_count, checks, commits, ends_in, start_of, begins_in}
use Rattle.kcr_log.specs.Damage.{is_shut, is_followed, is_passed, is_opened, was_safe}
use Rattle.kcr_log.proofs.Counting.{checked, not-carried, one-end, none-begin}
use Rattle.kcr_log.proofs.Judging.{none-behind, shut-lacks, cut-short}

-- a frame past the last was not safe
pub none-safe : (header : Header) (log : List ℕ) (i : ℕ) → frame_count header log ≤ i → was_safe header log i ≡ false
unfolding was_safe is_followed is_passed begins_in ends_in
none-safe header log i past =
    let behind = none-behind header log i past in
    let left : frame_count header log - (i + 1) ≡ 0 = omega arith in
    let here : frame_count header log - i ≡ 0 = omega arith in
    rw (left, here) (grind (arith, nat_tests, behind))

-- where the transaction of a frame begins that is not past the one that was written
starts : (header : Header) (log : List ℕ) (done end m : ℕ) → start_of header log done ≡ done
    → ((i : ℕ) → done ≤ i → i + 1 < end → commits header log i ≡ false) → done + m ≤ end
    → (start_of header log (done + m) ≡ done) ⊎ (start_of header log (done + m) ≡ end)
unfolding start_of
starts header log done end zero ended inner within =
    let e : done + 0 ≡ done = omega arith in
    inl (rw e ended)
starts header log done end (suc m) ended inner within =
    let e : done + suc m ≡ suc (done + m) = omega arith in
    let before = starts header log done end m ended inner (omega arith) in
    let here = inner (done + m) (omega arith) in
    rw e (grind (arith, nat_tests, before, here))

-- the first wrong frame of a log that a stop cut short was not safe
pub cut-unsafe : (header : Header) (log : List ℕ) (k : ℕ) → IsCutShort header log
    → ((i : ℕ) → i < k → checks header log i ≡ true) → checks header log k ≡ false
    → was_safe header log k ≡ false
unfolding was_safe is_followed is_passed is_opened
cut-unsafe header log k cut before wrong = or_from _ _ (or_from _ _ followed passed) last
  where
    from : cut.done ≤ k
    from = let low = cut.whole k in grind arith

    followed : is_followed header log k ≡ false
    followed = let short = cut-short header log k cut before wrong in grind (arith, nat_tests, short)

    passed : is_passed header log k ≡ false
    passed = none-begin header log (k + 1) _ (λ j low. cut.alone j (let l = from in omega arith))

    opened : is_shut header log cut.end ≡ true → (cut.done ≡ cut.end) ⊎ MayCount header log cut.done
        → is_opened header log k ≡ false
    opened shut why =
        let low : cut.done ≤ k = from in
        let has = λ (past : cut.end < k). checked header log cut.end (before cut.end past) in
        let lacks = shut-lacks header log cut.end shut in
        let to : k ≤ cut.end = grind arith in
        let e : cut.done + (k - cut.done) ≡ k = omega arith in
        let first = rw e at (starts header log cut.done cut.end (k - cut.done) cut.ended cut.inner (omega arith)) in
        grind (arith, nat_tests, first, shut, why)

    last : (is_opened header log k && nat_lt 1 (ends_in header log k (frame_count header log - k))) ≡ false
    last = elim cut.rest [
      | inl held ↦ and_left _ _ (opened held.0 held.1)
      | inr none ↦ and_right _ _ (le-ltb 1 _ (one-end header log _ k cut.end
          (λ j low high. cut.inner j (let l = from in omega arith) high) (λ j low. not-carried header log j (none j low))))
    ]
