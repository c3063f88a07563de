-- Why a stop cuts a log short, whichever way a transaction is written.
use Rattle.std.proofs.Common.{◌≡◌, suc, ◌≢◌, ℕ, ◌+◌, ◌*◌, ◌<◌, ◌≤◌, ◌⊎◌, true, false, List, slice_index, refl, ◌∙◌, inl, inr, arith}
use Rattle.std.proofs.{lemmas.Bool.cases_lt, lemmas.Bool.cases_order, lemmas.Bool.Decides.nat_tests, Math.Nat.mul-le-mul_right}
use Rattle.sqlite_wal.specs.Format.{be32, count_page}
use Rattle.kcr_log.specs.{declared.frames.Header.Header, Stop.IsCutShort, Stop.MayCount}
use Rattle.kcr_log.specs.Frames.{frame_at, frame_of, carries, commits, begins}
use Rattle.kcr_log.specs.Written.{IsBehindShut, IsOverZeros, IsOverOlder}
use Rattle.kcr_log.proofs.{Counting.not-carried, Judging.shut-lacks}

-- a number of four bytes that are the same
pub same-number : (a b : List ℕ) (at : ℕ) → ((k : ℕ) → k < 4 → slice_index a (at + k) ≡ slice_index b (at + k))
    → be32 a at ≡ be32 b at
unfolding be32
same-number a b at h =
    let none : at + 0 ≡ at = omega arith in
    let first = rw none at (h 0) in
    omega (arith, first, h 1, h 2, h 3)

-- a frame that ends no transaction by its size
sized : (header : Header) (log : List ℕ) (i : ℕ) → (carries header log i ≡ true → (frame_of header log i).size ≡ 0)
    → commits header log i ≡ false
unfolding commits
sized header log i h = grind (arith, nat_tests, h)

-- a frame ends before the next begins
next-frame : (header : Header) (i end : ℕ) → i < end → frame_at header i + 24 ≤ frame_at header end
next-frame header i end low =
    let more : suc i * (24 + header.page_size) ≤ end * (24 + header.page_size) = mul-le-mul_right (24 + header.page_size) low in
    grind arith

later-frame : (header : Header) (i done : ℕ) → done ≤ i → frame_at header done ≤ frame_at header i
later-frame header i done low = omega (arith, mul-le-mul_right (24 + header.page_size) low)

-- a number of which some bytes were lost is no greater
lower-number : (a b : List ℕ) (at : ℕ)
    → ((k : ℕ) → k < 4 → (slice_index a (at + k) ≡ 0) ⊎ (slice_index a (at + k) ≡ slice_index b (at + k)))
    → be32 a at ≤ be32 b at
unfolding be32
lower-number a b at h =
    let none : at + 0 ≡ at = omega arith in
    let first = rw none at (h 0) in
    grind (arith, first, h 1, h 2, h 3)

-- the number of a count of which some bytes were lost is 0 or that number
torn-count : (a b : List ℕ) (at : ℕ) → be32 b at ≡ count_page → ((x : ℕ) → slice_index b x < 256)
    → ((k : ℕ) → k < 4 → (slice_index a (at + k) ≡ 0) ⊎ (slice_index a (at + k) ≡ slice_index b (at + k)))
    → (be32 a at ≡ 0) ⊎ (be32 a at ≡ count_page)
unfolding be32
torn-count a b at e bytes h =
    let none : at + 0 ≡ at = omega arith in
    let first = rw none at (h 0) in
    grind (arith, first, h 1, h 2, h 3, bytes at, bytes (at + 1), bytes (at + 2), bytes (at + 3))

-- a log is cut short while a transaction is written behind a frame that is shut
pub behind-shut : (header : Header) (log : List ℕ) (done : ℕ) → IsBehindShut header log done → IsCutShort header log
behind-shut header log done left = record {
  done = done;
  end = done;
  forward = omega arith;
  ended = left.ended;
  whole = left.whole;
  inner = λ i low high. absurd (omega arith);
  alone = left.alone;
  rest = inl (left.shut, inl refl);
}

-- a log is cut short while a transaction is written over zeros
pub over-zeros : (header : Header) (new log : List ℕ) (done end : ℕ) → IsOverZeros header new log done end
    → IsCutShort header log
unfolding frame_of begins
over-zeros header new log done end left = record {
  done = done;
  end = end;
  forward = left.more.forward;
  ended = left.more.ended;
  whole = left.more.whole;
  inner = λ i low high. sized header log i (λ has. size i low high);
  alone = λ i low. elim (cases_order i end) [
    | inl here ↦ rw here (grind (arith, nat_tests, shut-lacks header log end left.shut))
    | inr (inl within) ↦ grind (arith, nat_tests, page i low within)
    | inr (inr past) ↦ left.alone i past
  ];
  rest = inl (left.shut, elim (cases_lt done end) [ inl some ↦ inr (counts some) | inr none ↦ inl (omega (arith, left.more.forward)) ]);
}
  where
    counts : done < end → MayCount header log done
    counts some =
        let to : frame_at header done + 24 ≤ frame_at header end = next-frame header done end some in
        torn-count log new (frame_at header done) left.counts left.bytes
        (λ k few. left.each (frame_at header done + k) (omega arith) (omega arith))

    page : (i : ℕ) → done < i → i < end → (frame_of header log i).page < count_page
    page i low high =
        let from : frame_at header done ≤ frame_at header i = later-frame header i done (omega arith) in
        let to : frame_at header i + 24 ≤ frame_at header end = next-frame header i end high in
        let less = lower-number log new (frame_at header i) (λ k few. left.each (frame_at header i + k) (omega arith) (omega arith)) in
        omega (arith, left.more.pages i low high)

    size : (i : ℕ) → done ≤ i → i + 1 < end → be32 log (frame_at header i + 4) ≡ 0
    size i low high =
        let from : frame_at header done ≤ frame_at header i = later-frame header i done low in
        let to : frame_at header i + 24 ≤ frame_at header end = next-frame header i end (omega arith) in
        let less = lower-number log new (frame_at header i + 4)
        (λ k few. left.each (frame_at header i + 4 + k) (omega arith) (omega arith)) in
        omega (arith, left.more.one i low high)

-- a frame whose salts are still those of the older log
old-salts : (header : Header) (old log : List ℕ) (i reached : ℕ)
    → ((x : ℕ) → reached ≤ x → slice_index log x ≡ slice_index old x) → reached ≤ frame_at header i + 8
    → ((frame_of header old i).salt ≢ header.salt) ⊎ ((frame_of header old i).second_salt ≢ header.second_salt)
    → carries header log i ≡ false
unfolding carries frame_of
old-salts header old log i reached back past older =
    let at = frame_at header i in
    let first = same-number log old (at + 8) (λ k few. back (at + 8 + k) (omega arith)) in
    let second = same-number log old (at + 12) (λ k few. back (at + 12 + k) (omega arith)) in
    grind (arith, nat_tests, first, second, older)

-- a log is cut short while a transaction is written over older frames
pub over-older : (header : Header) (old new log : List ℕ) (done end reached : ℕ)
    → IsOverOlder header old new log done end reached → IsCutShort header log
unfolding frame_of begins
over-older header old new log done end reached left = record {
  done = done;
  end = end;
  forward = left.more.forward;
  ended = left.more.ended;
  whole = left.more.whole;
  inner = λ i low high. elim (cases_lt (frame_at header i + 8) reached) [
    | inl new_size ↦ sized header log i (λ has. same-number log new (frame_at header i + 4)
        (λ k few. left.front (frame_at header i + 4 + k) (omega arith)) ∙ left.more.one i low high)
    | inr past ↦ not-carried header log i (stale i low past)
  ];
  alone = λ i low. elim (cases_lt (frame_at header i + 8) reached) [
    | inl new_page ↦ grind (arith, nat_tests, page i low new_page)
    | inr past ↦ grind (arith, nat_tests, stale i (omega arith) past)
  ];
  rest = inr (λ i low. stale i (omega (arith, left.more.forward)) (omega (arith, left.within, later-frame header i end low)));
}
  where
    inside : (i : ℕ) → frame_at header i + 8 < reached → i < end
    inside i new_page = elim (cases_lt i end) [ inl low ↦ low | inr past ↦ absurd (omega (arith, left.within, later-frame header i end past)) ]

    page : (i : ℕ) → done < i → frame_at header i + 8 < reached → (frame_of header log i).page < count_page
    page i low new_page =
        let same = same-number log new (frame_at header i) (λ k few. left.front (frame_at header i + k) (omega arith)) in
        omega (arith, left.more.pages i low (inside i new_page))

    stale : (i : ℕ) → done ≤ i → reached ≤ frame_at header i + 8 → carries header log i ≡ false
    stale i low past = old-salts header old log i reached left.back past (left.older i low)
