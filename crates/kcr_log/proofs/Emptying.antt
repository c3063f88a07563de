-- Why a log is one that is being emptied, whenever that stops.
use Rattle.std.proofs.Common.{◌≡◌, ℕ, ◌+◌, ◌-◌, ◌*◌, ◌<◌, ◌≤◌, true, false, List, slice_index, refl, ◌∙◌, arith}
use Rattle.std.proofs.{lemmas.Bool.Decides.nat_tests, Math.Nat.mul-le-mul_right}
use Rattle.sqlite_wal.specs.Format.{be32}
use Rattle.kcr_log.specs.{declared.frames.Header.Header, Written.StopsEmptied, Pages.page_size_of, Pages.told_header, Pages.second_header}
use Rattle.kcr_log.specs.Frames.{header_of, frame_at, frame_of, carries}
use Rattle.kcr_log.proofs.Writing.{same-number}

-- the second frame and those behind it lie past the bytes that are written anew
past-head : (header : Header) (i : ℕ) → 1 ≤ i → 56 ≤ frame_at header i
past-head header i some =
    let more : 1 * (24 + header.page_size) ≤ i * (24 + header.page_size) = mul-le-mul_right (24 + header.page_size) some in
    omega arith

-- so they are the same
same-frame : (one two : Header) (a b : List ℕ) (i : ℕ) → one.page_size ≡ two.page_size
    → ((x : ℕ) → 41 ≤ x → slice_index a x ≡ slice_index b x) → 1 ≤ i → frame_of one a i ≡ frame_of two b i
unfolding frame_of
same-frame one two a b i size same some =
    let from = past-head two i some in
    let number = λ (at : ℕ). λ (low : 41 ≤ at). same-number a b at (λ k few. same (at + k) (omega arith)) in
    let page = number (frame_at two i) (omega arith) in
    let later = λ (more : ℕ). number (frame_at two i + more) (omega arith) in
    rw (size, page, later 4, later 8, later 12, later 16, later 20) refl

-- the salts that the second frame tells are those of the log
salts : (header : Header) (log : List ℕ) (i : ℕ) → carries header log i ≡ true
    → ((frame_of header log i).salt ≡ header.salt) × ((frame_of header log i).second_salt ≡ header.second_salt)
unfolding carries
salts header log i h = grind (arith, nat_tests)

-- a log whose first byte is 0
begun : (log : List ℕ) → slice_index log 0 ≡ 0 → ((x : ℕ) → slice_index log x < 256) → be32 log 0 < 0x100_0000
unfolding be32
begun log first bytes = omega (arith, bytes 1, bytes 2, bytes 3)

-- whenever the emptying of a log stops, whose pages are all in the file, the log is one that is being emptied, which `judge` never refuses
pub stops_emptied : StopsEmptied
unfolding carries
stops_emptied file old log count left = record {
  begun = begun log left.gate left.bytes;
  end = count;
  run = record {
    some = omega (arith, left.some);
    carried = λ i low high. same i low ∙ left.carried i high;
    stop = same count (omega (arith, left.some)) ∙ left.stop;
  };
  moved = λ ends i low high newest kept.
      let last = frame (count - 1) (omega (arith, left.some)) in
      let none = λ (j : ℕ). λ (behind : i < j). rw (frame j (omega arith), frame i low) at (newest j behind) in
      let has = left.moved i high none (rw (frame i low, last) at kept) in
      let from = past-head told i low in
      record {
        within = rw (frame i low, left.sized) has.within;
        same = λ x few.
            rw (left.rest (frame_at told i + 24 + x) (omega arith), frame i low, left.sized) (has.same x (rw (← left.sized) few));
      };
}
  where
    header : Header
    header = header_of old

    told : Header
    told = second_header file log

    frame : (i : ℕ) → 1 ≤ i → frame_of told log i ≡ frame_of header old i
    frame i low = same-frame told header log old i left.sized left.rest low

    same : (i : ℕ) → 1 ≤ i → carries told log i ≡ carries header old i
    same i low =
        let second = same-frame (told_header false (page_size_of file log) log) header log old 1 left.sized left.rest (omega arith) in
        let own = salts header old 1 (left.carried 1 (omega (arith, left.some))) in
        rw (frame i low, second, own.0, own.1, left.sized, left.long) refl
