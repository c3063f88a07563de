-- How many transactions end behind the first wrong frame of a log that a stop cut short.
use Rattle.std.proofs.Common.{◌≡◌, ℕ, ◌+◌, ◌-◌, ◌<◌, ◌≤◌, true, false, List, refl, sym, ap, ◌∙◌, inl, inr, arith}
use Rattle.std.proofs.lemmas.Bool.{false≢true, cases_lt, cases_order, Decides.nat_tests}
use Rattle.kcr_log.specs.{declared.frames.Header.Header, Stop.IsCutShort, Damage.is_shut, Damage.commits_behind}
use Rattle.kcr_log.specs.Frames.{frame_count, carries, checks, commits_from}
use Rattle.kcr_log.proofs.Counting.{carried, checked, none-more, not-carried, at-most-one}

-- a frame past the last is not there
pub not-there : (header : Header) (log : List ℕ) (i : ℕ) → frame_count header log ≤ i → carries header log i ≡ false
not-there header log i past = let low = carried header log i in grind arith

-- behind the last whole frame nothing ends
pub none-behind : (header : Header) (log : List ℕ) (i : ℕ) → frame_count header log ≤ i → commits_behind header log i ≡ 0
unfolding commits_behind commits_from
none-behind header log i past =
    let here : carries header log i ≡ false = not-there header log i past in
    let left : frame_count header log - (i + 1) ≡ 0 = omega arith in
    rw (not-carried header log i here, left) refl

-- a frame that is shut does not have the salts
pub shut-lacks : (header : Header) (log : List ℕ) (i : ℕ) → is_shut header log i ≡ true → carries header log i ≡ false
unfolding is_shut carries
shut-lacks header log i shut = grind (arith, nat_tests)

-- behind the first wrong frame of a log that a stop cut short at most one transaction ends
pub cut-short : (header : Header) (log : List ℕ) (k : ℕ) → IsCutShort header log
    → ((i : ℕ) → i < k → checks header log i ≡ true) → checks header log k ≡ false → is_shut header log k ≡ false
    → commits_behind header log k ≤ 1
unfolding commits_behind
cut-short header log k cut before wrong to_read =
    elim (cases_order k cut.end) [
      | inl here ↦ at-end here
      | inr (inl low) ↦ inside low
      | inr (inr past) ↦ absurd (false≢true (sym ends-there ∙ checked header log cut.end (before cut.end past)))
    ]
  where
    ends-there : carries header log cut.end ≡ false
    ends-there = elim cut.rest [ inl held ↦ shut-lacks header log cut.end held.0 | inr none ↦ none cut.end (omega arith) ]

    more : (n : ℕ) → carries header log (k + 1) ≡ false → commits_from header log (k + 1) n ≡ 0
    more n = none-more header log (k + 1) n

    at-end : k ≡ cut.end → commits_behind header log k ≤ 1
    at-end e = elim cut.rest [
      | inl held ↦ absurd (false≢true (sym to_read ∙ ap (is_shut header log) e ∙ held.0))
      | inr none ↦ rw (not-carried header log k (none k (omega arith)), more _ (none (k + 1) (omega arith))) (omega arith)
    ]

    inside : k < cut.end → commits_behind header log k ≤ 1
    inside low =
        let from : cut.done ≤ k = (let whole = cut.whole k in grind arith) in
        let here = cut.inner k from in
        let inner = at-most-one header log (frame_count header log - (k + 1)) (k + 1) cut.end (omega arith)
        (λ j a b. cut.inner j (omega arith) b) ends-there in
        let last = λ (e : k + 1 ≡ cut.end). ap (carries header log) e in
        grind (arith, nat_tests, here, inner, last, ends-there, more (frame_count header log - (k + 1)), cases_lt (k + 1) cut.end)
