-- Which transactions behind the first frame are not all in the file.
use Rattle.std.proofs.Common.{◌≡◌, ℕ, ◌<◌, ◌||◌, true, List, arith}
use Rattle.std.proofs.lemmas.Bool.Decides.{nat_tests}
use Rattle.kcr_log.specs.{declared.frames.Header.Header, Pages.turned, Pages.HasLost, Frames.frame_count, Frames.frame_of, Frames.checks}
use Rattle.kcr_log.proofs.Counting.{carried, checked, numbered}

-- of two orders of bytes, a frame that checks by one of them has the number of a page
pub numbered-by : (header : Header) (log : List ℕ) (i : ℕ)
    → (checks header log i || checks (turned header) log i) ≡ true → 0 < (frame_of header log i).page
unfolding frame_of
numbered-by header log i h =
    let first = numbered header log i in
    let second = numbered (turned header) log i in
    grind (arith, nat_tests)

-- a log of one frame has none that is lost
pub few-lost : (header : Header) (file log : List ℕ) → frame_count header log < 2
    → (ended : ℕ) → ¬ HasLost header file log ended
few-lost header file log few ended found =
    let there = λ (by : Header). λ (h : checks by log found.frame ≡ true). carried by log found.frame (checked by log found.frame h) in
    grind (arith, there header, there (turned header), found.lost.checked, found.lost.behind)
