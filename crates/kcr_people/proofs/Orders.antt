-- Rows in another order.
use Rattle.std.proofs.Common.{◌≡◌, ℕ, Bool, true, ◌&&◌, nat_le, max, List, find, sym, ◌∙◌}
use Rattle.std.specs.List.{All, list_any, Sorted.IsPermutation}
use Rattle.std.proofs.lemmas.List.{Sorted.list_any-IsPermutation, Elements.recursion_from_All}
use Rattle.kcr_base.specs.declared.place.Role.{Role}
use Rattle.kcr_base.proofs.ListLemmas.{any-same, first-is, find-order}
use Rattle.kcr_people.specs.{declared.Training.Training, declared.Withdrawal.Withdrawal, Laws.AtMostOne}
use Rattle.kcr_people.specs.People.{is_of, trains, trained_by, trained_from_by}

-- TRAININGS

order : (ts us : List Training) (ws vs : List Withdrawal) → IsPermutation ts us → IsPermutation ws vs → (who : List ℕ) (r : Role) (on : Training → ℕ)
    → list_any (λ row. trains vs who r (on row) row) us ≡ list_any (λ row. trains ws who r (on row) row) ts
order ts us ws vs p q who r on =
    any-same _ _ us (λ row. rw (← list_any-IsPermutation (λ w. is_of row w && nat_le w.day (on row)) ws vs q))
    ∙ sym (list_any-IsPermutation (λ row. trains ws who r (on row) row) ts us p)

-- who is trained on a day does not depend on the order of trainings and withdrawals
pub trained-order : (ts us : List Training) (ws vs : List Withdrawal) → IsPermutation ts us → IsPermutation ws vs → (who : List ℕ) (role : Role) (day : ℕ)
    → trained_by us vs who role day ≡ trained_by ts ws who role day
trained-order ts us ws vs p q who role day = order ts us ws vs p q who role (λ _. day)

-- nor does who is trained from a day on
pub trained_from-order : (ts us : List Training) (ws vs : List Withdrawal) → IsPermutation ts us → IsPermutation ws vs → (who : List ℕ) (role : Role) (day : ℕ)
    → trained_from_by us vs who role day ≡ trained_from_by ts ws who role day
trained_from-order ts us ws vs p q who role day = order ts us ws vs p q who role (λ row. max row.since day)

-- THE FIRST ROW THAT PASSES

-- if at most one row passes, the first that does is the same in any order
pub find-one : {X : Type 0} (test : X → Bool) (rows others : List X) → IsPermutation rows others → AtMostOne test rows → find test others ≡ find test rows
find-one test rows others p one = find-order test rows others p (λ r e.
    let it = first-is test (λ a. test a ≡ true → All (λ b. test b ≡ true → b ≡ a) rows) r rows (recursion_from_All _ rows one) e in
    recursion_from_All _ rows (it.1 it.0))
