-- What the laws of rows speak of.
use Rattle.std.specs.Prelude.{◌≡◌, ◌==◌, ◌&&◌, Bool, true, List, All}
use Rattle.kcr_base.specs.Same.{same_text, same_role}
use Rattle.kcr_people.specs.declared.Withdrawal.{Withdrawal}

-- each row that passes the test is the only one
abbrev pub AtMostOne : {X : Type 0} → (X → Bool) → List X → Type 0
AtMostOne test rows = All (λ a. test a ≡ true → All (λ b. test b ≡ true → b ≡ a) rows) rows

-- two withdrawals are of the same training: the second is the first's row before it was put
abbrev pub same_withdrawn : Withdrawal → Withdrawal → Bool
same_withdrawn new old =
    same_text old.who new.who && same_role old.role new.role && old.since == new.since && old.until == new.until
