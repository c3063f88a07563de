-- The tests on a head, one after the other.
use Rattle.kcr_desk.proofs.Common.{nat_tests, ◌≡◌, ℕ, List, refl, arith, Bool, Option, Err, if◌then◌else◌, Host, some_has_member, measured, is_hosted}
use Rattle.kcr_desk.proofs.Common.{values_of, length_in, bounded_length, is_empty}
use Rattle.std.specs.Prelude.{not, codes}
use Rattle.kcr_desk.specs.Framing.{planned}

-- a length that is too large is so too if it is counted as one more than the largest
bounded_alike : (minor : ℕ) (coded closing expecting : Bool) (n : Option ℕ)
    → measured minor coded closing expecting n ≡ measured minor coded closing expecting (bounded_length n)
bounded_alike minor coded closing expecting n = grind (arith, nat_tests)

-- what is planned, with the length as it is counted
pub planned_bounded : (minor : ℕ) (fields : List (List ℕ × List ℕ)) → planned minor fields
    ≡ (if not (is_hosted minor (values_of (codes "host") fields)) then Err Host else
    measured minor (not (is_empty (values_of (codes "transfer-encoding") fields)))
    (some_has_member (codes "close") (values_of (codes "connection") fields))
    (some_has_member (codes "100-continue") (values_of (codes "expect") fields))
    (bounded_length (length_in (values_of (codes "content-length") fields))))
unfolding planned
planned_bounded minor fields = rw bounded_alike refl
