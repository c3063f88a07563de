-- Tests that find two codes, roles or places the same find them equal.
use Rattle.std.proofs.Common.{◌≡◌, ℕ, true, List, arith}
use Rattle.std.specs.Cmp.Lexicographic.{bytes_decides}
use Rattle.std.proofs.lemmas.{Bool.Decides.nat_tests, Cmp.nat_list_eq_equiv}
use Rattle.kcr_base.specs.{Same.same_text, Same.same_place, Same.same_role, declared.place.Place.Place, declared.place.Role.Role}

-- texts that the test finds the same are equal
pub same-is : (a b : List ℕ) → same_text a b ≡ true → a ≡ b
same-is a b h = (bytes_decides a b).0 h

-- a text is the same as itself
pub same-itself : (a : List ℕ) → same_text a a ≡ true
same-itself a = nat_list_eq_equiv.refl a

-- the test of two texts answers the same with them exchanged
pub same-turned : (a b : List ℕ) → same_text a b ≡ same_text b a
same-turned a b = nat_list_eq_equiv.symm a b

-- roles that the test finds the same are equal
pub role-same : (a b : Role) → same_role a b ≡ true → a ≡ b
role-same a b h = grind (arith, nat_tests)

-- places that the test finds the same are equal
pub place-same : (a b : Place) → same_place a b ≡ true → a ≡ b
place-same a b h = grind (arith, nat_tests)

-- a place is the same as itself
pub place-itself : (a : Place) → same_place a a ≡ true
place-itself a = grind (arith, nat_tests)
