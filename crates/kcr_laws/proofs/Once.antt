-- No key stands twice in a register.
use Rattle.kcr_laws.proofs.Common.{◌≡◌, ℕ, false, List, [], ◌∷◌, map, None, refl, arith, list_any, nat_list_eq_equiv, same_text, History, entry_of}
use Rattle.kcr_laws.proofs.{Common.IsRegister, Common.IsOnce, Accepted.each_register}

absent : (A : History) (key : List ℕ) → entry_of A key ≡ None → list_any (same_text key) (map (λ entry. entry.command.key) A) ≡ false
absent [] key h = refl
absent (entry ∷ A) key h = grind (arith, nat_list_eq_equiv.symm key entry.command.key, absent A key)

-- in a register no key was accepted twice
pub once : (A : History) → IsRegister A → IsOnce A
once = each_register IsOnce refl (λ A key act answer r a ih. grind (arith, absent A key a.new_key, ih))
