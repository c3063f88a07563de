-- Bytes that are text, and a body as JSON.
use Rattle.kcr_wire.proofs.Common.{◌≡◌, ℕ, List, Some, None, option_and_then, refl, ap, ◌∙◌, arith, IsUtf8, is_utf8, is_utf8-from_IsUtf8}
use Rattle.kcr_wire.proofs.Common.{IsUtf8-from_is_utf8, cond_both, Data, read}
use Rattle.kcr_wire.specs.Members.{json_of, text_in}

-- bytes that are UTF-8 are a text
pub text_in-some : (bytes : List ℕ) → IsUtf8 bytes → text_in bytes ≡ Some bytes
unfolding text_in
text_in-some bytes h = rw (is_utf8-from_IsUtf8 bytes h) refl

-- other bytes are none
pub text_in-none : (bytes : List ℕ) → (IsUtf8 bytes → ⊥) → text_in bytes ≡ None
unfolding text_in
text_in-none bytes h = let is = IsUtf8-from_is_utf8 bytes in grind (arith, is, h)

-- a body that is UTF-8 and is read as a value is this value
pub json-some : (body : List ℕ) (d : Data) → IsUtf8 body × (read body ≡ Some d) → json_of body ≡ Some d
unfolding json_of
json-some body d h = ap (option_and_then read) (text_in-some body h.0) ∙ h.1

-- a body that is not UTF-8, or is not read, is no value
pub json-none : (body : List ℕ) → (IsUtf8 body → read body ≡ None) → json_of body ≡ None
unfolding json_of text_in
json-none body h =
    cond_both (is_utf8 body) (Some body) None (λ o. option_and_then read o ≡ None) (λ e. h (IsUtf8-from_is_utf8 body e)) (λ _. refl)
