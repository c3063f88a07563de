-- Readers of values.
use Rattle.std.proofs.Common.{◌≡◌, ℕ, ◌≤◌, ◌<◌, true, false, Bool, List, Option, Some, None, option_map, option_and_then, if◌then◌else◌}
use Rattle.std.proofs.Common.{arith, All, refl, IfSome}
use Rattle.std.specs.Bool.{⊤}
use Rattle.std.specs.Str.{IsUtf8}
use Rattle.std.proofs.lemmas.{List.Elements.All-weaker, Str.IsUtf8-from_ascii, Str.Ascii.IsAscii-from_all}
use Rattle.kcr_forms.proofs.Cutting.{Lacks, lacks-by}

-- a reader reads each value again from its text
abbrev pub Reads : {V : Type 0} → (V → Type 0) → (V → List ℕ) → (List ℕ → Option V) → Type 0
Reads {V} IsValue text_of read = (v : V) → IsValue v → read (text_of v) ≡ Some v

-- each byte is at least so great
abbrev pub AtLeast : ℕ → List ℕ → Type 0
AtLeast low text = All (λ b. low ≤ b) text

-- the same if it reads only values, and the texts are UTF-8 without control characters, so that each stands on a line
pub record Value {V : Type 0} (IsValue : V → Type 0) (text_of : V → List ℕ) (read : List ℕ → Option V) : Type 0 where
  pub again : Reads IsValue text_of read
  pub found : (text : List ℕ) → IfSome (read text) IsValue
  pub printing : (v : V) → IsValue v → AtLeast 32 (text_of v)
  pub utf8 : (v : V) → IsValue v → IsUtf8 (text_of v)

-- ASCII is UTF-8
pub ascii-utf8 : (text : List ℕ) → All (λ b. b < 128) text → IsUtf8 text
ascii-utf8 text each = IsUtf8-from_ascii text (IsAscii-from_all text each)

-- a byte below all bytes of a text is not in it
pub lacks-below : (byte low : ℕ) (text : List ℕ) → byte < low → AtLeast low text → Lacks byte text
lacks-below byte low text lt least = lacks-by (λ b. low ≤ b) byte (λ h. omega (arith, lt, h)) text least

-- a value on a line has no line feed
pub no-feed : {V : Type 0} {IsValue : V → Type 0} {text_of : V → List ℕ} {read : List ℕ → Option V} → Value IsValue text_of read
    → (v : V) → IsValue v → Lacks 10 (text_of v)
no-feed {text_of = text_of} value v is = lacks-below 10 32 (text_of v) (omega arith) (value.printing v is)

-- what holds from a byte on holds from a smaller one on
pub at_least-less : (low less : ℕ) (text : List ℕ) → less ≤ low → AtLeast low text → AtLeast less text
at_least-less low less text le least = All-weaker (λ b. low ≤ b) (λ b. less ≤ b) (λ b h. omega (arith, le, h)) text least

-- ---- what is known of a value that may be there

-- of a value that may be there, nothing need be known
pub any : {V : Type 0} (o : Option V) → IfSome o (λ _. ⊤)
any None = tt
any (Some v) = tt

-- a value, if a test says so
pub tested : {V : Type 0} (P : V → Type 0) (test : Bool) (v : V) → (test ≡ true → P v) → IfSome (if test then Some v else None) P
tested P true v is = is refl
tested P false v is = tt

module _ {A B : Type 0} (P : A → Type 0) (Q : B → Type 0) where
  -- what is made of it is known by what is known of it
  pub mapped : (f : A → B) → ((a : A) → P a → Q (f a)) → (o : Option A) → IfSome o P → IfSome (option_map f o) Q
  mapped f is None h = tt
  mapped f is (Some a) h = is a h

  -- the same of what may be made of it
  pub chained : (f : A → Option B) → ((a : A) → P a → IfSome (f a) Q) → (o : Option A) → IfSome o P → IfSome (option_and_then f o) Q
  chained f is None h = tt
  chained f is (Some a) h = is a h
