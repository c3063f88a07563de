-- What a try to read a head says of the bytes, and of all bytes that begin with them.
use Rattle.std.specs.Prelude.{◌≡◌, ℕ, ◌≤◌, ◌<◌, false, List, ◌++◌, length, drop, IfErr, IfOk}
use Rattle.httparse.specs.{Grammar.RequestHead, Spans.span_bytes, Spans.IsWithin, declared.spans.RequestSpans.RequestSpans}
use Rattle.kcr_desk.specs.declared.head.TheConstants.{MAX_BODY, MAX_HEAD}
use Rattle.kcr_history.specs.Refusals.{carries}
use Rattle.kcr_desk.specs.declared.head.HeadParse.{HeadParse, TheVariants.Whole, TheVariants.More, TheVariants.Nothing}
use Rattle.kcr_desk.specs.Stream.{HasHead, HasNoHead, IsBlankRest, framing_of}

-- text begins with the head h, and the spans cover its parts
pub record IsHeadAt (text : List ℕ) (spans : RequestSpans) (h : RequestHead) : Type 0 where
  pub head : HasHead text h (drop spans.len text)
  pub method : span_bytes text spans.method ≡ h.method
  pub path : span_bytes text spans.path ≡ h.target

-- so does each text that begins with buf
pub record IsWhole (buf : List ℕ) (spans : RequestSpans) (h : RequestHead) : Type 0 where
  pub at : (more : List ℕ) → IsHeadAt (buf ++ more) spans h
  pub len : spans.len ≤ length buf
  pub some : 0 < spans.len
  pub short : spans.len ≤ MAX_HEAD
  pub method : IsWithin (length buf) spans.method
  pub path : IsWithin (length buf) spans.path

-- no text that begins with buf begins with a head, or is a rest of empty lines
pub record IsHopeless (buf : List ℕ) : Type 0 where
  pub no_head : (more : List ℕ) → HasNoHead (buf ++ more)
  pub not_quiet : (more : List ℕ) → ¬ (IsBlankRest (buf ++ more))

abbrev pub IsHeadParse : List ℕ → HeadParse → Type 0
IsHeadParse buf (Whole spans judged) = (h : RequestHead) × IsWhole buf spans h × (framing_of h ≡ judged)
    × IfOk judged (λ plan. plan.length ≤ MAX_BODY) × IfErr judged (λ refusal. carries refusal ≡ false)
IsHeadParse buf More = HasNoHead buf
IsHeadParse buf Nothing = IsHopeless buf
