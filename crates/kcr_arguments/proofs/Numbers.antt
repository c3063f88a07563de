-- What an option's number is, by the text that it was given.
use Rattle.std.proofs.Common.{◌≡◌, ◌^◌, ◌<◌, ◌≤◌, ℕ, false, Option, Some, None, Result, Ok, Err, refl, arith}
use Rattle.std.specs.Str.Parse.{ParsesUnsigned}
use Rattle.clap.specs.{Matches.ReadsOne, Matches.one_text, Words.Text, Words.rows_of}
use Rattle.clap.specs.declared.{builder.value_parser.ValueParser.TheVariants.Unsigned, parser.matches.Found.Found}
use Rattle.clap.proofs.{ValueTestLemmas.accepts-Accepts, ValueTestLemmas.Accepts-accepts, WalkLemmas.one_text-rows}
use Rattle.kcr_arguments.specs.Tasks.{number_between, number_at}

module _ (E : Type 0) (G : Text → Result ℕ E → Type 0) (exact : (u : Text) (x : Result ℕ E) → G u x → ParsesUnsigned 32 10 u x)
    (least most : ℕ) (name : Text) (f : Found) (small : most < 2 ^ 32) where
  -- an answer that is right for each text that the option may have been given
  by_text : (answer : Option ℕ) → (one_text f name ≡ None → answer ≡ None)
      → ((t : Text) → one_text f name ≡ Some t → answer ≡ number_between least most t) → answer ≡ number_at least most name (rows_of f)
  by_text answer none some = let rows = one_text-rows f name in grind (arith, rows, none, some)

  -- what a 32-bit number comes to, where it is from the least to the most
  pub number_read : (n : ℕ) → (one_text f name ≡ None → Some n ≡ None) → ((t : Text) → one_text f name ≡ Some t → ReadsOne G t (Some n)) → least ≤ n → n ≤ most
      → Some n ≡ number_at least most name (rows_of f)
  number_read n none value low high = by_text (Some n) none (λ t e.
      let read = exact t (Ok n) (value t e) in
      let yes = Accepts-accepts false (Unsigned least most) t in
      grind (arith, read, yes))

  -- one that is not comes to none
  pub number_outside : (n : ℕ) → ((t : Text) → one_text f name ≡ Some t → ReadsOne G t (Some n)) → (least ≤ n → n ≤ most → ⊥)
      → None ≡ number_at least most name (rows_of f)
  number_outside n value outside = by_text None (λ _. refl) (λ t e.
      let read = exact t (Ok n) (value t e) in
      let no = accepts-Accepts false (Unsigned least most) t in
      grind (arith, read, no, outside))

  -- and so does no number
  pub number_none : ((t : Text) → one_text f name ≡ Some t → ReadsOne G t None) → None ≡ number_at least most name (rows_of f)
  number_none value = by_text None (λ _. refl) (λ t e.
      let failed = value t e in
      let read = exact t (Err failed.0) failed.1 in
      let no = accepts-Accepts false (Unsigned least most) t in
      grind (arith, read, no))
