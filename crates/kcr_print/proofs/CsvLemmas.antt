-- The rows that the default writer of `csv` writes are those of the report.
use Rattle.kcr_print.proofs.Common.{◌≡◌, ℕ, ◌==◌, ◌≤◌, Bool, true, false, cond, ◌||◌, List, [], ◌∷◌, ◌++◌, map, length, refl, ap, append-nil, arith}
use Rattle.kcr_print.proofs.Common.{join_with_byte, wants_quotes, quotes_doubled, csv_field, csv_line}
use borrow.Author.Tests.{eqb-true}
use Rattle.csv.specs.Writing.{default_writer, needs_quotes, escaped, field_text, fields_text, is_blank, row_text}

-- a comma, a quote, or one of the two line marks
byte_is : (a b c d : Bool) → (((a || b) || (d || c)) || false) || false ≡ ((a || b) || c) || d
byte_is a b c d = grind arith

quotes_are : (text : List ℕ) → needs_quotes default_writer text ≡ wants_quotes text
quotes_are [] = refl
quotes_are (c ∷ text) = rw (quotes_are text, byte_is (c == 44) (c == 34) (c == 10) (c == 13))

-- a quote is written twice, any other byte once
doubled_more : (c : ℕ) (rest : List ℕ) (b : Bool) → (b ≡ true → c ≡ 34) → cond b (34 ∷ c ∷ rest) (c ∷ rest) ≡ cond b (34 ∷ 34 ∷ []) (c ∷ []) ++ rest
doubled_more c rest true e = ap (λ x. 34 ∷ x ∷ rest) (e refl)
doubled_more c rest false e = refl

doubled_is : (text : List ℕ) → escaped default_writer text ≡ quotes_doubled text
unfolding escaped
doubled_is [] = refl
doubled_is (c ∷ text) = rw (← (doubled_is text)) (doubled_more c (escaped default_writer text) (c == 34) (eqb-true c 34))

field_is : (text : List ℕ) → field_text default_writer text ≡ csv_field text
field_is text = rw (quotes_are text, doubled_is text)

-- the fields behind the first
fields_are : (field : List ℕ) (rest : List (List ℕ)) → fields_text default_writer (field ∷ rest) ≡ 44 ∷ join_with_byte 44 (map csv_field (field ∷ rest))
unfolding fields_text
fields_are field [] = rw (append-nil, field_is field)
fields_are field (next ∷ rest) = rw (field_is field, fields_are next rest)

-- a row of some fields
pub row_is : {X : Type 0} (f : X → List ℕ) (fields : List X) → 2 ≤ length fields → row_text default_writer (map f fields) ≡ csv_line (map f fields)
unfolding is_blank
row_is f [] h = absurd (omega arith)
row_is f (x ∷ []) h = absurd (omega arith)
row_is f (x ∷ y ∷ rest) h = rw (field_is (f x), fields_are (f y) (map f rest))
