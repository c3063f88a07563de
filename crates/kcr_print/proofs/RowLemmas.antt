-- Rows that are written one after the other.
use Rattle.kcr_print.proofs.Common.{◌≡◌, ℕ, List, [], ◌∷◌, ◌++◌, length, take, inl, refl, sym, ap, ◌∙◌, subst, append_assoc, append-nil, ⊤, Option}
use Rattle.kcr_print.proofs.Common.{Some, None, Result, Ok, Err, IsErrAnd, Appends, flat_map, take-append_seam, flat_map-append, Held, Ghosts}
use Rattle.kcr_print.proofs.Common.{inner_of, failures_of, Counted, Refusal, IsNextOf, IsFault, OfRowsOver, OfRowsShown, OnlyReads, reads_nothing}
use Rattle.kcr_print.proofs.Common.{reads_then, CountsWriteFaults, PrintsPart, RefusesBetweenRows, RefusesUnwritten, Stops, WritesPrefix, PrintFault}
use Rattle.kcr_print.proofs.{Common.Refused, PartLemmas.err_is, PartLemmas.told_then}
use Rattle.kcr_history.specs.Tables as machine
use Rattle.kcr_print.proofs.WrittenLemmas.{appends_both, appends_nothing, front_both, front_longer}

-- these rows were written whole of those that were to come, and those are left
pub record Gone {X : Type 0} (f : X → List ℕ) (old new : Option (List ℕ)) (whole rest : List X) : Type 0 where
  pub front : List X
  pub written : Appends old new (flat_map f front)
  pub is : whole ≡ front ++ rest

module _ {X : Type 0} (f : X → List ℕ) (a b : Option (List ℕ)) (whole rest : List X) (g : Gone f a b whole rest) where
  text_is : flat_map f whole ≡ flat_map f g.front ++ flat_map f rest
  text_is = ap (flat_map f) g.is ∙ flat_map-append f g.front rest

  -- no more is written
  gone_stop : WritesPrefix a b (flat_map f whole)
  gone_stop = subst (WritesPrefix a b) (sym text_is) (front_both a b b (flat_map f g.front) (flat_map f rest) g.written (0, appends_nothing b))

  -- no row is left
  gone_end : rest ≡ [] → Appends a b (flat_map f whole)
  gone_end none = subst (Appends a b) (sym (ap (flat_map f) (g.is ∙ ap (λ rows. g.front ++ rows) none ∙ append-nil g.front))) g.written

  gone_rows : (n : ℕ) × Appends a b (flat_map f (take n whole))
  gone_rows =
      let all : take (length g.front) whole ≡ g.front = ap (take (length g.front)) g.is ∙ take-append_seam g.front rest in
      (length g.front, subst (λ rows. Appends a b (flat_map f rows)) (sym all) g.written)

  module _ (c : Option (List ℕ)) (row : X) (after : List X) (next : rest ≡ row ∷ after) where
    -- one row more is written
    gone_more : Appends b c (f row) → Gone f a c whole after
    gone_more p =
        let more : flat_map f (g.front ++ row ∷ []) ≡ flat_map f g.front ++ f row =
        flat_map-append f g.front (row ∷ []) ∙ ap (λ t. flat_map f g.front ++ t) (append-nil (f row)) in
        record {
          front = g.front ++ row ∷ [];
          written = subst (Appends a c) (sym more) (appends_both a b c (flat_map f g.front) (f row) g.written p);
          is = g.is ∙ ap (λ rows. g.front ++ rows) next ∙ sym (append_assoc g.front (row ∷ []) after);
        }

    -- a row is begun
    gone_front : WritesPrefix b c (f row) → WritesPrefix a c (flat_map f whole)
    gone_front p =
        subst (WritesPrefix a c) (sym (text_is ∙ ap (λ rows. flat_map f g.front ++ flat_map f rows) next))
        (front_both a b c (flat_map f g.front) (f row ++ flat_map f after) g.written (front_longer b c (f row) (flat_map f after) p))

-- so it is by whatever rows there are, and what was read was only read
pub record Goes {S W R Row : Type 0} (g : Ghosts S) (contents : W → Option (List ℕ)) (to_come : R → machine.Tables → List Row) (lines : Row → List ℕ)
    (a b : Held S) (x y : Counted W) (first next : R) : Type 0 where
  pub gone : OfRowsShown g a b (λ m. Gone lines (contents (inner_of x)) (contents (inner_of y)) (to_come first m) (to_come next m))
  pub reads : OnlyReads {A = ⊤} g (Stops (λ _. ⊥)) a b (Ok tt)
  pub calm : failures_of y ≡ failures_of x

module _ {S W R Row : Type 0} (g : Ghosts S) (contents : W → Option (List ℕ)) (to_come : R → machine.Tables → List Row) (lines : Row → List ℕ) where
  -- at first no row is written, and all are left
  pub goes_start : {a b : Held S} (x : Counted W) {first next : R} → b ≡ a → next ≡ first → Goes g contents to_come lines a b x x first next
  goes_start {a} x same is =
      rw same (record {
        gone = λ clean m has. record { front = []; written = appends_nothing (contents (inner_of x)); is = ap (λ at. to_come at m) (sym is) };
        reads = reads_nothing a tt;
        calm = refl;
      })

  abbrev Part : Held S → Held S → Counted W → Counted W → Result ⊤ PrintFault → R → Type 0
  Part a b x y r first = PrintsPart g contents a b x y r (λ _ _. ⊥) (λ _. ⊥) (λ m. flat_map lines (to_come first m))

  abbrev Whole : Held S → Held S → Counted W → Counted W → Result ⊤ PrintFault → R → Type 0
  Whole a b x y r first = OfRowsShown g a b (λ m. RefusesBetweenRows lines (to_come first m) r (contents (inner_of x)) (contents (inner_of y)))

  module _ {a b : Held S} {x y : Counted W} {first next : R} (s : Goes g contents to_come lines a b x y first next) where
    -- it stops at a refusal, between two rows
    pub goes_refused : {A : Type 0} {q : Result A Refusal} {c : Held S} (refusal : Refusal) → OnlyReads g IsFault b c q → IsFault refusal
        → Part a c x y (Err (Refused refusal)) first
    goes_refused {c = c} refusal peeks fault = record {
      printed = λ clean m has. (gone_stop lines _ _ _ _ (s.gone (peeks.clean clean) m has), inl fault);
      reads = reads_then s.reads (reads_then peeks (reads_nothing c (inl fault)));
      told = record { calm = λ _. s.calm; fault = λ e. cc e };
    }

    -- so whole rows were written
    pub whole_rows : {A : Type 0} {q : Result A Refusal} {c : Held S} (r : Result ⊤ PrintFault) → OnlyReads g IsFault b c q → Whole a c x y r first
    whole_rows r peeks clean m has refusal is = gone_rows lines _ _ _ _ (s.gone (peeks.clean clean) m has)

    module _ {A : Type 0} {q : Result A Refusal} {c : Held S} (later : R) {given : Option Row} (peeks : OnlyReads g IsFault b c q)
        (gives : OfRowsOver g b c (λ m. IsNextOf (to_come next m) given (to_come later m))) where
      -- what a call gave is the next of the rows that are left
      next_is : (o : Option Row) → given ≡ o → OfRowsShown g a c (λ m. IsNextOf (to_come next m) o (to_come later m))
      next_is o is clean m has =
          subst (λ (o : Option Row). IsNextOf (to_come next m) o (to_come later m)) is (gives clean m (λ live. (s.reads.rows m has (peeks.clean clean) live).now))

      -- none is left
      pub goes_end : given ≡ None → Part a c x y (Ok tt) first
      goes_end is = record {
        printed = λ clean m has. gone_end lines _ _ _ _ (s.gone (peeks.clean clean) m has) (next_is None is clean m has).0;
        reads = reads_then s.reads (reads_then peeks (reads_nothing c tt));
        told = record { calm = λ _. s.calm; fault = λ e. cc e };
      }

      module _ (row : Row) (is : given ≡ Some row) {z : Counted W} where
        -- one row more is written
        pub goes_more : Appends (contents (inner_of y)) (contents (inner_of z)) (lines row) → CountsWriteFaults y z (Ok tt) → Goes g contents to_come lines a c x z first later
        goes_more written told = record {
          gone = λ clean m has. gone_more lines _ _ _ _ (s.gone (peeks.clean clean) m has) _ row _ (next_is (Some row) is clean m has) written;
          reads = reads_then s.reads (reads_then peeks (reads_nothing c tt));
          calm = told.calm (λ e. cc e) ∙ s.calm;
        }

        -- a row is begun
        pub goes_front : {e : PrintFault} → WritesPrefix (contents (inner_of y)) (contents (inner_of z)) (lines row) → Stops (λ _. ⊥) e
            → CountsWriteFaults y z (Err e) → Part a c x z (Err e) first
        goes_front {e} written stops told = record {
          printed = λ clean m has. (gone_front lines _ _ _ _ (s.gone (peeks.clean clean) m has) _ row _ (next_is (Some row) is clean m has) written, stops);
          reads = reads_then s.reads (reads_then peeks (reads_nothing c stops));
          told = told_then x y z (Err e) (record { calm = λ _. s.calm; fault = λ e. cc e }) told;
        }

        -- one that is refused leaves the rows before it
        pub whole_before : (r : Result ⊤ PrintFault) {e : PrintFault} → IsErrAnd r (λ fault. fault ≡ e) → RefusesUnwritten y z (Err e) → Whole a c x z r first
        whole_before r {e} err unwritten clean m has refusal same =
            let still : z ≡ y = unwritten refusal (ap (λ (fault : PrintFault). Err fault) (err_is r e (Refused refusal) err same)) in
            rw still (gone_rows lines _ _ _ _ (s.gone (peeks.clean clean) m has))
