-- The requests that the rows of accepted commands keep are those of the commands.
use Rattle.kcr_print.proofs.Common.{◌≡◌, ℕ, ◌+◌, ◌-◌, ◌<◌, ◌≤◌, ◌==◌, zero, suc, true, false, List, [], ◌∷◌, ◌++◌, map, filter, take, drop, reverse}
use Rattle.kcr_print.proofs.Common.{length, get_or, inl, inr, refl, sym, ap, subst, ◌∙◌, arith, Result, ⊤, coded_ℕ, coded_list, Coded-set, ∥∥₁_elim}
use Rattle.kcr_print.proofs.Common.{get_or-append_seam, take-add, Appends, AllByRecursion, flat_map, option_map_or, cases_Bool, cases_lt, drop_more}
use Rattle.kcr_print.proofs.Common.{drop_all, drop-drop, take-map, drop-map, get_or_append_left, length-map, length-reverse, map-append}
use Rattle.kcr_print.proofs.Common.{reverse-append, flat_map-append, IsPermutation-reverse, state, HasCleanDisk, Ghosts, Trees, all_weaker}
use Rattle.kcr_print.proofs.Common.{all-permutation, filter_none, inner_of, Counted, AreValues, History, IsRegister, key_row, tables, KeyRow, only}
use Rattle.kcr_print.proofs.Common.{numbered, commands_within, OfRows, stands_rows, RegisterState, StandsAt, whole, IsPrinted, Prints, PrintsRows}
use Rattle.kcr_print.proofs.Common.{RefusesBetweenRows, PrintFault, Exports, requests_between, row_request, row_requests}
use Rattle.std.proofs.{Common.Option, Common.Some, Common.None, lemmas.Bool.Decides.nat_tests}
use Rattle.kcr_wire.specs.Requests.{request_text}
use Rattle.kcr_forms.specs.Acts.{IsAct}
use Rattle.kcr_history.specs.declared.commands.{Act.Act, Entry.Entry, Command.Command}
use Rattle.kcr_history.proofs.Steps.{numbers}
use Rattle.kcr_reading.specs.Commands.{commands_past}
use Rattle.kcr_wire.proofs.Again.{act-again}
use Rattle.kcr_print.specs.Requests.{commands_between}

-- what stands for the row at a place past the last
pub none : KeyRow
none = record { key = []; accepted = 0; command = []; reply = [] }

-- THE ROW WITH A NUMBER

-- no command of a register has a number beyond its length
low : (A : History) → IsRegister A → AllByRecursion (λ (row : KeyRow). row.accepted ≤ length A) (map key_row A)
low [] h = tt
low (entry ∷ A) h =
    let is : entry.reply.accepted ≡ length (entry ∷ A) = numbers A entry h in
    (omega (arith, is), all_weaker _ _ (λ (row : KeyRow) le. omega (arith, le)) (map key_row A) (low A h.1))

beyond : (A : History) (n : ℕ) → IsRegister A → length A < n → filter (λ (row : KeyRow). row.accepted == n) (map key_row A) ≡ []
beyond A n h far =
    filter_none (λ (row : KeyRow). row.accepted == n) (map key_row A)
    (all_weaker _ _ (λ (row : KeyRow) le. grind (arith, nat_tests)) (map key_row A) (low A h))

-- the rows by number
abbrev rows : History → List KeyRow
rows A = map key_row (reverse A)

rows_more : (entry : Entry) (A : History) → rows (entry ∷ A) ≡ rows A ++ key_row entry ∷ []
rows_more entry A = ap (map key_row) (reverse-append (entry ∷ []) A) ∙ map-append key_row (reverse A) (entry ∷ [])

rows_long : (A : History) → length (rows A) ≡ length A
rows_long A = length-map (reverse A) key_row ∙ length-reverse A

same_number : (a k n : ℕ) → (a == k + 1) ≡ true → a ≡ suc n → k ≡ n
same_number a k n t is = grind (arith, nat_tests)

earlier_number : (a k n : ℕ) → (a == k + 1) ≡ false → a ≡ suc n → k < suc n → k < n
earlier_number a k n t is low = grind (arith, nat_tests)

numbered_is : (A : History) → IsRegister A → (k : ℕ) (d : KeyRow) → k < length A → numbered (k + 1) (tables A) ≡ Some (get_or (rows A) k d)
numbered_is [] h k d near = absurd (omega arith)
numbered_is (entry ∷ A) h k d near =
    let number = entry.reply.accepted in
    let is = numbers A entry h in
    let more = ap (λ (l : List KeyRow). get_or l k d) (sym (rows_more entry A)) in
    elim (cases_Bool (number == k + 1)) [
      | inl t ↦
          let at : k ≡ length A = same_number number k (length A) t is in
          let none : filter (λ (row : KeyRow). row.accepted == k + 1) (map key_row A) ≡ [] = beyond A (k + 1) h.1 (omega arith) in
          let seam : get_or (rows A ++ key_row entry ∷ []) k d ≡ key_row entry =
          rw (at ∙ sym (rows_long A)) (get_or-append_seam (rows A) (key_row entry) [] d) in
          rw (t, none) (ap Some (sym seam ∙ more))
      | inr t ↦
          let less : k < length A = earlier_number number k (length A) t is near in
          let long = rows_long A in
          let front = get_or_append_left (rows A) (key_row entry ∷ []) d k (omega arith) in
          rw t (numbered_is A h.1 k d less ∙ ap Some (sym front ∙ more))
    ]

-- THE ROWS THAT COME

-- after N rows none is left, or the next one is at position N
ends : (A : History) (last : ℕ) → length A ≤ last → drop last (rows A) ≡ []
ends A last far = let long = rows_long A in drop_all last (rows A) (omega arith)

goes : (A : History) (last : ℕ) (d : KeyRow) → last < length A → drop last (rows A) ≡ get_or (rows A) last d ∷ drop (last + 1) (rows A)
goes A last d near = let long = rows_long A in drop_more (rows A) last d (omega arith)

none_numbered : (A : History) (last : ℕ) → IsRegister A → length A ≤ last → numbered (last + 1) (tables A) ≡ None
none_numbered A last h far = ap only (beyond A (last + 1) h (omega arith))

-- of a register, the rows of the next commands past a number are those at the positions behind it
pub past_is : (A : History) → IsRegister A → (d : KeyRow) (count last : ℕ) → commands_past count last (tables A) ≡ take count (drop last (rows A))
unfolding commands_past
past_is A h d zero last = refl
past_is A h d (suc count) last = elim (cases_lt last (length A)) [
  | inr far ↦ rw (none_numbered A last h far, ends A last far)
  | inl near ↦ rw (numbered_is A h last d near, goes A last d near)
      (ap (λ (l : List KeyRow). get_or (rows A) last d ∷ l) (past_is A h d count (last + 1)))
]

-- THE REQUESTS

-- the row of a command of values keeps the command's request
row_is : (entry : Entry) → IsAct entry.command.act → row_request (key_row entry) ≡ request_text entry.command
row_is entry is =
    ap (λ (o : Option Act). option_map_or (λ act. request_text (record { key = entry.command.key; act = act })) o []) (act-again entry.command.act is)

all_drop : {X : Type 0} (P : X → Type 0) (count : ℕ) (xs : List X) → AllByRecursion P xs → AllByRecursion P (drop count xs)
all_drop P zero xs all = all
all_drop P (suc count) [] all = tt
all_drop P (suc count) (x ∷ xs) all = all_drop P count xs all.1

-- what holds of all elements holds of the first ones
pub all_take : {X : Type 0} (P : X → Type 0) (count : ℕ) (xs : List X) → AllByRecursion P xs → AllByRecursion P (take count xs)
all_take P zero xs all = tt
all_take P (suc count) [] all = tt
all_take P (suc count) (x ∷ xs) all = (all.0, all_take P count xs all.1)

entries_tell : (entries : History) → AllByRecursion (λ entry. IsAct entry.command.act) entries
    → flat_map row_request (map key_row entries) ≡ flat_map request_text (map (λ entry. entry.command) entries)
entries_tell [] all = refl
entries_tell (entry ∷ entries) all =
    ap (λ t. t ++ flat_map row_request (map key_row entries)) (row_is entry all.0) ∙ ap (λ t. request_text entry.command ++ t) (entries_tell entries all.1)

module _ (A : History) (h : IsRegister A) (values : AreValues A) (after until : ℕ) where
  abbrev entries : History
  entries = take (until - after) (drop after (reverse A))

  are_values : AllByRecursion (λ (entry : Entry). IsAct entry.command.act) entries
  are_values =
      let P : Entry → Type 0 = λ entry. IsAct entry.command.act in
      all_take P (until - after) _ (all_drop P after (reverse A) (all-permutation P A (reverse A) (IsPermutation-reverse A) values))

  rows_are : commands_within after until (tables A) ≡ map key_row entries
  rows_are =
      past_is A h none (until - after) after ∙ ap (take (until - after)) (drop-map key_row after (reverse A))
      ∙ take-map key_row (until - after) (drop after (reverse A))

  rows_tell : row_requests after until (tables A) ≡ requests_between after until A
  unfolding commands_between
  rows_tell = ap (flat_map row_request) rows_are ∙ entries_tell entries are_values

  -- the requests of the first N rows are those of the first N commands
  front_tells : (n : ℕ) → flat_map row_request (take n (commands_within after until (tables A)))
      ≡ flat_map request_text (take n (commands_between after until A))
  unfolding commands_between
  front_tells n =
      ap (λ (l : List KeyRow). flat_map row_request (take n l)) rows_are ∙ ap (flat_map row_request) (take-map key_row n entries)
      ∙ entries_tell (take n entries) (all_take _ n entries are_values)
      ∙ ap (flat_map request_text) (sym (take-map (λ (entry : Entry). entry.command) n entries))

-- texts that are the same of each register's history are so of the history at which a register stands: its file holds the
-- tables, whatever a crash may leave
pub held_by : {S : Type 0} (g : Ghosts S) (r : RegisterState S) → (HasCleanDisk (state g r.conn) → ∥ ((db : Trees) × (state g r.conn).may_leave db) ∥₁)
    → (A : History) → StandsAt g (whole A) r → HasCleanDisk (state g r.conn) → {texts other : List ℕ} → (IsRegister A → texts ≡ other) → texts ≡ other
held_by g r left A at clean then =
    ∥∥₁_elim (left clean) (Coded-set (coded_list coded_ℕ) _ _) (λ found. then ((at.shows refl).whole.crash clean found.0 found.1).register)

-- so it is with every register
pub export_requests : {S W : Type 0} (g : Ghosts S) {contents : W → Option (List ℕ)} {before now : RegisterState S} {x y : Counted W} {r : Result ⊤ PrintFault}
    (after until : ℕ) → (HasCleanDisk (state g before.conn) → ∥ ((db : Trees) × (state g before.conn).may_leave db) ∥₁)
    → Prints g contents before now x y r (λ _ _. ⊥) (λ _. ⊥) (λ A. row_requests after until (tables A))
    → PrintsRows g contents before now x y r (λ _ _. ⊥) (row_requests after until)
    → OfRows g before now (λ m. RefusesBetweenRows row_request (commands_within after until m) r (contents (inner_of x)) (contents (inner_of y)))
    → Exports g contents before now x y r after until
export_requests g {contents = contents} {before = before} {x = x} {y = y} {r = r} after until left prints by_rows rows = record {
  prints = prints;
  by_rows = by_rows;
  whole_rows = rows;
  requests = λ clean A at values.
      subst (λ (text : List ℕ). IsPrinted (λ _. ⊥) text r (contents (inner_of x)) (contents (inner_of y)))
      (held_by g before left A at (prints.clean clean) (λ register. rows_tell A register values after until)) (prints.printed clean A at);
  whole = λ clean A at values refusal is.
      let front = rows clean at.broken (tables A) (stands_rows at) refusal is in (
        front.0,
        subst (λ (text : List ℕ). Appends (contents (inner_of x)) (contents (inner_of y)) text)
            (held_by g before left A at (prints.clean clean) (λ register. front_tells A register values after until front.0)) front.1,
      );
}

-- EXPORTS, ONE AFTER THE OTHER

-- the requests up to a number, and then those from it on, are the requests of both
pub exports_join : (A : History) (after middle until : ℕ) → after ≤ middle → middle ≤ until
    → requests_between after until A ≡ requests_between after middle A ++ requests_between middle until A
unfolding commands_between
exports_join A after middle until first second =
    let f : Entry → Command = λ entry. entry.command in
    let all : until - after ≡ (middle - after) + (until - middle) = omega arith in
    let at : middle ≡ after + (middle - after) = omega arith in
    let front = take (middle - after) (drop after (reverse A)) in
    let behind = take (until - middle) (drop middle (reverse A)) in
    let cut : take (until - after) (drop after (reverse A)) ≡ front ++ behind =
    ap (λ n. take n (drop after (reverse A))) all ∙ take-add (middle - after) (until - middle) (drop after (reverse A))
    ∙ ap (λ l. front ++ take (until - middle) l) (drop-drop (middle - after) after (reverse A) ∙ ap (λ n. drop n (reverse A)) (sym at)) in
    ap (λ l. flat_map request_text (map f l)) cut ∙ ap (flat_map request_text) (map-append f front behind)
    ∙ flat_map-append request_text (map f front) (map f behind)
