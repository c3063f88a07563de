-- Commands that the machine takes one after the other, as rows tell them.
use Rattle.kcr_verify.proofs.Common.{◌≡◌, ◌≢◌, ℕ, ◌+◌, ◌<◌, ◌≤◌, List, [], ◌∷◌, ◌++◌, length, drop, get_or, Option, Some, None, Ok, inl, inr, refl}
use Rattle.kcr_verify.proofs.Common.{sym, ap, ◌∙◌, arith, map, false_from_ne_true, append_assoc, append-nil, drop_all, drop_more, length-map}
use Rattle.kcr_verify.proofs.Common.{length-reverse, nil_from_length, IsPermutation-reverse, IsPermutation-sym, IsIn, Refusal, find-none, in-front}
use Rattle.kcr_verify.proofs.Common.{in-behind, in-order, map-in, none-passes, same-is, History, entry_of, fault, Accepts, SeatRequest, seat_request}
use Rattle.kcr_verify.proofs.Common.{reply_to, with_command, IsAcceptedWith, seats, DecidesNew, machine, IsOfMachine, IsRegister, key_row, ReplyData}
use Rattle.kcr_verify.proofs.Common.{Command, Entry, KeyRow, numbers, of_machine, machine_first, AreValues, Declines, GivesRow, GivesRows}
use Rattle.kcr_verify.proofs.Common.{HaveOwnKeys, IsNotNext, StopsFor, Takes, rows_by_number, Difference}
use Rattle.std.specs.Prelude.{MatchOption}
use Rattle.kcr_verify.specs.declared.verification.Difference.TheVariants as Differences
use Rattle.kcr_verify.proofs.NumberLemmas.{IsGiven, next_row, one_more}

-- ONE COMMAND

-- a command with a new key that is accepted is entered
entered : (A : History) (x : Command) (a : ReplyData) (B : History) → entry_of A x.key ≡ None → machine A x (Accepts a) B → B ≡ with_command A x a
entered A x a B new h = by (fault A x.act) (rw new at h)
  where
    seated : (s : Option SeatRequest) → MatchOption s (IsAcceptedWith A x (reply_to A x.act None) (Accepts a) B) (λ q. seats A x q (Accepts a) B)
        → B ≡ with_command A x a
    seated None g = cc
    seated (Some s) (inl w) = cc (w.2.0, w.2.1)
    seated (Some s) (inr w) = cc (w.2.0)

    by : (f : Option Refusal) → DecidesNew A x f (Accepts a) B → B ≡ with_command A x a
    by (Some refusal) g = cc
    by None g = seated (seat_request A x.act) g

-- no entry has a number above how many there are
none_above : (A : History) → IsRegister A → (entry : Entry) → IsIn entry A → entry.reply.accepted ≤ length A
none_above [] h entry i = absurd i
none_above (first ∷ A) h entry (inl e) = omega (arith, numbers A first h, ap (λ (x : Entry). x.reply.accepted) e)
none_above (first ∷ A) h entry (inr i) = omega (arith, none_above A h.1 entry i)

-- ONE ROW

-- the rows up to this index are those of the commands that were taken
pub record HasTaken (rows : List KeyRow) (index : ℕ) (A : History) : Type 0 where
  pub rows_are : rows ≡ rows_by_number A ++ drop index rows
  pub count : length A ≡ index

-- the commands of the rows up to this index led there
pub record GoesOn (rows : List KeyRow) (index : ℕ) (B : History) : Type 0 where
  pub taken : HaveOwnKeys rows → HasTaken rows index B
  pub own : (A : History) → IsRegister A → AreValues A → rows ≡ rows_by_number A → IsGiven A rows index B
  pub of_machine : IsOfMachine B

row_by_parts : (row : KeyRow) (key : List ℕ) (number : ℕ) (command reply : List ℕ) → key ≡ row.key → number ≡ row.accepted → command ≡ row.command
    → reply ≡ row.reply → record { key = key; accepted = number; command = command; reply = reply } ≡ row
row_by_parts row key number command reply k n c r = rw (k, n, c, r) refl

module _ (rows : List KeyRow) (index : ℕ) (A : History) (row : KeyRow) (on : GoesOn rows index A) (low : index < length rows)
    (at : get_or rows index row ≡ row) where
  -- the row at the index stands behind those of the commands that were taken
  row_behind : HasTaken rows index A → rows ≡ rows_by_number A ++ row ∷ drop (index + 1) rows
  row_behind had = cc (had.rows_are, drop_more rows index row low)

  -- if its number is the next, its key is new
  new_key : HaveOwnKeys rows → row.accepted ≡ index + 1 → entry_of A row.key ≡ None
  new_key own number =
      let had = on.taken own in
      let whole = row_behind had in
      find-none _ A (none-passes _ A (λ entry i. false_from_ne_true _ (λ same.
      let kept = in-order (key_row entry) _ _ (IsPermutation-sym _ _ (IsPermutation-reverse (map key_row A))) (map-in key_row entry A i) in
      let among : IsIn (key_row entry) rows = rw whole (in-front (key_row entry) (rows_by_number A) _ kept) in
      let here : IsIn row rows = rw whole (in-behind row (rows_by_number A) _ (inl refl)) in
      let one : entry.reply.accepted ≡ row.accepted = ap (λ (r : KeyRow). r.accepted) (own (key_row entry) row among here (same-is _ _ same)) in
      omega (arith, one, number, none_above A (of_machine A on.of_machine) entry i, had.count))))

  -- and after its command one more row is taken
  taken_on : HaveOwnKeys rows → row.accepted ≡ index + 1 → (B : History) → Takes row A B → HasTaken rows (index + 1) B
  taken_on own number B takes =
      let had = on.taken own in
      let entry : Entry = record { command = takes.command; reply = takes.reply } in
      let is : B ≡ entry ∷ A = entered A takes.command takes.reply B (rw takes.told.key (new_key own number)) takes.step in
      let numbered : takes.reply.accepted ≡ length (entry ∷ A) = numbers A entry (of_machine (entry ∷ A) (rw is at takes.step, on.of_machine)) in
      let next : takes.reply.accepted ≡ row.accepted = omega (arith, numbered, number, had.count) in
      let same : key_row entry ≡ row = row_by_parts row _ _ _ _ takes.told.key next takes.told.text takes.text in
      record {
        rows_are = rw is (cc (row_behind had, append_assoc (rows_by_number A) (row ∷ []) (drop (index + 1) rows), one_more entry A, same));
        count = omega (arith, ap length is, had.count);
      }

  -- the replay goes on by a row whose command gives it
  pub goes_on : row.accepted ≡ index + 1 → (B : History) → GivesRow row A B (Ok None) → GoesOn rows (index + 1) B
  goes_on number B gives = record {
    taken = λ own. taken_on own number B gives.told;
    own = λ H h values is.
        let next = next_row H h values rows index A row (on.own H h values is) low at in
        rw (gives.own next.entry next.grown next.values next.row_is) next.then;
    of_machine = gives.of_machine on.of_machine;
  }

  not_next : (difference : Difference) (B : History) → row.accepted ≡ length A + 1 → Declines difference row A B → IsNotNext difference row A B
  not_next (Differences.Number place found) B n h = absurd h
  not_next (Differences.Rows table other) B n h = absurd h
  not_next other B n h = (n, h)

  stops_for : (difference : Difference) (B : History) → row.accepted ≡ index + 1 → Declines difference row A B → StopsFor difference rows B
  stops_for (Differences.Rows table other) B number h = absurd h
  stops_for other B number h = λ own.
      let had = on.taken own in
      record {
        taken = A;
        row = row;
        later = drop (index + 1) rows;
        rows = row_behind had;
        why = not_next other B (omega (arith, number, had.count)) h;
      }

  -- it stops at a row whose command is not taken
  pub stops : row.accepted ≡ index + 1 → (difference : Difference) (B : History) → GivesRow row A B (Ok (Some difference))
      → GivesRows rows B (Ok (Some difference))
  stops number difference B gives = record {
    of_machine = gives.of_machine on.of_machine;
    told = stops_for difference B number gives.told;
    own = λ H h values is.
        let next = next_row H h values rows index A row (on.own H h values is) low at in
        let differs = gives.own next.entry next.grown next.values next.row_is in (
          next.entry.reply.accepted,
          differs.0,
          record {
            later = next.then.0;
            entry = next.entry;
            before = A;
            whole = next.then.1;
            counted = numbers A next.entry next.grown;
            first = machine_first A on.of_machine;
            other = differs.1;
          },
        );
  }

  -- and at a row whose number is not the next
  pub stops_number : row.accepted ≢ index + 1 → GivesRows rows A (Ok (Some (Differences.Number (index + 1) row.accepted)))
  stops_number number = record {
    of_machine = on.of_machine;
    told = λ own.
        let had = on.taken own in
        record {
          taken = A;
          row = row;
          later = drop (index + 1) rows;
          rows = row_behind had;
          why = (ap (λ n. n + 1) (sym had.count), refl, number, refl);
        };
    own = λ H h values is. absurd (number (next_row H h values rows index A row (on.own H h values is) low at).number);
  }

-- at the beginning
pub begins : (rows : List KeyRow) → GoesOn rows 0 []
begins rows = record {
  taken = λ own. record { rows_are = refl; count = refl };
  own = λ A h values is. (A, sym (append-nil A), is, refl);
  of_machine = tt;
}

-- at the end
pub ends : (rows : List KeyRow) (index : ℕ) (B : History) → length rows ≤ index → GoesOn rows index B → GivesRows rows B (Ok None)
ends rows index B end on = record {
  of_machine = on.of_machine;
  told = λ own. cc ((on.taken own).rows_are, drop_all index rows end, append-nil (rows_by_number B));
  own = λ A h values is.
      let given = on.own A h values is in
      let none : given.0 ≡ [] =
      nil_from_length _ (sym (length-map given.0 key_row) ∙ sym (length-reverse _) ∙ ap length (sym given.2 ∙ drop_all index rows end)) in
      cc (given.1, none);
}
