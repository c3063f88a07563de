-- The requests of commands are messages, and a run over those of a register leads to the register.
use Rattle.kcr_desk.proofs.Common.{◌≡◌, ◌≢◌, ℕ, List, [], ◌∷◌, ◌++◌, length, map, codes, Some, IsTrue, refl, sym, ap, ◌∙◌}
use Rattle.kcr_desk.proofs.Common.{arith, append_assoc, IsSome, ◌↔◌, AllByRecursion, nat_tests, All-weaker, is_uri_byte, Refusal}
use Rattle.kcr_desk.proofs.Common.{Memory, Disk, History, pushed_onto, entry_of, Outcome, Accepts, Refuses, machine, IsOfMachine}
use Rattle.kcr_desk.proofs.Common.{Command, Reply, of_machine, repeated, command_of, Post, RegisterHistory, IsAnswer, AppliesAsMachine}
use Rattle.kcr_desk.proofs.Common.{refusal_response, reply_response, json_response, message_of, IsSendable, requests_text, HadNoFault, kept_reply}
use Rattle.kcr_desk.proofs.Common.{commands_of, AreSendable, request_of, Exchange, messages_of, Run, IsMessage, AreMessages, clean_end}
use Rattle.kcr_desk.proofs.{Common.is_blank_rest, Common.ResponseValue, AnswerLemmas.still, Posted.message}
use Rattle.std.proofs.Common.{Option, None, Result, Ok, Err}
use Rattle.kcr_history.specs.{Texts.path_text, Texts.reply_text, Texts.command_text, declared.commands.Entry.Entry}
use Rattle.kcr_base.proofs.SameLemmas.{same-is, same-itself}
use Rattle.kcr_laws.proofs.Fixed.{accepted_fixed, never_both}
use Rattle.kcr_wire.specs.{Methods.method_of, Bodies.body_text, Requests.head_text, Requests.request_text}
use Rattle.kcr_wire.proofs.{RequestsAgain.told_again, Targets.act-path, Paths.IsPathByte, Paths.path-utf8}
use Rattle.kcr_desk.specs.Export.{whole}

-- ---- requests are messages

uri-byte : (b : ℕ) → IsPathByte b → IsTrue (is_uri_byte b)
uri-byte b h = grind (arith, nat_tests)

-- the text of a command's request, before whatever bytes, is its message
pub request_message : (x : Command) (rest : List ℕ) → IsSendable x → IsMessage (request_text x ++ rest) (message_of x) rest
unfolding request_text
request_message x rest is =
    let path = path_text x.act in
    let body = body_text x in
    let good = act-path x.act is.act in
    rw (append_assoc (head_text path (length body)) body rest) (message path body rest good.some
    (All-weaker IsPathByte (λ b. IsTrue (is_uri_byte b)) uri-byte path good.bytes) (path-utf8 path good.bytes) (omega (arith, good.short)) is.short)

-- the requests of commands are their messages, one after the other, and end cleanly
pub requests_cut : (xs : List Command) → AllByRecursion IsSendable xs → AreMessages (requests_text xs) (map message_of xs) clean_end
requests_cut [] each = is_blank_rest (record { ends = []; is = refl; short = omega arith })
requests_cut (x ∷ xs) each = (requests_text xs, request_message x (requests_text xs) each.0, requests_cut xs each.1)

-- each asks its command
pub request_asks : (x : Command) → IsSendable x → command_of (request_of (message_of x)).target (request_of (message_of x)).body ≡ Ok x
request_asks x is = told_again x is.key is.act

-- ---- one command

posts : method_of (codes "POST") ≡ Post
unfolding method_of
posts = refl

not-in_doubt : (in_doubt : Option History) (r : Reply) → (IsSome in_doubt ↔ ◌≡◌ {A = Result Reply Refusal} (Ok r) (Err Disk)) → in_doubt ≡ None
not-in_doubt in_doubt r breaks = grind arith

-- a command for which the machine has this outcome alone gets the entry's reply, and leads to this history
abbrev Only : Entry → History → History → Type 0
Only entry B end = (outcome : Outcome) (after : History) → machine B entry.command outcome after → (outcome ≡ Accepts entry.reply) × (after ≡ end)

module _ (entry : Entry) (B end : History) (only : Only entry B end) where
  performed : (told : ResponseValue) (after : RegisterHistory) (result : Result Reply Refusal)
      → told ≢ refusal_response None Memory → told ≢ refusal_response None Disk
      → told ≡ reply_response result → AppliesAsMachine B entry.command result after → (after ≡ whole end) × (told ≡ kept_reply entry)
  performed told after (Ok reply) no_memory no_disk is p =
      let kept = only (Accepts p.step.0) after.accepted p.step.1 in
      let same : p.step.0 ≡ entry.reply = cc (kept.0) in
      (still (whole end) after kept.1 refl (not-in_doubt after.in_doubt reply p.breaks), is ∙ ap json_response (p.step.2 ∙ ap reply_text same))
  performed told after (Err refusal) no_memory no_disk is p =
      let refuses = p.step.1 (λ e. no_memory (is ∙ ap (refusal_response None) e)) (λ e. no_disk (is ∙ ap (refusal_response None) e)) in
      cc (only (Refuses refusal) after.accepted refuses).0

  -- so a run's first exchange is answered, by the message of the command
  one : (x : Exchange) (next : RegisterHistory) → IsSendable entry.command → x.message ≡ message_of entry.command → HadNoFault x
      → IsAnswer (whole B) (request_of x.message) x.reply next → (next ≡ whole end) × (x.reply ≡ kept_reply entry)
  one x next is same faults answer = let asks = told_again entry.command is.key is.act in grind (arith, posts, asks, performed x.reply next)

-- an accepted command leads to the history with it, and gets its reply
stepped : (entry : Entry) (B : History) → machine B entry.command (Accepts entry.reply) (entry ∷ B) → Only entry B (entry ∷ B)
stepped entry B step (Accepts answer) after m = grind (arith, accepted_fixed B entry.command entry.reply answer (entry ∷ B) after step m)
stepped entry B step (Refuses refusal) after m = absurd (never_both B entry.command entry.reply refusal (entry ∷ B) after step m)

-- ---- many

of-front : (entries : List Entry) (B : History) → IsOfMachine (pushed_onto entries B) → IsOfMachine B
of-front [] B of = of
of-front (entry ∷ entries) B of = (of-front entries (entry ∷ B) of).1

-- the machine does nothing else than to accept each of these commands with its kept reply, and they lead from B to end
abbrev Goes : List Entry → History → History → Type 0
Goes [] B end = B ≡ end
Goes (entry ∷ entries) B end = (next : History) × Only entry B next × Goes entries next end

-- so a run over their requests leads there, with the kept replies
run-goes : (entries : List Entry) (B end : History) (xs : List Exchange) (after : RegisterHistory) → Goes entries B end → AreSendable entries
    → messages_of xs ≡ map message_of (commands_of entries) → AllByRecursion HadNoFault xs → Run IsAnswer (whole B) xs after
    → (after ≡ whole end) × (map (λ (x : Exchange). x.reply) xs ≡ map kept_reply entries)
run-goes [] B end [] after goes each same faults run = (sym run ∙ ap whole goes, refl)
run-goes [] B end (x ∷ xs) after goes each same faults run = absurd cc
run-goes (entry ∷ entries) B end [] after goes each same faults run = absurd cc
run-goes (entry ∷ entries) B end (x ∷ xs) after goes each same faults run =
    let head : x.message ≡ message_of entry.command = cc in
    let tail : messages_of xs ≡ map message_of (commands_of entries) = cc in
    let first = one entry B goes.0 goes.1 x run.0 each.0 head faults.0 run.1 in
    let rest = run-goes entries goes.0 end xs after goes.2 each.1 tail faults.1 (rw first.0 at run.2) in
    (rest.0, λ j. first.1 j ∷ rest.1 j)

-- a history of the machine goes so to one with more commands
new-goes : (entries : List Entry) (B : History) → IsOfMachine (pushed_onto entries B) → Goes entries B (pushed_onto entries B)
new-goes [] B of = refl
new-goes (entry ∷ entries) B of = (entry ∷ B, stepped entry B (of-front entries (entry ∷ B) of).0, new-goes entries (entry ∷ B) of)

-- a run over requests of a register's next commands leads to that register, with the kept replies
pub requests_lead : (entries : List Entry) (B : History) (xs : List Exchange) (after : RegisterHistory) → IsOfMachine (pushed_onto entries B) → AreSendable entries
    → messages_of xs ≡ map message_of (commands_of entries) → AllByRecursion HadNoFault xs → Run IsAnswer (whole B) xs after
    → (after ≡ whole (pushed_onto entries B)) × (map (λ (x : Exchange). x.reply) xs ≡ map kept_reply entries)
requests_lead entries B xs after of = run-goes entries B (pushed_onto entries B) xs after (new-goes entries B of)

-- ---- many that the register has, and then those that it has not

-- an entry under a new key hides no other
later-key : (f e : Entry) (D : History) → entry_of D f.command.key ≡ None → entry_of D e.command.key ≡ Some e → entry_of (f ∷ D) e.command.key ≡ Some e
later-key f e D new found = grind (arith, same-is f.command.key e.command.key)

kept-on : (entries : List Entry) (D : History) (e : Entry) → IsOfMachine (pushed_onto entries D) → entry_of D e.command.key ≡ Some e
    → entry_of (pushed_onto entries D) e.command.key ≡ Some e
kept-on [] D e of found = found
kept-on (f ∷ entries) D e of found =
    let is = of_machine (f ∷ D) (of-front entries (f ∷ D) of) in kept-on entries (f ∷ D) e of (later-key f e D is.0.new_key found)

-- each entry is found by its key
abbrev AreFound : History → List Entry → Type 0
AreFound B entries = AllByRecursion (λ (e : Entry). entry_of B e.command.key ≡ Some e) entries

all-found : (entries : List Entry) (D : History) → IsOfMachine (pushed_onto entries D) → AreFound (pushed_onto entries D) entries
all-found [] D of = tt
all-found (e ∷ entries) D of = (kept-on entries (e ∷ D) e of (rw (same-itself e.command.key) refl), all-found entries (e ∷ D) of)

-- so it goes over those that it has, and stays
again-goes : (entries later : List Entry) (B end : History) → AreFound B entries → Goes later B end → Goes (entries ++ later) B end
again-goes [] later B end found goes = goes
again-goes (entry ∷ entries) later B end found goes =
    (B, repeated B entry.command entry found.0 (same-itself (command_text entry.command.act)), again-goes entries later B end found.1 goes)

-- a run over commands that the register has, and then later ones, adds only the later, with all kept replies
pub requests_add : (first later : List Entry) (xs : List Exchange) (after : RegisterHistory) → IsOfMachine (pushed_onto later (pushed_onto first []))
    → AreSendable (first ++ later) → messages_of xs ≡ map message_of (commands_of (first ++ later)) → AllByRecursion HadNoFault xs
    → Run IsAnswer (whole (pushed_onto first [])) xs after
    → (after ≡ whole (pushed_onto later (pushed_onto first []))) × (map (λ (x : Exchange). x.reply) xs ≡ map kept_reply (first ++ later))
requests_add first later xs after of =
    let B = pushed_onto first [] in
    let found = all-found first [] (of-front later B of) in
    run-goes (first ++ later) B (pushed_onto later B) xs after (again-goes first later B (pushed_onto later B) found (new-goes later B of))
