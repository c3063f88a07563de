-- The line of a row is the line of its command.
use Rattle.std.proofs.Common.{◌≡◌, ℕ, Bool, true, false, if◌then◌else◌, List, [], ◌∷◌, ◌++◌, map, filter, Option, Some, None, refl, ap, ◌∙◌}
use Rattle.std.specs.{Prelude.unwrap_or, Option.option_map_or, List.AllByRecursion, List.flat_map}
use Rattle.kcr_base.specs.{Initials.IsInitials, declared.place.Role.TheVariants.Ca, declared.place.Role.TheVariants.Iw}
use Rattle.kcr_forms.specs.{Acts.IsAct, Values.AreValues}
use Rattle.kcr_wire.proofs.Again.{act-again}
use Rattle.kcr_history.specs.{History.History, Tables.key_row, Texts.reply_text, Machine.IsRegister, Machine.IsReplyTo, Machine.seat_request}
use Rattle.kcr_history.specs.declared.commands.{Act.Act, Act.TheVariants.Ceremony, Entry.Entry, ReplyData.ReplyData}
use Rattle.kcr_history.specs.declared.commands.Deed.TheVariants.{Sign, RecordException}
use Rattle.kcr_people.specs.declared.Person.{Person}
use Rattle.kcr_script.specs.declared.seat.Seat.TheVariants.{Staff}
use Rattle.kcr_journal.specs.{Lines.line, Replies.exception_in, Replies.passed_in, Replies.seated_in}
use Rattle.kcr_journal.specs.Journal.{is_of_ceremony, named_people, with_name, number_text, entry_line, act_line, row_line}
use Rattle.kcr_journal.proofs.ReplyLemmas.{signed-people, stated-number, passing-number, passing-step, passing-people}
use Rattle.kcr_journal.proofs.SeatedLemmas.{seated-initials}

-- the reply has what the act's sentence tells: people with initials, and numbers
abbrev pub IsToldOf : Act → ReplyData → Type 0
IsToldOf (Ceremony c at (Sign step)) reply =
    (n : ℕ) × (people : List (List ℕ)) × AllByRecursion IsInitials people
    × (reply ≡ record { accepted = n; exception = None; seating = Some people; step = Some step })
IsToldOf (Ceremony c at (RecordException text true)) reply =
    (n : ℕ) × (e : ℕ) × (k : ℕ) × (people : List (List ℕ)) × AllByRecursion IsInitials people
    × (reply ≡ record { accepted = n; exception = Some e; seating = Some people; step = Some k })
IsToldOf (Ceremony c at (RecordException text false)) reply =
    (n : ℕ) × (e : ℕ) × (reply ≡ record { accepted = n; exception = Some e; seating = None; step = None })
IsToldOf act reply = Unit {0}

told-of : (A : History) (act : Act) (reply : ReplyData) → AreValues A → IsReplyTo A act reply (seat_request A act) → IsToldOf act reply
told-of A (Ceremony c at (Sign step)) reply values h = (_, h.0, seated-initials A values c at _ h.0 h.1, h.2)
told-of A (Ceremony c at (RecordException text true)) reply values h =
    (_, _, _, h.0, seated-initials A values c at (Staff Ca ∷ Staff Iw ∷ []) h.0 h.1, h.2)
told-of A (Ceremony c at (RecordException text false)) reply values h = (_, _, h)
told-of A act reply values h = tt

-- the line by the reply's text, and the line by the reply
abbrev by_text : List Person → Act → ReplyData → List ℕ
by_text rows act reply =
    line reply.accepted act (map (with_name rows) (named_people act (seated_in (reply_text reply))))
    (exception_in (reply_text reply)) (passed_in (reply_text reply))

abbrev by_reply : List Person → Act → ReplyData → List ℕ
by_reply rows act reply =
    line reply.accepted act (map (with_name rows) (named_people act (unwrap_or reply.seating [])))
    (number_text reply.exception) (number_text reply.step)

same-line : (rows : List Person) (act : Act) (reply : ReplyData) → IsToldOf act reply → by_text rows act reply ≡ by_reply rows act reply
same-line rows (Ceremony c at (Sign step)) reply (n, people, each, is) =
    rw is (ap (λ ps. line n (Ceremony c at (Sign step)) (map (with_name rows) ps) [] []) (signed-people people each n step))
same-line rows (Ceremony c at (RecordException text true)) reply (n, e, k, people, each, is) =
    rw is (λ i. line n (Ceremony c at (RecordException text true)) (map (with_name rows) (passing-people people each n e k i))
    (passing-number people each n e k i) (passing-step people each n e k i))
same-line rows (Ceremony c at (RecordException text false)) reply (n, e, is) =
    rw is (ap (λ number. line n (Ceremony c at (RecordException text false)) [] number []) (stated-number n e))
same-line rows act reply told = refl

-- an entry whose command and reply are of values
pub record IsGood (entry : Entry) : Type 0 where
  pub act : IsAct entry.command.act
  pub told : IsToldOf entry.command.act entry.reply

row-is : (asked : Option ℕ) (rows : List Person) (entry : Entry) → IsGood entry
    → row_line asked rows (key_row entry) ≡ (if is_of_ceremony asked entry.command.act then entry_line rows entry else [])
row-is asked rows entry good =
    let act = entry.command.act in
    ap (λ (o : Option Act). option_map_or (λ act. if is_of_ceremony asked act then act_line rows (key_row entry) act else []) o []) (act-again act good.act)
    ∙ ap (λ text. if is_of_ceremony asked act then text else []) (same-line rows act entry.reply good.told)

-- each entry of a register of values has an act and a reply of values
pub good-entries : (A : History) → IsRegister A → AreValues A → AllByRecursion IsGood A
good-entries [] h values = tt
good-entries (entry ∷ A) h values =
    (record { act = values.0; told = told-of A entry.command.act entry.reply values.1 h.0.answered }, good-entries A h.1 values.1)

-- a line that comes only if the command passes is that of a list that has the command only then
choose : (b : Bool) (f : Entry → List ℕ) (entry : Entry) (others : List Entry)
    → (if b then f entry else []) ++ flat_map f others ≡ flat_map f (if b then entry ∷ others else others)
choose true f entry others = refl
choose false f entry others = refl

-- the lines of the rows of entries are those of the entries that name the ceremony asked for
pub rows-are : (asked : Option ℕ) (rows : List Person) (entries : List Entry) → AllByRecursion IsGood entries
    → flat_map (λ text. text) (map (row_line asked rows) (map key_row entries))
    ≡ flat_map (entry_line rows) (filter (λ entry. is_of_ceremony asked entry.command.act) entries)
rows-are asked rows [] all = refl
rows-are asked rows (entry ∷ entries) all =
    ap (λ text. text ++ flat_map (λ text. text) (map (row_line asked rows) (map key_row entries))) (row-is asked rows entry all.0)
    ∙ ap (λ rest. (if is_of_ceremony asked entry.command.act then entry_line rows entry else []) ++ rest) (rows-are asked rows entries all.1)
    ∙ choose (is_of_ceremony asked entry.command.act) (entry_line rows) entry (filter (λ entry. is_of_ceremony asked entry.command.act) entries)
