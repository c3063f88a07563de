-- What a message is told, and what it leaves of the register.
use Rattle.std.specs.Prelude.{◌+◌, ◌<◌, ◌≤◌, ◌≡◌, ◌⊎◌, ◌↔◌, ◌≢◌, ⊤, ℕ, Bool, List, length, Option, None, Result, Ok, Err}
use Rattle.std.specs.Prelude.{IfErr, IsSome, IsTrue, MatchBool, MatchOption, MatchResult, unwrap_or}
use Rattle.sqlite.specs.{Held.state, Store.Ghosts, State.HasCleanDisk}
use Rattle.kcr_desk.specs.{declared.answer.TheConstants.MAX_FEED_COMMANDS, Run.Request, Texts.ResponseValue}
use Rattle.kcr_forms.specs.{Acts.IsAct, Values.AreValues}
use Rattle.kcr_base.specs.{Refusal.status_of, declared.refusal.Refusal.Refusal}
use Rattle.kcr_base.specs.declared.refusal.Refusal.TheVariants as Refusals
use Rattle.kcr_base.specs.declared.refusal.Thing.TheVariants as Things
use Rattle.kcr_history.specs.{History.History, Tables.Tables, Machine.IsOfMachine, Machine.IsRegister}
use Rattle.kcr_history.specs.{Refusals.refusal_text, Ceremonies.is_ceremony, Prints.annotated, Prints.attendance, Prints.custody}
use Rattle.kcr_history.specs.declared.{commands.Command.Command, commands.Reply.Reply, questions.Question.Question, questions.Shown.Shown}
use Rattle.kcr_tables.specs.Refusals.{IsFault}
use Rattle.kcr_store.specs.{Register.RegisterState, Calls.Leads, Calls.RowsLead, ShownBy.HasNoRowBy, ShownBy.IsQuestionResultBy}
pub use Rattle.kcr_store.specs.Register.{RegisterHistory, RegisterRows, whole}
use Rattle.kcr_store.specs.{ByRows.DecidesRows, Shown.IsShownByRows, Rows.HasNoRow, Rows.MayHaveNoRow}
use Rattle.kcr_store.specs.Commands.{AppliesCommand, IsSameOrNext, IsQuestionResult, MayBeReplied, MayRefuseQuestion}
use Rattle.kcr_wire.specs.{Commands.command_of, ShownJson.shown_text, Endpoints.allow_of, Endpoints.if_method}
use Rattle.kcr_wire.specs.{Methods.method_of, Methods.refused_of, Questions.question_of}
use Rattle.kcr_wire.specs.declared.{allow.Allow.Allow, question.Inquiry.Inquiry}
use Rattle.kcr_wire.specs.declared.question.Inquiry.TheVariants as inquiry
use Rattle.kcr_wire.specs.declared.method.Method.{Method, TheVariants.Ask, TheVariants.Post, TheVariants.Other}
use Rattle.kcr_desk.specs.declared.response.MediaType.{MediaType, TheVariants.Json, TheVariants.Text, TheVariants.Csv}
use Rattle.kcr_print.specs.ByRows.{annotated_by, attendance_by, custody_by, row_of_ceremony}
use Rattle.kcr_print.specs.Requests.{requests_between, row_requests}
use Rattle.kcr_print.specs.declared.fault.PrintFault.{PrintFault, TheVariants.Refused, TheVariants.Write}

-- 200 with a text of this kind
abbrev pub ok_response : MediaType → List ℕ → ResponseValue
ok_response kind text = record { heading = record { status = 200; kind = kind; allow = None }; body = text }

-- 200 with a JSON text
abbrev pub json_response : List ℕ → ResponseValue
json_response text = ok_response Json text

-- a refusal, with the methods of the path if the message is refused for its method
abbrev pub refusal_response : Option Allow → Refusal → ResponseValue
refusal_response allow refusal = record {
  heading = record { status = status_of refusal; kind = Json; allow = allow };
  body = refusal_text refusal;
}

-- what a command is told
abbrev pub reply_response : Result Reply Refusal → ResponseValue
reply_response (Ok reply) = json_response reply.text
reply_response (Err refusal) = refusal_response None refusal

-- what a question is told
abbrev pub shown_response : Result Shown Refusal → ResponseValue
shown_response (Ok shown) = json_response (shown_text shown)
shown_response (Err refusal) = refusal_response None refusal

-- what a report is told
abbrev pub report_response : MediaType → Result (List ℕ) Refusal → ResponseValue
report_response kind (Ok text) = ok_response kind text
report_response kind (Err refusal) = refusal_response None refusal

-- a register that is not broken takes the command, whose parts are values of their types, as the machine does. A fault
-- of the device breaks it, and then a crash may have left the history with the command
pub record AppliesAsMachine (A : History) (x : Command) (result : Result Reply Refusal) (after : RegisterHistory) : Type 0 where
  pub values : IsAct x.act
  pub step : AppliesCommand A x result after.accepted
  pub breaks : IsSome after.in_doubt ↔ (result ≡ Err Refusals.Disk)
  pub tried : IsSameOrNext A x (unwrap_or after.in_doubt after.accepted)

-- it says this of the history, and keeps the history
pub record ReadsAsHistory {Value : Type 0} (Says : History → Result Value Refusal → Type 0) (A : History)
    (result : Result Value Refusal) (after : RegisterHistory) : Type 0 where
  pub says : Says A result
  pub same : after.accepted ≡ A
  pub breaks : IsSome after.in_doubt ↔ (result ≡ Err Refusals.Disk)
  pub tried : unwrap_or after.in_doubt after.accepted ≡ A

-- a planned ceremony has this report; another has none
abbrev pub IsReported : (History → ℕ → List ℕ) → ℕ → History → Result (List ℕ) Refusal → Type 0
IsReported report ceremony A result =
    MatchResult result (λ text. IsTrue (is_ceremony A ceremony) × (text ≡ report A ceremony)) (HasNoRow A ceremony)

-- the text of the history, or of the rows; or out of memory, or an I/O error
abbrev pub IsText : {Of : Type 0} → (Of → List ℕ) → Of → Result (List ℕ) Refusal → Type 0
IsText text_of x result = MatchResult result (λ text. text ≡ text_of x) IsFault

-- the requests of the accepted commands after the first N, at most this many of them
abbrev pub feed : ℕ → ℕ → History → List ℕ
feed after count A = requests_between after (after + count) A

-- this text is a feed, of at most `MAX_FEED_COMMANDS` and of one at least, if there is one
abbrev pub IsFeedText : ℕ → History → List ℕ → Type 0
IsFeedText after A text = (count : ℕ) × (0 < count) × (count ≤ MAX_FEED_COMMANDS) × (text ≡ feed after count A)

-- the refusal of the number of a command that was never accepted
abbrev pub no_command : ℕ → Refusal
no_command number = Refusals.Unknown (Things.Command number)

-- of a history whose commands are of values a feed, unless the number that it begins behind is greater than that of
-- the last command: then this is refused; or out of memory, or an I/O error
abbrev pub IsFeed : ℕ → History → Result (List ℕ) Refusal → Type 0
IsFeed after A result =
    AreValues A
    → MatchResult result (λ text. (after ≤ length A) × IsFeedText after A text)
    (λ refusal. IsFault refusal ⊎ ((length A < after) × (refusal ≡ no_command after)))

-- the refusal is told, and the register stays as it was
abbrev pub RespondsRefusal : {Stand : Type 0} → Stand → ResponseValue → Stand → Refusal → Type 0
RespondsRefusal before told after refusal = (told ≡ refusal_response None refusal) × (after ≡ before)

-- the same of a message that could not be read
abbrev pub RespondsUnread : {Stand : Type 0} → Stand → List ℕ → ResponseValue → Stand → Refusal → Type 0
RespondsUnread before target told after refusal =
    (told ≡ refusal_response (if_method refusal (allow_of target)) refusal) × (after ≡ before)

-- a command: a broken register says so, and stays as it was
abbrev pub TakesCommand : RegisterHistory → ResponseValue → RegisterHistory → Command → Type 0
TakesCommand before told after x =
    MatchOption before.in_doubt
    ((result : Result Reply Refusal) × (told ≡ reply_response result) × AppliesAsMachine before.accepted x result after)
    (λ _. RespondsRefusal before told after Refusals.Broken)

-- the same for a call that only reads
abbrev pub TakesReading : {Value : Type 0} → (Result Value Refusal → ResponseValue) → (History → Result Value Refusal → Type 0)
    → RegisterHistory → ResponseValue → RegisterHistory → Type 0
TakesReading {Value} told_by Says before told after =
    MatchOption before.in_doubt
    ((result : Result Value Refusal) × (told ≡ told_by result) × ReadsAsHistory Says before.accepted result after)
    (λ _. RespondsRefusal before told after Refusals.Broken)

-- a question, or a report
abbrev pub TakesInquiry : RegisterHistory → ResponseValue → RegisterHistory → Inquiry → Type 0
TakesInquiry before told after (inquiry.Question question) =
    TakesReading shown_response (λ A result. IsQuestionResult A question result) before told after
TakesInquiry before told after (inquiry.Script ceremony) =
    TakesReading (report_response Text) (IsReported annotated ceremony) before told after
TakesInquiry before told after (inquiry.Attendance ceremony) =
    TakesReading (report_response Csv) (IsReported attendance ceremony) before told after
TakesInquiry before told after inquiry.Custody =
    TakesReading (report_response Text) (IsText custody) before told after
TakesInquiry before told after (inquiry.Commands number) =
    TakesReading (report_response Text) (IsFeed number) before told after

-- a POST is a command, a GET or a HEAD asks for something, and any other method is refused
abbrev pub AnswersBy : Method → RegisterHistory → Request → ResponseValue → RegisterHistory → Type 0
AnswersBy Post before asked told after =
    MatchResult (command_of asked.target asked.body)
    (TakesCommand before told after) (RespondsUnread before asked.target told after)
AnswersBy Ask before asked told after =
    MatchResult (question_of asked.target) (TakesInquiry before told after) (RespondsUnread before asked.target told after)
AnswersBy Other before asked told after = RespondsUnread before asked.target told after (refused_of asked.target)

-- what a message is told, and what it leaves. Any message may be told that memory runs out, and then the register
-- stays as it was
abbrev pub IsAnswer : RegisterHistory → Request → ResponseValue → RegisterHistory → Type 0
IsAnswer before asked told after =
    RespondsRefusal before told after Refusals.Memory
    ⊎ AnswersBy (method_of asked.method) before asked told after

-- WHATEVER THE REGISTER IS

-- what a question may get, whatever the tables hold: what some rows show to it, or a refusal of its own
abbrev pub MayBeShown : Question → Result Shown Refusal → Type 0
MayBeShown question result = MatchResult result (IsShownByRows question) (MayRefuseQuestion question)

-- what a report of a ceremony may get
abbrev pub MayBeReported : ℕ → Result (List ℕ) Refusal → Type 0
MayBeReported ceremony result = IfErr result (MayHaveNoRow ceremony)

-- what a report of the whole register may get
abbrev pub MayBeText : Result (List ℕ) Refusal → Type 0
MayBeText result = IfErr result IsFault

-- what a feed may get
abbrev pub MayBeFed : ℕ → Result (List ℕ) Refusal → Type 0
MayBeFed after result = IfErr result (λ refusal. IsFault refusal ⊎ (refusal ≡ no_command after))

-- a request that could be read is told its result, one that it may get, and an I/O error alone breaks the
-- register; what it holds is not told. A broken one says so, and stays as it was
abbrev pub Replies : {Value : Type 0} → (Result Value Refusal → ResponseValue) → (Result Value Refusal → Type 0) → Bool
    → ResponseValue → Bool → Type 0
Replies {Value} told_by MayBe before told after =
    MatchBool before
    (RespondsRefusal before told after Refusals.Broken)
    ((result : Result Value Refusal) × (told ≡ told_by result)
    × (MayBe result × (IsTrue after ↔ (result ≡ Err Refusals.Disk))))

-- a question, or a report
abbrev pub RepliesInquiry : Bool → ResponseValue → Bool → Inquiry → Type 0
RepliesInquiry before told after (inquiry.Question question) =
    Replies shown_response (MayBeShown question) before told after
RepliesInquiry before told after (inquiry.Script ceremony) =
    Replies (report_response Text) (MayBeReported ceremony) before told after
RepliesInquiry before told after (inquiry.Attendance ceremony) =
    Replies (report_response Csv) (MayBeReported ceremony) before told after
RepliesInquiry before told after inquiry.Custody =
    Replies (report_response Text) MayBeText before told after
RepliesInquiry before told after (inquiry.Commands number) =
    Replies (report_response Text) (MayBeFed number) before told after

-- a POST is a command, a GET or a HEAD asks for something, and any other method is refused
abbrev pub RepliesBy : Method → Bool → Request → ResponseValue → Bool → Type 0
RepliesBy Post before asked told after =
    MatchResult (command_of asked.target asked.body)
    (λ x. Replies reply_response (MayBeReplied x) before told after)
    (RespondsUnread before asked.target told after)
RepliesBy Ask before asked told after =
    MatchResult (question_of asked.target) (RepliesInquiry before told after) (RespondsUnread before asked.target told after)
RepliesBy Other before asked told after = RespondsUnread before asked.target told after (refused_of asked.target)

-- what a message is told by any register, whatever its database holds and whatever its disk does
abbrev pub IsReply : Bool → Request → ResponseValue → Bool → Type 0
IsReply before asked told after =
    RespondsRefusal before told after Refusals.Memory
    ⊎ RepliesBy (method_of asked.method) before asked told after

-- BY WHATEVER ROWS THE TABLES HOLD

-- what only reads says this of the rows and of their number, and keeps both. A fault of the device alone breaks the register
pub record ReadsRows {Value : Type 0} (Says : RegisterRows → Result Value Refusal → Type 0) (before : RegisterRows)
    (result : Result Value Refusal) (after : RegisterRows) : Type 0 where
  pub says : Says before result
  pub rows : after.rows ≡ before.rows
  pub number : after.last_number ≡ before.last_number
  pub breaks : IsTrue after.is_broken ↔ (result ≡ Err Refusals.Disk)

-- a register that is not broken does this and tells its result. A broken one says so, and stays as it was
abbrev pub TakesByRows : {Value : Type 0} → (Result Value Refusal → ResponseValue)
    → (RegisterRows → Result Value Refusal → RegisterRows → Type 0) → RegisterRows → ResponseValue → RegisterRows → Type 0
TakesByRows {Value} told_by Does before told after =
    MatchBool before.is_broken
    (RespondsRefusal before told after Refusals.Broken)
    ((result : Result Value Refusal) × (told ≡ told_by result) × Does before result after)

-- a command: the rows decide it
abbrev pub TakesCommandByRows : RegisterRows → ResponseValue → RegisterRows → Command → Type 0
TakesCommandByRows before told after x = TakesByRows reply_response (λ t result end. DecidesRows t x result end) before told after

-- a ceremony that has a row has this report; another has none
abbrev pub IsReportedByRows : (Tables → ℕ → List ℕ) → ℕ → Tables → Result (List ℕ) Refusal → Type 0
IsReportedByRows report ceremony m result =
    MatchResult result (λ text. IsSome (row_of_ceremony ceremony m) × (text ≡ report m ceremony)) (HasNoRowBy m ceremony)

-- the requests that the rows keep of the commands after this number, of `MAX_FEED_COMMANDS` at most and of one at
-- least, if there is one; a number greater than that of the last command is refused; or out of memory, or an I/O error
abbrev pub IsFeedByRows : ℕ → RegisterRows → Result (List ℕ) Refusal → Type 0
IsFeedByRows after t result =
    MatchResult result
    (λ text. (after ≤ t.last_number)
    × ((count : ℕ) × (0 < count) × (count ≤ MAX_FEED_COMMANDS) × (text ≡ row_requests after (after + count) t.rows)))
    (λ refusal. IsFault refusal ⊎ ((t.last_number < after) × (refusal ≡ no_command after)))

-- a question is shown what the rows show; a report is their text, and a feed the requests that they keep
abbrev pub TakesInquiryByRows : RegisterRows → ResponseValue → RegisterRows → Inquiry → Type 0
TakesInquiryByRows before told after (inquiry.Question question) =
    TakesByRows shown_response (ReadsRows (λ t result. IsQuestionResultBy t.rows question result)) before told after
TakesInquiryByRows before told after (inquiry.Script ceremony) =
    TakesByRows (report_response Text) (ReadsRows (λ t. IsReportedByRows annotated_by ceremony t.rows)) before told after
TakesInquiryByRows before told after (inquiry.Attendance ceremony) =
    TakesByRows (report_response Csv) (ReadsRows (λ t. IsReportedByRows attendance_by ceremony t.rows)) before told after
TakesInquiryByRows before told after inquiry.Custody =
    TakesByRows (report_response Text) (ReadsRows (λ t. IsText custody_by t.rows)) before told after
TakesInquiryByRows before told after (inquiry.Commands number) =
    TakesByRows (report_response Text) (ReadsRows (IsFeedByRows number)) before told after

-- a POST is a command, a GET or a HEAD asks for something, and any other method is refused
abbrev pub AnswersByRows : Method → RegisterRows → Request → ResponseValue → RegisterRows → Type 0
AnswersByRows Post before asked told after =
    MatchResult (command_of asked.target asked.body)
    (TakesCommandByRows before told after) (RespondsUnread before asked.target told after)
AnswersByRows Ask before asked told after =
    MatchResult (question_of asked.target)
    (TakesInquiryByRows before told after) (RespondsUnread before asked.target told after)
AnswersByRows Other before asked told after = RespondsUnread before asked.target told after (refused_of asked.target)

-- what a message is told by whatever rows the register shows, and what it leaves of them
abbrev pub IsAnswerByRows : RegisterRows → Request → ResponseValue → RegisterRows → Type 0
IsAnswerByRows before asked told after =
    RespondsRefusal before told after Refusals.Memory
    ⊎ AnswersByRows (method_of asked.method) before asked told after

-- REGISTERS

-- its history, and the one that a crash may have left in its place, are those of registers
abbrev pub AreRegisters : RegisterHistory → Type 0
AreRegisters s = IsRegister s.accepted × IsRegister (unwrap_or s.in_doubt s.accepted)

-- the machine leads to both from the empty history
abbrev pub AreOfMachine : RegisterHistory → Type 0
AreOfMachine s = IsOfMachine s.accepted × IsOfMachine (unwrap_or s.in_doubt s.accepted)

-- the parts of the commands of both are values of their types
abbrev pub AreOfValues : RegisterHistory → Type 0
AreOfValues s = AreValues s.accepted × AreValues (unwrap_or s.in_doubt s.accepted)

-- a message is answered by a register: in any case a reply; and as long as its disk is clean the answer, from whatever
-- history the register stands at, and by whatever rows it shows
pub record Answered
    {S : Type 0} (g : Ghosts S) (before : RegisterState S) (told : ResponseValue) (after : RegisterState S)
    (Answer : RegisterHistory → RegisterHistory → Type 0) (ByRows : RegisterRows → RegisterRows → Type 0)
    (Reply : Bool → Bool → Type 0) : Type 0 where
  pub clean : HasCleanDisk (state g after.conn) → HasCleanDisk (state g before.conn)
  pub reply : RespondsRefusal before.is_broken told after.is_broken Refusals.Memory
      ⊎ Reply before.is_broken after.is_broken
  pub answer : Leads g before after (λ s end. RespondsRefusal s told end Refusals.Memory ⊎ Answer s end)
  pub rows : RowsLead g before after (λ t end. RespondsRefusal t told end Refusals.Memory ⊎ ByRows t end)

-- a command
abbrev pub AnswersCommand : {S : Type 0} → Ghosts S → RegisterState S → ResponseValue → RegisterState S → Command → Type 0
AnswersCommand g before told after x =
    Answered g before told after
    (λ old new. TakesCommand old told new x) (λ old new. TakesCommandByRows old told new x)
    (λ old new. Replies reply_response (MayBeReplied x) old told new)

-- what only reads: how its result is told, what it may get, and what it says of the history and of the rows
abbrev pub AnswersReading : {S Value : Type 0} → Ghosts S → RegisterState S → ResponseValue → RegisterState S
    → (Result Value Refusal → ResponseValue) → (Result Value Refusal → Type 0) → (History → Result Value Refusal → Type 0)
    → (RegisterRows → Result Value Refusal → Type 0) → Type 0
AnswersReading g before told after told_by MayBe Says SaysBy =
    Answered g before told after
    (λ old new. TakesReading told_by Says old told new) (λ old new. TakesByRows told_by (ReadsRows SaysBy) old told new)
    (λ old new. Replies told_by MayBe old told new)

-- a question, or a report
abbrev pub AnswersInquiry : {S : Type 0} → Ghosts S → RegisterState S → ResponseValue → RegisterState S → Inquiry → Type 0
AnswersInquiry g before told after inquiry =
    Answered g before told after
    (λ old new. TakesInquiry old told new inquiry) (λ old new. TakesInquiryByRows old told new inquiry)
    (λ old new. RepliesInquiry old told new inquiry)

-- why a report was not printed whole into memory, if a write fails because memory ran out
abbrev pub refusal_of : PrintFault → Refusal
refusal_of (Refused refusal) = refusal
refusal_of Write = Refusals.Memory

-- a report that was printed into memory: the text, or why it is not whole
abbrev pub outcome_of : Result ⊤ PrintFault → List ℕ → Result (List ℕ) Refusal
outcome_of (Ok done) text = Ok text
outcome_of (Err fault) text = Err (refusal_of fault)

-- a result is told, or out of memory in the place of one that is no fault of the device and not of a broken register
abbrev pub RespondsOrMemory : {Value : Type 0} → (Result Value Refusal → ResponseValue) → Result Value Refusal → ResponseValue → Type 0
RespondsOrMemory {Value} told_by result told =
    (told ≡ told_by result)
    ⊎ ((told ≡ refusal_response None Refusals.Memory) × (result ≢ Err Refusals.Disk) × (result ≢ Err Refusals.Broken))

-- a message by its method
abbrev pub AnswersAs : {S : Type 0} → Method → Ghosts S → RegisterState S → Request → ResponseValue → RegisterState S → Type 0
AnswersAs method g before asked told after =
    Answered g before told after
    (λ old new. AnswersBy method old asked told new) (λ old new. AnswersByRows method old asked told new)
    (λ old new. RepliesBy method old asked told new)

abbrev pub Answers : {S : Type 0} → Ghosts S → RegisterState S → Request → ResponseValue → RegisterState S → Type 0
Answers g before asked told after = AnswersAs (method_of asked.method) g before asked told after
