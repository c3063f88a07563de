-- The names that most proofs cite, passed on from one place. Declares nothing.
pub use Rattle.httparse.proofs.GrammarLemmas.{ReadsRequest-append, print_request-append, request_unique}
pub use Rattle.httparse.specs.Grammar.{AllPass, HasNoRequest, IsField, IsRequestHead, LineEnd, ReadsRequest, RequestHead, crlf, is_uri_byte}
pub use Rattle.httparse.specs.Grammar.{is_value_byte, lf, print_blank, skip_ows, trim_ows}
pub use Rattle.httparse.specs.Spans.{IsRequestAt, IsRequestOf, IsRequestWithin, IsWithin, RequestOverflows, header_bytes, span_bytes}
pub use Rattle.httparse.specs.declared.spans.RequestSpans.{RequestSpans}
pub use Rattle.sqlite.specs.{Held.state, Store.Ghosts, State.HasCleanDisk}
pub use Rattle.std.proofs.Common.{IsTrue, List, Some, [], add-one, ap, append_assoc, arith, codes, cond, drop, eqb, false, get_or, inl, inr, length}
pub use Rattle.std.proofs.Common.{length-append, length-drop, map, min, nat_lt, not, refl, reverse, rules, subst, suc, sym, take, tests, zero, ℕ}
pub use Rattle.std.proofs.Common.{◌&&◌, ◌*◌, ◌++◌, ◌+◌, ◌-◌, ◌<◌, ◌∙◌, ◌∷◌, ◌≡◌, ◌≢◌, ◌≤◌, ◌⊎◌}
pub use Rattle.std.proofs.Math.Seq.{drop-append_seam, take-append-add, take-append_seam, take-length}
pub use Rattle.std.proofs.lemmas.Bool.{and_parts, eq-eqb, eqb-true, false_from_ne_true, le-ltb, lt-ltb, ltb-true, ne_eqb}
pub use Rattle.std.proofs.lemmas.{Bool.Decides.Decides-below_and, Bool.Decides.nat_tests, Result.MatchResult-from_err, Result.MatchResult-weaker}
pub use Rattle.std.proofs.lemmas.List.{append-nil, drop-append-le, length-map, length-reverse, length-take, Folds.list_all-append}
pub use Rattle.std.proofs.lemmas.List.{nil_from_length, take-append-drop, take-append-le, take_all, take_more, take_rest}
pub use Rattle.std.proofs.lemmas.List.Elements.{All-cons, All-from_recursion, All-nil, All-weaker}
pub use Rattle.std.specs.{Char.digit_value, Char.is_ascii_digit, Str.Parse.AllDigits, Str.Parse.digits_value}
pub use Rattle.std.specs.Io.KnownBytes.{Appends, Consumes, IsAtEnd, prepend_known}
pub use Rattle.std.specs.List.{AllByRecursion, flat_map, list_all}
pub use Rattle.std.specs.Prelude.{Bool, Err, IfErr, IsErrOf, IsSome, MatchBool, MatchOption, MatchResult, None, Ok, Option, Result}
pub use Rattle.std.specs.Prelude.{if◌then◌else◌, is_some, slice_range, true, unwrap_or, ⊤, ◌↔◌}
pub use Rattle.kcr_base.specs.Counted.{failures_of, inner_of, nonempty_reads_of}
pub use Rattle.kcr_base.specs.declared.{counted.Counted.Counted, refusal.Refusal.Refusal}
pub use Rattle.kcr_base.specs.declared.refusal.Refusal.TheVariants.{Cut, Disk, Host, Memory}
pub use Rattle.kcr_forms.specs.Acts.{IsAct}
pub use Rattle.kcr_history.proofs.Steps.{follows, of_machine}
pub use Rattle.kcr_history.specs.History.{History, entry_of, pushed_onto}
pub use Rattle.kcr_history.specs.Machine.{Accepts, IsOfMachine, IsRegister, Outcome, Refuses, machine, with_command}
pub use Rattle.kcr_history.specs.{Prints.annotated, Prints.attendance, Prints.custody, Tables.Tables}
pub use Rattle.kcr_history.specs.declared.commands.{Command.Command, Reply.Reply, ReplyData.ReplyData}
pub use Rattle.kcr_laws.proofs.Accepted.{repeated, step_leads}
pub use Rattle.kcr_print.proofs.WrittenLemmas.{appends_both, appends_nothing, front_both, writes_then}
pub use Rattle.kcr_print.specs.{ByRows.annotated_by, ByRows.attendance_by, ByRows.custody_by, Written.Writes, Written.WritesPrefix}
pub use Rattle.kcr_store.proofs.WholeLemmas.{looked, reads_nothing}
pub use Rattle.kcr_store.specs.Calls.{Leads, OfHistory, ReadsHistory, RowsLead, left_at}
pub use Rattle.kcr_store.specs.Commands.{AppliesCommand, IsSameOrNext, MayBeReplied, TakesStep}
pub use Rattle.kcr_store.specs.Register.{IsConsistent, RegisterRows, RegisterState, ShowsAt, StandsAt}
pub use Rattle.kcr_wire.specs.{Commands.command_of, declared.method.Method.TheVariants.Post}
pub use Rattle.kcr_desk.specs.Answers.{Answered, Answers, AnswersReading, AppliesAsMachine, AreOfMachine, AreOfValues, AreRegisters}
pub use Rattle.kcr_desk.specs.Answers.{IsAnswer, IsAnswerByRows, IsFeed, IsFeedByRows, IsReply, IsReported, IsReportedByRows, IsText, MayBeFed}
pub use Rattle.kcr_desk.specs.Answers.{MayBeReported, MayBeShown, MayBeText, ReadsAsHistory, ReadsRows, RegisterHistory, Replies, RespondsOrMemory}
pub use Rattle.kcr_desk.specs.Answers.{RespondsRefusal, RespondsUnread, TakesByRows, TakesCommand, TakesInquiry, TakesReading, json_response}
pub use Rattle.kcr_desk.specs.Answers.{no_command, outcome_of, refusal_of, refusal_response, reply_response, report_response, shown_response, whole}
pub use Rattle.kcr_desk.specs.{BlankRest.blank_from, Output.IsQueued, Input.Stays, Input.left, Input.unread}
pub use Rattle.kcr_desk.specs.Connections.{Connects, Ends, Runs}
pub use Rattle.kcr_desk.specs.Export.{AreSendable, HadNoFault, IsSendable, commands_of, kept_reply, message_of, posted_head, posted_message}
pub use Rattle.kcr_desk.specs.{Export.requests_text, Responses.response_value, Heads.IsHeadAt, Heads.IsHopeless, Heads.IsWhole}
pub use Rattle.kcr_desk.specs.Framing.{bounded_length, is_empty, is_head, is_hosted, length_in, measured, values_of}
pub use Rattle.kcr_desk.specs.Members.{members_left, members_of_rest, same_case, some_has_member, split_commas}
pub use Rattle.kcr_desk.specs.{NextHead.EndsAs, NextHead.HasFraming, NextHead.IsReady, Streams.BreaksStream, Streams.Streams, Streams.streams}
pub use Rattle.kcr_desk.specs.NextItem.{BreaksItem, IsNextItem, request_of_buffer}
pub use Rattle.kcr_desk.specs.Run.{Begins, Exchange, IsNextOutput, IsServed, IsServedInPart, Request, Run, continues, ending_text, ends}
pub use Rattle.kcr_desk.specs.Run.{exchange_text, messages_of, nothing, output, request_of}
pub use Rattle.kcr_desk.specs.Stream.{AreMessages, Ending, HasHead, HasNoHead, IsBlankRest, IsEnd, IsMessage, Message, clean_end, cut_off, fails}
pub use Rattle.kcr_desk.specs.Stream.{framing_of, is_blank_rest, is_cut, no_head, refused}
pub use Rattle.kcr_desk.specs.Texts.{ResponseValue, continue_text, fault_response}
pub use Rattle.kcr_desk.specs.declared.{fault.DeskFault.DeskFault, head.Framing.Framing, stream.NextItem.TheVariants.Ended, stream.Served.Served}
pub use Rattle.kcr_desk.specs.declared.response.MediaType.TheVariants.{Csv, Text}
