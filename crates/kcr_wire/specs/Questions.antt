-- The inquiry that a request is, or the first of the refusals path and method.
use Rattle.std.specs.Prelude.{ℕ, List, Result, Ok, Err}
use Rattle.kcr_forms.specs.{OrMemory.and_then, declared.post.CollectionPath.TheVariants.People}
use Rattle.kcr_wire.specs.{Endpoints.target_of, declared.question.Inquiry.Inquiry, declared.endpoint.Endpoint.Endpoint}
use Rattle.kcr_base.specs.declared.refusal.Refusal.{Refusal}
use Rattle.kcr_base.specs.declared.refusal.Refusal.TheVariants as refusal
use Rattle.kcr_history.specs.declared.questions.Question.TheVariants as question
use Rattle.kcr_forms.specs.declared.post.Post.TheVariants as post
use Rattle.kcr_wire.specs.declared.question.Inquiry.TheVariants as inquiry
use Rattle.kcr_wire.specs.declared.endpoint.Endpoint.TheVariants as target

-- the question or the report that a path is asked for, or that it takes commands alone
abbrev pub inquiry_of : Endpoint → Result Inquiry Refusal
inquiry_of (target.Ask asked) = Ok asked
inquiry_of (target.Post (post.Collection People)) = Ok (inquiry.Question question.People)
inquiry_of (target.Post _) = Err refusal.Method

-- the inquiry that a target is
unfoldable pub question_of : List ℕ → Result Inquiry Refusal
question_of target = and_then (target_of target) inquiry_of
