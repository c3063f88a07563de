-- An act that needs no seats and states no exception comes to its changes alone.
use Rattle.kcr_rules.proofs.Common.{◌≡◌, None, Result, Ok, Err, refl, sym, ◌∙◌, Vec, Refusal, Act, Effect, IsChangesResult, IsEffectResult, alone}
use Rattle.kcr_rules.proofs.Common.{all_changes_by, changes_by, seat_request_by, exception_by, reply_step_by}
use Rattle.std.specs.Global.{Global}
use Rattle.kcr_history.specs.declared.views.Change.{Change}
use Rattle.kcr_rules.specs.declared.context.DecisionContext.{DecisionContext}

-- if an act needs no seats and states no exception, the result of its changes is that of the act
pub plain_acts : (premises : DecisionContext) (act : Act) (changes : Result (Vec Change Global) Refusal) (result : Result Effect Refusal)
    → result ≡ alone changes → IsChangesResult premises act changes → seat_request_by premises.view.now act ≡ None
    → exception_by premises.view.now act ≡ None → reply_step_by premises.view.now act ≡ None
    → all_changes_by premises.view.now act None ≡ changes_by premises.view.now act
    → IsEffectResult premises.view.now premises.is_full act result
plain_acts premises act (Ok changes) result is has seats exception step all =
    rw is (record {
      fine = has.0;
      seated = rw seats refl;
      changes = has.1 ∙ sym all;
      exception = sym exception;
      step = sym step;
    })
plain_acts premises act (Err refusal) result is has seats exception step all = rw is (λ other. rw (has other) refl)
