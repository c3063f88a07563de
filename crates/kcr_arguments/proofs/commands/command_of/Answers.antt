use Rattle.std.proofs.Common.{◌≡◌, ◌∙◌, IfOk, ap, subst, arith, rules}
use Rattle.std.specs.Prelude.{fold}
use Rattle.std.proofs.lemmas.List.{take_all}
use Rattle.clap.specs.Words.{App, app_of, new_app, with_rule}
use Rattle.kcr_arguments.specs.Commands.{explain_rule, file_rule, with_option}
use Rattle.kcr_arguments.proofs.Folds.{fold_next}
use Rattle.kcr_arguments.proofs.commands.command_of.Goals as goal

pub loop-option-init : goal.loop-option-init
unfolding with_option
loop-option-init c = search rules

pub loop-option-preserved : goal.loop-option-preserved
loop-option-preserved c = (
  fold_next with_option (with_rule (new_app c.args.subcommand.now.name.now) file_rule) c.args.subcommand.now.options.now c.loop-option.option-index _ _ _ (omega arith) c.loop-option.invariant.0 c.in_ok-command-2.ensures.app,
  c.in_ok-command-2.ensures.local c.loop-option.invariant.1,
)

pub returns-clause-app : goal.returns-clause-app
unfolding with_option
returns-clause-app c =
    let subcommand = c.args.subcommand.now in
    let base = with_rule (new_app subcommand.name.now) file_rule in
    let all = c.loop-option.invariant.0 ∙ ap (fold with_option base) (take_all c.loop-option.option-index subcommand.options.now c.loop-option-test.false) in
    subst (λ (a : App). IfOk c.with_option-2.result (λ made. app_of made ≡ with_rule a explain_rule)) all c.with_option-2.ensures.app
