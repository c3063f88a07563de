use Rattle.kcr_tool.proofs.Common.{◌≡◌, None, inl, inr, refl, sym, ◌∙◌, arith, IsTrue, streams, writing, Words}
use Rattle.kcr_arguments.specs.Tasks.{file_of, said}
use Rattle.kcr_tool.proofs.{Causes.none_mapped, Notes.asked_of_finding, Notes.task_noted}
use Rattle.kcr_tool.proofs.Told.{done_at_zero, fault_told, found_at_one, is_named}
use Rattle.kcr_tool.proofs.act.act.Goals as goal

pub returns-in-Err-Memory-clause-cause : goal.returns-in-Err-Memory-clause-cause
returns-in-Err-Memory-clause-cause g c one =
    inr (Words, (c.args.faults.now, inl refl, (_, inr refl, c.write_line-in-Err-Memory.ensures)), (refl, refl))

pub returns-in-Err-clause-cause : goal.returns-in-Err-clause-cause
returns-in-Err-clause-cause g c one =
    let s = streams g.R.Read.remaining g.W.Write.contents c.args.input.now c.run_invocation.new.input c.args.output.now c.run_invocation.new.output in
    let w = writing g.F.Write.contents c.args.faults.now c.write_fault.new.faults in
    let told = fault_told _ _ _ _ c.in-Ok.order.task _ _ c.in-Ok.order.is_explained c.in-Ok.ensures.task c.in-Ok.ensures.file c.in-Ok.ensures.into
    c.in-Ok.ensures.explained c.in-Err.fault s w c.run_invocation.new.faults c.in-Err.ensures.noted c.write_fault.ensures c.in-Err.ensures.cause in
    inr (c.in-Err.fault, told.0, told.1)

pub returns-in-Err-clause-part : goal.returns-in-Err-clause-part
returns-in-Err-clause-part g c one none =
    let unnamed = none_mapped _ c.in-Ok.order.file (sym c.in-Ok.ensures.file ∙ none) in
    elim (c.in-Err.ensures.own unnamed) [ inl same ↦ inl same | inr begun ↦ inr (c.in-Ok.order.task, c.in-Ok.ensures.task, begun) ]

pub returns-in-Err-clause-answered_in_part : goal.returns-in-Err-clause-answered_in_part
returns-in-Err-clause-answered_in_part g c one =
    elim c.in-Err.ensures.ends [ inl same ↦ inr (inl same) | inr begun ↦ inr (inr (c.in-Ok.order.task, c.in-Ok.ensures.task, begun)) ]

pub returns-in-Ok-run_invocation : goal.returns-in-Ok-run_invocation
returns-in-Ok-run_invocation g c =
    let task = c.in-Ok.order.task in
    let asks = c.in-Ok.ensures.task in
    let file = c.in-Ok.ensures.file in
    let ends = c.in-Ok-run_invocation.ensures.ends in
    let own = λ (none : file_of (said c.args.words.now) ≡ None).
    c.in-Ok-run_invocation.ensures.own (none_mapped _ c.in-Ok.order.file (sym file ∙ none)) in
    let noted = c.in-Ok-run_invocation.ensures.noted in
    let w = writing g.F.Write.contents c.args.faults.now c.run_invocation.new.faults in
    record {
      status = elim ends [ inl done ↦ omega (arith, done.0) | inr problem ↦ omega (arith, problem.0) ];
      done = λ _ none. (task, asks, (own none).1);
      answered = λ zero. (task, asks, done_at_zero _ zero ends);
      noted = λ _. rw (asks, file) (task_noted _ (Unit {0}) _ _ w (λ _. tt) noted);
      cause = λ one. inl (
        is_named _ c.in-Ok.order.file _ file (λ none. omega (arith, (c.in-Ok-run_invocation.ensures.own none).0, one)),
        (task, asks, found_at_one _ one ends),
        rw (asks, file, c.in-Ok.ensures.explained)
            (task_noted _ (IsTrue c.in-Ok.order.is_explained) _ _ w (asked_of_finding c.in-Ok.order.is_explained _ one) noted),
      );
      part = λ one none. absurd (omega (arith, (own none).0, one));
      answered_in_part = λ one. inl (task, asks, found_at_one _ one ends);
      refused = λ two. absurd (elim ends [ inl done ↦ omega (arith, done.0, two) | inr problem ↦ omega (arith, problem.0, two) ]);
    }
