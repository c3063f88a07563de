use Rattle.kcr_desk.proofs.Common.{Bool, rules, ShowsAt, StandsAt, Answers, IsAnswer, IsAnswerByRows, IsReply, streams}
use Rattle.kcr_desk.proofs.StandingLemmas.{run_clean, run_replies, broken_stream, ends_moved, ran}
use Rattle.kcr_desk.proofs.desk.serve.Goals as goal

pub returns : goal.returns
returns g c =
    let s = streams g.R.Read.remaining g.W.Write.contents c.args.reader.now c.serve_stream-result.new.reader c.args.writer.now
    c.serve_stream-result.new.writer in
    let before = c.args.register.now in
    let after = c.serve_stream-result.new.responder in
    let result = c.serve_stream-result.result in
    let told = c.serve_stream-result.ensures in
    let run = ran (Answers g.S.Store) s before after result told.served in
    record {
      answered = ends_moved g.S.Store (StandsAt g.S.Store) IsAnswer (λ a b asked told answers. answers.answer) s before after result told.served;
      by_rows = ends_moved g.S.Store (ShowsAt g.S.Store) IsAnswerByRows (λ a b asked told answers. answers.rows) s before after result told.served;
      replied = run.2 Bool IsReply before.is_broken after.is_broken (run_replies g.S.Store before after run.0 run.1);
      clean = run_clean g.S.Store before after run.0 run.1;
      cause = broken_stream s result told.read_fault told.write_fault;
      kept = search rules;
      bound = search rules;
    }
