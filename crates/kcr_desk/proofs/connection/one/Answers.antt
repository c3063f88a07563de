use Rattle.kcr_desk.proofs.{Common.IsAnswer, Common.IsReply, Common.streams, ConnectionLemmas.leads_one}
use Rattle.kcr_desk.proofs.connection.one.Goals as goal

pub returns-clause-connects : goal.returns-clause-connects
returns-clause-connects g c =
    let s = streams g.R.Read.remaining g.W.Write.contents c.args.reader.now c.serve-stream.new.reader c.args.writer.now
    c.serve-stream.new.writer in
    let served = c.serve-stream.ensures in
    record {
      answers = λ clean stand at.
          let run = served.answered clean stand at in (run.0, run.1, leads_one IsAnswer s stand run.0 c.serve-stream.result run.2);
      replies = leads_one IsReply s c.args.register.now.is_broken c.serve-stream.new.register.is_broken c.serve-stream.result served.replied;
      clean = served.clean;
    }
