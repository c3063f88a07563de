use Rattle.kcr_store.proofs.{Common.state, Common.was_clean, OpenLemmas.still_shows}
use Rattle.kcr_store.proofs.open.open_current.Goals as goal

pub returns-clause-shows : goal.returns-clause-shows
returns-clause-shows g c clean A shows =
    let before = was_clean _ _ _ c.probe.ensures.frame.survives clean in
    let same = c.in_ok-probe.ensures.same clean in
    record {
      shows = still_shows A (state g.S.Store c.read_count.new.conn) (state g.S.Store c.probe.new.conn) same
          (c.in_ok-count.ensures.shows before A shows same.0.was_open);
      live = same.0.is_open;
      counts = c.in_ok-count.ensures.count before A shows;
    }
