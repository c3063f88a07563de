use Rattle.kcr_reading.proofs.Common.{ap, map, filter_every, with_items, items_by_code}
use Rattle.kcr_reading.proofs.bags.BagCursor.new.Goals as goal

pub returns : goal.returns
returns c m = ap (map (with_items (items_by_code m))) (filter_every _)
