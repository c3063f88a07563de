use Rattle.kcr_store.proofs.Common.{rules, ◌∙◌, sym, tables, clean_before, held_of}
use Rattle.kcr_reading.proofs.CustodyLemmas.{safes_stand}
use Rattle.kcr_store.proofs.{QuestionLemmas.custody_of_history, StoreLemmas.held_in}
use Rattle.kcr_store.proofs.lists.read_custody.Goals as goal

pub returns-clause-rows : goal.returns-clause-rows
returns-clause-rows g c clean m had =
    let clean2 = clean_before c.in_ok-loose.ensures.frame.within clean in
    let clean1 = clean_before c.in_ok-bags.ensures.frame.within clean2 in
    let held = had (c.in_ok-safes.ensures.opened clean1) in
    let held1 = c.in_ok-safes.ensures.frame.tables clean1 m held in
    let held2 = c.in_ok-bags.ensures.frame.tables clean2 m held1 in
    record {
      safes = c.in_ok-safes.ensures.rows clean1 held.tables.t (held_of m _ held) ∙ sym (safes_stand m held.tables);
      bags = c.in_ok-bags.ensures.rows clean2 m held1 ∙ c.new.ensures m;
      loose = c.in_ok-loose.ensures.rows clean m held2 ∙ c.new-2.ensures m;
    }

pub returns-clause-shown : goal.returns-clause-shown
returns-clause-shown g c clean accepted had = search (rules, held_in, custody_of_history, returns-clause-rows g c)
