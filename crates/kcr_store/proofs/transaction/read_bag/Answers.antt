use Rattle.kcr_store.proofs.Common.{rules, ◌∙◌, [], ◌∷◌, sym, ap, refl, inr, map, option_map, same-itself, sealed_items, tables, clean_before}
use Rattle.kcr_store.proofs.Common.{within_fails, within_then, within_to, held_of, kept_rises}
use Rattle.kcr_custody.specs.declared.Bag.{Bag}
use Rattle.kcr_store.proofs.QuestionLemmas.{bag_by, bag_of_history, codes_packed, spot_shown}
use Rattle.kcr_store.proofs.StoreLemmas.{held_in}
use Rattle.kcr_store.proofs.transaction.read_bag.Goals as goal

pub returns-in_default-clause-rows : goal.returns-in_default-clause-rows
returns-in_default-clause-rows g c clean m had =
    let found = c.in_ok-bag.ensures.row clean m (had (c.in_ok-bag.ensures.opened clean)) in
    inr (ap (option_map (λ (bag : Bag). bag.spot)) (sym found ∙ c.in_default.is), refl)

pub returns-in_default-clause-shown : goal.returns-in_default-clause-shown
returns-in_default-clause-shown g c clean accepted had =
    let was = had (c.in_ok-bag.ensures.opened clean) in
    let found = c.in_ok-bag.ensures.row clean (tables accepted) (held_in accepted _ was) in
    inr (sym (spot_shown accepted was.tables.register c.args.serial) ∙ ap (option_map (λ (bag : Bag). bag.spot)) (sym found ∙ c.in_default.is), refl)

pub returns-clause-rows : goal.returns-clause-rows
returns-clause-rows g c clean m had =
    let read = c.in_ok-bag.ensures in
    let clean1 = clean_before c.in_ok-items.ensures.frame.within clean in
    let held = had (read.opened clean1) in
    let t = held.tables.t in
    let found = read.row clean1 m held in
    let items = c.in_ok-items.ensures.rows clean t (read.frame.holds clean1 t (held_of m _ held)) in
    bag_by m t.rows held.tables.stands.rows (kept_rises _ t held.tables.kept) c.args.serial _ refl
    (ap (option_map (λ (bag : Bag). bag.spot)) (sym found ∙ c.in-Some.is))
    (c.in_ok-codes_of.ensures ∙ ap (map (λ item. item.code)) (c.deref.ensures.value ∙ items))

pub returns-clause-shown : goal.returns-clause-shown
returns-clause-shown g c clean accepted had =
    let clean1 = clean_before c.in_ok-items.ensures.frame.within clean in
    let was = had (c.in_ok-bag.ensures.opened clean1) in
    bag_of_history accepted was.tables.register c.args.serial _
    (returns-clause-rows g c clean (tables accepted) (λ live. held_in accepted _ (had live)))

-- a row of the bag alone, with what lies in it
pub returns-clause-by_rows : goal.returns-clause-by_rows
returns-clause-by_rows g c = (
  record (tables []) {
    bags = record { serial = c.args.serial; spot = c.in-Some.bag.spot } ∷ [];
    items = sealed_items c.args.serial c.in_ok-codes_of.field-0.items;
  },
  record { serial = refl; spot = rw (same-itself c.args.serial) refl; items = sym (codes_packed c.args.serial c.in_ok-codes_of.field-0.items) },
)

pub returns-clause-frame : goal.returns-clause-frame
returns-clause-frame g c = within_to _ tt (within_then c.in_ok-bag.ensures.frame.within c.in_ok-items.ensures.frame.within)

pub returns-in_err-items-clause-frame : goal.returns-in_err-items-clause-frame
returns-in_err-items-clause-frame g c = search (rules, within_then, within_fails)
