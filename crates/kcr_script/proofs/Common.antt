-- The names that most proofs cite, passed on from one place. Declares nothing.
pub use Rattle.csv.specs.Machine.{Read, ends_at_end, field_after, fields_after, is_end, step}
pub use Rattle.csv.specs.Reading.{AreRecords, Ready, default_config, is_flexible, records, records_next, source_of}
pub use Rattle.csv.specs.Records.{fields_of}
pub use Rattle.std.proofs.Common.{All, Bool, Bor, IfErr, IfOk, IfSome, List, MatchResult, None, Option, Result, Some, [], ap, append-nil}
pub use Rattle.std.proofs.Common.{append_assoc, arith, below_more, cond, drop, eqb, false, get_or, inl, inr, leb, length, length-append, map, nat_lt}
pub use Rattle.std.proofs.Common.{not, refl, replicate, rules, string_bytes, subst, suc, sym, true, true≢false, zero, ℕ, ◌%◌, ◌&&◌, ◌*◌, ◌++◌, ◌+◌}
pub use Rattle.std.proofs.Common.{◌-◌, ◌/◌, ◌<◌, ◌∙◌, ◌∷◌, ◌≡◌, ◌≢◌, ◌≤◌}
pub use Rattle.std.proofs.lemmas.Bool.{both_ways, cases_Bool, cond_both, false_from_ne_true, le-leb, le-ltb, leb-true, ltb-false, ltb-true, ne_eqb}
pub use Rattle.std.proofs.lemmas.Bool.Decides.{Decides-and, Decides-by_and, Decides-eqb, Decides-not, nat_tests}
pub use Rattle.std.proofs.lemmas.List.{get_or_default, length-map, length-replicate, map-append, nil_from_length, replicate-append-replicate}
pub use Rattle.std.proofs.lemmas.List.{take_rest, Elements.All-weaker}
pub use Rattle.std.proofs.lemmas.List.Elements.{All-append, All-drop, All-from_recursion, All-head, All-nil, All-replicate, All-same, All-tail}
pub use Rattle.std.specs.{Cmp.Lexicographic.bytes_decides, Cmp.Lexicographic.pointwise, Fmt.decimal}
pub use Rattle.std.specs.List.{AllByRecursion, flat_map, join_with_byte, list_all}
pub use Rattle.std.specs.Prelude.{Err, Ok, codes, nat_le, option_map, ⊤, ◌==◌, ◌↔◌}
pub use Rattle.kcr_base.proofs.ListLemmas.{each-append, first-is}
pub use Rattle.kcr_base.specs.{Same.same_text, declared.place.Role.TheVariants.Ca}
pub use Rattle.kcr_script.specs.Reading.{all_items, at_most_sixteen, between_semicolons, free_seats, is_activity, is_printing, item_of, join_items}
pub use Rattle.kcr_script.specs.Reading.{join_steps, one_to_seven, repeated, seats_of_items, some_steps, step_of, steps_from, steps_of_rows}
pub use Rattle.kcr_script.specs.Script.{AreRows, AreSteps, BreaksAt, BreaksFrom, BreaksScript, Fields, IsRow, IsScript, IsScriptRows, header}
pub use Rattle.kcr_script.specs.Seat.{IsSeat, can_repeat, kind, seat_text}
pub use Rattle.kcr_script.specs.Seats.{IsItem, IsLast, IsSeats, Item, Leads, Spells, StandsFor, after_semicolon, all_appended, appended, before_runs}
pub use Rattle.kcr_script.specs.Seats.{groups, item_seats, item_text, items_text, joined, pair_item, runs, star_text}
pub use Rattle.kcr_script.specs.{Steps.HasSteps, declared.script.Step.Step, declared.seat.Seat.Seat}
pub use Rattle.kcr_script.specs.declared.seat.Seat.TheVariants.{AnyCo, Co, Rksh, Staff}
