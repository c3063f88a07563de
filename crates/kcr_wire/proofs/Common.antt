-- The names that most proofs cite, passed on from one place. Declares nothing.
pub use Rattle.json.specs.Print.{escape, quoted}
pub use Rattle.matchit.specs.Params.{AllText, after_token, named, part_of, walk, wild_from, wild_stop}
pub use Rattle.matchit.specs.{Router.InsertsRead, Router.RouteOf, declared.error.InsertError.TheVariants.OutOfMemory}
pub use Rattle.matchit.specs.Rows.{RowsOf, catch_all_token, param_token}
pub use Rattle.matchit.specs.Seek.{better, cuts, first, has_slash, longest_from, longest_suffix, or_else, own, segment, step, with_suffix}
pub use Rattle.serde_json.specs.Data.{Data, Items, Members, item, member, no_items, no_members, object, put, string}
pub use Rattle.serde_json.specs.Find.{as_array, as_str, get, get_member}
pub use Rattle.serde_json.specs.Read.{max_depth, of_items, of_json, of_members, read}
pub use Rattle.serde_json.specs.{View.items_of, View.items_view, View.view, Written.members_outline, Written.members_text, Written.outline}
pub use Rattle.serde_json.specs.Written.{comma_if, compact_text, has_float, items_have_float, items_outline, items_text, members_have_float}
pub use Rattle.std.proofs.Common.{All, Bool, Err, IfOk, IfSome, List, None, Ok, Option, Result, Some, [], ap, append-nil, append_assoc, arith, codes}
pub use Rattle.std.proofs.Common.{cond, drop, eqb, false, get_or, if◌then◌else◌, inl, inr, leb, length, length-append, length-drop, ltb, map, nat_eq}
pub use Rattle.std.proofs.Common.{nat_le, not, option_and_then, refl, rules, string_bytes, subst, suc, sym, take, true, true≢false, zero, ℕ, ◌&&◌}
pub use Rattle.std.proofs.Common.{◌*◌, ◌++◌, ◌+◌, ◌-◌, ◌<◌, ◌^◌, ◌||◌, ◌∙◌, ◌∷◌, ◌≡◌, ◌≤◌, ◌⊎◌}
pub use Rattle.std.proofs.Math.Seq.{drop-append_seam, take-append_seam}
pub use Rattle.std.proofs.lemmas.Bool.{and_parts, cond_both, eqb-true, false_from_ne_true, false≢true, le-ltb, leb-true, lt-ltb, ne_eqb, not-true}
pub use Rattle.std.proofs.lemmas.{Bool.or_parts, Bool.Decides.nat_tests, Result.IfOk-at_ok, Result.IfOk-weaker}
pub use Rattle.std.proofs.lemmas.Fmt.{IsAscii-decimal, decimal_is_IsNumeral, length-decimal-le}
pub use Rattle.std.proofs.lemmas.List.{drop-drop, drop_all, drop_more, get_or-drop, nil_from_length, take_all}
pub use Rattle.std.proofs.lemmas.List.Elements.{All-append, All-cons, All-drop, All-head, All-nil, All-tail, All-take, All-weaker, recursion_from_All}
pub use Rattle.std.proofs.lemmas.List.Sums.{AllPass-from_list_all, list_all-from_AllPass}
pub use Rattle.std.proofs.lemmas.{Option.cond_some, Option.option_and_then_some, Str.Ascii.All-from_ascii, Str.Ascii.IsAscii-from_all}
pub use Rattle.std.proofs.lemmas.Str.{IsUtf8-append, IsUtf8-from_ascii, IsUtf8-from_is_utf8, is_utf8-from_IsUtf8}
pub use Rattle.std.specs.Bool.{⊤}
pub use Rattle.std.specs.{Fmt.decimal, Prelude.SomeIff, Option.ok_or, Option.option_map, Str.IsAscii, Str.IsUtf8, Str.is_utf8}
pub use Rattle.std.specs.List.{AllByRecursion, fold, list_all, list_any}
pub use Rattle.kcr_base.proofs.{FormLemmas.key-read, FormLemmas.within-from, SameLemmas.same-itself}
pub use Rattle.kcr_base.specs.{Initials.IsCapital, Initials.IsInitials, Serial.IsDigit, Serial.IsSerial}
pub use Rattle.kcr_base.specs.{Key.IsKey, Key.IsKeyByte, Refusal.member_text, Lists.IsListed, Lists.are_apart, Lists.is_among}
pub use Rattle.kcr_base.specs.{Number.IsNumber, Same.same_text, Place.IsPlace, Place.place_text}
pub use Rattle.kcr_base.specs.declared.limits.TheConstants.{MAX_CEREMONY, MAX_STEPS}
pub use Rattle.kcr_base.specs.declared.{place.Place.Place, refusal.Member.Member, refusal.Refusal.Refusal}
pub use Rattle.kcr_forms.proofs.Cutting.{Lacks, cut-again, lacks-by, nowhere}
pub use Rattle.kcr_forms.proofs.Formed.{ceremonies, initials, place-passes, places-read, safes, serials, steps}
pub use Rattle.kcr_forms.proofs.Gives.{Gives, act-given, codes-again, lines-told, lines_text, posted-values}
pub use Rattle.kcr_forms.proofs.{Listing.after_codes, Listing.one_more, Posts.told_as}
pub use Rattle.kcr_forms.proofs.Posts.{AllGiven, Given, IsPost, IsRead, IsReadBy, is_shape, members_in, names_of, post_of, shape-parts, shaped, told}
pub use Rattle.kcr_forms.proofs.Readers.{any, ascii-utf8, chained, mapped, tested}
pub use Rattle.kcr_forms.specs.{Acts.IsAct, declared.post.Post.Post, Posts.last, Posts.next, Posts.posted_act}
pub use Rattle.kcr_forms.specs.Forms.{ceremony_of, initials_of, is_between, is_key_byte, place_of, safe_of, serial_of, step_of}
pub use Rattle.kcr_forms.specs.Shapes.{Codes, Form, Number, Text, Truth, shape}
pub use Rattle.kcr_history.specs.Texts.{MemberValue, Several, Whole, Word, at_bag, at_ceremony, at_person, at_place, at_safe, at_step, command_text}
pub use Rattle.kcr_history.specs.Texts.{members_of, path_text, safe_text, value_text, with_line}
pub use Rattle.kcr_history.specs.declared.commands.{Act.Act, Command.Command}
pub use Rattle.kcr_wire.specs.{ActTexts.if_told, Endpoints.with_parts, Bodies.json_members, Bodies.next_member}
pub use Rattle.kcr_wire.specs.Commands.{key_at, posted, posted_command}
pub use Rattle.kcr_wire.specs.Endpoints.{Parts, ceremony_in, endpoint_of, inquiry_at, part_as, parts_in, path_of, post_at, serial_in, target_at}
pub use Rattle.kcr_wire.specs.Members.{body, text_at, truth_at, values_at, whole_at}
pub use Rattle.kcr_wire.specs.Routes.{CodeRow, RouterState, all_routes, row_of, rows_of}
pub use Rattle.kcr_wire.specs.declared.{endpoint.Endpoint.Endpoint, route.Route.Route}
