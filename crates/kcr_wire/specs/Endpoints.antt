-- What a target asks for: the route of its path, and its parts in braces.
use Rattle.std.specs.Prelude.{ℕ, ◌==◌, List, take, codes, Option, Some, None, option_and_then, option_map, Result, if◌then◌else◌}
use Rattle.std.specs.{Char.is_ascii, Fmt.decimal, List.list_all, List.position}
use Rattle.std.specs.{Option.ok_or, Option.option_map_or, Result.result_map_both, Result.result_ok}
use Rattle.matchit.specs.{Params.named, Params.walk, Router.RouteOf, Seek.first, declared.params.Params.Params}
use Rattle.kcr_base.specs.declared.{limits.TheConstants.MAX_COMMANDS, refusal.Refusal.Refusal}
use Rattle.kcr_base.specs.declared.refusal.Refusal.TheVariants as refusal
use Rattle.kcr_forms.specs.Forms.{number_by_text, initials_of, day_of, moment_of, serial_of, ceremony_of, step_of, safe_of, place_of}
use Rattle.kcr_forms.specs.declared.post.{CollectionPath.TheVariants.People, Post.Post}
use Rattle.kcr_forms.specs.declared.post.Post.TheVariants as post
use Rattle.kcr_history.specs.declared.questions.Question.TheVariants as question
use Rattle.kcr_wire.specs.{Routes.table, declared.route.AskRoute.AskRoute, declared.route.Route.Route, declared.route.PostRoute.PostRoute}
use Rattle.kcr_wire.specs.declared.{allow.Allow.Allow, unread.Unread.Unread, endpoint.Endpoint.Endpoint, question.Inquiry.Inquiry}
use Rattle.kcr_wire.specs.declared.allow.Allow.TheVariants as allow
use Rattle.kcr_wire.specs.declared.endpoint.Endpoint.TheVariants as target
use Rattle.kcr_wire.specs.declared.question.Inquiry.TheVariants as inquiry
use Rattle.kcr_wire.specs.declared.route.AskRoute.TheVariants as asked
use Rattle.kcr_wire.specs.declared.route.PostRoute.TheVariants as posted
use Rattle.kcr_wire.specs.declared.route.Route.TheVariants as route

-- the target up to the first question mark, or all of it
abbrev pub path_of : List ℕ → List ℕ
path_of target = option_map_or (λ i. take i target) (position (λ b. b == 63) target) target

-- the bytes, if they are ASCII
unfoldable pub ascii_in : List ℕ → Option (List ℕ)
ascii_in bytes = if list_all is_ascii bytes then Some bytes else None

-- what the parts in braces took from the path, each with its name
abbrev pub Parts : Type 0
Parts = List (List ℕ × List ℕ)

-- the parts that a search found
abbrev pub parts_of : Params → Parts
parts_of found = walk found.pattern.now found.text.now found.path.now found.names.now 0 0

-- the parts of a path of this route
abbrev pub parts_in : RouteOf Route → List ℕ → Parts
parts_in found path = walk found.pattern found.text path found.names 0 0

-- the part of this name, if it is of this form
abbrev pub part_as : {V : Type 0} → (List ℕ → Option V) → List ℕ → Parts → Option V
part_as read name parts = option_and_then read (named name parts)

-- the ceremony of a path
abbrev pub ceremony_in : Parts → Option ℕ
ceremony_in parts = part_as ceremony_of (codes "ceremony") parts

-- the bag of a path
abbrev pub serial_in : Parts → Option (List ℕ)
serial_in parts = part_as serial_of (codes "serial") parts

-- the number from 0 to `MAX_COMMANDS` whose decimal text this is
unfoldable pub after_of : List ℕ → Option ℕ
after_of text = number_by_text decimal 0 MAX_COMMANDS text

-- what two parts make, if each is of its form
abbrev pub with_parts : {A B C : Type 0} → (A → B → C) → Option A → Option B → Option C
with_parts make part other = option_and_then (λ a. option_map (make a) other) part

-- a path of this route that takes a command, if each of its parts is of its form
abbrev pub post_at : PostRoute → Parts → Option Post
post_at (posted.Collection path) parts = Some (post.Collection path)
post_at (posted.Person path) parts = option_map (λ who. post.Person who path) (part_as initials_of (codes "who") parts)
post_at (posted.Place path) parts = option_map (λ place. post.Place place path) (part_as place_of (codes "place") parts)
post_at (posted.Ceremony path) parts = option_map (λ n. post.Ceremony n path) (ceremony_in parts)
post_at posted.Signature parts = with_parts post.Signature (ceremony_in parts) (part_as step_of (codes "step") parts)
post_at posted.Safe parts = with_parts post.Safe (ceremony_in parts) (part_as safe_of (codes "safe") parts)
post_at (posted.Bag path) parts = with_parts (λ n serial. post.Bag n serial path) (ceremony_in parts) (serial_in parts)

-- what a path of this route is asked for, if each of its parts is of its form
abbrev pub inquiry_at : AskRoute → Parts → Option Inquiry
inquiry_at asked.CustodiansOn parts = option_map (λ day. inquiry.Question (question.Custodians day)) (part_as day_of (codes "day") parts)
inquiry_at asked.BagShown parts = option_map (λ serial. inquiry.Question (question.Bag serial)) (serial_in parts)
inquiry_at asked.Room parts =
    with_parts (λ n at. inquiry.Question (question.Room n at)) (ceremony_in parts) (part_as moment_of (codes "at") parts)
inquiry_at asked.Script parts = option_map inquiry.Script (ceremony_in parts)
inquiry_at asked.Attendance parts = option_map inquiry.Attendance (ceremony_in parts)
inquiry_at asked.Custody parts = Some inquiry.Custody
inquiry_at asked.Commands parts = option_map inquiry.Commands (part_as after_of (codes "after") parts)

-- what a path of this route asks for, if each of its parts is of its form
abbrev pub endpoint_of : Route → Parts → Option Endpoint
endpoint_of (route.Post r) parts = option_map target.Post (post_at r parts)
endpoint_of (route.Ask r) parts = option_map target.Ask (inquiry_at r parts)

-- what a path asks for, by the route that the router finds for it and the parts that it takes
abbrev pub target_at : List ℕ → Option Endpoint
target_at path = option_and_then (λ found. endpoint_of found.value (parts_in found path)) (first table path)

-- what a target asks for, or that it is no path of the register
unfoldable pub target_of : List ℕ → Result Endpoint Refusal
target_of target = ok_or (option_and_then target_at (ascii_in (path_of target))) refusal.Path

-- the methods that a path takes
abbrev pub allow_of_endpoint : Endpoint → Allow
allow_of_endpoint (target.Post (post.Collection People)) = allow.GetHeadPost
allow_of_endpoint (target.Post _) = allow.Post
allow_of_endpoint (target.Ask _) = allow.GetHead

-- these methods, if a request is refused for its method
abbrev pub if_method : Refusal → Option Allow → Option Allow
if_method refusal.Method allow = allow
if_method _ allow = None

-- the methods that a target takes, if it is a path of the register
unfoldable pub allow_of : List ℕ → Option Allow
allow_of target = option_map allow_of_endpoint (result_ok (target_of target))

-- what was read, or its refusal alone
abbrev pub refusal_alone : {V : Type 0} → Result V Unread → Result V Refusal
refusal_alone result = result_map_both (λ v. v) (λ e. e.refusal) result

-- the list of them in an answer
abbrev pub allow_text : Allow → List ℕ
allow_text allow.GetHead = codes "GET, HEAD"
allow_text allow.Post = codes "POST"
allow_text allow.GetHeadPost = codes "GET, HEAD, POST"
