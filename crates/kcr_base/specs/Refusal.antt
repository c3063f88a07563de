-- The numbers, words and statuses of refusals, and the texts of what they carry.
use Rattle.std.specs.Prelude.{ℕ, List, ◌++◌, codes}
use Rattle.std.specs.Fmt.{decimal}
use Rattle.kcr_base.specs.{Place.place_text, Role.role_text}
use Rattle.kcr_base.specs.declared.refusal.{Absentee.Absentee, Part.Part, Thing.Thing, Member.Member, Refusal.Refusal}
use Rattle.kcr_base.specs.declared.refusal.Absentee.TheVariants as Absentees
use Rattle.kcr_base.specs.declared.refusal.Member.TheVariants as Members
use Rattle.kcr_base.specs.declared.refusal.Part.TheVariants as Parts
use Rattle.kcr_base.specs.declared.refusal.Refusal.TheVariants.{Head, Host, Length, Coding, Large, Cut, Path, Method}
use Rattle.kcr_base.specs.declared.refusal.Refusal.TheVariants.{Json, Form, Key, Unknown, Taken, Range, Apart, Held, Short, Memory, Disk, Broken}
use Rattle.kcr_base.specs.declared.refusal.Refusal.TheVariants.{Vacant, Settled, Script, State, Busy, Late, Order, Turn}
use Rattle.kcr_base.specs.declared.refusal.Refusal.TheVariants.{Crowd, Lone, Full, Safe, Elsewhere, Absent, Unfinished}
use Rattle.kcr_base.specs.declared.refusal.Thing.TheVariants as Things

-- the number of a refusal: those of a request are tested in the order of their numbers
abbrev pub number_of : Refusal → ℕ
number_of Head = 1
number_of Host = 2
number_of Length = 3
number_of Coding = 4
number_of Large = 5
number_of Cut = 6
number_of Path = 7
number_of Method = 8
number_of Json = 9
number_of (Form _) = 10
number_of Key = 11
number_of (Unknown _) = 12
number_of Taken = 13
number_of Range = 14
number_of Apart = 15
number_of Held = 16
number_of Vacant = 17
number_of (Settled _) = 18
number_of (Script _) = 19
number_of State = 20
number_of Busy = 21
number_of (Late _) = 22
number_of (Order _) = 23
number_of (Turn _) = 24
number_of Crowd = 25
number_of (Lone _) = 26
number_of Full = 27
number_of Safe = 28
number_of Elsewhere = 29
number_of (Absent _) = 30
number_of (Unfinished _) = 31
number_of (Short _) = 32
number_of Memory = 33
number_of Disk = 34
number_of Broken = 35

-- the word of a refusal
abbrev pub word_of : Refusal → List ℕ
word_of Head = codes "head"
word_of Host = codes "host"
word_of Length = codes "length"
word_of Coding = codes "coding"
word_of Large = codes "large"
word_of Cut = codes "cut"
word_of Path = codes "path"
word_of Method = codes "method"
word_of Json = codes "json"
word_of (Form _) = codes "form"
word_of Key = codes "key"
word_of (Unknown _) = codes "unknown"
word_of Taken = codes "taken"
word_of Range = codes "range"
word_of Apart = codes "apart"
word_of Held = codes "held"
word_of Vacant = codes "vacant"
word_of (Settled _) = codes "settled"
word_of (Script _) = codes "script"
word_of State = codes "state"
word_of Busy = codes "busy"
word_of (Late _) = codes "late"
word_of (Order _) = codes "order"
word_of (Turn _) = codes "turn"
word_of Crowd = codes "crowd"
word_of (Lone _) = codes "lone"
word_of Full = codes "full"
word_of Safe = codes "safe"
word_of Elsewhere = codes "where"
word_of (Absent _) = codes "absent"
word_of (Unfinished _) = codes "unfinished"
word_of (Short _) = codes "short"
word_of Memory = codes "memory"
word_of Disk = codes "disk"
word_of Broken = codes "broken"

-- the HTTP status of a refusal
abbrev pub status_of : Refusal → ℕ
status_of Head = 400
status_of Host = 400
status_of Length = 400
status_of Coding = 501
status_of Large = 413
status_of Cut = 400
status_of Path = 404
status_of Method = 405
status_of Json = 400
status_of (Form _) = 422
status_of Key = 409
status_of (Unknown _) = 404
status_of Taken = 409
status_of Range = 422
status_of Apart = 409
status_of Held = 409
status_of Vacant = 409
status_of (Settled _) = 409
status_of (Script _) = 422
status_of State = 409
status_of Busy = 409
status_of (Late _) = 409
status_of (Order _) = 409
status_of (Turn _) = 409
status_of Crowd = 409
status_of (Lone _) = 409
status_of Full = 409
status_of Safe = 409
status_of Elsewhere = 409
status_of (Absent _) = 409
status_of (Unfinished _) = 409
status_of (Short _) = 409
status_of Memory = 503
status_of Disk = 500
status_of Broken = 500

-- the name of a member in a JSON object
abbrev pub member_text : Member → List ℕ
member_text Members.Key = codes "key"
member_text Members.Who = codes "who"
member_text Members.Name = codes "name"
member_text Members.Role = codes "role"
member_text Members.From = codes "from"
member_text Members.Until = codes "until"
member_text Members.Day = codes "day"
member_text Members.Place = codes "place"
member_text Members.Facility = codes "facility"
member_text Members.Box = codes "box"
member_text Members.Ceremony = codes "ceremony"
member_text Members.Item = codes "item"
member_text Members.At = codes "at"
member_text Members.Number = codes "number"
member_text Members.Script = codes "script"
member_text Members.Way = codes "way"
member_text Members.Text = codes "text"
member_text Members.Pass = codes "pass"
member_text Members.Open = codes "open"
member_text Members.By = codes "by"
member_text Members.Items = codes "items"
member_text Members.To = codes "to"

-- a kind of thing, and which one
abbrev pub thing_text : Thing → List ℕ
thing_text (Things.Person who) = codes "person " ++ who
thing_text (Things.Ceremony n) = codes "ceremony " ++ decimal n
thing_text (Things.Step k) = codes "step " ++ decimal k
thing_text (Things.Bag serial) = codes "bag " ++ serial
thing_text (Things.Box number) = codes "box " ++ decimal number
thing_text (Things.Item code) = codes "item " ++ code
thing_text (Things.Command number) = codes "command " ++ decimal number

-- initials, a place or a role
abbrev pub absentee_text : Absentee → List ℕ
absentee_text (Absentees.Person who) = who
absentee_text (Absentees.Place place) = place_text place
absentee_text (Absentees.Role role) = role_text role

-- what keeps a ceremony from closing
abbrev pub part_text : Part → List ℕ
part_text Parts.Steps = codes "steps"
part_text Parts.Room = codes "room"
part_text Parts.Safes = codes "safes"
part_text Parts.Table = codes "table"
