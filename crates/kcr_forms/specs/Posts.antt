-- The act of a path and its members.
use Rattle.std.specs.Prelude.{List, [], ◌∷◌, Option, Result, Ok}
use Rattle.kcr_base.specs.declared.{limits.TheConstants.MAX_CEREMONY, refusal.Member.Member, refusal.Refusal.Refusal}
use Rattle.kcr_history.specs.declared.commands.Act.{Act}
use Rattle.kcr_forms.specs.{Forms.listed_of, OrMemory.and_then, Reading.Reading, Reading.formed, declared.post.Post.Post}
use Rattle.kcr_forms.specs.Shapes.{Form, Text, Number, Truth, Codes, ValueOf, Makes, Shape, row, shape}

-- the value of a member that is not the last one
abbrev pub next : {S : Type 0} → Reading S → Member → (form : Form) → S → Option (ValueOf form)
next r name (Text text_of read) s = r.word read name s
next r name Number s = r.number MAX_CEREMONY name s
next r name Truth s = r.truth name s
next r name (Codes most read) s = r.list read (listed_of most (λ texts. texts)) name s

-- the value of the last one, which is a text in each shape
abbrev pub last : {S : Type 0} → Reading S → Member → (form : Form) → S → Option (ValueOf form)
last r name (Text text_of read) s = r.last read name s
last r name form s = next r name form s

-- the act of these members: each of its form, or the refusal of the first one that is not
abbrev pub act_by : {S : Type 0} → Reading S → (members : List (Member × Form)) → Makes members → S → Result Act Refusal
act_by r [] make s = Ok make
act_by r (m ∷ []) make s = and_then (formed m.0 (last r m.0 m.1 s)) (λ v. Ok (make v))
act_by r (m ∷ n ∷ ms) make s = and_then (formed m.0 (next r m.0 m.1 s)) (λ v. act_by r (n ∷ ms) (make v) (r.rest s))

-- the act of a command of this shape
abbrev pub act_of_shape : {S : Type 0} → Reading S → Shape → S → Result Act Refusal
act_of_shape r (row members make) s = act_by r members make s

-- the act of a path and its members
abbrev pub posted_act : {S : Type 0} → Reading S → Post → S → Result Act Refusal
posted_act r post s = act_of_shape r (shape post) s
