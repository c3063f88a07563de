-- The bytes of answers.
use Rattle.std.specs.Prelude.{ℕ, Bool, List, [], ◌∷◌, ◌++◌, length, codes, if◌then◌else◌, Option, Some, None, unwrap_or}
use Rattle.std.specs.Fmt.{decimal}
use Rattle.http.specs.StatusCode.{reason_phrase}
use Rattle.kcr_base.specs.{Refusal.status_of, declared.refusal.Refusal.Refusal}
use Rattle.kcr_history.specs.Refusals.{refusal_text}
use Rattle.kcr_desk.specs.declared.{head.Framing.Framing, response.Heading.Heading}
use Rattle.kcr_desk.specs.declared.response.MediaType.{MediaType, TheVariants.Json, TheVariants.Text, TheVariants.Csv}
use Rattle.kcr_wire.specs.{Endpoints.allow_text as methods_text, declared.allow.Allow.Allow}

-- a reply without where it lies in memory
pub record ResponseValue : Type 0 where
  pub heading : Heading
  pub body : List ℕ

abbrev pub crlf : List ℕ
crlf = 13 ∷ 10 ∷ []

-- a line of a head
abbrev pub line : List ℕ → List ℕ
line text = text ++ crlf

-- a field line
abbrev pub field : List ℕ → List ℕ → List ℕ
field name value = line (name ++ codes ": " ++ value)

-- the phrase of a status
unfoldable pub phrase_of : ℕ → List ℕ
phrase_of status = unwrap_or (reason_phrase status) []

-- the media type of a body
abbrev pub kind_text : MediaType → List ℕ
kind_text Json = codes "application/json"
kind_text Text = codes "text/plain; charset=utf-8"
kind_text Csv = codes "text/csv; charset=utf-8"

-- the line that names the methods of the path
abbrev pub allow_line : Option Allow → List ℕ
allow_line None = []
allow_line (Some allow) = field (codes "allow") (methods_text allow)

-- the line of an answer after which nothing is answered
abbrev pub close_text : Bool → List ℕ
close_text closes = if closes then field (codes "connection") (codes "close") else []

-- the head of an answer whose body has this many bytes
unfoldable pub head_text : Bool → Heading → ℕ → List ℕ
head_text closes heading bytes =
    line (codes "HTTP/1.1 " ++ decimal heading.status ++ codes " " ++ phrase_of heading.status)
    ++ field (codes "content-type") (kind_text heading.kind)
    ++ field (codes "content-length") (decimal bytes)
    ++ allow_line heading.allow
    ++ close_text closes
    ++ crlf

-- what is written of a body
abbrev pub shown_text : Bool → List ℕ → List ℕ
shown_text head_only body = if head_only then [] else body

-- an answer, without its body if it is bare
unfoldable pub answer : Bool → Bool → ResponseValue → List ℕ
answer head_only closes t = head_text closes t.heading (length t.body) ++ shown_text head_only t.body

-- what goes before the answer to a message that waits for it
abbrev pub continue_text : Framing → List ℕ
continue_text plan = if plan.expects_continue then codes "HTTP/1.1 100 Continue" ++ (crlf ++ crlf) else []

-- what a faulty item is told
abbrev pub fault_response : Refusal → ResponseValue
fault_response r = record {
  heading = record { status = status_of r; kind = Json; allow = None };
  body = refusal_text r;
}
