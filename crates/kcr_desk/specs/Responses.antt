-- A reply as clauses see it.
use Rattle.std.specs.Prelude.{ℕ, List}
use Rattle.kcr_desk.specs.declared.response.Body.{Body, TheVariants.Made, TheVariants.Printed, TheVariants.Fixed}
use Rattle.kcr_desk.specs.{declared.response.Response.Response, Texts.ResponseValue}

abbrev pub body_bytes : Body → List ℕ
body_bytes (Made text) = text
body_bytes (Printed bytes) = bytes.items
body_bytes (Fixed text) = text.bytes

abbrev pub response_value : Response → ResponseValue
response_value r = record { heading = r.heading; body = body_bytes r.body }
