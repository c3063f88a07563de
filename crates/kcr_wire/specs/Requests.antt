-- A command as an HTTP request: its path and its body.
use Rattle.std.specs.Prelude.{ℕ, List, [], ◌∷◌, ◌++◌, length, codes}
use Rattle.std.specs.Fmt.{decimal}
use Rattle.kcr_history.specs.{Texts.path_text, declared.commands.Command.Command}
use Rattle.kcr_wire.specs.Bodies.{body_text}

-- the end of a line of a head
abbrev pub crlf : List ℕ
crlf = 13 ∷ 10 ∷ []

-- what stands between the path and the body's length
abbrev pub fields_text : List ℕ
fields_text = codes " HTTP/1.1" ++ crlf ++ codes "Host: l" ++ crlf ++ codes "Content-Length: "

-- the request line and the fields, to the empty line
abbrev pub head_text : List ℕ → ℕ → List ℕ
head_text path size = codes "POST " ++ path ++ fields_text ++ decimal size ++ (crlf ++ crlf)

-- the whole request of a command
unfoldable pub request_text : Command → List ℕ
request_text command = head_text (path_text command.act) (length (body_text command)) ++ body_text command
