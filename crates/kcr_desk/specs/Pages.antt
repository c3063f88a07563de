-- A page in memory.
use Rattle.std.specs.Prelude.{ℕ, List}
use Rattle.kcr_desk.specs.declared.page.Page.{Page}

-- its bytes
abbrev pub text_of : Page → List ℕ
text_of page = page.text.items
