-- When a view has all rows that a command asks for, and when two decisions agree.
use Rattle.std.specs.Prelude.{◌≡◌, ◌≢◌, ℕ, List, MatchResult, Result, ◌⊎◌}
use Rattle.kcr_base.specs.declared.refusal.Refusal.{Refusal, TheVariants.Memory, TheVariants.Short}
use Rattle.kcr_history.specs.declared.{commands.Command.Command, row_types.KeyRow.KeyRow, views.Verdict.Verdict, views.FullView.FullView}
use Rattle.kcr_history.specs.{History.History, AsksByKind.asks_of, Changes.all_changed, Tables.tables, Tables.SameTables}
use Rattle.kcr_history.specs.Views.{IsViewOf, row_of_key, greatest_number}

-- the rows have the row of the key if the table has one, none else, and the table's greatest number
pub record ShowsKey (key : List ℕ) (table rows : List KeyRow) : Type 0 where
  pub row : row_of_key key rows ≡ row_of_key key table
  pub last : greatest_number rows ≡ greatest_number table

-- the view holds the rows of the tables that the command asks for
pub record IsAsked (A : History) (x : Command) (view : FullView) : Type 0 where
  pub rows : IsViewOf (asks_of x) (tables A) view.view
  pub keys : ShowsKey x.key (tables A).keys view.keys.items

-- two verdicts have one reply as text and as data, and lead to the tables of one history
pub record AcceptAlike (A : History) (v w : Verdict) : Type 0 where
  pub reply : v.reply.text ≡ w.reply.text
  pub new_reply : v.new_reply ≡ w.new_reply
  pub tables : (B : History) × SameTables (all_changed v.changes.items (tables A)) (tables B)
      × SameTables (all_changed w.changes.items (tables A)) (tables B)

-- the refusals are one, or both tell of a least shortage
abbrev pub RefuseAlike : Refusal → Refusal → Type 0
RefuseAlike r q = (r ≡ q) ⊎ ((p : List ℕ) × (o : List ℕ) × (r ≡ Short p) × (q ≡ Short o))

-- two decisions agree, unless memory ran out in one of them
abbrev pub DecideAlike : History → Result Verdict Refusal → Result Verdict Refusal → Type 0
DecideAlike A r s =
    MatchResult r
    (λ v. MatchResult s (AcceptAlike A v) (λ q. q ≢ Memory → ⊥))
    (λ q. MatchResult s (λ w. q ≢ Memory → ⊥) (λ p. q ≢ Memory → p ≢ Memory → RefuseAlike q p))
