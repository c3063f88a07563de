-- A database of any other standing has something, and an opening makes of an empty one an empty register.
use Rattle.kcr_verify.proofs.Common.{◌≡◌, ◌≢◌, inl, inr, refl, arith, Database, State, Survives, Trees}
use Rattle.sqlite.proofs.StateLemmas.{survives_weaker}
use Rattle.sqlite.specs.Schema.{Schema}
use Rattle.kcr_older.specs.Kind.{IsOfKind, no_schema}
use Rattle.kcr_older.specs.declared.kind.DatabaseKind.{DatabaseKind, TheVariants.Empty, TheVariants.Versioned, TheVariants.Foreign}
use Rattle.kcr_store.proofs.OpenLemmas.{apart}
use Rattle.kcr_store.specs.Opening.{IsOpeningOf}
use Rattle.kcr_verify.specs.Fresh.{IsNewOf}

-- a database of any kind but the empty one has a schema
pub has_something : (schema : Schema) (standing : DatabaseKind) → IsOfKind schema standing → standing ≢ Empty → schema ≢ no_schema
has_something schema Empty stands other is = other refl
has_something schema Versioned stands other is = stands.0.something is
has_something schema Foreign stands other is = stands.0.something is
has_something schema ours stands other is = let e = apart stands is in omega (arith, e)

made_of : (before : Database) (db : Trees) → before.schema ≡ no_schema → IsOpeningOf before db → IsNewOf before db
made_of before db empty (inl made) = made
made_of before db empty (inr (inl first)) = absurd (let e = apart first.0 empty in omega (arith, e))
made_of before db empty (inr (inr second)) = absurd (let e = apart second.0 empty in omega (arith, e))

-- after the opening of an empty database a crash leaves it so, or with the tables of an empty register
pub makes_new : (old new : State) → old.now.schema ≡ no_schema → Survives old new (IsOpeningOf old.now) → Survives old new (IsNewOf old.now)
makes_new old new empty out = survives_weaker old new _ _ (λ _ db made. made_of old.now db empty made) out
