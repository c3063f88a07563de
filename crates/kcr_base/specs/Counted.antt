-- What clauses see of a counted reader or writer.
use Rattle.std.specs.Prelude.{ℕ}
use Rattle.kcr_base.specs.declared.counted.Counted.{Counted}

-- the reader or writer itself
abbrev pub inner_of : {T : Type 0} → Counted T → T
inner_of c = c.inner

-- how many of its calls have failed
abbrev pub failures_of : {T : Type 0} → Counted T → ℕ
failures_of c = c.failed.count

-- how many of its reads have given a byte
abbrev pub nonempty_reads_of : {T : Type 0} → Counted T → ℕ
nonempty_reads_of c = c.nonempty_reads.count
