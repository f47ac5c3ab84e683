-- What contracts see of pages that a table names: a page is at hand where it is held.
use Rattle.std.specs.Prelude.{ℕ, ◌≤◌, Bool, true, false, Option, None, Some, List}
use Rattle.pm_pages.specs.Paged.{Paged}
use Rattle.pm_pages.specs.Plain.{plain_seen, plain_written, ArePlainReady, KeepsPlain}
use Rattle.pm_tests_logs.specs.declared.pages.table.TablePages.{TablePages}

abbrev pub is_held : Option (List ℕ) → Bool
is_held None = false
is_held (Some page) = true

-- of these pages those are at hand that are there
abbrev pub held_only : Paged → ℕ → Paged
held_only p faults = record p { known = λ i. is_held (p.pages i); faults = faults }

abbrev pub table_seen : TablePages → Paged
table_seen t = held_only (plain_seen t.plain) t.faults

abbrev pub IsTableReady : TablePages → Type 0
IsTableReady t = ArePlainReady t.plain

-- what no call changes
pub record KeepsTable (s t : TablePages) : Type 0 where
  pub plain : KeepsPlain s.plain t.plain
  pub later : s.faults ≤ t.faults
  pub ready : IsTableReady s → IsTableReady t

abbrev pub table_written : TablePages → ℕ → List ℕ → TablePages
table_written t i bytes = record t { plain = plain_written t.plain i bytes }
