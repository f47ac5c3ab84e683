-- The meta page passes its check still.
use Rattle.std.proofs.Common.{ℕ, inl, arith}
use Rattle.pm_pages.specs.Paged.{Paged}
use Rattle.pm_pages.specs.Edits.{LooksAtPages, EditsPages}
use Rattle.pm_pages.specs.SparePages.{TakesPage}
use Rattle.pm_pages.proofs.PassingPages.{there_still, meta_taken}
use Rattle.pm_pages.specs.StoredPages.{KeepsMeta}
use Rattle.pm_pages.proofs.SpareRoom.{can_take_looked}

-- a page was taken
pub keeps_taken : (T : Type 0) (a b : Paged) (m i : ℕ) → T → TakesPage T a b m i → KeepsMeta a b
keeps_taken T a b m i t takes = λ limit small can meta. meta_taken T a b m i limit t takes can.spare small can.room meta

-- and then other pages were changed
pub keeps_on : (T : Type 0) (a b c : Paged) (touched : ℕ → Type 0) (m : ℕ) → T → EditsPages T b c touched m → (touched 0 → ⊥) → KeepsMeta a b → KeepsMeta a c
keeps_on T a b c touched m t edits out keeps = λ limit small can meta. there_still b c edits.same 0 (edits.others 0 (inl t) out) (keeps limit small can meta)

-- pages were only looked at before
pub keeps_looked : (T : Type 0) (a b c : Paged) (m : ℕ) → T → LooksAtPages T a b m → KeepsMeta b c → KeepsMeta a c
keeps_looked T a b c m t looks keeps = λ limit small can meta.
    keeps limit (omega (arith, small, looks.same.max_rows)) (can_take_looked T a b m t looks limit 1 can) (there_still a b looks.same 0 (looks.pages 0 (inl t)) meta)
