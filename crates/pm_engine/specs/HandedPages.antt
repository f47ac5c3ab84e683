-- What an operation over page frames hands to the log writer, beside what a store that runs appends of it.
use Rattle.std.specs.Prelude.{◌≡◌, ℕ, List, [], ◌∷◌, Option, Some, slice_get, if◌then◌else◌}
use Rattle.pm_types.specs.declared.page_id.PageId.{PageId}
use Rattle.pm_types.specs.Ids.{index_of_id}
use Rattle.pm_locks.specs.Sight.{LockTable}
use Rattle.pm_stripe.specs.declared.held.Held.{Held}
use Rattle.pm_stripe.specs.ChangedPages.{ChangedPage, is_logged}
use Rattle.pm_stripe.specs.Kept.{Kept, Holds}
use Rattle.pm_stripe.specs.Moves.{HasOperation}
use Rattle.pm_stripe.specs.Shown.{paged}
use Rattle.pm_core.specs.PageSets.{has_index}
use Rattle.pm_engine.specs.PageLogs.{NotedPages}

-- the pages of a partition that a worker keeps, with this number above the indices of those that were changed
abbrev pub framed_pages : (PageId → Option (List ℕ)) → ℕ → ℕ → Kept → ℕ → NotedPages
framed_pages file faults part k count = record { seen = paged file faults part k; count = count }

-- the frame of a page in hand is Dirty exactly where the page is one of these, which are logged
abbrev pub AreDirtyAsLogged : ℕ → List PageId → List Held → Type 0
AreDirtyAsLogged part logged held =
    (i : ℕ) (h : Held) → slice_get held i ≡ Some h → is_logged h.flag ≡ has_index part (index_of_id h.page) logged

-- A worker operates on this partition of a store that has logged these pages: the pages in hand are the
-- partition's, and their frames say which of them are logged.
pub record OperatesOn (part : ℕ) (logged : List PageId) (k : Kept) : Type 0 where
  pub locks : LockTable
  pub holds : Holds locks k
  pub operates : HasOperation locks part k
  pub dirty : AreDirtyAsLogged part logged k.held

-- the names of those of these pages that are logged for the first time
abbrev pub first_names : List ChangedPage → List PageId
first_names [] = []
first_names (p ∷ ps) = if p.is_logged then first_names ps else p.page ∷ first_names ps
