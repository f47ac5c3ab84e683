-- Pages that are written from their frames.
use Rattle.std.proofs.Common.{◌≡◌, List, ℕ, subst, Result}
use Rattle.pm_types.specs.declared.page_id.PageId.{PageId}
use Rattle.pm_disk.specs.Moments.{History, WritesPage}

-- the same write, of bytes that are the same
pub write_as : {T E : Type 0} (old new : History) (result : Result T E) (page : PageId) (bytes same : List ℕ) → bytes ≡ same → WritesPage {T = T} {E = E} old new result page bytes → WritesPage {T = T} {E = E} old new result page same
write_as {T} {E} old new result page bytes same is writes = subst (λ bs. WritesPage {T = T} {E = E} old new result page bs) is writes
