-- What became of a job's pages.
use Rattle.std.specs.Prelude.{◌≡◌, ℕ, ◌≤◌, [], vec_capacity}
use Rattle.pm_flush.specs.declared.done.FlushDone.{FlushDone}

-- no page was written or left yet
pub record IsEmpty (done : FlushDone) : Type 0 where
  pub written : done.written.items ≡ []
  pub left : done.left.items ≡ []

-- each list has room for so many pages
pub record HasRoomFor (pages : ℕ) (done : FlushDone) : Type 0 where
  pub written : pages ≤ vec_capacity done.written
  pub left : pages ≤ vec_capacity done.left

-- each list has the room that it had
pub record KeepsRoom (old new : FlushDone) : Type 0 where
  pub written : vec_capacity new.written ≡ vec_capacity old.written
  pub left : vec_capacity new.left ≡ vec_capacity old.left
