use Rattle.std.proofs.Common.{◌≡◌, ℕ, [], ◌∷◌, length}
use Rattle.pm_locks.specs.Views.{known_at}
use Rattle.pm_ckpt.specs.Dirty.{dirty_below}
use Rattle.pm_ckpt.specs.Frames.{IsWholeSeat}
use Rattle.pm_ckpt.proofs.Listed.{IsLooked}
use Rattle.pm_engine.proofs.frame_dirty.count_dirty.Given as goal

-- the frames that were passed are counted
abbrev pub invariant-each : goal.invariant-each
invariant-each l = record {
  seat : IsWholeSeat l.locks l.seat;
  table : l.seat.table ≡ l.fn.seat.table;
  looked : IsLooked l.fn.seat.view l.seat.view;
  words : (g : ℕ) → known_at l.seat.view g ≡ known_at l.fn.seat.view g;
  counts : l.count ≡ length (dirty_below (l.stripe ∷ []) l.fn.seat.view l.f);
}
