use Rattle.std.proofs.Common.{◌≡◌, ℕ}
use Rattle.std.specs.Vec.{vec_capacity}
use Rattle.pm_locks.specs.Views.{known_at}
use Rattle.pm_ckpt.specs.Dirty.{dirty_below}
use Rattle.pm_ckpt.specs.Frames.{IsWholeSeat}
use Rattle.pm_ckpt.proofs.Listed.{IsLooked}
use Rattle.pm_ckpt.proofs.dirty.list_dirty.Given as goal

abbrev pub invariant-each : goal.invariant-each
invariant-each l = record {
  seat : IsWholeSeat l.locks l.seat;
  looked : IsLooked l.fn.seat.view l.seat.view;
  words : (g : ℕ) → known_at l.seat.view g ≡ known_at l.fn.seat.view g;
  pages : l.pages.items ≡ dirty_below l.stripes l.fn.seat.view l.f;
  capacity : vec_capacity l.pages ≡ vec_capacity l.fn.pages;
}
