use Rattle.std.proofs.Common.{◌≡◌, refl, sym, subst}
use Rattle.pm_locks.specs.Sight.{Sight}
use Rattle.pm_locks.specs.Views.{flusher_alone}
use Rattle.pm_locks.specs.Shares.{IsShare}
use Rattle.pm_locks.proofs.Gathering.{some_sight}
use Rattle.pm_locks.proofs.locks.Locks.spread.Goals as goal

pub returns-clause-seats : goal.returns-clause-seats
returns-clause-seats c = let e = c.split_workers.ensures in record {
  count = e.workers.many;
  each = λ n s at. (e.workers.each n s at).0;
  flushers = (c.split_workers.new.seat, refl, e.flusher);
}

pub returns-clause-parts : goal.returns-clause-parts
returns-clause-parts c = let e = c.split_workers.ensures in let v = c.args.seat.view in record {
  workers = λ n s at. let x = e.workers.each n s at in (x.1, x.2);
  flusher = λ s at. subst (λ (z : Sight). IsShare v (flusher_alone v.workers) z.view × (z.view.met ≡ v.met)) (some_sight c.split_workers.new.seat s at)
      (subst (λ n. IsShare v (flusher_alone n) c.split_workers.new.seat.view) (sym c.requires.seat.staff) e.share, e.met);
}
