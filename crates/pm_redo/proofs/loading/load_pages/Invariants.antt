use Rattle.std.proofs.Common.{◌≡◌, ◌≤◌, length}
use Rattle.pm_disk.specs.Moments.{AllMoments}
use Rattle.pm_disk.specs.States.{IsLaterState}
use Rattle.pm_pages.specs.PageLists.{pages_in}
use Rattle.pm_pages.specs.Rows.{page_count}
use Rattle.pm_core.specs.BasePages.{Partitions}
use Rattle.pm_redo.specs.Loading.{BaseIs, EachPasses}
use Rattle.pm_redo.specs.Rebuilding.{IsSame}
use Rattle.pm_redo.proofs.LoadedPages.{AreFirst}
use Rattle.pm_redo.proofs.loading.load_pages.Given as goal

abbrev pub invariant-each : goal.invariant-each
invariant-each g l =
    let state = g.H.Device.state in
    let old = g.H.Device.history l.fn.host in
    let now = g.H.Device.history l.host in
    record {
      state : IsLaterState (state l.fn.host) (state l.host);
      long : length l.pages.items ≡ l.index;
      upto : l.index ≤ l.count;
      passes : EachPasses l.fn.shape l.fn.part (pages_in l.pages.items);
      same : g.H.Device.tells → AllMoments old now (IsSame old.world);
      world : g.H.Device.tells → now.world ≡ old.world;
      first : g.H.Device.tells → (base : Partitions) → BaseIs l.fn.pictures old.world base → AreFirst (base l.fn.part) l.pages.items;
      counts : g.H.Device.tells → (base : Partitions) → BaseIs l.fn.pictures old.world base → page_count (base l.fn.part) ≡ l.count;
    }
