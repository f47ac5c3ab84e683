use Rattle.std.proofs.Common.{◌≡◌, length}
use Rattle.std.specs.List.{All}
use Rattle.pm_model.specs.Batches.{HasCache}
use Rattle.pm_top.proofs.DrawnScripts.{DrawnFirst}
use Rattle.pm_top.proofs.drawing.draw_lines.Given as goal

-- so many were drawn
abbrev pub invariant-each : goal.invariant-each
invariant-each l = record {
  drawn : DrawnFirst l.fn.drawing l.first l.i l.lines.items l.drawing;
  count : length l.lines.items ≡ l.i;
  caches : All HasCache l.lines.items;
}
