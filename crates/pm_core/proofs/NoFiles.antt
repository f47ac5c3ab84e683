-- A folder without files is sound, and holds the empty map with the wanted shape.
use Rattle.std.proofs.Common.{[], refl, arith}
use Rattle.std.specs.FinMap.{empty}
use Rattle.pm_types.specs.declared.shape.Shape.{Shape}
use Rattle.pm_types.specs.Shapes.{IsShape}
use Rattle.pm_types.proofs.PageSizeBounds.{page_size_bounds}
use Rattle.pm_disk.specs.Worlds.{empty_world}
use Rattle.pm_records.specs.Logs.{all_frames}
use Rattle.pm_records.proofs.FrameGrammar.{frame_laws}
use Rattle.pm_records.proofs.Runs.{none_past}
use Rattle.pm_marks.proofs.SlotMarks.{mark_at-short}
use Rattle.pm_core.specs.LogAlone.{image_of, Holds}
use Rattle.pm_core.specs.Sound.{LogIsAlone, Sound}
use Rattle.pm_core.proofs.Ranges.{no_page}
use Rattle.pm_core.proofs.WithoutStart.{alone_exactly}

empty_log : (wanted : Shape) → Holds wanted (image_of empty_world) wanted empty
empty_log wanted = record {
  log = record {
    frames = [];
    log = record { run = tt; ends = λ still. none_past all_frames frame_laws 1 0 [] (omega arith) };
    held = record { begins = refl; told = refl; map = refl };
  };
  nothing_above = λ seg above. refl;
}

pub nothing_is_sound : (wanted : Shape) → IsShape wanted → Sound wanted empty_world wanted empty
nothing_is_sound wanted shaped =
    let alone : LogIsAlone wanted.page_size (image_of empty_world) = record {
      starts = λ slot. mark_at-short slot [] (omega arith);
      ends = λ slot. mark_at-short slot [] (omega arith);
      bare = λ part index. no_page wanted.page_size index (let bounds = page_size_bounds wanted.page_size shaped.page_size in omega (arith, bounds.0));
    } in
    (alone_exactly wanted (image_of empty_world) wanted empty alone).1 (empty_log wanted)
