-- A log grows at its end while records are appended to it.
use Rattle.std.proofs.Common.{◌≡◌, List, [], ◌∷◌, length, refl, sym, ◌∙◌, ap, subst, arith}
use Rattle.pm_types.specs.declared.place.Place.{Place}
use Rattle.pm_frame.specs.Frames.{Frame}
use Rattle.pm_disk.specs.Worlds.{World}
use Rattle.pm_records.specs.LogFiles.{contents}
use Rattle.pm_records.specs.LogSteps.{world_after}
use Rattle.pm_records.proofs.Tracing.{world_after-append}
use Rattle.pm_segments.specs.Appends.{append_steps, grown}
use Rattle.pm_segments.specs.Ends.{LogEnd, EndsThere}
use Rattle.pm_segments.proofs.GrownLog.{Appended, appended, extends_same, extends_then}
use Rattle.pm_ckpt.proofs.Opening.{grown_end}
use Rattle.pm_engine.specs.AppendRuns.{grown_all, append_all_steps}
use Rattle.pm_engine.specs.Replays.{GrewAtEnd}
use Rattle.pm_engine.specs.RunningStores.{HasSegmentsFor}
use Rattle.pm_engine.proofs.RisenLogs.{grown_rises}

pub grew_none : (log : LogEnd) (w : World) → GrewAtEnd log log w w
grew_none log w = record { begins = λ seg le. extends_same (contents w.log seg) (contents w.log seg) refl; rises = omega arith }

pub grew_then : (log mid now : LogEnd) (w v u : World) → GrewAtEnd log mid w v → GrewAtEnd mid now v u → GrewAtEnd log now w u
grew_then log mid now w v u one two = record {
  begins = λ seg le. extends_then (contents w.log seg) (contents v.log seg) (contents u.log seg) (one.begins seg le) (two.begins seg (omega (arith, le, one.rises)));
  rises = omega (arith, one.rises, two.rises);
}

pub all_grew : (log : LogEnd) (fs : List Frame) (w : World) → EndsThere log w → HasSegmentsFor log (length fs) → GrewAtEnd log (grown_all log fs) w (world_after (append_all_steps log fs) log.end w)
all_grew log [] w there segments = grew_none log w
all_grew log (f ∷ fs) w there segments =
    let one : Appended log f w = appended log f w there (omega (arith, segments)) in
    let next = grown log f in
    let mid = world_after (append_steps log f) log.end w in
    let rest = all_grew next fs mid one.there (omega (arith, segments, grown_rises log f)) in
    let is : world_after (append_all_steps log (f ∷ fs)) log.end w ≡ world_after (append_all_steps next fs) next.end mid =
    world_after-append (append_steps log f) (append_all_steps next fs) log.end w ∙ ap (λ (p : Place). world_after (append_all_steps next fs) p mid) (grown_end log f) in
    subst (λ (v : World). GrewAtEnd log (grown_all next fs) w v) (sym is)
    (grew_then log next (grown_all next fs) w mid (world_after (append_all_steps next fs) next.end mid) (record { begins = one.grew; rises = one.rises }) rest)
