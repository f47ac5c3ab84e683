-- Where nothing is pending, what is there now is what a crash may leave.
use Rattle.std.proofs.Common.{◌≡◌, ℕ, List, [], length, Option, Some, None, refl, sym, ap, ◌∙◌, subst, arith}
use Rattle.std.proofs.Math.Seq.{take-length}
use Rattle.pm_disk.specs.Files.{File, Change, after, bytes_of, content}
use Rattle.pm_disk.specs.Images.{Leaves, LeavesAll, IsTrueOf, NothingPending}
use Rattle.pm_disk.specs.Worlds.{World}
use Rattle.pm_core.specs.LogAlone.{image_of}
use Rattle.pm_core.specs.Sound.{IsTrueImage}

leaves_forced : (forced : Option (List ℕ)) → Leaves (record { forced = forced; since = [] }) forced
leaves_forced None = (0, omega arith, refl)
leaves_forced (Some bytes) = record {
  was_there = (0, omega arith, refl);
  no_shorter = (0, omega arith, omega arith);
  no_longer = (0, omega arith, omega arith);
  kept = λ i within there untouched. refl;
}

leaves_now : (file : File) → file.since ≡ [] → Leaves file (content file)
leaves_now file quiet = subst (λ (since : List Change). Leaves (record { forced = file.forced; since = since }) (after since file.forced)) (sym quiet) (leaves_forced file.forced)

true_now : {X : Type 0} (valid : ℕ → List ℕ → Option X) (file : File) → IsTrueOf valid file (content file)
true_now valid file = record {
  stood = λ at x is. (length file.since, omega arith, ap (λ changes. valid at (bytes_of (after changes file.forced))) (take-length file.since) ∙ is);
}

pub world_leaves : (world : World) → NothingPending world → LeavesAll world (image_of world)
world_leaves world quiet = record {
  log = λ seg. leaves_now (world.log seg) (quiet.log seg);
  pages = λ part. leaves_now (world.pages part) (quiet.pages part);
  starts = leaves_now world.starts quiet.starts;
  ends = leaves_now world.ends quiet.ends;
}

pub world_is_true : (world : World) → IsTrueImage world (image_of world)
world_is_true world = record {
  frames = λ seg. true_now _ (world.log seg);
  starts = true_now _ world.starts;
  ends = true_now _ world.ends;
}
