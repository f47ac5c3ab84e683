-- What is left of all files is an image of the whole disk.
use Rattle.std.proofs.Common.{◌≡◌, ℕ, List, Option, refl, ◌∙◌, ap, subst}
use Rattle.pm_disk.specs.Files.{File}
use Rattle.pm_disk.specs.Worlds.{World}
use Rattle.pm_disk.specs.Images.{Leaves, LeavesAll}
use Rattle.pm_disk_mem.specs.Families.{file_at}
use Rattle.pm_disk_mem.specs.Held.{PartsPicked, PartsLeft}
use Rattle.pm_disk_mem.specs.Steps.{HoldsWorld}
use Rattle.pm_disk_mem.specs.Disks.{content_at, image_of, config_file}
use Rattle.pm_disk_mem.specs.Parts.{store_of}
use Rattle.pm_disk_mem.specs.Picks.{ArePicked, IsPicked, left_by, pick_at, pick_beside}
use Rattle.pm_disk_mem.specs.declared.pick.Pick.{Pick}
use Rattle.pm_disk_mem.specs.declared.pick.Pick.TheVariants as pick
use Rattle.pm_disk_mem.specs.declared.console.Console.{Console}
use Rattle.pm_disk_mem.specs.declared.files.Files.{Files}
use Rattle.pm_disk_mem.specs.declared.parts.DiskParts.{DiskParts}

-- of files besides the log each has the same pick
beside_at : (pick : Pick) (files : ℕ → File) (n : ℕ) → pick_at (pick_beside pick) files n ≡ pick_beside pick
beside_at pick.Kept files n = refl
beside_at pick.Lost files n = refl
beside_at (pick.Fill byte) files n = refl
beside_at (pick.Cut count) files n = refl

-- What is held is what this world has.
module _ (files : Files) (console : Console) (world : World) (stands : HoldsWorld files console world) where
  pub picked_world : (pick : Pick) (parts : DiskParts) (config : Option (List ℕ)) → PartsPicked pick files parts → config ≡ config_file world.config → IsPicked pick world (store_of parts config)
  picked_world pick parts config picked config_is =
      let same : file_at files.log ≡ world.log = λ i. λ seg. stands.log seg i in
      let beside = pick_beside pick in
      record {
        log = subst (λ (log : ℕ → File). ArePicked pick log parts.log) same picked.log;
        pages = λ part. picked.pages part ∙ ap (λ (p : Pick). left_by p (file_at files.pages part)) (beside_at pick (file_at files.pages) part) ∙ ap (λ (file : File). left_by beside file) (stands.pages part);
        starts = picked.starts ∙ ap (λ (file : File). left_by beside file) stands.starts;
        ends = picked.ends ∙ ap (λ (file : File). left_by beside file) stands.ends;
        config = config_is;
      }

  pub leaves_all : (parts : DiskParts) (config : Option (List ℕ)) → PartsLeft files parts → LeavesAll world (image_of (store_of parts config))
  leaves_all parts config leaves = record {
    log = λ seg. subst (λ (f : File). Leaves f (content_at parts.log seg)) (stands.log seg) (leaves.log seg);
    pages = λ part. subst (λ (f : File). Leaves f (content_at parts.pages part)) (stands.pages part) (leaves.pages part);
    starts = subst (λ (f : File). Leaves f (store_of parts config).starts) stands.starts leaves.starts;
    ends = subst (λ (f : File). Leaves f (store_of parts config).ends) stands.ends leaves.ends;
  }
