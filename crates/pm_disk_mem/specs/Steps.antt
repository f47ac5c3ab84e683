-- Steps on a disk and a console in memory, and what each of them makes of the world.
use Rattle.std.specs.Prelude.{◌≡◌, ◌≤◌, ◌+◌, ℕ, List, [], ◌∷◌, length, take, vec_len}
use Rattle.pm_disk.specs.Files.{content}
use Rattle.pm_disk.specs.Worlds.{World, with_said, with_taken}
use Rattle.pm_disk.specs.Moments.{History}
use Rattle.pm_disk_mem.specs.Changes.{change_of, CanChange}
use Rattle.pm_disk_mem.specs.Families.{track_at, file_at}
use Rattle.pm_disk_mem.specs.Held.{track_in, file_changed, file_forced}
use Rattle.pm_disk_mem.specs.Consoles.{input_left}
use Rattle.pm_disk_mem.specs.declared.console.Console.{Console}
use Rattle.pm_disk_mem.specs.declared.files.Files.{Files}
use Rattle.pm_disk_mem.specs.declared.step.Step.{Step}
use Rattle.pm_disk_mem.specs.declared.step.Step.TheVariants.{Change, Force, Print, Take}

-- the world after a step
abbrev pub stepped : Step → World → World
stepped (Change file change) world = file_changed file (change_of change) world
stepped (Force file) world = file_forced file world
stepped (Print bytes) world = with_said bytes.items world
stepped (Take count) world = with_taken count world

-- the world after these steps, the first of them first
abbrev pub replay : List Step → World → World
replay [] world = world
replay (step ∷ steps) world = replay steps (stepped step world)

-- the world was so after a prefix of the steps, at least so many
abbrev pub HasBeen : World → List Step → ℕ → World → Type 0
HasBeen start steps least world = (k : ℕ) × (least ≤ k) × (k ≤ length steps)
    × (world ≡ replay (take k steps) start)

-- what is told of these steps: a moment is a number of them
abbrev pub history_after : World → List Step → History
history_after start steps =
    record { world = replay steps start; clock = length steps; was = HasBeen start steps }

-- the world of these files, with a console on which nothing was said and that has no input
abbrev pub files_world : Files → World
files_world files = record {
  log = file_at files.log;
  pages = file_at files.pages;
  starts = files.starts.file;
  ends = files.ends.file;
  config = [];
  said = [];
  input = [];
}

-- the same with this configuration and this input
abbrev pub start_world : Files → List ℕ → List ℕ → World
start_world files config script = record (files_world files) { config = config; input = script }

-- What is held is what this world has.
pub record HoldsWorld (files : Files) (console : Console) (world : World) : Type 0 where
  pub log : (seg : ℕ) → (track_at files.log seg).file ≡ world.log seg
  pub pages : (part : ℕ) → (track_at files.pages part).file ≡ world.pages part
  pub starts : files.starts.file ≡ world.starts
  pub ends : files.ends.file ≡ world.ends
  pub said : console.said.items ≡ world.said
  pub input : input_left console ≡ world.input

-- the step can be made
abbrev pub CanStep : Step → Files → Console → Type 0
CanStep (Change file change) files console = CanChange (change_of change) (content (track_in files file).file)
CanStep (Take count) files console = console.taken + count ≤ vec_len console.script
CanStep step files console = Unit {0}
