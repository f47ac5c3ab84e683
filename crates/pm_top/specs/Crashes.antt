-- What a crash at any moment of a run leaves.
use Rattle.std.specs.Prelude.{ℕ, ◌+◌, ◌*◌, ◌<◌, ◌^◌, List, [], ◌∷◌, length, take, drop, if◌then◌else◌}
use Rattle.std.specs.Bool.{nat_eq}
use Rattle.std.specs.List.{All, Contains, starts_with}
use Rattle.pm_types.specs.declared.limits.TheConstants.{OP_PAGES}
use Rattle.pm_types.specs.declared.shape.Shape.{Shape}
use Rattle.pm_disk.specs.Worlds.{World}
use Rattle.pm_disk.specs.Images.{Image, LeavesAll}
use Rattle.pm_model.specs.declared.reply.Reply.{Reply}
use Rattle.pm_model.specs.Eval.{Pairs, replies_to, accepted}
use Rattle.pm_model.specs.Orders.{after_numbers}
use Rattle.pm_script.specs.Texts.{text_of}
use Rattle.pm_model.specs.declared.line.Line.{Line}
use Rattle.pm_records.specs.Logs.{after_frames}
use Rattle.pm_marks.specs.InForce.{number_in, replay_of}
use Rattle.pm_core.specs.Held.{in_force}
use Rattle.pm_core.specs.Prefixes.{IsUpTo}
use Rattle.pm_core.specs.Sound.{SoundImage, IsTrueImage}
use Rattle.pm_engine.specs.RunningLines.{CrashHoldsLines}
use Rattle.pm_top.specs.Served.{script_of}

-- how many of these replies begin in the bytes: the first byte of each stands there, after the
-- texts of those before it
abbrev pub begun : List Reply → List ℕ → ℕ
begun [] bytes = 0
begun (reply ∷ replies) bytes =
    if starts_with nat_eq bytes (take 1 (text_of reply)) then 1 + begun replies
    (drop (length (text_of reply)) bytes) else 0

-- the numbers of the accepted lines that have the first byte of their reply among the bytes said
-- since the run began
abbrev pub acknowledged : World → Shape → Pairs → World → List ℕ
acknowledged old shape pairs now =
    let script = script_of old.input in
    accepted shape 1 (take
    (begun (replies_to shape script pairs) (drop (length old.said) now.said)) script) pairs

-- the last segment that opening a sound store may begin: one after its log's last segment, and for each record
-- from the replay place on one for each page that it may change, and one for a checkpoint before it
abbrev pub opened_to : {wanted : Shape} {image : Image} {shape : Shape} {pairs : Pairs}
    → SoundImage wanted image shape pairs → ℕ
opened_to {wanted} {image} {shape} {pairs} sound =
    (after_frames (replay_of (in_force image)) sound.holds.frames).seg
    + (1 + (OP_PAGES + 1) * length sound.holds.frames)

-- the highest number that a checkpoint of its opening may have
abbrev pub opened_number : {wanted : Shape} {image : Image} {shape : Shape} {pairs : Pairs}
    → SoundImage wanted image shape pairs → ℕ
opened_number {wanted} {image} {shape} {pairs} sound =
    number_in (in_force image) + length sound.holds.frames

-- There are numbers for the segments and the checkpoints of a run over a sound store.
pub record HasNumbers (wanted : Shape) (image : Image) (shape : Shape) (pairs : Pairs)
    (sound : SoundImage wanted image shape pairs) : Type 0 where
  pub segments : opened_to sound < 2 ^ 62
  pub checkpoints : opened_number sound < 2 ^ 62

-- What a crash left is sound, and holds this map. Its log ends at most in this segment, and the checkpoint in
-- force has at most this number.
abbrev pub SoundUpTo : Shape → ℕ → ℕ → Image → Shape → Pairs → Type 0
SoundUpTo wanted last number image shape pairs =
    (sound : SoundImage wanted image shape pairs) × IsUpTo last number wanted image shape pairs sound

-- whatever a crash leaves holds the map after a prefix of these lines, over this map
abbrev pub CrashKeeps : Shape → ℕ → ℕ → Shape → Pairs → List Line → World → Type 0
CrashKeeps wanted last number shape pairs lines now = CrashHoldsLines last number wanted shape pairs lines now

-- What a crash left is sound, and holds the map of the start after the lines of a prefix of the
-- order, which has each one that was acknowledged.
pub record HoldsAfter (wanted : Shape) (last number : ℕ) (old : World) (shape : Shape) (pairs : Pairs)
    (order : List ℕ) (now : World) (image : Image) : Type 0 where
  pub count : ℕ
  pub has : All (Contains (take count order)) (acknowledged old shape pairs now)
  pub holds : SoundUpTo wanted last number image shape
      (after_numbers shape (take count order) 1 (script_of old.input) pairs)

-- whatever a crash at this moment leaves, as long as no sum is right by chance, keeps what was acknowledged
abbrev pub CrashHoldsAcknowledged : Shape → ℕ → ℕ → World → Shape → Pairs → List ℕ → World → Type 0
CrashHoldsAcknowledged wanted last number old shape pairs order now =
    (image : Image) → LeavesAll now image → IsTrueImage now image
    → HoldsAfter wanted last number old shape pairs order now image
