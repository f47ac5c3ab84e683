-- When the disk is as the machine's state says.
use Rattle.std.specs.Prelude.{◌≡◌, ◌⊎◌, ◌<◌, ◌≤◌, ◌+◌, ◌*◌, ℕ, List, [], ◌∷◌, ◌++◌, length, Option, Some}
use Rattle.std.specs.Prelude.{None, IsSome}
use Rattle.pm_types.specs.declared.place.Place.{Place}
use Rattle.pm_types.specs.declared.shape.Mark.{Mark}
use Rattle.pm_types.specs.declared.shape.Shape.{Shape}
use Rattle.pm_frame.specs.Frames.{Frame}
use Rattle.pm_disk.specs.Files.{File, bytes_of, content, at_change}
use Rattle.pm_disk.specs.Images.{Leaves, IsTrueOf, Lasting}
use Rattle.pm_disk.specs.Worlds.{World}
use Rattle.pm_model.specs.Eval.{Pairs}
use Rattle.pm_records.specs.LogFiles.{FilesHoldLog, HasLasting, EndIs}
use Rattle.pm_records.specs.Logs.{all_frames, after_frames}
use Rattle.pm_marks.specs.Slots.{mark_at, slot_of}
use Rattle.pm_disk.specs.declared.mark.TheConstants.{SLOT_LEN}
use Rattle.pm_marks.specs.MarkWrites.{first_change}
use Rattle.pm_marks.specs.InForce.{Checkpoint, NoStart, Started, Ended, replay_of}
use Rattle.pm_core.specs.Replays.{all_replayed}
use Rattle.pm_core.specs.BasePages.{Partitions, no_pages, page_in_file, laid_over, rebuilt_of}
use Rattle.pm_core.specs.States.{State, View, AllInGrammar, RestartIsFirst, BeginIsFirst, HavePairs}

-- something that is asked only without a start marker
abbrev pub OnlyNoStart : Checkpoint → Type 0 → Type 0
OnlyNoStart NoStart P = P
OnlyNoStart (Started mark) P = Unit {0}
OnlyNoStart (Ended mark) P = Unit {0}

-- a start marker has the store's shape
abbrev pub HasShape : Shape → Checkpoint → Type 0
HasShape shape NoStart = Unit {0}
HasShape shape (Started mark) = mark.shape ≡ shape
HasShape shape (Ended mark) = mark.shape ≡ shape

-- this mark is valid in the file, and none of a higher number
pub record IsInForce (mark : Mark) (starts : List ℕ) : Type 0 where
  pub there : mark_at (slot_of mark.number) starts ≡ Some mark
  pub highest : (slot : ℕ) (other : Mark) → mark_at slot starts ≡ Some other → other.number ≤ mark.number

-- no valid mark has a number above this one
abbrev pub AreUpTo : ℕ → List ℕ → Type 0
AreUpTo number ends = (slot : ℕ) (mark : Mark) → mark_at slot ends ≡ Some mark → mark.number ≤ number

-- the marker files say this checkpoint
abbrev pub MarksSay : Checkpoint → List ℕ → List ℕ → Type 0
MarksSay NoStart starts ends = ((slot : ℕ) → mark_at slot starts ≡ None)
    × ((slot : ℕ) → mark_at slot ends ≡ None)
MarksSay (Started mark) starts ends =
    IsInForce mark starts × AreUpTo mark.number ends × (mark_at (slot_of mark.number) ends ≡ Some mark → ⊥)
MarksSay (Ended mark) starts ends =
    IsInForce mark starts × AreUpTo mark.number ends × (mark_at (slot_of mark.number) ends ≡ Some mark)

-- a view is the one in force, or the one whose marker isn't forced
abbrev pub IsViewOf : View → Option View → View → Type 0
IsViewOf now None view = view ≡ now
IsViewOf now (Some soon) view = (view ≡ now) ⊎ (view ≡ soon)

-- the view that the marker files read as now
abbrev pub soon_or : Option View → View → View
soon_or None now = now
soon_or (Some soon) now = soon

-- zeros were written to the first slot of a marker file that had ended before that slot did, and nothing else
pub record HasNewFirst (file : File) : Type 0 where
  pub short : length (bytes_of file.forced) < SLOT_LEN
  pub since : file.since ≡ first_change file.forced ∷ []

-- a marker file has nothing pending but the zeros of its first slot
abbrev pub IsStill : File → Type 0
IsStill file = (file.since ≡ []) ⊎ HasNewFirst file

-- a marker file has a marker pending only while that marker isn't forced
abbrev pub QuietMarks : Option Checkpoint → File → File → Type 0
QuietMarks None starts ends = IsStill starts × IsStill ends
QuietMarks (Some NoStart) starts ends = ⊥
QuietMarks (Some (Started mark)) starts ends = IsStill ends
QuietMarks (Some (Ended mark)) starts ends = IsStill starts

-- the checkpoint whose marker isn't forced
abbrev pub soon_checkpoint : Option View → Option Checkpoint
soon_checkpoint None = None
soon_checkpoint (Some view) = Some view.checkpoint

-- whatever a crash leaves of the marker files, they say the checkpoint of a view
abbrev pub MarksLeave : File → File → View → Option View → Type 0
MarksLeave starts ends now soon =
    (st en : Option (List ℕ)) → Leaves starts st → IsTrueOf mark_at starts st → Leaves ends en
    → IsTrueOf mark_at ends en
    → (view : View) × IsViewOf now soon view × MarksSay view.checkpoint (bytes_of st) (bytes_of en)

-- The pages that the log rebuilds are in the lasting log: its frames from the from place on lead to its end.
pub record RebuiltLasts (mark : Mark) (log : ℕ → File) (low : ℕ) (at : Place)
    (rebuilt : Partitions) : Type 0 where
  pub before : List Frame
  pub after : List Frame
  pub leads : HasLasting all_frames log low at mark.from (before ++ after)
  pub reaches : after_frames mark.from before ≡ mark.begin
  pub is : rebuilt_of mark.shape before ≡ Some rebuilt

-- the same of each checkpoint: one that runs alone has such pages
abbrev pub RebuiltIsLasting : Checkpoint → (ℕ → File) → ℕ → Place → Partitions → Type 0
RebuiltIsLasting NoStart log low at rebuilt = rebuilt ≡ no_pages
RebuiltIsLasting (Started mark) log low at rebuilt = RebuiltLasts mark log low at rebuilt
RebuiltIsLasting (Ended mark) log low at rebuilt = rebuilt ≡ no_pages

-- the lasting log from the begin place on is in its grammar
pub record BeginLasts (mark : Mark) (log : ℕ → File) (low : ℕ) (at : Place) : Type 0 where
  pub frames : List Frame
  pub leads : HasLasting all_frames log low at mark.begin frames
  pub in_grammar : AllInGrammar frames
  pub begins : BeginIsFirst mark.number frames

abbrev pub BeginIsLasting : Checkpoint → (ℕ → File) → ℕ → Place → Type 0
BeginIsLasting NoStart log low at = Unit {0}
BeginIsLasting (Started mark) log low at = BeginLasts mark log low at
BeginIsLasting (Ended mark) log low at =
    (frames : List Frame) × HasLasting all_frames log low at mark.begin frames × AllInGrammar frames

-- where a page of this index and size begins and ends in its file
abbrev pub page_low : ℕ → ℕ → ℕ
page_low size index = index * size

abbrev pub page_high : ℕ → ℕ → ℕ
page_high size index = index * size + size

-- A page that no record rebuilds is lasting in its file, or isn't there, or is one that doesn't count.
pub record PagesStand (size : ℕ) (files rebuilt : Partitions) (pages : ℕ → File) : Type 0 where
  pub kept : (part index : ℕ) (bytes : List ℕ) → rebuilt part index ≡ None → files part index ≡ Some bytes
      → Lasting (pages part) (page_low size index) (page_high size index)
      × (page_in_file size (pages part).forced index ≡ Some bytes)
  pub absent : (part index : ℕ) → rebuilt part index ≡ None → files part index ≡ None
      → ((k : ℕ) → k ≤ length (pages part).since
      → length (bytes_of (at_change (pages part) k)) < page_high size index)
      ⊎ IsSome (laid_over rebuilt files part 0)

-- With this view in force the disk is sound and holds the state's map.
pub record IsGood (wanted : Shape) (s : State) (log pages : ℕ → File) (view : View) : Type 0 where
  pub shaped : HasShape s.shape view.checkpoint
  pub rebuilt_lasts : RebuiltIsLasting view.checkpoint log s.low s.at view.rebuilt
  pub has_meta : (part index : ℕ) → IsSome (view.rebuilt part index)
      → IsSome (laid_over view.rebuilt s.files part 0)
  pub bare : OnlyNoStart view.checkpoint (s.files ≡ no_pages)
  pub pages_stand : PagesStand s.shape.page_size s.files view.rebuilt pages
  -- only files of rebuilt pages have something pending
  pub calm : (part : ℕ) → ((pages part).since ≡ []) ⊎ ((index : ℕ) × IsSome (view.rebuilt part index))
  pub based : Pairs
  pub based_is : HavePairs s.shape (laid_over view.rebuilt s.files) based
  pub frames : List Frame
  pub replay : HasLasting all_frames log s.low s.at (replay_of view.checkpoint) frames
  pub holds : all_replayed s.shape frames (Some based) ≡ Some s.map
  pub begins : BeginIsLasting view.checkpoint log s.low s.at
  pub restarts : OnlyNoStart view.checkpoint (RestartIsFirst s.shape (frames ++ s.pending))
  pub empty_wanted : OnlyNoStart view.checkpoint (frames ≡ [] → s.shape ≡ wanted)

-- The disk is as the state says. `told` is of how many appended records the replies speak that
-- begin in these bytes.
pub record Stands (wanted : Shape) (told : List ℕ → ℕ) (s : State) (world : World) : Type 0 where
  pub log : FilesHoldLog all_frames world.log s.low s.at s.pending s.tail
  pub ends : EndIs s.tail s.end s.at s.pending
  pub marks : MarksLeave world.starts world.ends s.now s.soon
  pub reads : MarksSay (soon_or s.soon s.now).checkpoint (bytes_of (content world.starts))
      (bytes_of (content world.ends))
  pub quiet : QuietMarks (soon_checkpoint s.soon) world.starts world.ends
  pub good : (view : View) → IsViewOf s.now s.soon view → IsGood wanted s world.log world.pages view
  pub well : AllInGrammar s.pending
  pub newest : Pairs
  pub newest_is : all_replayed s.shape s.pending (Some s.map) ≡ Some newest
  pub said : told world.said ≤ length s.order
  pub since_first : all_replayed s.shape s.order (Some s.first) ≡ Some s.map
