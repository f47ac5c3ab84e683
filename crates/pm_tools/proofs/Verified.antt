-- How the check of a store goes on.
use Rattle.std.proofs.Common.{◌≡◌, inl, inr, ℕ, suc, ◌+◌, ◌<◌, List, [], ◌∷◌, ◌++◌, Option, Some, None, false, refl, sym, ◌∙◌, ap, subst, arith}
use Rattle.std.specs.Prelude.{Err, IsErrOf, Result}
use Rattle.std.proofs.lemmas.Bool.{cases_lt}
use Rattle.pm_types.specs.declared.fault.StoreFault.{StoreFault}
use Rattle.pm_types.specs.declared.fault.StoreFault.TheVariants.{Failed, Memory, BadPage, BadRecord}
use Rattle.pm_types.specs.declared.place.Place.{Place}
use Rattle.pm_types.specs.declared.shape.Shape.{Shape}
use Rattle.pm_disk.specs.Worlds.{World}
use Rattle.pm_frame.specs.declared.limits.TheConstants.{SEGMENT_END_MAX}
use Rattle.pm_frame.specs.Frames.{Frame}
use Rattle.pm_meta.specs.declared.slots.MetaSlot.{MetaSlot}
use Rattle.pm_meta.specs.declared.slots.MetaSlot.TheVariants.{Rows}
use Rattle.pm_pages.specs.Rows.{Partition, number_of, number_in, page_count}
use Rattle.pm_pages.specs.WellFormed.{IsWellFormed}
use Rattle.pm_records.specs.LogFiles.{contents}
use Rattle.pm_records.specs.Logs.{record_in}
use Rattle.pm_records.specs.Records.{Record}
use Rattle.pm_core.specs.BasePages.{Partitions, base_of, counted}
use Rattle.pm_redo.specs.Loading.{AreCounted, BaseIs}
use Rattle.pm_redo.specs.PageMaps.{PageMap}
use Rattle.pm_redo.specs.Pictures.{ArePictures, files_in, rebuilt_in}
use Rattle.pm_redo.proofs.LoadedPages.{fault_in}
use Rattle.pm_segments.specs.Scans.{Scanned, frame_ahead, Advances}
use Rattle.pm_segments.proofs.Reading.{scan_starts, scan_goes, scan_ends}
use Rattle.pm_tools.specs.declared.verifying.PageCounts.{PageCounts}
use Rattle.pm_tools.specs.Verifying.{AreBasePages, CountsChanges, CountsPartition, HasCounted, HasRead, IsBadFrame, changes_in, logical_in, checkpoint_of, pages_counted, rows_counted}
use Rattle.pm_tools.proofs.LogTexts.{none_past_end, records_append}

-- ---- the log

pub reads_none : (log : ℕ → List ℕ) (from : Place) (scan : Scanned) → scan.next ≡ from → scan.is_over ≡ false → HasRead log from scan 0
reads_none log from scan is going = record { frames = []; scanned = scan_starts log from scan is going; are_records = tt; is = refl }

changes_append : (xs ys : List Frame) → changes_in (xs ++ ys) ≡ changes_in xs + changes_in ys
changes_append [] ys = omega arith
changes_append (x ∷ xs) ys = omega (arith, changes_append xs ys)

-- one record more
pub reads_more : (old : World) (from : Place) (scan later : Scanned) (count next : ℕ) (f : Frame) → HasRead (contents old.log) from scan count → frame_ahead scan old ≡ Some f → Advances scan later (Some f)
    → (one : Record) × (record_in f ≡ Some one) → next ≡ count + logical_in f → HasRead (contents old.log) from later next
reads_more old from scan later count next f read stands advances some is = record {
  frames = read.frames ++ f ∷ [];
  scanned = scan_goes old from read.frames scan later f read.scanned stands advances;
  are_records = records_append read.frames (f ∷ []) read.are_records (some, tt);
  is = omega (arith, is, read.is, changes_append read.frames (f ∷ []));
}

-- the place that a fault names
abbrev place_in : StoreFault → Place → Place
place_in Failed other = other
place_in (Memory lack) other = other
place_in (BadPage id) other = other
place_in (BadRecord at) other = at

pub same_place : {T : Type 0} (made named : Place) → IsErrOf {T = T} {E = StoreFault} (Err (BadRecord made)) (BadRecord named) → made ≡ named
same_place {T} made named err = ap (λ (r : Result T StoreFault). place_in (fault_in r (BadRecord named)) named) err

-- a frame that holds no record
pub bad_there : (old : World) (from : Place) (scan later : Scanned) (count : ℕ) (f : Frame) (at : Place) → HasRead (contents old.log) from scan count → frame_ahead scan old ≡ Some f → Advances scan later (Some f)
    → record_in f ≡ None → at ≡ later.place → IsBadFrame (contents old.log) from at
bad_there old from scan later count f at read stands advances bad is = record {
  before = read.frames;
  frame = f;
  run = (scan_goes old from read.frames scan later f read.scanned stands advances).run;
  are_records = read.are_records;
  bad = bad;
  there = is ∙ advances.0 ∙ read.scanned.next;
}

-- the log's end
pub all_read : (old : World) (from : Place) (scan later : Scanned) (count : ℕ) → HasRead (contents old.log) from scan count → frame_ahead scan old ≡ None → Advances scan later None → CountsChanges (contents old.log) from count
all_read old from scan later count read stands advances = record {
  frames = read.frames;
  is_log = (scan_ends old from read.frames scan later read.scanned stands advances).0;
  are_records = read.are_records;
  is = read.is;
}

-- past each segment's end the log has no frame
pub none_there : (log : ℕ → List ℕ) (from : Place) → SEGMENT_END_MAX < from.off → CountsChanges log from 0
none_there log from past = record { frames = []; is_log = none_past_end log from past; are_records = tt; is = refl }

-- ---- the pages

-- pages that were loaded are those that count
pub well_counted : (shape : Shape) (part : ℕ) (base pages : Partition) → AreCounted base pages → IsWellFormed shape part pages → IsWellFormed shape part (counted base)
well_counted shape part base pages are well = subst (IsWellFormed shape part) (λ i index. are index i) well

pub well_loaded : (shape : Shape) (part : ℕ) (base pages : Partition) → AreCounted base pages → IsWellFormed shape part (counted base) → IsWellFormed shape part pages
well_loaded shape part base pages are well = subst (IsWellFormed shape part) (λ i index. sym (are index) i) well

pub number_loaded : (base pages : Partition) (slot : MetaSlot) → AreCounted base pages → number_in pages slot ≡ number_in base slot
number_loaded base pages slot are = ap (λ (o : Option (List ℕ)). number_of o slot) (are 0)

suc_one : (n : ℕ) → n + 1 ≡ suc n
suc_one n = omega arith

pages_next : (base : Partitions) (part : ℕ) → pages_counted base (part + 1) ≡ pages_counted base part + page_count (base part)
pages_next base part = ap (pages_counted base) (suc_one part)

rows_next : (base : Partitions) (part : ℕ) → rows_counted base (part + 1) ≡ rows_counted base part + number_in (base part) Rows
rows_next base part = ap (rows_counted base) (suc_one part)

-- one partition more
pub counts_more : (shape : Shape) (base : Partitions) (part : ℕ) (counts one more : PageCounts) → HasCounted shape base part counts → CountsPartition shape part (base part) one → more.pages ≡ counts.pages + one.pages
    → more.rows ≡ counts.rows + one.rows → HasCounted shape base (part + 1) more
counts_more shape base part counts one more has this pages rows =
    let all_pages : pages_counted base (part + 1) ≡ pages_counted base part + page_count (base part) = pages_next base part in
    let all_rows : rows_counted base (part + 1) ≡ rows_counted base part + number_in (base part) Rows = rows_next base part in
    record {
      well_formed = λ p below. elim (cases_lt p part) [
        | inl before ↦ has.well_formed p before
        | inr from ↦
            let at : part ≡ p = omega (arith, below, from) in
            subst (λ n. IsWellFormed shape n (counted (base n))) at this.well_formed
      ];
      pages = omega (arith, pages, has.pages, this.pages, all_pages);
      rows = omega (arith, rows, has.rows, this.rows, all_rows);
    }

-- ---- the base pages

-- the base pages, where these were read
abbrev pub base_read : World → Option PageMap → Partitions
base_read world pictures = base_of (checkpoint_of world) (rebuilt_in pictures) (files_in world)

pub are_base : (world : World) (pictures : Option PageMap) → ArePictures pictures (checkpoint_of world) (contents world.log) → AreBasePages world (base_read world pictures)
are_base world pictures are = record { rebuilt = rebuilt_in pictures; rebuilt_are = are.rebuilt; is = refl }

pub base_there : (world now : World) (pictures : Option PageMap) → ArePictures pictures (checkpoint_of world) (contents world.log) → now ≡ world → BaseIs pictures now (base_read world pictures)
base_there world now pictures are same =
    subst (λ (w : World). BaseIs pictures w (base_read world pictures)) (sym same) (record { checkpoint = checkpoint_of world; shaped = are.shaped; is = refl })
