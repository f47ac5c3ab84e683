-- What holds of the open files is seen of them.
use Rattle.std.proofs.Common.{◌≡◌, ◌+◌, ◌<◌, ℕ, List, [], ◌∷◌, ◌++◌, length, inl, inr, Ok, Err, sym, subst, ◌∙◌, ap}
use Rattle.std.specs.Prelude.{◌⊎◌, ◌≢◌, Option}
use Rattle.std.specs.Prelude.{Result, IfOk, OnOk}
use Rattle.std.proofs.lemmas.List.{map-append, length-map}
use Rattle.std.proofs.lemmas.Result.{IfOk-at_ok, on_ok_weaker}
use Rattle.std.proofs.lemmas.List.Elements.{All-map}
use Rattle.pm_disk.specs.declared.names.StoreFile.{StoreFile}
use Rattle.pm_disk.specs.declared.failed.Failed.{Failed}
use Rattle.pm_disk_fs.specs.declared.failure.Failure.{Failure}
use Rattle.pm_disk_fs.specs.declared.opened.Opened.{Opened}
use Rattle.pm_disk_fs.specs.OpenFiles.{IsNotOpen}
use Rattle.pm_disk_fs.specs.OpenViews.{OpenView, view_of, open_views, WrittenLast, ChangedLast, ForcedLast, NoneOpen, SegmentForced}
use Rattle.pm_disk_fs.specs.Positions.{IsWritten, IsChangedLast, IsForcedLast, WasForced, ForcesSegment}
use Rattle.pm_disk_fs.specs.WriteBuffer.{Stretch}
use Rattle.pm_disk_fs.specs.declared.open_files.TheConstants.{OPEN_MAX}
use Rattle.pm_disk_fs.proofs.ForcedSegments.{forced_last}
use Rattle.pm_disk.specs.declared.names.StoreFile.TheVariants.{Segment}

views_last : {F : Type 0} (files before : List (Opened F)) (file : Opened F) → files ≡ before ++ file ∷ [] → open_views files ≡ open_views before ++ view_of file ∷ []
views_last {F} files before file last = ap (λ (l : List (Opened F)). open_views l) last ∙ map-append (λ f. view_of f) before (file ∷ [])

pub written_seen : {F : Type 0} (contents : F → Option (List ℕ)) (files : List (Opened F)) (name : StoreFile) (at : ℕ) (bytes : List ℕ) → IsWritten contents files name at bytes → WrittenLast (open_views files) name (at + length bytes)
written_seen contents files name at bytes w = record {
  before = open_views w.before;
  file = view_of w.file;
  last = views_last files w.before w.file w.last;
  named = w.has.named;
  noted = w.has.noted;
  unforced = w.has.unforced;
}

pub changed_seen : {F : Type 0} (files : List (Opened F)) (name : StoreFile) → IsChangedLast files name → ChangedLast (open_views files) name
changed_seen files name w = record {
  before = open_views w.before;
  file = view_of w.file;
  last = views_last files w.before w.file w.last;
  named = w.named;
  unforced = w.unforced;
}

none_seen : {F : Type 0} (files : List (Opened F)) (name : StoreFile) → IsNotOpen files name → NoneOpen (open_views files) name
none_seen files name none = All-map (λ (view : OpenView). view.name ≢ name) (λ f. view_of f) files none

pub forced_seen : {F : Type 0} (old new : List (Opened F)) (name : StoreFile) → IsNotOpen old name ⊎ IsForcedLast new name → NoneOpen (open_views old) name ⊎ ForcedLast (open_views new) name
forced_seen old new name (inl none) = inl (none_seen old name none)
forced_seen old new name (inr w) = inr (record {
  before = open_views w.before;
  file = view_of w.file;
  last = views_last new w.before w.file w.last;
  named = w.named;
  forced = w.forced;
})

-- a force shows what the file that was forced is now
either_last : {F : Type 0} (synced : F → Type 0) (A : Type 0) (old new : List (Opened F)) (name : StoreFile) → (IsNotOpen old name × A) ⊎ WasForced synced old new name → IsNotOpen old name ⊎ IsForcedLast new name
either_last synced A old new name (inl none) = inl none.0
either_last synced A old new name (inr f) = inr (forced_last synced old new name f)

-- what holds of a call that succeeded
on_ok_made : (T P : Type 0) (made : Result T Failure) (result : Result T Failed) → IfOk result (λ v. made ≡ Ok v) → OnOk made P → OnOk result P
on_ok_made T P made (Ok v) is on = IfOk-at_ok (λ _. P) {r = made} {x = v} is on
on_ok_made T P made (Err e) is on = tt

-- a force that succeeded
pub force_seen : (made : Result (Unit {0}) Failure) (result : Result (Unit {0}) Failed) (name : StoreFile) {F : Type 0} (synced : F → Type 0) (A : Type 0) (old new : List (Opened F)) (was now : List OpenView)
    → IfOk result (λ v. made ≡ Ok v) → OnOk made ((IsNotOpen old name × A) ⊎ WasForced synced old new name) → open_views old ≡ was → now ≡ open_views new → OnOk result (NoneOpen was name ⊎ ForcedLast now name)
force_seen made result name synced A old new was now is on before last =
    subst (λ (l : List OpenView). OnOk result (NoneOpen l name ⊎ ForcedLast now name)) before
    (subst (λ (l : List OpenView). OnOk result (NoneOpen (open_views old) name ⊎ ForcedLast l name)) (sym last)
    (on_ok_made (Unit {0}) (NoneOpen (open_views old) name ⊎ ForcedLast (open_views new) name) made result is (on_ok_weaker made (λ f. forced_seen old new name (either_last synced A old new name f)) on)))

segment_seen : {F : Type 0} (contents : F → Option (List ℕ)) (buffer : Stretch) (old new : List (Opened F)) (seg : ℕ) → ForcesSegment contents buffer old new seg → SegmentForced buffer (open_views old) (open_views new) seg
segment_seen {F} contents buffer old new seg f = record {
  buffered = λ some same.
      let w = f.buffered some same in
      record { before = open_views w.before; file = view_of w.file; last = views_last new w.before w.file w.last; named = w.named ∙ ap Segment same; forced = w.forced };
  open_before = λ few. forced_seen old new (Segment seg) (f.open_before (subst (λ n. n < OPEN_MAX) (length-map old (λ (o : Opened F). view_of o)) few));
}

-- a force of a segment that succeeded
pub force_log_seen : (made : Result (Unit {0}) Failure) (result : Result (Unit {0}) Failed) {F : Type 0} (contents : F → Option (List ℕ)) (buffer : Stretch) (old new : List (Opened F)) (seg : ℕ) (now : List OpenView)
    → IfOk result (λ v. made ≡ Ok v) → OnOk made (ForcesSegment contents buffer old new seg) → now ≡ open_views new → OnOk result (SegmentForced buffer (open_views old) now seg)
force_log_seen made result contents buffer old new seg now is on last =
    subst (λ (l : List OpenView). OnOk result (SegmentForced buffer (open_views old) l seg)) (sym last)
    (on_ok_made (Unit {0}) (SegmentForced buffer (open_views old) (open_views new) seg) made result is (on_ok_weaker made (segment_seen contents buffer old new seg) on))
