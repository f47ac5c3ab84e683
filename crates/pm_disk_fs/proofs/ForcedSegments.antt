-- A segment is forced after what was buffered was written: the file that has what was buffered of it is the one that is forced.
use Rattle.std.proofs.Common.{◌≡◌, ◌<◌, ℕ, List, [], ◌∷◌, ◌++◌, length, get_or, inl, inr, refl, sym, ◌∙◌, ap, subst, arith, length-append}
use Rattle.std.specs.Prelude.{◌≢◌, ◌⊎◌, drop, Option, Contains}
use Rattle.std.proofs.lemmas.Bool.{cases_lt}
use Rattle.std.proofs.lemmas.List.{nil_from_length}
use Rattle.std.proofs.lemmas.List.Elements.{Contains-append_right, Contains-get_or}
use Rattle.std.specs.Io.KnownBytes.{Appends}
use Rattle.pm_disk.specs.declared.names.StoreFile.{StoreFile}
use Rattle.pm_disk.specs.declared.names.StoreFile.TheVariants.{Config, Marks, Segment, Pages}
use Rattle.pm_disk_fs.specs.declared.opened.Opened.{Opened}
use Rattle.pm_disk_fs.specs.declared.open_files.TheConstants.{OPEN_MAX}
use Rattle.pm_disk_fs.specs.OpenFiles.{IsNotOpen, OthersStayOpen}
use Rattle.pm_disk_fs.specs.WriteBuffer.{Stretch}
use Rattle.pm_disk_fs.specs.Positions.{IsForcedLast, WasForced, IsStretchWritten, IsStretchForced, ForcesSegment}

-- a file that is open has no name of which none is
not_open : {F : Type 0} (files : List (Opened F)) (file : Opened F) (name : StoreFile) → IsNotOpen files name → Contains files file → file.name ≢ name
not_open files file name none at named = none at.0 file at.1 (ap (λ (f : Opened _). f.name) at.2 ∙ named)

-- the last of some is the one before which others stand, or one of those after it
last_is : {X : Type 0} (before after front : List X) (was last : X) → before ++ was ∷ after ≡ front ++ last ∷ [] → (was ≡ last) ⊎ Contains after last
last_is [] after [] was last same = inl (ap (λ (l : List _). get_or l 0 was) same)
last_is [] after (x ∷ front) was last same = inr (subst (λ (l : List _). Contains l last) (sym (ap (λ (l : List _). drop 1 l) same)) (Contains-append_right front (last ∷ []) last (0, omega arith, refl)))
last_is (b ∷ before) after [] was last same = absurd (omega (arith, ap (λ (l : List _). length l) same, length-append before (was ∷ after)))
last_is (b ∷ before) after (x ∷ front) was last same = last_is before after front was last (ap (λ (l : List _). drop 1 l) same)

pub forced_last : {F : Type 0} (synced : F → Type 0) (old new : List (Opened F)) (name : StoreFile) → WasForced synced old new name → IsForcedLast new name
forced_last synced old new name w = record { before = w.before ++ w.after; file = w.file; last = w.last; named = w.named; forced = w.forced }

-- the file that was written last, when one of its name is forced
stretch_forced : {F : Type 0} (contents : F → Option (List ℕ)) (synced : F → Type 0) (mid new : List (Opened F)) (stretch : Stretch) → IsStretchWritten contents mid stretch → WasForced synced mid new (Segment stretch.seg)
    → IsStretchForced contents new stretch
stretch_forced {F} contents synced mid new stretch w f =
    let is : (f.was ≡ w.file) ⊎ Contains f.after w.file = last_is f.before f.after w.before f.was w.file (sym f.stood ∙ w.last) in
    elim is [
      | inl same ↦ record {
        before = f.before ++ f.after;
        file = f.file;
        last = f.last;
        named = f.named;
        handed = record { before = w.has.handed.before; appended = subst (λ (file : F). Appends (contents w.has.handed.before) (contents file) stretch.bytes) (sym (f.same ∙ ap (λ (o : Opened F). o.file) same)) w.has.handed.appended };
        forced = f.forced;
      }
      | inr later ↦ absurd (not_open f.after w.file (Segment stretch.seg) f.latest later w.has.named)
    ]

abbrev seg_of : StoreFile → ℕ
seg_of (Segment seg) = seg
seg_of (Pages part) = 0
seg_of (Marks file) = 0
seg_of Config = 0

-- what stood open stays open, where another segment was written
still_open : {F : Type 0} (old mid : List (Opened F)) (was seg : ℕ) → was ≢ seg → OthersStayOpen old mid (Segment was) → length old < OPEN_MAX → IsNotOpen mid (Segment seg) → IsNotOpen old (Segment seg)
still_open old mid was seg other stays few none k d lt named =
    let file = get_or old k d in
    not_open mid file (Segment seg) none
    (stays.stay few file (λ same. other (ap seg_of (sym same ∙ named))) (Contains-get_or old k d lt)) named

pub forces_segment : {F : Type 0} (contents : F → Option (List ℕ)) (synced : F → Type 0) (A : Type 0) (buffer : Stretch) (old mid new : List (Opened F)) (seg : ℕ)
    → (0 < length buffer.bytes → IsStretchWritten contents mid buffer) → (buffer.bytes ≡ [] → mid ≡ old) → OthersStayOpen old mid (Segment buffer.seg)
    → (IsNotOpen mid (Segment seg) × A) ⊎ WasForced synced mid new (Segment seg) → ForcesSegment contents buffer old new seg
forces_segment {F} contents synced A buffer old mid new seg written idle stays (inr f) = record {
  buffered = λ some same. stretch_forced contents synced mid new buffer (written some) (subst (λ n. WasForced synced mid new (Segment n)) (sym same) f);
  open_before = λ few. inr (forced_last synced mid new (Segment seg) f);
}
forces_segment {F} contents synced A buffer old mid new seg written idle stays (inl (none, _)) =
    let clash : 0 < length buffer.bytes → buffer.seg ≢ seg = λ some same.
    let w = written some in
    not_open mid w.file (Segment seg) none
    (subst (λ (l : List (Opened F)). Contains l w.file) (sym w.last) (Contains-append_right w.before (w.file ∷ []) w.file (0, omega arith, refl))) (w.has.named ∙ ap Segment same) in
    record {
      buffered = λ some same. absurd (clash some same);
      open_before = λ few. inl (elim (cases_lt 0 (length buffer.bytes)) [
        | inl some ↦ still_open old mid buffer.seg seg (clash some) stays few none
        | inr empty ↦ subst (λ (l : List (Opened F)). IsNotOpen l (Segment seg)) (idle (nil_from_length buffer.bytes (omega (arith, empty)))) none
      ]);
    }
