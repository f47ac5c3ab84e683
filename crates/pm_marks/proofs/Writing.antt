-- The moments of a marker's write.
use Rattle.std.proofs.Common.{◌≡◌, inl, inr, refl, sym, ◌∙◌, ap, subst, Result, Ok, Err}
use Rattle.std.specs.Prelude.{OnOk, IsErr}
use Rattle.pm_types.specs.declared.shape.Mark.{Mark}
use Rattle.pm_disk.specs.declared.mark.MarkFile.{MarkFile}
use Rattle.pm_disk.specs.Worlds.{World, marks_forced}
use Rattle.pm_disk.specs.Moments.{History, IsHistory, Does, AllMoments}
use Rattle.pm_disk.proofs.Chain.{started, does, weaker}
use Rattle.pm_marks.specs.MarkWrites.{first_written, mark_written, mark_forced, WritesFirstSoFar, WritesMarkSoFar, WritesFirst, WritesMark}

-- a call that failed
on_err : {T E : Type 0} (result : Result T E) (P : Type 0) → IsErr result → OnOk result P
on_err (Ok x) P is = absurd cc
on_err (Err e) P is = tt

-- ---- the first slot

module _ (file : MarkFile) (old mid : History) (sound : IsHistory old) where
  abbrev First : World → Type 0
  First = WritesFirstSoFar file old.world

  read_moments : {T E : Type 0} (read : Result T E) → Does {T = T} {E = E} old mid read old.world → AllMoments old mid First
  read_moments read call = does old old mid read old.world First (started old First sound (inl refl)) call (inl refl) (inl refl)

  -- the read failed
  pub first_unread : {T E F V : Type 0} (read : Result T E) (result : Result V F) → IsErr result → Does {T = T} {E = E} old mid read old.world → WritesFirst {T = V} {E = F} old mid result file
  first_unread read result failed call = record { written = on_err result _ failed; moments = read_moments read call }

  -- it is there
  pub first_found : {T E F V : Type 0} (read : Result T E) (result : Result V F) → Does {T = T} {E = E} old mid read old.world → mid.world ≡ old.world → first_written file old.world ≡ old.world → WritesFirst {T = V} {E = F} old mid result file
  first_found (Ok x) (Ok y) call same none = record { written = same ∙ sym none; moments = read_moments (Ok x) call }
  first_found (Err x) (Ok y) call same none = record { written = same ∙ sym none; moments = read_moments (Err x) call }
  first_found read (Err y) call same none = record { written = tt; moments = read_moments read call }

  -- zeros are written
  pub first_zeros : {T E F V : Type 0} (new : History) (read : Result T E) (wrote : Result V F) (next : World) → Does {T = T} {E = E} old mid read old.world → mid.world ≡ old.world → Does {T = V} {E = F} mid new wrote next
      → next ≡ first_written file old.world → WritesFirst {T = V} {E = F} old new wrote file
  first_zeros {T} {E} {F} {V} new read wrote next call same second is = record {
    written = subst (λ (w : World). OnOk wrote (new.world ≡ w)) is second.ok;
    moments = does old mid new wrote next First (read_moments read call) second (inl same) (inr is);
  }

-- ---- the mark

module _ (file : MarkFile) (mark : Mark) (old : History) where
  abbrev Mark_ : World → Type 0
  Mark_ = WritesMarkSoFar file mark old.world

  first_moments : (mid : History) → AllMoments old mid (WritesFirstSoFar file old.world) → AllMoments old mid Mark_
  first_moments mid moments = weaker old mid (WritesFirstSoFar file old.world) Mark_ (λ w some. elim some [
    | inl same ↦ inl same
    | inr first ↦ inr (inl first)
  ]) moments

  pub mark_first : {T E F V : Type 0} (mid : History) (first : Result T E) (result : Result V F) → IsErr result → WritesFirst {T = T} {E = E} old mid first file → WritesMark {T = V} {E = F} old mid result file mark
  mark_first mid first result failed call = record { forced = on_err result _ failed; moments = first_moments mid call.moments }

  module _ (mid : History) (first_is : mid.world ≡ first_written file old.world) (so_far : AllMoments old mid (WritesFirstSoFar file old.world)) where
    wrote_moments : {T E : Type 0} (next : History) (wrote : Result T E) → Does {T = T} {E = E} mid next wrote (mark_written file mark mid.world) → AllMoments old next Mark_
    wrote_moments next wrote call =
        does old mid next wrote (mark_written file mark mid.world) Mark_ (first_moments mid so_far) call (inr (inl first_is)) (inr (inr (inl (ap (mark_written file mark) first_is))))

    pub mark_unwritten : {T E F V : Type 0} (next : History) (wrote : Result T E) (result : Result V F) → IsErr result → Does {T = T} {E = E} mid next wrote (mark_written file mark mid.world) → WritesMark {T = V} {E = F} old next result file mark
    mark_unwritten next wrote result failed call = record { forced = on_err result _ failed; moments = wrote_moments next wrote call }

    pub mark_done : {T E F V : Type 0} (next new : History) (wrote : Result T E) (forced : Result V F) → Does {T = T} {E = E} mid next wrote (mark_written file mark mid.world) → next.world ≡ mark_written file mark mid.world
        → Does {T = V} {E = F} next new forced (marks_forced file next.world) → WritesMark {T = V} {E = F} old new forced file mark
    mark_done next new wrote forced call is last =
        let there : next.world ≡ mark_written file mark (first_written file old.world) = is ∙ ap (mark_written file mark) first_is in
        let end : marks_forced file next.world ≡ mark_forced file mark old.world = ap (marks_forced file) there in
        record {
          forced = subst (λ (w : World). OnOk forced (new.world ≡ w)) end last.ok;
          moments = does old next new forced (marks_forced file next.world) Mark_ (wrote_moments next wrote call) last (inr (inr (inl there))) (inr (inr (inr end)));
        }
