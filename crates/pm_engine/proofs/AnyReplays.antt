-- The records of any store's log, applied one after the other: which partitions change, and which record is refused.
use Rattle.std.proofs.Common.{◌≡◌, ◌⊎◌, inl, inr, ℕ, ◌≤◌, Bool, true, false, List, [], ◌∷◌, ◌++◌, Option, Some, None, refl, sym, ap, ◌∙◌, subst, arith, append_assoc}
use Rattle.std.specs.Prelude.{◌||◌, if◌then◌else◌, All}
use Rattle.std.proofs.lemmas.List.Elements.{All-head, All-tail}
use Rattle.std.proofs.lemmas.Option.{same_Some}
use Rattle.pm_types.specs.declared.place.Place.{Place}
use Rattle.pm_types.specs.declared.shape.Shape.{Shape}
use Rattle.pm_frame.specs.Frames.{Frame, frame_at}
use Rattle.pm_disk.specs.Worlds.{World}
use Rattle.pm_records.specs.LogFiles.{contents}
use Rattle.pm_records.specs.Logs.{all_frames, record_in, ends_log, next_place, after_frames, is_over, HasFrames}
use Rattle.pm_records.proofs.Runs.{next_rises, rises_from, after_frames-append, over-append}
use Rattle.pm_segments.specs.Scans.{Scanned, bytes_after, frame_ahead, Advances}
use Rattle.pm_segments.proofs.GrownLog.{frame_stays}
use Rattle.pm_segments.proofs.Reading.{going_on}
use Rattle.pm_ckpt.specs.Checkpoints.{KeepsLogFrom}
use Rattle.pm_engine.specs.Engines.{FrameRunning}
use Rattle.pm_engine.specs.FrameReplayLogs.{record_found}
use Rattle.pm_engine.specs.FrameStores.{pages_in_frames}
use Rattle.pm_engine.specs.MetPages.{AllowsRecord, KeepsPagesBut}
use Rattle.pm_engine.specs.Replays.{CanBeRefused, EndsBefore, IsRefusedAt, IsRefusedReplay, LogLeadsTo}
use Rattle.pm_engine.proofs.MetPages.{kept_same, kept_then}
use Rattle.pm_engine.proofs.ReplayedLog.{stands_on, run_on, or_false}

-- Of these frames, which stood in the log up to its end, a front was applied, and the others stand ahead of the scan.
-- Each page that was there is there still, but of the partitions that they may change.
pub record AppliesFront (from end : Place) (frames : List Frame) (scan : Scanned) (before now : FrameRunning) (was w : World) : Type 0 where
  pub front : List Frame
  pub rest : List Frame
  pub whole : front ++ rest ≡ frames
  pub next : scan.next ≡ after_frames from front
  pub over : scan.is_over ≡ is_over from front
  pub stood : HasFrames all_frames (contents was.log) from frames
  pub ahead : HasFrames all_frames (contents w.log) scan.next rest
  pub to : after_frames scan.next rest ≡ end
  pub behind : end.seg ≤ now.log.end.seg
  pub keeps : (may_change : ℕ → Bool) → All (λ frame. AllowsRecord may_change before.store.shape (record_in frame)) frames
      → KeepsPagesBut may_change (pages_in_frames before.store was) (pages_in_frames now.store w)

-- none was yet
pub front_none : (from end : Place) (scan : Scanned) (engine : FrameRunning) (w : World) → scan.next ≡ from → scan.is_over ≡ false → (leads : LogLeadsTo from end engine.log w) → AppliesFront from end leads.frames scan engine engine w w
front_none from end scan engine w next going leads = record {
  front = [];
  rest = leads.frames;
  whole = refl;
  next = next;
  over = going;
  stood = leads.run;
  ahead = subst (λ (p : Place). HasFrames all_frames (contents w.log) p leads.frames) (sym next) leads.run;
  to = ap (λ (p : Place). after_frames p leads.frames) next ∙ leads.to;
  behind = leads.behind;
  keeps = λ may_change all. kept_same may_change (pages_in_frames engine.store w);
}

-- what holds of all frames holds of the one after a front
holds_of : (P : Frame → Type 0) (front rest : List Frame) (f : Frame) → All P (front ++ f ∷ rest) → P f
holds_of P [] rest f all = All-head P f rest all
holds_of P (g ∷ front) rest f all = holds_of P front rest f (All-tail P g (front ++ f ∷ rest) all)

module _ (from end : Place) (frames : List Frame) (scan : Scanned) (before mid : FrameRunning) (was old : World) (so : AppliesFront from end frames scan before mid was old) (apart : scan.next ≡ end → ⊥) where
  -- one is left
  one_left : (f : Frame) × (rest : List Frame) × (so.rest ≡ f ∷ rest)
  one_left = by so.rest refl
    where
      by : (fs : List Frame) → so.rest ≡ fs → (f : Frame) × (rest : List Frame) × (so.rest ≡ f ∷ rest)
      by [] is = absurd (apart (ap (after_frames scan.next) (sym is) ∙ so.to))
      by (f ∷ rest) is = (f, rest, is)

  first_stands : (f : Frame) (rest : List Frame) → so.rest ≡ f ∷ rest → frame_at scan.next (bytes_after scan.next old) ≡ Some f
  first_stands f rest is = (subst (HasFrames all_frames (contents old.log) scan.next) is so.ahead).0

  -- what all of them may change the next one may
  pub allows_next : (may_change : ℕ → Bool) → mid.store.shape ≡ before.store.shape → All (λ frame. AllowsRecord may_change before.store.shape (record_in frame)) frames → AllowsRecord may_change mid.store.shape (record_found (frame_ahead scan old))
  allows_next may_change shape all =
      let one = one_left in
      let P : Frame → Type 0 = λ frame. AllowsRecord may_change before.store.shape (record_in frame) in
      let its : P one.0 = holds_of P so.front one.1 one.0 (subst (All P) (sym so.whole ∙ ap (λ (fs : List Frame). so.front ++ fs) one.2) all) in
      by scan.is_over one.0 (first_stands one.0 one.1 one.2) (subst (λ (k : Shape). AllowsRecord may_change k (record_in one.0)) (sym shape) its)
    where
      by : (is_over : Bool) (f : Frame) → frame_at scan.next (bytes_after scan.next old) ≡ Some f → AllowsRecord may_change mid.store.shape (record_in f)
          → AllowsRecord may_change mid.store.shape (record_found (if is_over then None else frame_at scan.next (bytes_after scan.next old)))
      by true f is its = tt
      by false f is its = subst (λ (o : Option Frame). AllowsRecord may_change mid.store.shape (record_found o)) (sym is) its

  -- the next one was applied
  pub front_more : (later : Scanned) (now : FrameRunning) (new : World) (f : Frame) → mid.store.shape ≡ before.store.shape → frame_ahead scan old ≡ Some f → Advances scan later (Some f) → KeepsLogFrom scan.next.seg mid.log.end.seg old new → mid.log.end.seg ≤ now.log.end.seg
      → ((may_change : ℕ → Bool) → AllowsRecord may_change mid.store.shape (record_found (frame_ahead scan old)) → KeepsPagesBut may_change (pages_in_frames mid.store old) (pages_in_frames now.store new)) → AppliesFront from end frames later before now was new
  front_more later now new f shape stands advances log goes_on keeps =
      let one = one_left in
      let rest = one.1 in
      let going = going_on scan old f stands in
      let same : one.0 ≡ f = same_Some one.0 f (sym (stands_on scan old going ∙ first_stands one.0 rest one.2) ∙ stands) in
      let rest_is : so.rest ≡ f ∷ rest = one.2 ∙ ap (λ (g : Frame). g ∷ rest) same in
      let run = subst (HasFrames all_frames (contents old.log) scan.next) rest_is so.ahead in
      let leads : after_frames (next_place scan.next f) rest ≡ end = ap (after_frames scan.next) (sym rest_is) ∙ so.to in
      record {
        front = so.front ++ f ∷ [];
        rest = rest;
        whole = append_assoc so.front (f ∷ []) rest ∙ ap (λ (fs : List Frame). so.front ++ fs) (sym rest_is) ∙ so.whole;
        next = advances.1 ∙ ap (λ (q : Place). next_place q f) so.next ∙ sym (after_frames-append from so.front (f ∷ []));
        over = advances.2 ∙ ap (λ (q : Place). ends_log q f) so.next ∙ sym (or_false (ends_log (after_frames from so.front) f))
            ∙ ap (λ b. b || (ends_log (after_frames from so.front) f || false)) (sym going ∙ so.over) ∙ sym (over-append from so.front (f ∷ []));
        stood = so.stood;
        ahead = subst (λ (p : Place). HasFrames all_frames (contents new.log) p rest) (sym advances.1)
            (run_on (contents old.log) (contents new.log) (next_place scan.next f) rest end.seg (λ seg low high. log seg (omega (arith, low, next_rises scan.next f)) (omega (arith, high, so.behind))) (omega (arith, ap (λ (p : Place). p.seg) leads)) run.2);
        to = ap (λ (p : Place). after_frames p rest) advances.1 ∙ leads;
        behind = omega (arith, so.behind, goes_on);
        keeps = λ may_change all. kept_then may_change (pages_in_frames before.store was) (pages_in_frames mid.store old) (so.keeps may_change all) (pages_in_frames now.store new) (keeps may_change (allows_next may_change shape all));
      }

  -- the next one was refused, or none stands there
  pub front_refused : (new : World) (at : Place) → at ≡ scan.next → CanBeRefused (record_found (frame_ahead scan old)) → (frame_ahead scan old ≡ None → new ≡ old) → KeepsLogFrom scan.next.seg mid.log.end.seg old new → IsRefusedReplay (contents was.log) from end new at
  front_refused new at here can still log = record {
    before = so.front;
    rest = so.rest;
    stand = subst (HasFrames all_frames (contents was.log) from) (sym so.whole) so.stood;
    to = after_frames-append from so.front so.rest ∙ ap (λ (p : Place). after_frames p so.rest) (sym so.next) ∙ so.to;
    there = sym so.next ∙ sym here;
    not_end = λ is. apart (sym here ∙ is);
    refused = subst (λ (q : Place). Why q) (sym here) (by (frame_ahead scan old) refl can still);
  }
    where
      Why : Place → Type 0
      Why q = IsRefusedAt new q ⊎ EndsBefore so.front from new q

      -- the place is in no later segment than the log's end
      within : scan.next.seg ≤ mid.log.end.seg
      within = omega (arith, rises_from scan.next so.rest, ap (λ (p : Place). p.seg) so.to, so.behind)

      by : (found : Option Frame) → frame_ahead scan old ≡ found → CanBeRefused (record_found found) → (found ≡ None → new ≡ old) → Why scan.next
      by None stands its same =
          inr (λ going. ap (λ (w : World). all_frames.frame_at scan.next.seg scan.next.off (contents w.log scan.next.seg)) (same refl) ∙ sym (stands_on scan old (so.over ∙ going)) ∙ stands)
      by (Some f) stands its same =
          let going = going_on scan old f stands in
          inl (
            f,
            frame_stays scan.next.seg scan.next.off (contents old.log scan.next.seg) (contents new.log scan.next.seg) f (log scan.next.seg (omega arith) within) (sym (stands_on scan old going) ∙ stands),
            its,
          )
