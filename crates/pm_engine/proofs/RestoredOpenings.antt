-- What the steps of an opening leave of a store that was restored.
use Rattle.std.proofs.Common.{◌≡◌, ◌⊎◌, inl, inr, ℕ, zero, suc, ◌+◌, ◌-◌, ◌*◌, ◌≤◌, ◌<◌, List, [], ◌∷◌, ◌++◌, length, take, drop, Option, Some, None, Result, Ok, Err, refl, sym, ap, ◌∙◌, subst, arith, append-nil}
use Rattle.std.specs.Prelude.{◌≢◌, IsErr, IsErrOf, IfErr, slice_get}
use Rattle.std.specs.Option.{option_and_then}
use Rattle.std.proofs.lemmas.Bool.Decides.{eqb_tells}
use Rattle.std.proofs.lemmas.List.{take-append-drop}
use Rattle.std.proofs.lemmas.Option.{same_Some}
use Rattle.pm_types.specs.declared.fault.Field.{Field}
use Rattle.pm_types.specs.declared.fault.OpenFault.{OpenFault}
use Rattle.pm_types.specs.declared.fault.OpenFault.TheVariants as opening
use Rattle.pm_types.specs.declared.fault.StoreFault.{StoreFault}
use Rattle.pm_types.specs.declared.fault.StoreFault.TheVariants.{Failed, Memory, BadPage, BadRecord}
use Rattle.pm_types.specs.declared.page_id.PageId.{PageId}
use Rattle.pm_types.specs.declared.place.Place.{Place}
use Rattle.pm_types.specs.declared.shape.Mark.{Mark}
use Rattle.pm_types.specs.declared.shape.Shape.{Shape}
use Rattle.pm_types.specs.Shapes.{IsShape}
use Rattle.pm_frame.specs.declared.limits.TheConstants.{FRAME_END_MAX}
use Rattle.pm_frame.specs.Frames.{Frame, frame_len}
use Rattle.pm_disk.specs.Files.{File, Cut, bytes_of, content, with_change, all_forced}
use Rattle.pm_disk.specs.Moments.{History, AllMoments}
use Rattle.pm_disk.specs.Worlds.{World}
use Rattle.pm_disk.proofs.Families.{file_here, file_there}
use Rattle.pm_disk.proofs.Files.{content_change}
use Rattle.pm_disk.proofs.Writes.{slice_get-append_left}
use Rattle.pm_model.specs.Eval.{Pairs}
use Rattle.pm_records.specs.FirstRecords.{restart_frame}
use Rattle.pm_records.specs.LogFiles.{contents}
use Rattle.pm_records.specs.LogSteps.{Step, DoesPrefix, cut_at, cut_steps, world_after}
use Rattle.pm_records.specs.Logs.{all_frames, record_in, after_frames, enters_next, next_place, HasFrames, IsLogFrom}
use Rattle.pm_records.specs.Records.{Restart}
use Rattle.pm_records.proofs.RecordOf.{record_of-some}
use Rattle.pm_records.proofs.FrameGrammar.{frame_laws}
use Rattle.pm_records.proofs.Runs.{bool_cases, few_go_on, next-enters, next-stays, rises, rises_from}
use Rattle.pm_segments.specs.Appends.{append_steps}
use Rattle.pm_segments.specs.Ends.{LogEnd, IsLogEnd}
use Rattle.pm_segments.proofs.Emptied.{forced_reads}
use Rattle.pm_segments.proofs.GrownLog.{Extends, extends_same, run_stays}
use Rattle.pm_marks.specs.InForce.{Checkpoint, NoStart, Started, Ended, number_in, replay_of}
use Rattle.pm_core.specs.BasePages.{Partitions, no_pages, base_of}
use Rattle.pm_core.specs.Held.{BeginsWell, in_force, pairs_in, store_shape}
use Rattle.pm_core.specs.LogAlone.{image_of}
use Rattle.pm_core.specs.Machine.{states}
use Rattle.pm_core.specs.Replays.{all_replayed}
use Rattle.pm_core.specs.Starts.{CanBegin, appended}
use Rattle.pm_core.specs.States.{State}
use Rattle.pm_core.specs.Calls.{MakesPrefix}
use Rattle.pm_core.proofs.CrashLaw.{run_start}
use Rattle.pm_core.proofs.LaterImages.{call_up_to}
use Rattle.pm_core.proofs.One.{one_run}
use Rattle.pm_core.proofs.Starting.{restart_of}
use Rattle.pm_redo.specs.Differences.{difference_from}
use Rattle.pm_redo.specs.FoundMarks.{replay_at}
use Rattle.pm_redo.specs.LogEnds.{LogEndsAt}
use Rattle.pm_redo.specs.Rebuilding.{IsSame}
use Rattle.pm_redo.specs.Restoring.{shape_of, found_shape, mark_of, segment_bytes_of, left_state, CrashHolds, IsBadRestore, RestoresAll, RestoresWithin, IsBase, IsFit, ComparesShape, LeavesStore, OnlyCutsLog}
use Rattle.pm_redo.specs.declared.opening.Base.{Base}
use Rattle.pm_redo.proofs.FitMarks.{same_shape}
use Rattle.pm_redo.proofs.Restored.{left_of}
use Rattle.pm_redo.proofs.RestoringSteps.{one_end}
use Rattle.pm_redo.proofs.SoundStores.{no_bad_record}
use Rattle.pm_engine.specs.AppendRuns.{append_all_steps}
use Rattle.pm_engine.specs.FrameOpenings.{HasRecords}
use Rattle.pm_engine.specs.LogCounts.{log_bytes, segments_len}
use Rattle.pm_engine.specs.OpenedStores.{IsRestoredStore}
use Rattle.pm_engine.specs.RunningStores.{number_of}
use Rattle.pm_engine.specs.Openings.{replayed_last, replayed_number, loaded_base, restored_base, IsBadOver, IsRestoredHolding, HasFewNumbers, opened_last, opened_number, IsPlainOpen, ComparesOpening}
use Rattle.pm_engine.specs.Replays.{CrashHoldsMap, IsBadReplay, IsRefusedReplay, LogLeadsTo}
use Rattle.pm_engine.specs.RunningStores.{ended_with}
use Rattle.pm_engine.proofs.LoadedStores.{HasMark}
use Rattle.pm_engine.proofs.OpenedStores.{restored_store, ended_mark}
use Rattle.pm_engine.proofs.LogRooms.{run_room}
use Rattle.pm_engine.proofs.ReplayStarts.{restart_moments}
use Rattle.pm_engine.proofs.RunningLines.{after_whole}
use Rattle.pm_engine.proofs.StillEnds.{ends_still}

-- ---- faults

-- a fault of a call on a host, or out of memory
pub plain_fault : {T : Type 0} (result : Result T StoreFault) → ((id : PageId) → IsErrOf result (BadPage id) → ⊥) → ((at : Place) → IsErrOf result (BadRecord at) → ⊥) → IfErr result (λ fault. IsPlainOpen (opening.Store fault))
plain_fault (Ok x) no_page no_record = tt
plain_fault (Err Failed) no_page no_record = tt
plain_fault (Err (Memory lack)) no_page no_record = tt
plain_fault (Err (BadPage id)) no_page no_record = no_page id refl
plain_fault (Err (BadRecord at)) no_page no_record = no_record at refl

pub plain_open : {T : Type 0} (result : Result T OpenFault) → ((field : Field) → IsErrOf result (opening.Shape field) → ⊥) → ((id : PageId) → IsErrOf result (opening.Store (BadPage id)) → ⊥) → ((at : Place) → IsErrOf result (opening.Store (BadRecord at)) → ⊥)
    → IfErr result IsPlainOpen
plain_open (Ok x) no_shape no_page no_record = tt
plain_open (Err (opening.Shape field)) no_shape no_page no_record = no_shape field refl
plain_open (Err (opening.Store Failed)) no_shape no_page no_record = tt
plain_open (Err (opening.Store (Memory lack))) no_shape no_page no_record = tt
plain_open (Err (opening.Store (BadPage id))) no_shape no_page no_record = no_page id refl
plain_open (Err (opening.Store (BadRecord at))) no_shape no_page no_record = no_record at refl

-- a fault that says that the shape is the wanted one
pub compared_store : (wanted : Shape) (found : Option Shape) (fault : StoreFault) → difference_from found wanted ≡ None → ComparesShape (difference_from found wanted) (opening.Store fault)
compared_store wanted found Failed same = tt
compared_store wanted found (Memory lack) same = tt
compared_store wanted found (BadPage id) same = same
compared_store wanted found (BadRecord at) same = same

-- the same answer, with the same fault
pub leaves_passed : {S T : Type 0} (old new : World) (result : Result S OpenFault) (answer : Result T OpenFault) (fault : OpenFault) → result ≡ Err fault → IsErr answer → IfErr answer (λ f. f ≡ fault) → IfErr result (LeavesStore old new)
    → IfErr answer (LeavesStore old new)
leaves_passed old new result (Ok x) fault was err is leaves = tt
leaves_passed old new result (Err f) fault was err is leaves = subst (LeavesStore old new) (sym is) (subst (λ r. IfErr r (LeavesStore old new)) was leaves)

-- no fault compared what an `Ok` compares
pub compares_failed : {S T : Type 0} (differs : Option Field) (result : Result S OpenFault) (answer : Result T OpenFault) (fault : OpenFault) → result ≡ Err fault → IsErr answer → IfErr answer (λ f. f ≡ fault) → IfErr result (ComparesShape differs)
    → (old new : History) → ((field : Field) → differs ≡ Some field → AllMoments old new (IsSame old.world)) → ComparesOpening {T = T} differs old new answer
compares_failed differs result (Ok x) fault was err is compared old new differing = absurd (cc err)
compares_failed differs result (Err f) fault was err is compared old new differing =
    record { fault = subst (ComparesShape differs) (sym is) (subst (λ r. IfErr r (ComparesShape differs)) was compared); alike = tt; differing = differing }

-- nothing is asked of a shape that doesn't differ
pub none_differs : (differs : Option Field) (old new : History) → differs ≡ None → (field : Field) → differs ≡ Some field → AllMoments old new (IsSame old.world)
none_differs differs old new none field is =
    let both : None ≡ Some field = sym none ∙ is in
    absurd cc

-- ---- the base pages

-- the pages' files are the same
pub base_same : (mark : Option Mark) (old new : World) → new.pages ≡ old.pages → loaded_base mark new ≡ loaded_base mark old
base_same mark old new same = ap (λ (files : ℕ → File). base_of (ended_with mark) no_pages (λ part. content (files part))) same

pub restored_is : (checkpoint : Checkpoint) (mark : Option Mark) (w : World) → mark ≡ mark_of checkpoint → loaded_base mark w ≡ restored_base checkpoint w
restored_is checkpoint mark w is = ap (λ m. loaded_base m w) is ∙ ap (λ c. base_of c no_pages (λ part. content (w.pages part))) (sym (ended_mark checkpoint))

-- the same where its frames stand in other bytes
pub bad_stands : (shape : Shape) (base : Pairs) (log other : ℕ → List ℕ) (from end : Place) (new : World) (at : Place) (bad : IsBadReplay shape base log from end new at) → HasFrames all_frames other from (bad.before ++ bad.rest) → IsBadReplay shape base other from end new at
bad_stands shape base log other from end new at bad stand = record {
  before = bad.before;
  rest = bad.rest;
  stand = stand;
  to = bad.to;
  there = bad.there;
  not_end = bad.not_end;
  map = bad.map;
  holds = bad.holds;
  bad = bad.bad;
}

-- and a record that is refused
pub refused_stands : (log other : ℕ → List ℕ) (from end : Place) (new : World) (at : Place) (refused : IsRefusedReplay log from end new at) → HasFrames all_frames other from (refused.before ++ refused.rest) → IsRefusedReplay other from end new at
refused_stands log other from end new at x stand = record {
  before = x.before;
  rest = x.rest;
  stand = stand;
  to = x.to;
  there = x.there;
  not_end = x.not_end;
  refused = x.refused;
}

-- ---- a log that was cut

-- the segment of its end is cut there
cut_here : (end : Place) (w : World) → contents (world_after cut_steps end w).log end.seg ≡ take end.off (contents w.log end.seg)
cut_here end w =
    ap bytes_of (forced_reads end.seg (cut_at end w)) ∙ ap (λ (f : File). bytes_of (content f)) (file_here w.log end.seg (with_change (w.log end.seg) (Cut end.off)))
    ∙ ap bytes_of (content_change (w.log end.seg) (Cut end.off))

-- and the others are as they were
cut_there : (end : Place) (w : World) (seg : ℕ) → seg ≢ end.seg → contents (world_after cut_steps end w).log seg ≡ contents w.log seg
cut_there end w seg other =
    ap (λ (f : File). bytes_of (content f)) (file_there (cut_at end w).log end.seg seg (all_forced ((cut_at end w).log end.seg)) other)
    ∙ ap (λ (f : File). bytes_of (content f)) (file_there w.log end.seg seg (with_change (w.log end.seg) (Cut end.off)) other)

-- before a restart's cut each segment had what it has after it, and maybe more
cut_extends : (end : Place) (w : World) (seg : ℕ) → Extends (contents (world_after cut_steps end w).log seg) (contents w.log seg)
cut_extends end w seg = elim (eqb_tells seg end.seg) [
  | inl it ↦
      subst (λ (n : ℕ). Extends (contents (world_after cut_steps end w).log n) (contents w.log n)) (sym it.1)
      (drop end.off (contents w.log end.seg), sym (take-append-drop end.off (contents w.log end.seg)) ∙ ap (λ (l : List ℕ). l ++ drop end.off (contents w.log end.seg)) (sym (cut_here end w)))
  | inr other ↦ extends_same _ _ (sym (cut_there end w seg other.1))
]

-- a frame whose bytes are among those that are left stands there
frame_left : (seg off : ℕ) (whole left : List ℕ) (f : Frame) → Extends left whole → off + frame_len f ≤ length left → all_frames.frame_at seg off whole ≡ Some f → all_frames.frame_at seg off left ≡ Some f
frame_left seg off whole left f more within is =
    frame_laws.own seg off whole left f is within (λ i lt. sym (ap (λ (l : List ℕ). slice_get l i) more.1 ∙ slice_get-append_left left more.0 i (omega (arith, lt, within))))

-- a frame ends no later than the place to which it leads
ends_before : (p end : Place) (f : Frame) (fs : List Frame) → after_frames (next_place p f) fs ≡ end → p.seg ≡ end.seg → p.off + frame_len f ≤ end.off
ends_before p end f fs to same = elim (bool_cases (enters_next p f)) [
  | inl enters ↦ absurd (omega (arith, same, rises_from (next_place p f) fs, ap (λ (q : Place). q.seg) to, ap (λ (q : Place). q.seg) (next-enters p f enters)))
  | inr stays ↦
      let next = next-stays p f stays in
      let seg_is = ap (λ (q : Place). q.seg) next in
      let off_is = ap (λ (q : Place). q.off) next in
      let to_seg = ap (λ (q : Place). q.seg) to in
      let to_off = ap (λ (q : Place). q.off) to in
      elim (rises (next_place p f) fs) [
        | inl up ↦ absurd (omega (arith, up, same, seg_is, to_seg))
        | inr on ↦ omega (arith, on.1, off_is, to_off)
      ]
]

-- frames that lead to its end stand still
pub run_left : (end : Place) (w : World) (p : Place) (fs : List Frame) → length (contents (world_after cut_steps end w).log end.seg) ≡ end.off → after_frames p fs ≡ end → HasFrames all_frames (contents w.log) p fs → HasFrames all_frames (contents (world_after cut_steps end w).log) p fs
run_left end w p [] long to run = tt
run_left end w p (f ∷ fs) long to run = (here, run.1, run_left end w (next_place p f) fs long to run.2)
  where
    cut : ℕ → List ℕ
    cut = contents (world_after cut_steps end w).log

    here : all_frames.frame_at p.seg p.off (cut p.seg) ≡ Some f
    here = elim (eqb_tells p.seg end.seg) [
      | inl it ↦ frame_left p.seg p.off (contents w.log p.seg) (cut p.seg) f (cut_extends end w p.seg) (omega (arith, ends_before p end f fs to it.1, long, ap (λ (n : ℕ). length (cut n)) it.1)) run.0
      | inr other ↦ ap (all_frames.frame_at p.seg p.off) (cut_there end w p.seg other.1) ∙ run.0
    ]

-- once it is restored its frames lead to its end
abbrev pub cut_leads : (shape : Shape) (checkpoint : Checkpoint) (old mid : World) (base : Base) → IsFit shape base → IsBase checkpoint shape (contents old.log) mid base → OnlyCutsLog checkpoint old mid → LogLeadsTo base.replay base.log_end base.log mid
cut_leads shape checkpoint old mid base fit is only =
    let fs = is.ends.frames in
    let to : after_frames base.replay fs ≡ base.log_end = sym is.ends.ends in
    let log_is : mid.log ≡ (world_after cut_steps base.log_end old).log = only base.log_end (subst (λ (p : Place). LogEndsAt (contents old.log) p base.log_end) is.replay is.ends) in
    let long : length (contents (world_after cut_steps base.log_end old).log base.log_end.seg) ≡ base.log_end.off =
    ap (λ (files : ℕ → File). length (contents files base.log_end.seg)) (sym log_is)
    ∙ subst (λ (p : Place). length (contents mid.log p.seg) ≡ p.off) (sym fit.ends) is.there.ends in
    record {
      frames = fs;
      run = subst (λ (files : ℕ → File). HasFrames all_frames (contents files) base.replay fs) (sym log_is) (run_left base.log_end old base.replay fs long to is.ends.is_log.run);
      to = to;
      behind = omega (arith, ap (λ (p : Place). p.seg) fit.ends);
    }

-- and they stood in the log that it had
pub opened_records : (shape : Shape) (checkpoint : Checkpoint) (old mid : World) (base : Base) → (is : IsBase checkpoint shape (contents old.log) mid base) → HasRecords checkpoint old is.ends.frames
opened_records shape checkpoint old mid base is = record {
  end = base.log_end;
  ends = subst (λ (p : Place). LogEndsAt (contents old.log) p base.log_end) is.replay is.ends;
  stand = subst (λ (p : Place). HasFrames all_frames (contents old.log) p is.ends.frames) is.replay is.ends.is_log.run;
  to = ap (λ (p : Place). after_frames p is.ends.frames) (sym is.replay) ∙ sym is.ends.ends;
}

-- each segment had what it has once the store is restored, and maybe more
had_more : (shape : Shape) (checkpoint : Checkpoint) (old mid : World) (base : Base) → IsBase checkpoint shape (contents old.log) mid base → OnlyCutsLog checkpoint old mid → (seg : ℕ) → Extends (contents mid.log seg) (contents old.log seg)
had_more shape checkpoint old mid base is only seg =
    let ends = subst (λ (p : Place). LogEndsAt (contents old.log) p base.log_end) is.replay is.ends in
    subst (λ (files : ℕ → File). Extends (contents files seg) (contents old.log seg)) (sym (only base.log_end ends)) (cut_extends base.log_end old seg)

-- a record that is bad in what is left was so before
pub bad_uncut : (shape : Shape) (checkpoint : Checkpoint) (old mid new : World) (base : Base) (at : Place) → IsBase checkpoint shape (contents old.log) mid base → OnlyCutsLog checkpoint old mid
    → IsBadOver shape (loaded_base base.mark mid) (contents mid.log) base.replay base.log_end new at → IsBadOver shape (restored_base checkpoint mid) (contents old.log) (replay_of checkpoint) base.log_end new at
bad_uncut shape checkpoint old mid new base at is only bad =
    let all : List Frame = bad.before ++ bad.rest in
    let stand : HasFrames all_frames (contents old.log) base.replay all =
    run_stays (contents mid.log) (contents old.log) base.replay all base.log_end.seg (λ seg le. had_more shape checkpoint old mid base is only seg) (omega (arith, ap (λ (p : Place). p.seg) bad.to)) bad.stand in
    subst (λ (q : Partitions × Place). IsBadOver shape q.0 (contents old.log) q.1 base.log_end new at) {x = (loaded_base base.mark mid, base.replay)} {y = (restored_base checkpoint mid, replay_of checkpoint)} (λ i. (restored_is checkpoint base.mark mid is.mark i, is.replay i))
    (bad_stands shape (pairs_in shape.partitions (loaded_base base.mark mid)) (contents mid.log) (contents old.log) base.replay base.log_end new at bad stand)

-- the same of a record that is refused
pub refused_uncut : (shape : Shape) (checkpoint : Checkpoint) (old mid new : World) (base : Base) (at : Place) → IsBase checkpoint shape (contents old.log) mid base → OnlyCutsLog checkpoint old mid
    → IsRefusedReplay (contents mid.log) base.replay base.log_end new at → IsRefusedReplay (contents old.log) (replay_of checkpoint) base.log_end new at
refused_uncut shape checkpoint old mid new base at is only x =
    let all : List Frame = x.before ++ x.rest in
    let stand : HasFrames all_frames (contents old.log) base.replay all =
    run_stays (contents mid.log) (contents old.log) base.replay all base.log_end.seg (λ seg le. had_more shape checkpoint old mid base is only seg) (omega (arith, ap (λ (p : Place). p.seg) x.to)) x.stand in
    subst (λ (p : Place). IsRefusedReplay (contents old.log) p base.log_end new at) is.replay (refused_stands (contents mid.log) (contents old.log) base.replay base.log_end new at x stand)

pub load_moments : (last highest : ℕ) (wanted : Shape) (told : List ℕ → ℕ) (shape : Shape) (pairs : Pairs) (log : LogEnd) (mark : Option Mark) (s : State) (old new : History) → IsRestoredHolding last highest wanted told shape pairs log mark s old.world
    → AllMoments old new (DoesPrefix (append_all_steps log (restart_frame shape ∷ [])) log.end old.world) → AllMoments old new (CrashHoldsMap (last + 1) highest wanted shape pairs)
load_moments last highest wanted told shape pairs log mark s old new holding moments =
    restart_moments last highest wanted told shape pairs log mark s old new holding
    (subst (λ (steps : List Step). AllMoments old new (DoesPrefix steps log.end old.world)) (append-nil (append_steps log (restart_frame shape))) moments)

-- the number of the checkpoint in force
pub number_mark : (checkpoint : Checkpoint) → number_of (mark_of checkpoint) ≡ number_in checkpoint
number_mark NoStart = refl
number_mark (Started mark) = refl
number_mark (Ended mark) = refl

-- what holds at each moment, by two things that do
both : (old new : History) (P Q R : World → Type 0) → ((w : World) → P w → Q w → R w) → AllMoments old new P → AllMoments old new Q → AllMoments old new R
both old new P Q R join one two = record { later = one.later; each = λ w was. join w (one.each w was) (two.each w was); before = λ t w le was. by t w (one.before t w le was) (two.before t w le was) }
  where
    by : (t : ℕ) (w : World) → old.was t w ⊎ P w → old.was t w ⊎ Q w → old.was t w ⊎ R w
    by t w (inl was) q = inl was
    by t w (inr p) (inl was) = inl was
    by t w (inr p) (inr q) = inr (join w p q)

-- ---- a sound store that is restored

pub some_shape : (checkpoint : Checkpoint) (wanted shape : Shape) (log : ℕ → List ℕ) (frames : List Frame) → IsShape wanted → HasMark wanted (mark_of checkpoint) → IsLogFrom all_frames log (replay_of checkpoint) frames → BeginsWell checkpoint frames
    → shape ≡ store_shape wanted checkpoint frames → difference_from (found_shape checkpoint log) wanted ≡ None → shape ≡ wanted
some_shape (Started mark) wanted shape log frames sound fits is_log begins told same = told ∙ fits.1
some_shape (Ended mark) wanted shape log frames sound fits is_log begins told same = told ∙ fits.1
some_shape NoStart wanted shape log [] sound fits is_log begins told same = told
some_shape NoStart wanted shape log (f ∷ frames) sound fits is_log begins told same =
    let found : record_in f ≡ Some (Restart shape) = restart_of wanted shape (record_in f) begins told in
    let first : found_shape NoStart log ≡ Some shape = ap (λ (o : Option Frame). shape_of (option_and_then record_in o)) is_log.run.0 ∙ ap shape_of found in
    same_shape shape wanted (record_of-some f.kind f.payload (Restart shape) found).0 sound (ap (λ (o : Option Shape). difference_from o wanted) (sym first) ∙ same)

sized : (checkpoint : Checkpoint) (wanted : Shape) → HasMark wanted (mark_of checkpoint) → segment_bytes_of checkpoint wanted.segment_bytes ≡ wanted.segment_bytes
sized NoStart wanted fits = refl
sized (Started mark) wanted fits = ap (λ (k : Shape). k.segment_bytes) fits.1
sized (Ended mark) wanted fits = ap (λ (k : Shape). k.segment_bytes) fits.1

replay_early : (checkpoint : Checkpoint) (wanted : Shape) → HasMark wanted (mark_of checkpoint) → (replay_of checkpoint).off ≤ FRAME_END_MAX
replay_early NoStart wanted fits = omega arith
replay_early (Started mark) wanted fits = fits.0.replay.within
replay_early (Ended mark) wanted fits = fits.0.replay.within

take_none : (n : ℕ) → take {A = Frame} n [] ≡ []
take_none zero = refl
take_none (suc n) = refl

module _ (wanted : Shape) (told : List ℕ → ℕ) (shape : Shape) (pairs : Pairs) (old new : History) (can : CanBegin wanted told old.world shape pairs) (low : HasFewNumbers can) (sound : IsShape wanted) where
  abbrev checkpoint : Checkpoint
  checkpoint = in_force (image_of old.world)

  abbrev s : State
  s = left_state can

  -- what a crash leaves while it is restored
  pub restore_moments : RestoresWithin wanted told shape pairs s old new → AllMoments old new (CrashHoldsMap (opened_last can + 1) (opened_number can) wanted shape pairs)
  restore_moments within =
      let begun = within.begun in
      let left = left_of wanted told old.world shape pairs can in
      let ends : (states begun.steps s old.world).end ≡ s.end =
      ends_still told begun.steps s old.world begun.can left.nothing_pending (λ sealed. absurd (cc (sym left.uncut ∙ sealed))) (omega (arith, ap length begun.added)) in
      both old new (MakesPrefix begun.steps s old.world) (CrashHolds wanted shape pairs) (CrashHoldsMap (opened_last can + 1) (opened_number can) wanted shape pairs)
      (λ w some holds. record {
        holds = holds;
        up_to = λ image leaves honest held map sound.
            let most = call_up_to wanted told s old.world begun.steps left.stands left.alone begun.can w some image leaves honest held map sound in
            record {
              segment = omega (arith, most.segment, ap (λ (p : Place). p.seg) ends, ap (λ (p : Place). p.seg) left.at_end);
              checkpoint = omega (arith, most.checkpoint, begun.number);
            };
      }) begun.moments within.crash

  pub never_bad_record : (at : Place) → IsBadRestore checkpoint (contents old.world.log) at → ⊥
  never_bad_record at bad = no_bad_record checkpoint (contents old.world.log) can.sound.holds.rebuilt can.sound.holds.frames can.sound.holds.rebuilt_are can.sound.holds.log can.sound.holds.reaches can.sound.holds.begins at bad

  module _ (base : Base) (fit : IsFit wanted base) (is : IsBase checkpoint wanted (contents old.world.log) new.world base) (same : difference_from (found_shape checkpoint (contents old.world.log)) wanted ≡ None) where
    fits : HasMark wanted (mark_of checkpoint)
    fits = subst (HasMark wanted) is.mark fit.marked

    pub shape_is : shape ≡ wanted
    shape_is = some_shape checkpoint wanted shape (contents old.world.log) can.sound.holds.frames sound fits can.sound.holds.log can.sound.holds.begins can.sound.holds.told same

    at_end : base.log.end ≡ s.at
    at_end =
        sym fit.ends
        ∙ one_end (contents old.world.log) (replay_of checkpoint) base.log_end s.at (subst (λ (p : Place). LogEndsAt (contents old.world.log) p base.log_end) is.replay is.ends) (left_of wanted told old.world shape pairs can).ends

    early : base.log.end.off ≤ FRAME_END_MAX
    early =
        let frames = can.sound.holds.frames in
        let goes_on = few_go_on (replay_of checkpoint) frames (omega (arith, low.in_log)) in
        omega (arith, run_room (contents old.world.log) (replay_of checkpoint) frames (replay_early checkpoint wanted fits) can.sound.holds.log.run goes_on, ap (λ (p : Place). p.off) at_end)

    limits : IsLogEnd base.log
    limits =
        let size : base.log.segment_bytes ≡ wanted.segment_bytes = ap (λ (l : LogEnd). l.segment_bytes) is.cut ∙ sized checkpoint wanted fits in
        record { kept = is.there.kept; within = omega (arith, early); size_from = omega (arith, size, sound.segment_bytes_from); size_to = omega (arith, size, sound.segment_bytes_to) }

    number_is : number_of base.mark ≡ number_in checkpoint
    number_is = ap number_of is.mark ∙ number_mark checkpoint

    -- the frames from the replay place on are as many as before the restart
    frames_room : RestoresAll wanted told checkpoint shape pairs s old new → (fs : List Frame) → HasFrames all_frames (contents new.world.log) (replay_at base.mark) fs → after_frames (replay_at base.mark) fs ≡ base.log.end
        → (base.log.end.seg + (1 + 33 * length fs) ≤ replayed_last can) × (number_of base.mark + length fs ≤ replayed_number can)
    frames_room all fs run to =
        let start : replay_at base.mark ≡ replay_of checkpoint = sym fit.replay ∙ is.replay in
        let leads : after_frames (replay_of checkpoint) fs ≡ s.at = ap (λ (p : Place). after_frames p fs) (sym start) ∙ to ∙ at_end in
        let before : HasFrames all_frames (contents old.world.log) (replay_of checkpoint) fs =
        run_stays (contents new.world.log) (contents old.world.log) (replay_of checkpoint) fs s.at.seg
        (λ seg le. subst (λ (l : ℕ → File). Extends (contents l seg) (contents old.world.log seg)) (sym all.made.log) (cut_extends s.at old.world seg))
        (omega (arith, ap (λ (p : Place). p.seg) leads)) (subst (λ (p : Place). HasFrames all_frames (contents new.world.log) p fs) start run) in
        let same : fs ≡ can.sound.holds.frames = one_run (contents old.world.log) (replay_of checkpoint) fs can.sound.holds.frames before can.sound.holds.log.run leads in
        (omega (arith, ap (λ (p : Place). p.seg) at_end, ap (λ (l : List Frame). length l) same), omega (arith, number_is, ap (λ (l : List Frame). length l) same))

    pub holding : RestoresAll wanted told checkpoint shape pairs s old new → (t : State) × IsRestoredHolding (replayed_last can) (replayed_number can) wanted told wanted pairs base.log base.mark t new.world
    holding all =
        let t = states all.made.steps s old.world in
        let restored = all.made.restored in
        let t_shape : t.shape ≡ wanted = restored.shape ∙ shape_is in
        let restored_one = restored_store wanted told checkpoint s t new.world base.log restored all.stands (subst IsShape (sym t_shape) sound) limits at_end early (omega (arith, low.in_log, ap (λ (p : Place). p.seg) at_end)) all.quiet in
        let none : appended t ≡ [] = ap (λ (l : List Frame). l ++ t.pending) restored.order ∙ restored.nothing_pending in
        let first : t.first ≡ pairs = (run_start all.made.steps s old.world).first in (
          t,
          record {
            store = subst (λ (q : Shape × Option Mark). IsRestoredStore wanted told q.0 base.log q.1 t new.world) {x = (t.shape, mark_of checkpoint)} {y = (wanted, base.mark)} (λ i. (t_shape i, sym is.mark i)) restored_one;
            map = restored.map;
            keeps = λ n le p is_so.
                let whole : Some pairs ≡ Some p = ap (λ (q : Pairs). all_replayed wanted [] (Some q)) (sym first) ∙ ap (λ (l : List Frame). all_replayed wanted l (Some t.first)) (sym (ap (take n) none ∙ take_none n)) ∙ is_so in
                after_whole wanted pairs [] p (sym (same_Some pairs p whole));
            below = omega (arith, ap (λ (p : Place). p.seg) at_end);
            room = λ fs run to. frames_room all fs run to;
            last_fits = omega (arith, low.in_log);
            number = omega (arith, number_is);
            highest_fits = omega (arith, low.in_marks);
          },
        )

-- the field that a fault names
pub field_named : {T : Type 0} (differs : Option Field) (result : Result T OpenFault) (field : Field) → IsErrOf result (opening.Shape field) → IfErr result (ComparesShape differs) → differs ≡ Some field
field_named {T} differs result field is compared = subst (λ (r : Result T OpenFault). IfErr r (ComparesShape differs)) is compared

-- the bytes that stand up to where the log ends are those of before it was cut
segments_same : (a b : ℕ → List ℕ) (first n : ℕ) → ((seg : ℕ) → first ≤ seg → seg < first + n → a seg ≡ b seg) → segments_len a first n ≡ segments_len b first n
segments_same a b first zero same = refl
segments_same a b first (suc n) same = λ i. segments_same a b first n (λ seg le lt. same seg le (omega (arith, lt))) i + length (same (first + n) (omega arith) (omega arith) i)

pub bytes_uncut : (shape : Shape) (checkpoint : Checkpoint) (old mid : World) (base : Base) (end : Place) → IsBase checkpoint shape (contents old.log) mid base → OnlyCutsLog checkpoint old mid → LogEndsAt (contents old.log) (replay_of checkpoint) end
    → log_bytes (contents mid.log) base.replay base.log_end ≡ log_bytes (contents old.log) (replay_of checkpoint) end
bytes_uncut shape checkpoint old mid base end is only ends =
    let there = subst (λ (p : Place). LogEndsAt (contents old.log) p base.log_end) is.replay is.ends in
    let same : end ≡ base.log_end = one_end (contents old.log) (replay_of checkpoint) end base.log_end ends there in
    let log_is : mid.log ≡ (world_after cut_steps base.log_end old).log = only base.log_end there in
    (λ i. log_bytes (contents (log_is i)) (is.replay i) base.log_end)
    ∙ cut_bytes (replay_of checkpoint) base.log_end
    ∙ ap (log_bytes (contents old.log) (replay_of checkpoint)) (sym same)
  where
    cut_bytes : (from to : Place) → log_bytes (contents (world_after cut_steps to old).log) from to ≡ log_bytes (contents old.log) from to
    cut_bytes from to = ap (λ (n : ℕ). n + to.off - from.off)
        (segments_same (contents (world_after cut_steps to old).log) (contents old.log) from.seg (to.seg - from.seg) (λ seg le lt. cut_there to old seg (λ is. absurd (omega (arith, le, lt, is)))))
