-- A store that was restored runs, once its RESTART is appended.
use Rattle.std.proofs.Common.{◌≡◌, ◌⊎◌, inl, inr, ℕ, ◌+◌, ◌<◌, ◌≤◌, Bool, true, false, List, [], ◌∷◌, ◌++◌, length, Option, Some, None, refl, sym, ap, ◌∙◌, subst, arith, append_assoc, append-nil}
use Rattle.std.specs.Prelude.{◌||◌, ◌==◌, nat_lt, if◌then◌else◌, IsSome, is_some}
use Rattle.std.proofs.lemmas.Bool.Decides.{nat_tests}
use Rattle.pm_types.specs.declared.place.Place.{Place}
use Rattle.pm_types.specs.declared.shape.Mark.{Mark}
use Rattle.pm_types.specs.declared.shape.Shape.{Shape}
use Rattle.pm_types.specs.Shapes.{IsShape}
use Rattle.pm_frame.specs.declared.limits.TheConstants.{FRAME_END_MAX}
use Rattle.pm_frame.specs.Frames.{Frame}
use Rattle.pm_disk.specs.Files.{bytes_of, content}
use Rattle.pm_disk.specs.Images.{NothingPending}
use Rattle.pm_disk.specs.Worlds.{World}
use Rattle.pm_model.specs.Eval.{Pairs}
use Rattle.pm_records.specs.FirstRecords.{restart_frame}
use Rattle.pm_records.specs.LogFiles.{HasLasting, IsRecordFrame, Written}
use Rattle.pm_records.specs.LogSteps.{Step, Append, frames_in, end_after, written_after}
use Rattle.pm_records.specs.Logs.{place, all_frames, record_in, seal_frame, frames_len, HasNoSeal}
use Rattle.pm_records.specs.Records.{Record, Restart, payload_of}
use Rattle.pm_records.specs.Shapes.{shape_bytes}
use Rattle.pm_records.proofs.RecordOf.{record_of-payload}
use Rattle.pm_records.proofs.Runs.{bool_cases, rises_from}
use Rattle.pm_records.proofs.Writing.{CanAll as CanWriteAll, frames_after, frames_in-append}
use Rattle.pm_segments.specs.Appends.{can_seal, enter_steps, roll_steps, room_steps, append_steps, grown}
use Rattle.pm_segments.specs.Ends.{LogEnd, LogIsOpen, IsLogEnd, has_room}
use Rattle.pm_segments.proofs.AppendLaw.{append_can}
use Rattle.pm_segments.proofs.OpenLog.{append_open}
use Rattle.pm_pages.specs.Rows.{Partition, page_count}
use Rattle.pm_pages.specs.WellFormed.{IsWellFormed}
use Rattle.pm_marks.specs.InForce.{Checkpoint, NoStart, Started, Ended, replay_of}
use Rattle.pm_marks.specs.Slots.{slot_of, bytes_in_slot}
use Rattle.pm_marks.proofs.SlotMarks.{mark_in-some}
use Rattle.pm_core.specs.BasePages.{Partitions, no_pages, laid_over, counted, page_in_file, pages_of}
use Rattle.pm_core.specs.Held.{AllWellFormed}
use Rattle.pm_core.specs.Machine.{CanAppend, CanAll, states, worlds}
use Rattle.pm_core.specs.PageLaws.{Grows}
use Rattle.pm_core.specs.Replays.{replayed, all_replayed}
use Rattle.pm_core.specs.Rounds.{on_log}
use Rattle.pm_core.specs.Stands.{Stands, IsGood, IsViewOf, MarksSay, RebuiltIsLasting, BeginIsLasting, soon_or}
use Rattle.pm_core.specs.States.{State, View, AllInGrammar}
use Rattle.pm_core.proofs.CrashLaw.{run_stands}
use Rattle.pm_core.proofs.LogSteps.{written_by}
use Rattle.pm_core.proofs.Ranges.{page_within, page_there}
use Rattle.pm_core.proofs.Replaying.{grammar_append}
use Rattle.pm_redo.specs.Restoring.{IsRestored, with_end, mark_of}
use Rattle.pm_ckpt.specs.Checkpoints.{IsBegunLog}
use Rattle.pm_ckpt.specs.Marked.{from_after}
use Rattle.pm_ckpt.proofs.GoingOn.{begun_append, steps_go, front_replays}
use Rattle.pm_ckpt.proofs.Opening.{grown_end}
use Rattle.pm_ckpt.proofs.Whole.{logs_end}
use Rattle.pm_engine.specs.OpenedStores.{BeginWithFirst, IsRestoredStore, opened_store}
use Rattle.pm_engine.specs.RunningStores.{LogRuns, OnlyLastPending, RunsOver, IsMarkIn, HasSegmentsFor, ended_with}
use Rattle.pm_engine.proofs.RunningCheckpoints.{end_ready}
use Rattle.pm_engine.proofs.RunningLogs.{state_follows, leads_on, newest_on, begun_on, append_replays, open_as, seal_is}
use Rattle.pm_engine.proofs.RunningQuiet.{steps_quiet, append_leaves}
use Rattle.pm_engine.proofs.TrackedFrames.{tracks_restart}

-- ---- pages that count

within : (b : Bool) (o : Option (List ℕ)) (page : List ℕ) → (if b then o else None) ≡ Some page → o ≡ Some page
within true o page is = is
within false o page is = absurd cc

within_some : (b : Bool) (o : Option (List ℕ)) → IsSome (if b then o else None) → IsSome o
within_some true o some = some
within_some false o some = absurd cc

twice : (b : Bool) (o : Option (List ℕ)) → (if b then (if b then o else None) else None) ≡ (if b then o else None)
twice true o = refl
twice false o = refl

pub counted_twice : (pages : Partition) → counted (counted pages) ≡ counted pages
counted_twice pages = λ i index. twice (index == 0 || nat_lt index (page_count pages)) (pages index) i

counted_grows : (pages : Partition) → ((index : ℕ) → IsSome (pages index) → IsSome (pages 0)) → Grows (counted pages) pages
counted_grows pages first = record {
  stays = λ index page is. within (index == 0 || nat_lt index (page_count pages)) (pages index) page is;
  comes = λ index is. by (pages index) (λ some. first index some);
}
  where
    by : (o : Option (List ℕ)) → (IsSome o → IsSome (pages 0)) → (o ≡ None) ⊎ IsSome (pages 0)
    by None first = inl refl
    by (Some page) first = inr (first refl)

-- a file that has a page has its first one
pub file_begins : (size : ℕ) (files : ℕ → Option (List ℕ)) → BeginWithFirst (pages_of size files)
file_begins size files part index some = by (page_in_file size (files part) index) refl some
  where
    by : (o : Option (List ℕ)) → page_in_file size (files part) index ≡ o → IsSome o → IsSome (page_in_file size (files part) 0)
    by None is some = absurd cc
    by (Some page) is some =
        let long = (page_within size index (files part) page is).0 in
        ap is_some (page_there size 0 (files part) (omega (arith, long)))

-- ---- a restart

pub ended_mark : (checkpoint : Checkpoint) → with_end checkpoint ≡ ended_with (mark_of checkpoint)
ended_mark NoStart = refl
ended_mark (Started mark) = refl
ended_mark (Ended mark) = refl

-- the state that a restart leaves is one of a restored store
pub restored_store : (wanted : Shape) (told : List ℕ → ℕ) (checkpoint : Checkpoint) (s t : State) (w : World) (log : LogEnd) → IsRestored checkpoint s t → Stands wanted told t w → IsShape t.shape → IsLogEnd log → log.end ≡ s.at
    → log.end.off ≤ FRAME_END_MAX → HasSegmentsFor log 1 → NothingPending w → IsRestoredStore wanted told t.shape log (mark_of checkpoint) t w
restored_store wanted told checkpoint s t w log is stands sound limits end early segments quiet = record {
  quiet = quiet;
  stands = stands;
  shaped = refl;
  is_shape = sound;
  checkpoint = ap (λ v. v.checkpoint) is.now ∙ ended_mark checkpoint;
  alone = is.alone;
  ends = is.at_end ∙ sym end;
  is_open = record {
    limits = limits;
    ready = is.ready;
    plain = subst HasNoSeal (sym is.nothing_pending) tt;
    room_to_seal = early;
    numbered = omega (arith, segments);
  };
  nothing_pending = is.nothing_pending;
  first_pages = subst BeginWithFirst (sym is.files.1) (file_begins t.shape.page_size is.files.0);
}

-- ---- the log

some_record : (shape : Shape) (found : Option Record) (pairs now : Pairs) → replayed shape found pairs ≡ Some now → IsSome found
some_record shape None pairs now is = absurd cc
some_record shape (Some found) pairs now is = refl

replays_grammar : (shape : Shape) (fs : List Frame) (pairs now : Pairs) → all_replayed shape fs (Some pairs) ≡ Some now → AllInGrammar fs
replays_grammar shape [] pairs now is = tt
replays_grammar shape (f ∷ fs) pairs now is =
    let front = front_replays shape (f ∷ []) fs pairs now is in
    (some_record shape (record_in f) pairs front.0 front.1, replays_grammar shape fs front.0 now front.2)

room_grammar : (log : LogEnd) (n : ℕ) → AllInGrammar (frames_in (room_steps log n))
room_grammar log n = by (has_room log n) (can_seal log.end)
  where
    by : (room seals : Bool) → AllInGrammar (frames_in (if room then [] else (if seals then Append seal_frame ∷ [] else []) ++ enter_steps))
    by true seals = tt
    by false true = (ap is_some seal_is, tt)
    by false false = tt

module _ (shape : Shape) (is_shape : IsShape shape) where
  pub restart_is : record_in (restart_frame shape) ≡ Some (Restart shape)
  restart_is = record_of-payload (Restart shape) is_shape

  restart_short : length (restart_frame shape).payload ≤ 100
  unfolding payload_of shape_bytes
  restart_short = omega arith

  pub restart_fits : IsRecordFrame (restart_frame shape)
  restart_fits = record { known_from = omega arith; known_to = omega arith; short = omega (arith, restart_short) }

-- ---- the store

module _ (wanted : Shape) (told : List ℕ → ℕ) (shape : Shape) (log : LogEnd) (mark : Option Mark) (s : State) (w : World) (restored : IsRestoredStore wanted told shape log mark s w) (segments : HasSegmentsFor log 1) where
  abbrev f : Frame
  f = restart_frame shape

  abbrev len : ℕ
  len = length f.payload

  abbrev steps : List Step
  steps = append_steps log f

  abbrev t : State
  t = states (on_log steps) s w

  abbrev v : World
  v = worlds (on_log steps) s w

  pub good : IsGood wanted s w.log w.pages s.now
  good = restored.stands.good s.now (subst (λ o. IsViewOf s.now o s.now) (sym restored.alone) refl)

  is_mark : IsMarkIn mark
  is_mark = by mark (restored.checkpoint)
    where
      says : MarksSay s.now.checkpoint (bytes_of (content w.starts)) (bytes_of (content w.ends))
      says = subst (λ (o : Option View). MarksSay (soon_or o s.now).checkpoint (bytes_of (content w.starts)) (bytes_of (content w.ends))) restored.alone restored.stands.reads

      by : (m : Option Mark) → s.now.checkpoint ≡ ended_with m → IsMarkIn m
      by None is = tt
      by (Some m) is =
          let there = subst (λ c. MarksSay c (bytes_of (content w.starts)) (bytes_of (content w.ends))) is says in
          (mark_in-some (slot_of m.number) (bytes_in_slot (slot_of m.number) (bytes_of (content w.starts))) m there.0.there).0

  from_one : 1 ≤ s.at.seg
  from_one =
      let rises : (replay_of s.now.checkpoint).seg ≤ s.at.seg = subst (λ (p : Place). (replay_of s.now.checkpoint).seg ≤ p.seg) good.replay.to (rises_from (replay_of s.now.checkpoint) good.frames) in
      by mark is_mark (subst (λ c. (replay_of c).seg ≤ s.at.seg) restored.checkpoint rises)
    where
      by : (m : Option Mark) → IsMarkIn m → (replay_of (ended_with m)).seg ≤ s.at.seg → 1 ≤ s.at.seg
      by None is le = le
      by (Some m) is le = omega (arith, le, is.replay.numbered)

  -- the frames that lead to the log's end
  found : (fs : List Frame) × HasLasting all_frames w.log s.low s.at (from_after mark) fs × AllInGrammar fs
  found = by mark restored.checkpoint
    where
      by : (m : Option Mark) → s.now.checkpoint ≡ ended_with m → (fs : List Frame) × HasLasting all_frames w.log s.low s.at (from_after m) fs × AllInGrammar fs
      by None is =
          (good.frames, subst (λ c. HasLasting all_frames w.log s.low s.at (replay_of c) good.frames) is good.replay, replays_grammar s.shape good.frames good.based s.map good.holds)
      by (Some m) is = subst (λ c. BeginIsLasting c w.log s.low s.at) is good.begins

  abbrev lasting : List Frame
  lasting = found.0

  abbrev t0 : Written
  t0 = written_by s lasting

  open0 : LogIsOpen log t0
  open0 = open_as log s lasting restored.is_open

  fits : IsRecordFrame f
  fits = restart_fits shape restored.is_shape

  can_write : CanWriteAll 0 steps log.end t0
  can_write = append_can log f fits t0 open0 0

  can_here : CanWriteAll 0 steps s.end t0
  can_here = subst (λ (p : Place). CanWriteAll 0 steps p t0) (sym restored.ends) can_write

  no_map : all_replayed s.shape (f ∷ []) (Some s.map) ≡ Some s.map
  no_map = ap (λ o. replayed s.shape o s.map) (restart_is shape restored.is_shape)

  replays : all_replayed s.shape (s.pending ++ frames_in steps) (Some s.map) ≡ Some s.map
  replays = ap (λ l. all_replayed s.shape (l ++ frames_in steps) (Some s.map)) restored.nothing_pending ∙ append_replays log f s.shape s.map ∙ no_map

  -- its guards are met, and the log has its RESTART then
  abbrev Goes : List Step → Type 0
  Goes steps = CanAll told (on_log steps) s w × IsBegunLog (states (on_log steps) s w).at (states (on_log steps) s w).pending

  at_end : s.end ≡ place s.at.seg (s.at.off + frames_len s.pending)
  at_end = end_ready s.tail s.end s.at s.pending restored.is_open.ready restored.stands.ends

  goes : Goes steps
  goes = elim (bool_cases (has_room log len)) [
    | inl room ↦
        let same : steps ≡ Append f ∷ [] = ap (λ (b : Bool). let first : List Step = if b then [] else roll_steps log.end in first ++ Append f ∷ []) room in
        let can = subst (λ l. CanWriteAll 0 l s.end t0) same can_here in
        let can_append : CanAppend f s = record {
          ready = can.0.0;
          open_segment = can.0.1;
          fits = can.0.2;
          inner = can.0.3;
          in_grammar = ap is_some (restart_is shape restored.is_shape);
          not_full = ap is_some (ap (λ l. all_replayed s.shape (l ++ f ∷ []) (Some s.map)) restored.nothing_pending ∙ no_map);
          restart_first = λ at_first none. restart_is shape restored.is_shape ∙ ap (λ k. Some (Restart k)) (sym restored.shaped);
        } in
        subst Goes (sym same) ((can_append, tt), begun_append s.at s.pending f from_one)
    | inr full ↦
        let far = restart_short shape restored.is_shape in
        let size = restored.is_open.limits.size_from in
        let past : 0 < log.end.off = grind (arith, nat_tests) in
        let begun : IsBegunLog s.at s.pending = record {
          from_one = from_one;
          has_frame = λ here none.
              let end : log.end.off ≡ s.at.off + frames_len s.pending = ap (λ (p : Place). p.off) (sym restored.ends ∙ at_end) in
              absurd (omega (arith, past, end, ap frames_len none, ap (λ (p : Place). p.off) here));
        } in
        (steps_go told s.map steps lasting s w can_here begun replays, begun_on steps s w begun)
  ]

  pub opened_goes : CanAll told (on_log steps) s w
  opened_goes = goes.0

  abbrev older : List Frame
  older = lasting ++ frames_in (room_steps log len)

  quiet_before : OnlyLastPending log w
  quiet_before = record { segments = λ n apart. restored.quiet.log n; starts = restored.quiet.starts; ends = restored.quiet.ends }

  quiet_after : OnlyLastPending (grown log f) v
  quiet_after = steps_quiet steps log (grown log f) s w restored.ends quiet_before (append_leaves log f w quiet_before.segments)

  log_runs : LogRuns wanted told (opened_store shape log mark s) (older ++ f ∷ []) s.map t v
  log_runs =
      let follows = state_follows steps lasting s w in
      let is_open = append_open log f fits t0 open0 (omega (arith, segments)) in
      let frames : frames_in steps ≡ frames_in (room_steps log len) ++ f ∷ [] = frames_in-append (room_steps log len) (Append f ∷ []) in
      record {
        stands = run_stands wanted told (on_log steps) s w restored.stands opened_goes;
        shape = follows.shape ∙ restored.shaped;
        checkpoint = ap (λ c. c.checkpoint) follows.now ∙ restored.checkpoint;
        alone = follows.soon ∙ restored.alone;
        ends = logs_end steps s w ∙ ap (end_after steps) restored.ends ∙ grown_end log f;
        is_open = record {
          limits = is_open.limits;
          ready = follows.tail ∙ is_open.ready;
          plain = subst HasNoSeal (sym follows.pending) is_open.plain;
          room_to_seal = is_open.room_to_seal;
          numbered = is_open.numbered;
        };
        begun = goes.1;
        lasting = (written_after steps t0).lasting;
        leads = leads_on wanted told s w restored.stands steps (from_after mark) lasting found.1 can_here;
        all = ap (λ l. (written_after steps t0).lasting ++ l) follows.pending ∙ frames_after steps t0
            ∙ ap (λ l. (lasting ++ l) ++ frames_in steps) restored.nothing_pending ∙ ap (λ l. l ++ frames_in steps) (append-nil lasting)
            ∙ ap (λ l. lasting ++ l) frames ∙ sym (append_assoc lasting (frames_in (room_steps log len)) (f ∷ []));
        newest = ap (λ (k : Shape). all_replayed k t.pending (Some t.map)) follows.shape ∙ newest_on steps s w s.map replays;
        quiet = quiet_after;
      }

  pub not_rebuilt : s.now.rebuilt ≡ no_pages
  not_rebuilt = by mark restored.checkpoint
    where
      by : (m : Option Mark) → s.now.checkpoint ≡ ended_with m → s.now.rebuilt ≡ no_pages
      by None is = subst (λ c. RebuiltIsLasting c w.log s.low s.at s.now.rebuilt) is good.rebuilt_lasts
      by (Some m) is = subst (λ c. RebuiltIsLasting c w.log s.low s.at s.now.rebuilt) is good.rebuilt_lasts

  pub well : AllWellFormed shape s.files
  well =
      subst (λ (k : Shape). AllWellFormed k s.files) restored.shaped
      (subst (λ (rebuilt : Partitions). AllWellFormed s.shape (laid_over rebuilt s.files)) not_rebuilt good.based_is.well_formed)

  pub opened_runs : RunsOver wanted told (opened_store shape log mark s) s.map t v
  opened_runs = record {
    is_shape = restored.is_shape;
    is_mark = is_mark;
    frames = older ++ f ∷ [];
    log = log_runs;
    files = λ part. counted (s.files part);
    tracks = tracks_restart shape older f shape (λ part. counted (s.files part)) (λ part. counted (s.files part)) (grammar_append lasting (frames_in (room_steps log len)) found.2 (room_grammar log len))
        (restart_is shape restored.is_shape) (λ part index inside. refl);
    grows = λ part inside. subst (λ (p : Partitions). Grows (counted (s.files part)) (p part)) (sym (state_follows steps [] s w).files) (counted_grows (s.files part) (restored.first_pages part));
    holds = record {
      well_formed = λ part inside. subst (λ (p : Partition). IsWellFormed shape part p) (sym (counted_twice (s.files part))) (well part inside);
      first_pages = λ part index inside some. restored.first_pages part index (within_some (index == 0 || nat_lt index (page_count (s.files part))) (s.files part index) some);
      once = tt;
    };
  }
