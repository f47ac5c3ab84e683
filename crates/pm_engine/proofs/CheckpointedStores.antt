-- A store runs again after a whole checkpoint.
use Rattle.std.proofs.Common.{◌≡◌, ◌⊎◌, inl, inr, ℕ, zero, suc, ◌+◌, ◌-◌, ◌^◌, ◌<◌, ◌≤◌, max, Bool, true, false, List, [], ◌∷◌, ◌++◌, length, map, Option, Some, None, refl, sym, ap, ◌∙◌, subst, arith, append_assoc}
use Rattle.std.specs.Prelude.{◌||◌, if◌then◌else◌, IsSome, is_some}
use Rattle.std.specs.Option.{option_or}
use Rattle.std.proofs.lemmas.Bool.{cases_eq, cases_lt}
use Rattle.pm_types.specs.declared.limits.TheConstants.{PARTITIONS_MAX}
use Rattle.pm_types.specs.declared.page_id.PageId.{PageId}
use Rattle.pm_types.specs.declared.place.Place.{Place}
use Rattle.pm_types.specs.declared.shape.Mark.{Mark}
use Rattle.pm_types.specs.declared.shape.Shape.{Shape}
use Rattle.pm_frame.specs.Frames.{Frame}
use Rattle.pm_disk.specs.Files.{File, Change, after, at_change, bytes_of, content}
use Rattle.pm_disk.specs.declared.mark.MarkFile.TheVariants as mark_file
use Rattle.pm_marks.specs.MarkWrites.{first_written}
use Rattle.pm_disk.specs.Worlds.{World}
use Rattle.pm_model.specs.Eval.{Pairs}
use Rattle.pm_records.specs.LogFiles.{HasLasting, IsQuietBut, forced_contents}
use Rattle.pm_records.specs.LogSteps.{Step, DropSegment, ForceSegment, frames_in, step_world}
use Rattle.pm_records.specs.Logs.{place, all_frames, after_frames, next_place, is_over, HasNoSeal, HasFrames}
use Rattle.pm_records.specs.Records.{CpBegin}
use Rattle.pm_records.proofs.QuietLog.{steps_change}
use Rattle.pm_records.proofs.Runs.{option_cases, after_frames-append, next_rises, over-append, run_last}
use Rattle.pm_segments.specs.Appends.{grown}
use Rattle.pm_segments.specs.Drops.{is_there, drop_steps, drop_before_steps}
use Rattle.pm_segments.specs.Ends.{LogEnd}
use Rattle.pm_segments.proofs.Removed.{dropped_one}
use Rattle.pm_marks.specs.InForce.{Checkpoint, Ended, replay_of}
use Rattle.pm_core.specs.BasePages.{Partitions, page_in_file, laid_over}
use Rattle.pm_core.specs.Calls.{begin_steps, end_steps, force_steps}
use Rattle.pm_core.specs.Machine.{DiskStep, CanAll, CanEnd, next_state, next_world, states, worlds}
use Rattle.pm_core.specs.PageLaws.{Grows}
use Rattle.pm_core.specs.PageSets.{has_index}
use Rattle.pm_core.specs.Replays.{all_replayed}
use Rattle.pm_core.specs.Rounds.{on_log}
use Rattle.pm_core.specs.Stands.{Stands, IsGood, IsViewOf, BeginIsLasting, MarksSay, QuietMarks, page_high, soon_checkpoint, soon_or}
use Rattle.pm_core.specs.Starts.{appended}
use Rattle.pm_core.specs.States.{State, View}
use Rattle.pm_core.proofs.CrashLaw.{run_stands}
use Rattle.pm_core.proofs.LogCalls.{log_worlds}
use Rattle.pm_core.proofs.Making.{worlds_join}
use Rattle.pm_core.proofs.Ranges.{page_within}
use Rattle.pm_ckpt.specs.Checkpoints.{CanCheckpoint, IsStateAfter, IsBegunLog, whole_steps}
use Rattle.pm_ckpt.specs.Marked.{number_after, begin_frame, begin_log, kept_segment}
use Rattle.pm_ckpt.specs.Writes.{Writing, written_page, write_steps, page_written}
use Rattle.pm_ckpt.proofs.Finishing.{forces_keep}
use Rattle.pm_ckpt.proofs.GoingOn.{begin_is}
use Rattle.pm_ckpt.proofs.Stages.{grown_seg}
use Rattle.pm_ckpt.proofs.Whole.{states_join}
use Rattle.pm_ckpt.proofs.Written.{writes_keep}
use Rattle.pm_redo.proofs.ForcedMarks.{ended_forced}
use Rattle.pm_engine.specs.RunningStores.{StoreState, LogRuns, RunsOver, HasSegmentsFor, MakesNewest, mark_at, checkpointed_at}
use Rattle.pm_engine.proofs.TakenLines.{take_none}
use Rattle.pm_engine.proofs.CheckpointPages.{base_is}
use Rattle.pm_engine.proofs.RunningCheckpoints.{before as before_begin, pages_grow, is_mark, begun_runs, none_pending, leads_there, reaches_begin, map_there}
use Rattle.pm_engine.proofs.RunningLines.{appended_on}
use Rattle.pm_engine.proofs.RunningLogs.{state_follows}
use Rattle.pm_engine.proofs.RunningQuiet.{drops_quiet, forced_all, steps_quiet}
use Rattle.pm_engine.proofs.TrackedFrames.{tracks_none, tracks_no_page}

-- ---- steps

can_parts : (told : List ℕ → ℕ) (xs ys : List DiskStep) (s : State) (w : World) → CanAll told (xs ++ ys) s w → CanAll told xs s w × CanAll told ys (states xs s w) (worlds xs s w)
can_parts told [] ys s w can = (tt, can)
can_parts told (x ∷ xs) ys s w can = let rest = can_parts told xs ys (next_state x s w) (next_world x s w) can.1 in ((can.0, rest.0), rest.1)

-- what is kept of a state where nothing is appended or forced
record KeepsState (s t : State) : Type 0 where
  shape : t.shape ≡ s.shape
  at : t.at ≡ s.at
  pending : t.pending ≡ s.pending
  tail : t.tail ≡ s.tail
  map : t.map ≡ s.map
  files : t.files ≡ s.files
  order : t.order ≡ s.order
  first : t.first ≡ s.first

drops_keep : (from n : ℕ) (seen : World) (s : State) (w : World) → KeepsState s (states (on_log (drop_steps from n seen)) s w)
unfolding drop_steps
drops_keep from zero seen s w = record { shape = refl; at = refl; pending = refl; tail = refl; map = refl; files = refl; order = refl; first = refl }
drops_keep from (suc n) seen s w =
    elim (is_there from seen) as (λ b. KeepsState s (states (on_log ((if b then DropSegment from ∷ ForceSegment from ∷ [] else []) ++ drop_steps (from + 1) n seen)) s w)) [
      | true ↦
          let m = drops_keep (from + 1) n seen (record s { low = max s.low (from + 1) }) (step_world (ForceSegment from) s.end (step_world (DropSegment from) s.end w)) in
          record { shape = m.shape; at = m.at; pending = m.pending; tail = m.tail; map = m.map; files = m.files; order = m.order; first = m.first }
      | false ↦ drops_keep (from + 1) n seen s w
    ]

-- segments below and above those that are dropped are as they were
drops_beside : (seg from n : ℕ) (seen : World) (s : State) (w : World) → (seg < from) ⊎ (from + n ≤ seg) → (worlds (on_log (drop_steps from n seen)) s w).log seg ≡ w.log seg
unfolding drop_steps
drops_beside seg from zero seen s w side = refl
drops_beside seg from (suc n) seen s w side =
    let rest : (seg < from + 1) ⊎ (from + 1 + n ≤ seg) = elim side [ inl lt ↦ inl (omega (arith, lt)) | inr le ↦ inr (omega (arith, le)) ] in
    let one : (seg < from) ⊎ (from + 1 ≤ seg) = elim side [ inl lt ↦ inl lt | inr le ↦ inr (omega (arith, le)) ] in
    elim (is_there from seen) as (λ b. (worlds (on_log ((if b then DropSegment from ∷ ForceSegment from ∷ [] else []) ++ drop_steps (from + 1) n seen)) s w).log seg ≡ w.log seg) [
      | true ↦
          let mid = step_world (DropSegment from) s.end w in
          let gone = step_world (ForceSegment from) s.end mid in
          drops_beside seg (from + 1) n seen (record s { low = max s.low (from + 1) }) gone rest ∙ (dropped_one from w mid gone refl refl).others seg one
      | false ↦ drops_beside seg (from + 1) n seen s w rest
    ]

-- frames stand in other bytes that are the same from their first segment on
run_from : (old new : ℕ → List ℕ) (p : Place) (fs : List Frame) → ((n : ℕ) → p.seg ≤ n → new n ≡ old n) → HasFrames all_frames old p fs → HasFrames all_frames new p fs
run_from old new p [] same run = tt
run_from old new p (f ∷ fs) same run = (
  ap (λ (bytes : List ℕ). all_frames.frame_at p.seg p.off bytes) (same p.seg (omega arith)) ∙ run.0,
  run.1,
  run_from old new (next_place p f) fs (λ n le. same n (omega (arith, le, next_rises p f))) run.2,
)

writes_log : (held : Partitions) (xs : List Writing) (s : State) (w : World) → (worlds (write_steps held xs) s w).log ≡ w.log
writes_log held [] s w = refl
writes_log held (x ∷ xs) s w = writes_log held xs s (page_written held x w)

-- ---- pages

first_change : (file : File) → at_change file 0 ≡ file.forced
first_change file = ap (λ (cs : List Change). after cs file.forced) (take_none file.since)

not_there : (size index : ℕ) (file : Option (List ℕ)) → length (bytes_of file) < page_high size index → page_in_file size file index ≡ None
not_there size index file short = elim (option_cases (page_in_file size file index)) [
  | inl none ↦ none
  | inr some ↦ absurd (omega (arith, (page_within size index file some.0 some.1).0, short))
]

first_back : (old new : ℕ → Option (List ℕ)) → Grows old new → IsSome (new 0) → IsSome (old 0)
first_back old new grows some = elim (option_cases (old 0)) [
  | inl none ↦ elim (grows.comes 0 none) [ inl still ↦ absurd (none_some (new 0) still some) | inr there ↦ there ]
  | inr there ↦ ap is_some there.1
]
  where
    none_some : (o : Option (List ℕ)) → o ≡ None → IsSome o → ⊥
    none_some None is some = absurd cc
    none_some (Some page) is some = absurd cc

or_some : (r f : Option (List ℕ)) → IsSome f → IsSome (option_or r f)
or_some None f some = some
or_some (Some x) f some = refl

or_false : (a b : Bool) → (a || b) ≡ false → b ≡ false
or_false true b is = absurd cc
or_false false b is = is

ended_low : (checkpoint : Checkpoint) (mark : Mark) (log : ℕ → File) (low : ℕ) (at : Place) → checkpoint ≡ Ended mark → BeginIsLasting checkpoint log low at → low ≤ mark.begin.seg
ended_low checkpoint mark log low at is begins = (subst (λ c. BeginIsLasting c log low at) is begins).1.kept

-- ---- the whole

module _ (wanted : Shape) (told : List ℕ → ℕ) (store : StoreState) (pairs : Pairs) (replay : Option Place) (s : State) (w : World) (runs : RunsOver wanted told store pairs s w) (newest : MakesNewest replay store pairs s w)
    (numbered : number_after store.mark < 2 ^ 64) (segments : HasSegmentsFor store.log 1) (can : CanCheckpoint wanted told s store.log (mark_at store replay) store.pages store.logged w) (xs : List Writing)
    (guards : CanAll told (whole_steps store.log (mark_at store replay) can.rebuilt store.pages xs s w) s w)
    (leaves : IsStateAfter store.log (mark_at store replay) (states (whole_steps store.log (mark_at store replay) can.rebuilt store.pages xs s w) s w)) where
  abbrev mark : Mark
  mark = mark_at store replay

  abbrev frame : Frame
  frame = begin_frame mark

  abbrev last : LogEnd
  last = grown store.log frame

  abbrev whole : List DiskStep
  whole = whole_steps store.log mark can.rebuilt store.pages xs s w

  abbrev logs : List DiskStep
  logs = on_log (begin_log store.log mark)

  abbrev begins : List DiskStep
  begins = begin_steps mark can.rebuilt

  abbrev opening : List DiskStep
  opening = logs ++ begins

  abbrev writes : List DiskStep
  writes = write_steps store.pages xs

  abbrev named : List PageId
  named = map written_page xs

  abbrev forces : List DiskStep
  forces = force_steps 0 PARTITIONS_MAX named

  abbrev ends : List DiskStep
  ends = end_steps mark

  abbrev ended : World
  ended = worlds (opening ++ (writes ++ (forces ++ ends))) s w

  abbrev drops : List Step
  drops = drop_before_steps last (kept_segment mark) ended

  abbrev front : List DiskStep
  front = (opening ++ writes) ++ forces

  whole_is : whole ≡ front ++ (ends ++ on_log drops)
  whole_is =
      ap (λ l. l ++ on_log drops) (sym (append_assoc opening writes (forces ++ ends)) ∙ sym (append_assoc (opening ++ writes) forces ends))
      ∙ append_assoc front ends (on_log drops)

  abbrev s2 : State
  s2 = states logs s w

  abbrev w2 : World
  w2 = worlds logs s w

  abbrev s5 : State
  s5 = states front s w

  abbrev w5 : World
  w5 = worlds front s w

  front_state : s5 ≡ states begins s2 w2
  front_state =
      let wrote = opening ++ writes in
      states_join wrote forces s w ∙ (forces_keep 0 PARTITIONS_MAX named (states wrote s w) (worlds wrote s w)).0
      ∙ states_join opening writes s w ∙ writes_keep store.pages xs (states opening s w) (worlds opening s w) ∙ states_join logs begins s w

  front_log : w5.log ≡ w2.log
  front_log =
      let wrote = opening ++ writes in
      ap (λ (v : World). v.log) (worlds_join wrote forces s w) ∙ (forces_keep 0 PARTITIONS_MAX named (states wrote s w) (worlds wrote s w)).1
      ∙ ap (λ (v : World). v.log) (worlds_join opening writes s w) ∙ writes_log store.pages xs (states opening s w) (worlds opening s w) ∙ ap (λ (v : World). v.log) (worlds_join logs begins s w)

  parts : CanAll told front s w × CanAll told (ends ++ on_log drops) s5 w5
  parts = can_parts told front (ends ++ on_log drops) s w (subst (λ l. CanAll told l s w) whole_is guards)

  can_end : CanEnd mark s5 (first_written mark_file.End w5)
  can_end = parts.1.1.0.0

  stands_there : Stands wanted told s5 w5
  stands_there = run_stands wanted told front s w runs.log.stands parts.0

  good : IsGood wanted s5 w5.log w5.pages s5.now
  good = stands_there.good s5.now (subst (λ o. IsViewOf s5.now o s5.now) (sym can_end.alone) refl)

  -- ---- the state after it

  abbrev s7 : State
  s7 = states ends s5 w5

  abbrev w7 : World
  w7 = worlds ends s5 w5

  abbrev t : State
  t = states whole s w

  abbrev v : World
  v = worlds whole s w

  t_is : t ≡ states (on_log drops) s7 w7
  t_is = ap (λ l. states l s w) whole_is ∙ states_join front (ends ++ on_log drops) s w

  v_is : v ≡ worlds (on_log drops) s7 w7
  v_is = ap (λ l. worlds l s w) whole_is ∙ worlds_join front (ends ++ on_log drops) s w

  keeps : KeepsState s7 (states (on_log drops) s7 w7)
  keeps = drops_keep last.first (max last.first (kept_segment mark) - last.first) ended s7 w7

  begun : LogRuns wanted told (record store { log = last }) (runs.frames ++ frames_in (begin_log store.log mark)) pairs s2 w2
  begun = begun_runs wanted told store pairs replay s w runs newest numbered segments

  none : s2.pending ≡ []
  none = none_pending wanted told store pairs replay s w runs newest numbered segments

  t_shape : t.shape ≡ s2.shape
  t_shape = ap (λ (r : State). r.shape) t_is ∙ keeps.shape ∙ ap (λ (r : State). r.shape) front_state

  t_at : t.at ≡ s2.at
  t_at = ap (λ (r : State). r.at) t_is ∙ keeps.at ∙ ap (λ (r : State). r.at) front_state

  pub t_pending : t.pending ≡ []
  t_pending = ap (λ (r : State). r.pending) t_is ∙ keeps.pending ∙ ap (λ (r : State). r.pending) front_state ∙ none

  t_tail : t.tail ≡ s2.tail
  t_tail = ap (λ (r : State). r.tail) t_is ∙ keeps.tail ∙ ap (λ (r : State). r.tail) front_state

  t_map : t.map ≡ pairs
  t_map = ap (λ (r : State). r.map) t_is ∙ keeps.map ∙ ap (λ (r : State). r.map) front_state ∙ map_there wanted told store pairs replay s w runs newest numbered segments

  t_files : t.files ≡ s7.files
  t_files = ap (λ (r : State). r.files) t_is ∙ keeps.files

  pub t_first : t.first ≡ s.first
  t_first = ap (λ (r : State). r.first) t_is ∙ keeps.first ∙ ap (λ (r : State). r.first) front_state ∙ (state_follows (begin_log store.log mark) [] s w).first

  -- the begin alone was appended
  pub t_appended : appended t ≡ appended s ++ frames_in (begin_log store.log mark)
  t_appended =
      let order : t.order ≡ s2.order = ap (λ (r : State). r.order) t_is ∙ keeps.order ∙ ap (λ (r : State). r.order) front_state in
      ap (λ l. l ++ t.pending) order ∙ ap (λ l. s2.order ++ l) (t_pending ∙ sym none) ∙ appended_on (begin_log store.log mark) s w

  begin_seg : mark.begin.seg ≡ last.end.seg
  begin_seg = grown_seg store.log mark refl

  stands_after : Stands wanted told t v
  stands_after = run_stands wanted told whole s w runs.log.stands guards

  after_good : IsGood wanted t v.log v.pages t.now
  after_good = stands_after.good t.now (subst (λ o. IsViewOf t.now o t.now) (sym leaves.alone) refl)

  -- the segments from the first one on that is kept are as they were once the begin was lasting
  stays_from : (n : ℕ) → kept_segment mark ≤ n → v.log n ≡ w2.log n
  stays_from n le =
      let side : (n < last.first) ⊎ (last.first + (max last.first (kept_segment mark) - last.first) ≤ n) = elim (cases_lt n last.first) [ inl lt ↦ inl lt | inr from ↦ inr (omega (arith, le, from)) ] in
      ap (λ (u : World). u.log n) v_is
      ∙ drops_beside n last.first (max last.first (kept_segment mark) - last.first) ended s7 w7 side
      ∙ ap (λ (log : ℕ → File). log n) front_log

  same_segment : v.log mark.begin.seg ≡ w2.log mark.begin.seg
  same_segment = stays_from mark.begin.seg (omega arith)

  -- frames that led from the replay place on to the end of the lasting log still do
  pub leads_after : (fs : List Frame) → HasLasting all_frames w2.log s2.low s2.at mark.replay fs → HasLasting all_frames v.log t.low t.at mark.replay fs
  leads_after fs leads = record {
    kept = subst (λ (c : Checkpoint). t.low ≤ (replay_of c).seg) leaves.checkpoint after_good.replay.kept;
    run = run_from (forced_contents w2.log) (forced_contents v.log) mark.replay fs (λ n le. ap (λ (f : File). bytes_of f.forced) (stays_from n (omega (arith, le)))) leads.run;
    to = leads.to ∙ sym t_at;
    goes_on = leads.goes_on;
  }

  begin_leads : HasLasting all_frames v.log t.low t.at mark.begin (frame ∷ [])
  begin_leads =
      let before = leads_there wanted told store pairs replay s w runs newest numbered segments in
      let reaches = reaches_begin wanted told store pairs replay s w runs newest numbered segments in
      let older = before_begin wanted told store pairs replay s w runs newest numbered in
      let at_begin = run_last all_frames (forced_contents w2.log) mark.from older frame before.run in
      let stands_there : all_frames.frame_at mark.begin.seg mark.begin.off (forced_contents w2.log mark.begin.seg) ≡ Some frame =
      subst (λ (p : Place). all_frames.frame_at p.seg p.off (forced_contents w2.log p.seg) ≡ Some frame) reaches at_begin in
      let to : after_frames mark.begin (frame ∷ []) ≡ s2.at = ap (λ (p : Place). after_frames p (frame ∷ [])) (sym reaches) ∙ sym (after_frames-append mark.from older (frame ∷ [])) ∙ before.to in
      let on : is_over mark.begin (frame ∷ []) ≡ false =
      ap (λ (p : Place). is_over p (frame ∷ [])) (sym reaches) ∙ or_false (is_over mark.from older) (is_over (after_frames mark.from older) (frame ∷ [])) (sym (over-append mark.from older (frame ∷ [])) ∙ before.goes_on) in
      record {
        kept = ended_low t.now.checkpoint mark v.log t.low t.at leaves.checkpoint after_good.begins;
        run = (ap (λ (f : File). all_frames.frame_at mark.begin.seg mark.begin.off (bytes_of f.forced)) same_segment ∙ stands_there, λ _. refl, tt);
        to = to ∙ sym t_at;
        goes_on = on;
      }

  segments_quiet : IsQuietBut v last.end.seg
  segments_quiet =
      subst (λ (u : World). IsQuietBut u last.end.seg) (sym v_is)
      (drops_quiet last.end.seg last.first (max last.first (kept_segment mark) - last.first) ended s7 w7
      (subst (λ (log : ℕ → File). IsQuietBut (record w7 { log = log }) last.end.seg) (sym front_log) begun.quiet.segments))

  -- the begin was forced, so nothing is pending of the log's last segment either
  begin_quiet : (n : ℕ) → (w2.log n).since ≡ []
  begin_quiet n =
      (steps_quiet (begin_log store.log mark) store.log (record last { end = place (n + 1) 0 }) s w runs.log.ends runs.log.quiet
      (forced_all store.log frame w runs.log.quiet.segments (n + 1))).segments n (omega arith)

  pub all_segments_quiet : (n : ℕ) → (v.log n).since ≡ []
  all_segments_quiet n = elim (cases_eq n last.end.seg) [
    | inl is ↦
        subst (λ (m : ℕ). (v.log m).since ≡ []) (begin_seg ∙ sym is)
        (ap (λ (f : File). f.since) same_segment ∙ begin_quiet mark.begin.seg)
    | inr apart ↦ segments_quiet n apart
  ]

  marks_quiet : (v.starts.since ≡ []) × (v.ends.since ≡ [])
  marks_quiet =
      let says = subst (λ (o : Option View). MarksSay (soon_or o t.now).checkpoint (bytes_of (content v.starts)) (bytes_of (content v.ends))) leaves.alone stands_after.reads in
      ended_forced mark v
      (subst (λ (o : Option View). QuietMarks (soon_checkpoint o) v.starts v.ends) leaves.alone stands_after.quiet)
      (subst (λ (c : Checkpoint). MarksSay c (bytes_of (content v.starts)) (bytes_of (content v.ends))) leaves.checkpoint says)

  log_runs : LogRuns wanted told (checkpointed_at store replay) (frame ∷ []) pairs t v
  log_runs = record {
    stands = stands_after;
    shape = t_shape ∙ begun.shape;
    checkpoint = leaves.checkpoint;
    alone = leaves.alone;
    ends = leaves.ends;
    is_open = record {
      limits = record {
        kept = omega (arith, begin_seg, begun.is_open.limits.kept);
        within = begun.is_open.limits.within;
        size_from = begun.is_open.limits.size_from;
        size_to = begun.is_open.limits.size_to;
      };
      ready = t_tail ∙ begun.is_open.ready;
      plain = subst HasNoSeal (sym t_pending) tt;
      room_to_seal = begun.is_open.room_to_seal;
      numbered = begun.is_open.numbered;
    };
    begun = subst (λ (p : Place). IsBegunLog p t.pending) (sym t_at) (subst (λ fs. IsBegunLog s2.at fs) (none ∙ sym t_pending) begun.begun);
    lasting = frame ∷ [];
    leads = begin_leads;
    all = ap (λ fs. frame ∷ fs) t_pending;
    newest = ap (λ fs. all_replayed t.shape fs (Some t.map)) t_pending ∙ ap (λ (p : Pairs). Some p) t_map;
    quiet = record { segments = segments_quiet; starts = marks_quiet.0; ends = marks_quiet.1 };
  }

  -- ---- its pages

  rebuilt_is : can.rebuilt ≡ runs.tracks.rebuilt
  rebuilt_is = λ i part index. (can.rebuilds part index ∙ sym (runs.tracks.each part index)) i

  now_rebuilt : s5.now.rebuilt ≡ runs.tracks.rebuilt
  now_rebuilt = ap (λ (r : State). r.now.rebuilt) front_state ∙ rebuilt_is

  files_there : s5.files ≡ s.files
  files_there = ap (λ (r : State). r.files) front_state ∙ (state_follows (begin_log store.log mark) [] s w).files

  rebuilt_at : (part index : ℕ) (b : Bool) → has_index part index store.logged ≡ b → s5.now.rebuilt part index ≡ (let o : Option (List ℕ) = if b then store.pages part index else None in o)
  rebuilt_at part index b e =
      ap (λ (p : Partitions). p part index) now_rebuilt ∙ runs.tracks.each part index
      ∙ ap (λ (h : Bool). let o : Option (List ℕ) = if h then store.pages part index else None in o) e

  page_stays : (part : ℕ) → part < store.shape.partitions → (index : ℕ) (page : List ℕ) → store.pages part index ≡ Some page → s7.files part index ≡ Some page
  page_stays part inside index page is = by (has_index part index store.logged) refl
    where
      by : (b : Bool) → has_index part index store.logged ≡ b → s7.files part index ≡ Some page
      by true e = can_end.written part index page (rebuilt_at part index true e ∙ is)
      by false e =
          let old : s.files part index ≡ Some page = (runs.grows part inside).stays index page (sym (runs.tracks.clean part index inside e) ∙ is) in
          (good.pages_stand.kept part index page (rebuilt_at part index false e) (ap (λ (p : Partitions). p part index) files_there ∙ old)).1

  base_grows : (part : ℕ) → part < store.shape.partitions → Grows (store.pages part) (laid_over s5.now.rebuilt s5.files part)
  base_grows part inside =
      subst (λ (p : Partitions). Grows (store.pages part) (laid_over p s5.files part)) (sym now_rebuilt)
      (subst (λ (p : Partitions). Grows (store.pages part) (laid_over runs.tracks.rebuilt p part)) (sym files_there)
      (pages_grow store runs.frames runs.files s.files runs.tracks runs.grows part inside))

  page_comes : (part : ℕ) → part < store.shape.partitions → (index : ℕ) → store.pages part index ≡ None → (s7.files part index ≡ None) ⊎ IsSome (store.pages part 0)
  page_comes part inside index is = by (has_index part index store.logged) refl
    where
      by : (b : Bool) → has_index part index store.logged ≡ b → (s7.files part index ≡ None) ⊎ IsSome (store.pages part 0)
      by true e = let there = runs.tracks.there part index e in let no : None ≡ Some there.bytes = sym is ∙ there.is in absurd cc
      by false e = elim ((runs.grows part inside).comes index (sym (runs.tracks.clean part index inside e) ∙ is)) [
        | inl none ↦ elim (good.pages_stand.absent part index (rebuilt_at part index false e) (ap (λ (p : Partitions). p part index) files_there ∙ none)) [
          | inl short ↦
              let file = w5.pages part in
              let now : length (bytes_of file.forced) < page_high s5.shape.page_size index =
              subst (λ (o : Option (List ℕ)). length (bytes_of o) < page_high s5.shape.page_size index) (first_change file) (short 0 (omega arith)) in
              inl (not_there s5.shape.page_size index file.forced now)
          | inr meta ↦ inr (first_back (store.pages part) (laid_over s5.now.rebuilt s5.files part) (base_grows part inside) meta)
        ]
        | inr some ↦
            inr (subst IsSome (base_is store.shape runs.frames runs.files store.pages store.logged runs.tracks part 0 inside) (or_some (runs.tracks.rebuilt part 0) (runs.files part 0) some))
      ]

  pub store_checkpointed : RunsOver wanted told (checkpointed_at store replay) pairs t v
  store_checkpointed = record {
    is_shape = runs.is_shape;
    is_mark = is_mark wanted told store pairs replay s w runs newest numbered;
    frames = frame ∷ [];
    log = log_runs;
    files = store.pages;
    tracks = tracks_no_page store.shape [] frame (CpBegin mark.number mark.replay) store.pages store.pages [] (begin_is mark (is_mark wanted told store pairs replay s w runs newest numbered)) tt
        (tracks_none store.shape store.pages store.pages (λ part index inside. refl));
    grows = λ part inside.
        subst (λ (p : Partitions). Grows (store.pages part) (p part)) (sym t_files)
        (record { stays = λ index page is. page_stays part inside index page is; comes = λ index is. page_comes part inside index is });
    holds = record { well_formed = runs.holds.well_formed; first_pages = runs.holds.first_pages; once = tt };
  }

  -- ---- its files

  files_quiet : v.pages ≡ w5.pages
  files_quiet = ap (λ (u : World). u.pages) v_is ∙ ap (λ (u : World). u.pages) (log_worlds drops s7 w7) ∙ (steps_change drops s7.end w7).pages

  front_shape : s5.shape ≡ store.shape
  front_shape = ap (λ (r : State). r.shape) front_state ∙ begun.shape

  -- the pages that count are all that the partitions' files have
  pub t_files_are : (part index : ℕ) → t.files part index ≡ page_in_file store.shape.page_size (v.pages part).forced index
  t_files_are part index =
      ap (λ (p : Partitions). p part index) t_files
      ∙ (λ i. page_in_file (front_shape i).page_size (sym files_quiet i part).forced index)
