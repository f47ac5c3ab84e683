-- A store that runs may be checkpointed.
use Rattle.std.proofs.Common.{◌≡◌, ◌⊎◌, inl, inr, ℕ, ◌+◌, ◌^◌, ◌<◌, ◌≤◌, Bool, List, [], ◌∷◌, ◌++◌, length, Option, Some, None, refl, sym, ap, ◌∙◌, subst, arith, append_assoc, append-nil, nat_lt, true}
use Rattle.std.specs.Prelude.{if◌then◌else◌, IsSome, is_some}
use Rattle.std.specs.Option.{option_or}
use Rattle.std.proofs.lemmas.Bool.{leb-true}
use Rattle.std.proofs.lemmas.Bool.Decides.{nat_tests}
use Rattle.pm_types.specs.declared.place.Place.{Place}
use Rattle.pm_types.specs.declared.shape.Mark.{Mark}
use Rattle.pm_types.specs.declared.shape.Shape.{Shape}
use Rattle.pm_frame.specs.declared.limits.TheConstants.{FRAME_EXTRA, FRAME_END_MAX}
use Rattle.pm_frame.specs.Frames.{Frame, frame_len}
use Rattle.pm_disk.specs.Worlds.{World}
use Rattle.pm_model.specs.Eval.{Pairs}
use Rattle.pm_records.specs.LogFiles.{Tail, Ready, Written, EndIs, HasLasting, IsRecordFrame}
use Rattle.pm_records.specs.LogSteps.{Step, Append, Force, next_segment, step_end, end_after, frames_in, next_written, written_after}
use Rattle.pm_records.specs.Logs.{place, all_frames, seal_frame, after_frames, place_after, frames_len}
use Rattle.pm_records.specs.Records.{Seal}
use Rattle.pm_records.proofs.FileSteps.{plain_after}
use Rattle.pm_records.proofs.Runs.{bool_cases, after_frames-append}
use Rattle.pm_records.proofs.Tracing.{end_after-append}
use Rattle.pm_records.proofs.Writing.{CanAll as CanWriteAll, steps_keep, frames_after, frames_in-append}
use Rattle.pm_segments.specs.Appends.{room_steps, roomy, rolled, append_steps, grown}
use Rattle.pm_segments.specs.Ends.{LogEnd, LogIsOpen, has_room}
use Rattle.pm_segments.proofs.AppendLaw.{append_can, append_tail}
use Rattle.pm_segments.proofs.OpenLog.{append_open, force_open, room_frames}
use Rattle.pm_segments.proofs.Sealing.{roomy_end}
use Rattle.pm_marks.specs.InForce.{Started, number_in}
use Rattle.pm_marks.specs.Slots.{IsMark, IsMarkPlace}
use Rattle.pm_core.specs.BasePages.{Partitions, laid_over, counted}
use Rattle.pm_core.specs.Held.{AllWellFormed}
use Rattle.pm_core.specs.Machine.{CanStart, states, worlds}
use Rattle.pm_core.specs.PageLaws.{Grows}
use Rattle.pm_core.specs.Replays.{all_replayed}
use Rattle.pm_core.specs.Rounds.{on_log}
use Rattle.pm_core.specs.States.{State, HavePairs}
use Rattle.pm_core.proofs.Finishing.{rebuilt_inside}
use Rattle.pm_core.proofs.Junk.{counted_same, pairs_same}
use Rattle.pm_core.proofs.LogSteps.{written_by, is_written, from_end}
use Rattle.pm_core.proofs.Replaying.{replayed-append}
use Rattle.pm_pages.specs.Rows.{Partition}
use Rattle.pm_pages.specs.WellFormed.{IsWellFormed}
use Rattle.pm_ckpt.specs.Checkpoints.{CanCheckpoint}
use Rattle.pm_ckpt.specs.Marked.{number_after, next_number, from_after, begin_of, replay_or, begin_frame, begin_log}
use Rattle.pm_ckpt.proofs.GoingOn.{can_join, payload_len, begin_is, begin_fits, begin_stays}
use Rattle.pm_ckpt.proofs.Opening.{grown_end}
use Rattle.pm_engine.specs.RunningStores.{StoreState, LogRuns, RunsOver, IsMarkIn, HasSegmentsFor, MakesNewest, map_of, mark_at, ended_with}
use Rattle.pm_engine.specs.TrackedPages.{TracksPages}
use Rattle.pm_engine.proofs.CheckpointPages.{base_is, has_first}
use Rattle.pm_engine.proofs.RunningAppends.{steps_run}
use Rattle.pm_engine.proofs.RunningQuiet.{forced_leaves}
use Rattle.pm_engine.proofs.RunningLogs.{state_follows, append_replays, open_as, seal_is, can_low, leads_on}
use Rattle.pm_engine.proofs.TrackedFrames.{tracks_no_page}

-- the bytes of a CP_BEGIN's payload
abbrev BEGIN_LEN : ℕ
BEGIN_LEN = 20

-- ---- pages

-- pages laid over files that only have more are laid over those files
pub over_grows : (rebuilt files others : Partitions) (part : ℕ) → Grows (files part) (others part) → Grows (laid_over rebuilt files part) (laid_over rebuilt others part)
over_grows rebuilt files others part grows = record {
  stays = λ i page is. stays (rebuilt part i) (files part i) (others part i) page (grows.stays i page) is;
  comes = λ i is. comes (rebuilt part i) (files part i) (others part i) (grows.comes i) is;
}
  where
    stays : (r f o : Option (List ℕ)) (page : List ℕ) → (f ≡ Some page → o ≡ Some page) → option_or r f ≡ Some page → option_or r o ≡ Some page
    stays None f o page same is = same is
    stays (Some x) f o page same is = is

    first : (r f : Option (List ℕ)) → IsSome f → IsSome (option_or r f)
    first None f some = some
    first (Some x) f some = refl

    comes : (r f o : Option (List ℕ)) → (f ≡ None → (o ≡ None) ⊎ IsSome (files part 0)) → option_or r f ≡ None → (option_or r o ≡ None) ⊎ IsSome (laid_over rebuilt files part 0)
    comes None f o more is = elim (more is) [ inl none ↦ inl none | inr some ↦ inr (first (rebuilt part 0) (files part 0) some) ]
    comes (Some x) f o more is = absurd cc

some_grows : (old new : Partition) (i : ℕ) → Grows old new → IsSome (old i) → IsSome (new i)
some_grows old new i grows some = by (old i) refl some
  where
    by : (o : Option (List ℕ)) → old i ≡ o → IsSome o → IsSome (new i)
    by None e some = absurd cc
    by (Some page) e some = ap is_some (grows.stays i page e)

-- the pages in the files with the rebuilt ones laid over are the pages of the store, but for some that don't count
module _ (store : StoreState) (frames : List Frame) (files others : Partitions) (tracks : TracksPages store.shape frames files store.pages store.logged)
    (grows : (part : ℕ) → part < store.shape.partitions → Grows (files part) (others part)) where
  pub pages_grow : (part : ℕ) → part < store.shape.partitions → Grows (store.pages part) (laid_over tracks.rebuilt others part)
  pages_grow part inside =
      subst (λ (p : Partition). Grows p (laid_over tracks.rebuilt others part)) (λ i index. base_is store.shape frames files store.pages store.logged tracks part index inside i)
      (over_grows tracks.rebuilt files others part (grows part inside))

  pub base_pairs : AllWellFormed store.shape store.pages → HavePairs store.shape (laid_over tracks.rebuilt others) (map_of store)
  base_pairs well =
      let same : (part : ℕ) → part < store.shape.partitions → counted (laid_over tracks.rebuilt others part) ≡ counted (store.pages part) =
      λ part inside. counted_same store.shape part (store.pages part) (laid_over tracks.rebuilt others part) (well part inside) (pages_grow part inside) in
      record {
        well_formed = λ part inside. subst (λ (p : Partition). IsWellFormed store.shape part p) (sym (same part inside)) (well part inside);
        is = pairs_same store.shape.partitions store.pages (laid_over tracks.rebuilt others) same;
      }

-- ---- the mark

number_from : (mark : Option Mark) → 1 ≤ number_after mark
number_from None = omega arith
number_from (Some mark) = omega arith

number_next : (mark : Option Mark) → number_after mark ≡ number_in (ended_with mark) + 1
number_next None = refl
number_next (Some mark) = refl

-- there is a number for the next checkpoint
next_is : (mark : Option Mark) → number_after mark < 2 ^ 64 → next_number mark ≡ number_after mark
next_is mark numbered =
    let fits : nat_lt (number_after mark) (2 ^ 64) ≡ true = grind (arith, nat_tests) in
    ap (λ (b : Bool). if b then number_after mark else 1) fits

not_started : (mark : Option Mark) (other : Mark) → ended_with mark ≡ Started other → ⊥
not_started None other is = absurd cc
not_started (Some mark) other is = absurd cc

from_fits : (mark : Option Mark) → IsMarkIn mark → IsMarkPlace (from_after mark)
from_fits None is = record { numbered = omega arith; seg_fits = omega arith; within = omega arith }
from_fits (Some mark) is = is.begin

-- where the log ends that has room for the begin of a checkpoint
record HasBeginRoom (at : Place) : Type 0 where
  from_one : 1 ≤ at.seg
  seg_fits : at.seg < 2 ^ 64
  within : at.off + (BEGIN_LEN + FRAME_EXTRA) ≤ FRAME_END_MAX

begin_room : (log : LogEnd) (written : Written) → LogIsOpen log written → 1 ≤ log.end.seg → HasBeginRoom (begin_of log)
begin_room log written is_open from = elim (bool_cases (has_room log BEGIN_LEN)) [
  | inl room ↦
      let le = leb-true _ _ room in
      subst (λ (b : Bool). HasBeginRoom (if b then log else rolled log).end) (sym room)
      (record { from_one = from; seg_fits = omega (arith, is_open.numbered); within = omega (arith, le, is_open.limits.size_to) })
  | inr full ↦
      let lt = is_open.numbered in
      let later : next_segment log.end.seg ≡ log.end.seg + 1 = grind (arith, nat_tests) in
      subst (λ (b : Bool). HasBeginRoom (if b then log else rolled log).end) (sym full)
      (record { from_one = omega (arith, later); seg_fits = omega (arith, later, lt); within = omega arith })
]

pub end_ready : (tail : Tail) (end at : Place) (pending : List Frame) → tail ≡ Ready → EndIs tail end at pending → end ≡ place at.seg (at.off + frames_len pending)
end_ready tail end at pending is ends = subst (λ (t : Tail). EndIs t end at pending) is ends

-- ---- steps

written_join : (xs ys : List Step) (t : Written) → written_after (xs ++ ys) t ≡ written_after ys (written_after xs t)
written_join [] ys t = refl
written_join (x ∷ xs) ys t = written_join xs ys (next_written x t)

can_split : (low : ℕ) (xs ys : List Step) (end : Place) (t : Written) → CanWriteAll low (xs ++ ys) end t → CanWriteAll low xs end t × CanWriteAll low ys (end_after xs end) (written_after xs t)
can_split low [] ys end t can = (tt, can)
can_split low (x ∷ xs) ys end t can = let rest = can_split low xs ys (step_end x end) (next_written x t) can.1 in ((can.0, rest.0), rest.1)

-- the place that a replay begins from has room for a frame
replay_fits : (replay : Option Place) (store : StoreState) (pairs : Pairs) (s : State) (w : World) → MakesNewest replay store pairs s w → IsMarkPlace (replay_or None (begin_of store.log)) → IsMarkPlace (replay_or replay (begin_of store.log))
replay_fits None store pairs s w newest fits = fits
replay_fits (Some from) store pairs s w newest fits = newest.fits

-- Lasting frames lead on from this place to the log's end, and make the map of this one.
pub record LeadsOn (from : Place) (base : Pairs) (s : State) (w : World) : Type 0 where
  pub frames : List Frame
  pub leads : HasLasting all_frames w.log s.low s.at from frames
  pub makes : all_replayed s.shape frames (Some base) ≡ Some s.map

module _ (wanted : Shape) (told : List ℕ → ℕ) (store : StoreState) (pairs : Pairs) (replay : Option Place) (s : State) (w : World) (runs : RunsOver wanted told store pairs s w) (newest : MakesNewest replay store pairs s w)
    (numbered : number_after store.mark < 2 ^ 64) where
  abbrev mark : Mark
  mark = mark_at store replay

  abbrev log : LogEnd
  log = store.log

  abbrev frame : Frame
  frame = begin_frame mark

  abbrev len : ℕ
  len = length frame.payload

  len_is : len ≡ BEGIN_LEN
  len_is = payload_len mark.number mark.replay

  abbrev t0 : Written
  t0 = written_by s runs.log.lasting

  open0 : LogIsOpen log t0
  open0 = open_as log s runs.log.lasting runs.log.is_open

  end_seg : 1 ≤ log.end.seg
  end_seg =
      let at : s.end ≡ place s.at.seg (s.at.off + frames_len s.pending) = end_ready s.tail s.end s.at s.pending runs.log.is_open.ready runs.log.stands.ends in
      let same : log.end.seg ≡ s.at.seg = ap (λ (p : Place). p.seg) (sym runs.log.ends ∙ at) in
      omega (arith, same, runs.log.begun.from_one)

  room : HasBeginRoom (begin_of log)
  room = begin_room log t0 open0 end_seg

  pub is_mark : IsMark mark
  is_mark = record {
    numbered = subst (λ n. 1 ≤ n) (sym (next_is store.mark numbered)) (number_from store.mark);
    number_fits = subst (λ n. n < 2 ^ 64) (sym (next_is store.mark numbered)) numbered;
    begin = record { numbered = room.from_one; seg_fits = room.seg_fits; within = omega (arith, room.within) };
    replay = replay_fits replay store pairs s w newest (record { numbered = room.from_one; seg_fits = room.seg_fits; within = room.within });
    from = from_fits store.mark runs.is_mark;
    shape = runs.is_shape;
  }

  record_fits : IsRecordFrame frame
  record_fits = begin_fits mark is_mark

  abbrev rolls : List Step
  rolls = room_steps log len

  abbrev pub before : List Frame
  before = runs.frames ++ frames_in rolls

  -- the frames before it rebuild what the store logged
  pub tracks_begin : TracksPages store.shape before runs.files store.pages store.logged
  tracks_begin = elim (room_frames log frame record_fits t0 open0) [
    | inl none ↦
        subst (λ (fs : List Frame). TracksPages store.shape (runs.frames ++ fs) runs.files store.pages store.logged) (sym none)
        (subst (λ (fs : List Frame). TracksPages store.shape fs runs.files store.pages store.logged) (sym (append-nil runs.frames)) runs.tracks)
    | inr sealed ↦
        subst (λ (fs : List Frame). TracksPages store.shape (runs.frames ++ fs) runs.files store.pages store.logged) (sym sealed)
        (tracks_no_page store.shape runs.frames seal_frame Seal runs.files store.pages store.logged seal_is tt runs.tracks)
  ]

  module _ (segments : HasSegmentsFor store.log 1) where
    abbrev appends : List Step
    appends = append_steps log frame

    abbrev steps : List Step
    steps = begin_log log mark

    abbrev s2 : State
    s2 = states (on_log steps) s w

    abbrev w2 : World
    w2 = worlds (on_log steps) s w

    can_append : CanWriteAll 0 appends log.end t0
    can_append = append_can log frame record_fits t0 open0 0

    can_steps : CanWriteAll 0 steps log.end t0
    can_steps = can_join 0 appends (Force ∷ []) log.end t0 can_append (inl (append_tail log frame record_fits t0 open0), tt)

    abbrev t1 : Written
    t1 = written_after appends t0

    written_is : written_after steps t0 ≡ next_written Force t1
    written_is = written_join appends (Force ∷ []) t0

    open_after : LogIsOpen (grown log frame) (written_after steps t0)
    open_after = subst (λ (t : Written). LogIsOpen (grown log frame) t) (sym written_is) (force_open (grown log frame) t1 (append_open log frame record_fits t0 open0 (omega (arith, segments))))

    frames_are : frames_in steps ≡ frames_in rolls ++ frame ∷ []
    frames_are = frames_in-append appends (Force ∷ []) ∙ append-nil (frames_in appends) ∙ frames_in-append rolls (Append frame ∷ [])

    pub replays : all_replayed store.shape (frames_in steps) (Some pairs) ≡ Some pairs
    replays =
        ap (λ fs. all_replayed store.shape fs (Some pairs)) (frames_in-append appends (Force ∷ []) ∙ append-nil (frames_in appends))
        ∙ append_replays log frame store.shape pairs ∙ begin_stays mark is_mark store.shape pairs

    ends_there : end_after steps log.end ≡ (grown log frame).end
    ends_there = end_after-append appends (Force ∷ []) log.end ∙ grown_end log frame

    -- once the begin is appended and forced, the log runs
    pub begun_runs : LogRuns wanted told (record store { log = grown log frame }) (runs.frames ++ frames_in steps) pairs s2 w2
    begun_runs = steps_run wanted told store runs.frames pairs s w runs.log steps (grown log frame) pairs can_steps replays ends_there open_after
        (forced_leaves log frame w runs.log.quiet.segments)

    pub none_pending : s2.pending ≡ []
    none_pending = (state_follows steps runs.log.lasting s w).pending ∙ ap (λ (t : Written). t.pending) written_is

    lasting_is : begun_runs.lasting ≡ before ++ frame ∷ []
    lasting_is =
        sym (append-nil begun_runs.lasting) ∙ ap (λ fs. begun_runs.lasting ++ fs) (sym none_pending) ∙ begun_runs.all
        ∙ ap (λ fs. runs.frames ++ fs) frames_are ∙ sym (append_assoc runs.frames (frames_in rolls) (frame ∷ []))

    pub leads_there : HasLasting all_frames w2.log s2.low s2.at mark.from (before ++ frame ∷ [])
    leads_there = subst (λ fs. HasLasting all_frames w2.log s2.low s2.at mark.from fs) lasting_is begun_runs.leads

    -- the begin stands where the mark says
    pub reaches_begin : after_frames mark.from before ≡ mark.begin
    reaches_begin =
        let parts = can_split 0 rolls (Append frame ∷ []) log.end t0 can_append in
        let t = written_after rolls t0 in
        let here = is_written wanted told s w runs.log.stands mark.from runs.log.lasting runs.log.leads in
        let low = can_low s.low rolls log.end t0 parts.0 in
        let moved = steps_keep s.low rolls w mark.from s.end t0 here (subst (λ (p : Place). CanWriteAll s.low rolls p t0) (sym runs.log.ends) low) in
        let at : end_after rolls s.end ≡ place t.at.seg (t.at.off + frames_len t.pending) = end_ready t.tail (end_after rolls s.end) t.at t.pending parts.1.0.0 moved.ends in
        ap (λ fs. after_frames mark.from (fs ++ frames_in rolls)) (sym runs.log.all)
        ∙ ap (after_frames mark.from) (sym (frames_after rolls t0))
        ∙ after_frames-append mark.from t.lasting t.pending ∙ ap (λ (p : Place). after_frames p t.pending) moved.log.leads.to
        ∙ plain_after t.at.seg t.at.off t.pending parts.1.0.1 ∙ sym at ∙ ap (end_after rolls) runs.log.ends
        ∙ roomy_end log len ∙ ap (λ n. (roomy log n).end) len_is

    -- the place just after the begin is where the log ends then
    after_begin : replay_or None (begin_of log) ≡ s2.at
    after_begin =
        let at : s2.end ≡ place s2.at.seg (s2.at.off + frames_len s2.pending) = end_ready s2.tail s2.end s2.at s2.pending begun_runs.is_open.ready begun_runs.stands.ends in
        let none : s2.at.off + frames_len s2.pending ≡ s2.at.off = omega (arith, ap frames_len none_pending) in
        let last : s2.end ≡ s2.at = at ∙ ap (λ n. place s2.at.seg n) none in
        let long : (begin_of log).off + (BEGIN_LEN + FRAME_EXTRA) ≡ (begin_of log).off + frame_len frame = omega (arith, len_is) in
        ap (λ n. place (begin_of log).seg n) long ∙ ap (λ n. place_after (roomy log n).end frame) (sym len_is) ∙ sym begun_runs.ends ∙ last

    files_stay : s2.files ≡ s.files
    files_stay = (state_follows steps runs.log.lasting s w).files

    abbrev rebuilt : Partitions
    rebuilt = tracks_begin.rebuilt

    pub map_there : s2.map ≡ pairs
    map_there = same s2.map pairs (ap (λ fs. all_replayed s2.shape fs (Some s2.map)) (sym none_pending) ∙ begun_runs.newest)
      where
        same : (a b : Pairs) → Some a ≡ Some b → a ≡ b
        same a b e = cc

    meta_there : (part index : ℕ) → IsSome (rebuilt part index) → IsSome (laid_over rebuilt s2.files part 0)
    meta_there part index some =
        let inside = rebuilt_inside store.shape before rebuilt tracks_begin.is part index some in
        subst (λ (files : Partitions). IsSome (laid_over rebuilt files part 0)) (sym files_stay)
        (some_grows (laid_over rebuilt runs.files part) (laid_over rebuilt s.files part) 0 (over_grows rebuilt runs.files s.files part (runs.grows part inside))
        (has_first store.shape before runs.files store.pages store.logged tracks_begin runs.holds.first_pages part index some))

    pairs_there : HavePairs s2.shape (laid_over rebuilt s2.files) (map_of store)
    pairs_there =
        subst (λ (shape : Shape). HavePairs shape (laid_over rebuilt s2.files) (map_of store)) (sym begun_runs.shape)
        (subst (λ (files : Partitions). HavePairs store.shape (laid_over rebuilt files) (map_of store)) (sym files_stay)
        (base_pairs store before runs.files s.files tracks_begin runs.grows runs.holds.well_formed))

    -- the steps may be made, whatever frames are lasting
    can_over : (fs : List Frame) → CanWriteAll 0 steps s.end (written_by s fs)
    can_over fs =
        let opened : LogIsOpen log (written_by s fs) = open_as log s fs runs.log.is_open in
        subst (λ (p : Place). CanWriteAll 0 steps p (written_by s fs)) (sym runs.log.ends)
        (can_join 0 appends (Force ∷ []) log.end (written_by s fs) (append_can log frame record_fits (written_by s fs) opened 0) (inl (append_tail log frame record_fits (written_by s fs) opened), tt))

    -- what led to the end of the lasting log still does once the begin is lasting
    pub leads_begun : (from : Place) (fs : List Frame) → HasLasting all_frames w.log s.low s.at from fs → HasLasting all_frames w2.log s2.low s2.at from ((fs ++ s.pending) ++ frames_in steps)
    leads_begun from fs leads =
        let all : List Frame = (written_after steps (written_by s fs)).lasting in
        let none : (written_after steps (written_by s fs)).pending ≡ [] = sym (state_follows steps fs s w).pending ∙ none_pending in
        subst (λ (l : List Frame). HasLasting all_frames w2.log s2.low s2.at from l) (sym (append-nil all) ∙ ap (λ (l : List Frame). all ++ l) (sym none) ∙ frames_after steps (written_by s fs))
        (leads_on wanted told s w runs.log.stands steps from fs leads (can_over fs))

    -- from the replay place on the log makes the newest map of that of the pages
    pub leads_on_from : LeadsOn mark.replay (map_of store) s2 w2
    leads_on_from = by replay newest
      where
        by : (place : Option Place) → MakesNewest place store pairs s w → LeadsOn (replay_or place (begin_of log)) (map_of store) s2 w2
        by None same = record {
          frames = [];
          leads = subst (λ (p : Place). HasLasting all_frames w2.log s2.low s2.at p []) (sym after_begin) (from_end wanted told s2 w2 begun_runs.stands);
          makes = ap (λ (p : Pairs). Some p) (sym (map_there ∙ same));
        }
        by (Some from) ahead = record {
          frames = (ahead.frames ++ s.pending) ++ frames_in steps;
          leads = leads_begun from ahead.frames ahead.leads;
          makes = ap (λ (k : Shape). all_replayed k ((ahead.frames ++ s.pending) ++ frames_in steps) (Some (map_of store))) begun_runs.shape
              ∙ replayed-append store.shape (ahead.frames ++ s.pending) (frames_in steps) (Some (map_of store)) ∙ ap (all_replayed store.shape (frames_in steps)) ahead.makes ∙ replays
              ∙ ap (λ (p : Pairs). Some p) (sym map_there);
        }

    pub may_start : CanStart mark rebuilt s2 w2
    may_start = record {
      alone = begun_runs.alone;
      idle = λ other is. not_started store.mark other (sym begun_runs.checkpoint ∙ is);
      next = next_is store.mark numbered ∙ number_next store.mark ∙ ap (λ c. number_in c + 1) (sym begun_runs.checkpoint);
      fits = is_mark;
      shaped = sym begun_runs.shape;
      before = before;
      after = frame ∷ [];
      leads = leads_there;
      reaches = reaches_begin;
      begins = record { replay = mark.replay; is = begin_is mark is_mark };
      in_grammar = (ap is_some (begin_is mark is_mark), tt);
      rebuilds = tracks_begin.is;
      has_meta = meta_there;
      frames = leads_on_from.frames;
      replay = leads_on_from.leads;
      based = map_of store;
      based_is = pairs_there;
      same_map = leads_on_from.makes;
    }

    pub may_checkpoint : CanCheckpoint wanted told s log mark store.pages store.logged w
    may_checkpoint = record {
      stands = runs.log.stands;
      ends = runs.log.ends;
      is_open = runs.log.is_open;
      begun = runs.log.begun;
      rebuilt = rebuilt;
      guard = may_start;
      rebuilds = tracks_begin.each;
    }
