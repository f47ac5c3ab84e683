-- Each step of the log keeps the disk as the machine's state says.
use Rattle.std.proofs.Common.{◌≡◌, ℕ, ◌+◌, ◌<◌, ◌≤◌, List, [], ◌∷◌, ◌++◌, Option, Some, None, refl, sym, ◌∙◌, ap, subst, arith, length-append, append_assoc, append-nil, max}
use Rattle.std.specs.Prelude.{IsSome}
use Rattle.pm_types.specs.declared.place.Place.{Place}
use Rattle.pm_types.specs.declared.shape.Mark.{Mark}
use Rattle.pm_types.specs.declared.shape.Shape.{Shape}
use Rattle.pm_frame.specs.Frames.{Frame}
use Rattle.pm_disk.specs.Files.{File}
use Rattle.pm_disk.specs.Worlds.{World}
use Rattle.pm_model.specs.Eval.{Pairs}
use Rattle.pm_records.specs.LogFiles.{Tail, Cutting, Written, IsWritten, FilesHoldLog, HasLasting}
use Rattle.pm_records.specs.Logs.{place, all_frames, record_in, after_frames, place_after}
use Rattle.pm_records.specs.LogSteps.{Step, CutTail, Append, Force, NextSegment, DropSegment, ForceSegment, step_end, step_world, tail_forced, next_begin, next_written}
use Rattle.pm_records.specs.Records.{Restart}
use Rattle.pm_records.proofs.Runs.{rises_from}
use Rattle.pm_records.proofs.Writing.{CanStep, step_keeps}
use Rattle.pm_marks.specs.InForce.{Checkpoint, NoStart, Started, Ended, replay_of}
use Rattle.pm_core.specs.Replays.{all_replayed}
use Rattle.pm_core.specs.BasePages.{Partitions}
use Rattle.pm_core.specs.States.{State, View, AllInGrammar, RestartIsFirst}
use Rattle.pm_core.specs.Stands.{OnlyNoStart, IsViewOf, RebuiltIsLasting, BeginIsLasting, IsGood, Stands}
use Rattle.pm_core.specs.Machine.{map_or, log_state, CanLog}
use Rattle.pm_core.proofs.Replaying.{replayed-append, grammar_append, begin_append}

-- A state whose log goes on is as good as before.
module _ (wanted : Shape) (s : State) (log new pages : ℕ → File) (at end : Place) (more pending : List Frame) (tail : Tail) (order : List Frame) (map : Pairs)
    (moves : (p : Place) (fs : List Frame) → HasLasting all_frames log s.low s.at p fs → HasLasting all_frames new s.low at p (fs ++ more))
    (well : AllInGrammar more) (map_is : all_replayed s.shape more (Some s.map) ≡ Some map)
    (restart : (fs : List Frame) → HasLasting all_frames log s.low s.at (place 1 0) fs → RestartIsFirst s.shape (fs ++ s.pending) → RestartIsFirst s.shape ((fs ++ more) ++ pending)) where
  abbrev moved : State
  moved = record s { at = at; end = end; pending = pending; tail = tail; order = order; map = map }

  rebuilt_moves : (checkpoint : Checkpoint) (rebuilt : Partitions) → RebuiltIsLasting checkpoint log s.low s.at rebuilt → RebuiltIsLasting checkpoint new s.low at rebuilt
  rebuilt_moves NoStart rebuilt is = is
  rebuilt_moves (Ended mark) rebuilt is = is
  rebuilt_moves (Started mark) rebuilt is = record {
    before = is.before;
    after = is.after ++ more;
    leads = subst (λ l. HasLasting all_frames new s.low at mark.from l) (append_assoc is.before is.after more) (moves mark.from (is.before ++ is.after) is.leads);
    reaches = is.reaches;
    is = is.is;
  }

  begins_moves : (checkpoint : Checkpoint) → BeginIsLasting checkpoint log s.low s.at → BeginIsLasting checkpoint new s.low at
  begins_moves NoStart is = tt
  begins_moves (Ended mark) is = (is.0 ++ more, moves mark.begin is.0 is.1, grammar_append is.0 more is.2 well)
  begins_moves (Started mark) is = record {
    frames = is.frames ++ more;
    leads = moves mark.begin is.frames is.leads;
    in_grammar = grammar_append is.frames more is.in_grammar well;
    begins = begin_append mark.number is.frames more is.begins;
  }

  restart_moves : (checkpoint : Checkpoint) (fs : List Frame) → HasLasting all_frames log s.low s.at (replay_of checkpoint) fs → OnlyNoStart checkpoint (RestartIsFirst s.shape (fs ++ s.pending))
      → OnlyNoStart checkpoint (RestartIsFirst s.shape ((fs ++ more) ++ pending))
  restart_moves NoStart fs leads is = restart fs leads is
  restart_moves (Started mark) fs leads is = tt
  restart_moves (Ended mark) fs leads is = tt

  no_more : (xs ys : List Frame) → xs ++ ys ≡ [] → xs ≡ []
  no_more [] ys is = refl
  no_more (x ∷ xs) ys is = absurd cc

  wanted_moves : (checkpoint : Checkpoint) (fs : List Frame) → OnlyNoStart checkpoint (fs ≡ [] → s.shape ≡ wanted) → OnlyNoStart checkpoint (fs ++ more ≡ [] → s.shape ≡ wanted)
  wanted_moves NoStart fs is = λ none. is (no_more fs more none)
  wanted_moves (Started mark) fs is = tt
  wanted_moves (Ended mark) fs is = tt

  pub good_moves : (view : View) → IsGood wanted s log pages view → IsGood wanted moved new pages view
  good_moves view good = record {
    shaped = good.shaped;
    rebuilt_lasts = rebuilt_moves view.checkpoint view.rebuilt good.rebuilt_lasts;
    has_meta = good.has_meta;
    bare = good.bare;
    pages_stand = good.pages_stand;
    calm = good.calm;
    based = good.based;
    based_is = good.based_is;
    frames = good.frames ++ more;
    replay = moves (replay_of view.checkpoint) good.frames good.replay;
    holds = replayed-append s.shape good.frames more (Some good.based) ∙ ap (all_replayed s.shape more) good.holds ∙ map_is;
    begins = begins_moves view.checkpoint good.begins;
    restarts = restart_moves view.checkpoint good.frames good.replay good.restarts;
    empty_wanted = wanted_moves view.checkpoint good.frames good.empty_wanted;
  }

-- ---- the log as the log's own laws see it

abbrev pub written_by : State → List Frame → Written
written_by s fs = record { at = s.at; lasting = fs; pending = s.pending; tail = s.tail }

module _ (wanted : Shape) (told : List ℕ → ℕ) (s : State) (w : World) (stands : Stands wanted told s w) where
  pub is_written : (p : Place) (fs : List Frame) → HasLasting all_frames w.log s.low s.at p fs → IsWritten w s.low p s.end (written_by s fs)
  is_written p fs leads = record { log = record { files = stands.log; leads = leads }; ends = stands.ends }

  pub from_end : HasLasting all_frames w.log s.low s.at s.at []
  from_end = record { kept = stands.log.reaches; run = tt; to = refl; goes_on = refl }

  pub after_step : (t : Step) → CanStep s.low t s.end (written_by s []) → (p : Place) (fs : List Frame) → HasLasting all_frames w.log s.low s.at p fs
      → CanStep s.low t s.end (written_by s fs) → IsWritten (step_world t s.end w) s.low p (step_end t s.end) (next_written t (written_by s fs))
  after_step t can p fs leads can_there = step_keeps s.low t w p s.end (written_by s fs) (is_written p fs leads) can_there

  -- a step that makes nothing lasting, and changes no map
  plain_step : (t : Step) (end : Place) (pending : List Frame) (tail : Tail)
      → (moves : (p : Place) (fs : List Frame) → HasLasting all_frames w.log s.low s.at p fs → HasLasting all_frames (step_world t s.end w).log s.low s.at p fs)
      → (restart : (fs : List Frame) → HasLasting all_frames w.log s.low s.at (place 1 0) fs → RestartIsFirst s.shape (fs ++ s.pending) → RestartIsFirst s.shape (fs ++ pending))
      → (view : View) → IsGood wanted s w.log w.pages view → IsGood wanted (record s { end = end; pending = pending; tail = tail }) (step_world t s.end w).log w.pages view
  plain_step t end pending tail moves restart view good =
      let new = (step_world t s.end w).log in
      good_moves wanted s w.log new w.pages s.at end [] pending tail s.order s.map
      (λ p fs leads. subst (λ l. HasLasting all_frames new s.low s.at p l) (sym (append-nil fs)) (moves p fs leads))
      tt refl (λ fs leads first. subst (λ l. RestartIsFirst s.shape (l ++ pending)) (sym (append-nil fs)) (restart fs leads first)) view good

  pub cut_step : CanLog CutTail s → Stands wanted told (log_state CutTail s) (step_world CutTail s.end w)
  cut_step can =
      let here = after_step CutTail can s.at [] from_end can in
      record {
        log = here.log.files;
        ends = here.ends;
        marks = stands.marks;
        reads = stands.reads;
        quiet = stands.quiet;
        good = λ view is. plain_step CutTail s.end s.pending Cutting (λ p fs leads. (after_step CutTail can p fs leads can).log.leads) (λ fs leads first. first) view (stands.good view is);
        well = stands.well;
        newest = stands.newest;
        newest_is = stands.newest_is;
        said = stands.said;
        since_first = stands.since_first;
      }

  pub next_step : CanLog NextSegment s → Stands wanted told (log_state NextSegment s) (step_world NextSegment s.end w)
  next_step can =
      let here = after_step NextSegment can s.at [] from_end can in
      record {
        log = here.log.files;
        ends = here.ends;
        marks = stands.marks;
        reads = stands.reads;
        quiet = stands.quiet;
        good = λ view is. plain_step NextSegment (next_begin s.end) s.pending Cutting (λ p fs leads. (after_step NextSegment can p fs leads can).log.leads) (λ fs leads first. first) view (stands.good view is);
        well = stands.well;
        newest = stands.newest;
        newest_is = stands.newest_is;
        said = stands.said;
        since_first = stands.since_first;
      }

  pub force_segment_step : (seg : ℕ) → CanLog (ForceSegment seg) s → Stands wanted told (log_state (ForceSegment seg) s) (step_world (ForceSegment seg) s.end w)
  force_segment_step seg can =
      let here = after_step (ForceSegment seg) can s.at [] from_end can in
      record {
        log = here.log.files;
        ends = here.ends;
        marks = stands.marks;
        reads = stands.reads;
        quiet = stands.quiet;
        good = λ view is. plain_step (ForceSegment seg) s.end s.pending s.tail (λ p fs leads. (after_step (ForceSegment seg) can p fs leads can).log.leads) (λ fs leads first. first) view (stands.good view is);
        well = stands.well;
        newest = stands.newest;
        newest_is = stands.newest_is;
        said = stands.said;
        since_first = stands.since_first;
      }

  some_of : (o : Option Pairs) → IsSome o → (x : Pairs) × (o ≡ Some x)
  some_of None is = absurd cc
  some_of (Some x) is = (x, refl)

  pub append_step : (f : Frame) → CanLog (Append f) s → Stands wanted told (log_state (Append f) s) (step_world (Append f) s.end w)
  append_step f can =
      let may : (fs : List Frame) → CanStep s.low (Append f) s.end (written_by s fs) = λ fs. (can.ready, can.open_segment, can.fits, can.inner) in
      let here = after_step (Append f) (may []) s.at [] from_end (may []) in
      let some = some_of (all_replayed s.shape (s.pending ++ f ∷ []) (Some s.map)) can.not_full in
      record {
        log = here.log.files;
        ends = here.ends;
        marks = stands.marks;
        reads = stands.reads;
        quiet = stands.quiet;
        good = λ view is. plain_step (Append f) (place_after s.end f) (s.pending ++ f ∷ []) s.tail (λ p fs leads. (after_step (Append f) (may []) p fs leads (may fs)).log.leads)
            (λ fs leads first. restarts fs s.pending leads first can.restart_first) view (stands.good view is);
        well = grammar_append s.pending (f ∷ []) stands.well (can.in_grammar, tt);
        newest = some.0;
        newest_is = some.1;
        said = stands.said;
        since_first = stands.since_first;
      }
    where
      restarts : (fs pending : List Frame) → HasLasting all_frames w.log s.low s.at (place 1 0) fs → RestartIsFirst s.shape (fs ++ pending)
          → (s.at ≡ place 1 0 → pending ≡ [] → record_in f ≡ Some (Restart s.shape)) → RestartIsFirst s.shape (fs ++ (pending ++ f ∷ []))
      restarts [] [] leads first new = new (sym leads.to) refl
      restarts [] (p ∷ ps) leads first new = first
      restarts (x ∷ xs) ps leads first new = first

  pub force_step : CanLog Force s → Stands wanted told (log_state Force s) (step_world Force s.end w)
  force_step can =
      let here = after_step Force can s.at [] from_end can in
      let new = (step_world Force s.end w).log in
      let map = map_or (all_replayed s.shape s.pending (Some s.map)) s.map in
      let map_is : all_replayed s.shape s.pending (Some s.map) ≡ Some map = stands.newest_is ∙ ap (λ (k : Pairs). Some k) (sym (ap (λ (o : Option Pairs). map_or o s.map) stands.newest_is)) in
      record {
        log = here.log.files;
        ends = here.ends;
        marks = stands.marks;
        reads = stands.reads;
        quiet = stands.quiet;
        good = λ view is. good_moves wanted s w.log new w.pages (after_frames s.at s.pending) s.end s.pending [] (tail_forced s.tail s.pending) (s.order ++ s.pending) map
            (λ p fs leads. (after_step Force can p fs leads can).log.leads)
            stands.well map_is (λ fs leads first. subst (RestartIsFirst s.shape) (sym (append-nil (fs ++ s.pending))) first) view (stands.good view is);
        well = tt;
        newest = map;
        newest_is = refl;
        said = omega (arith, stands.said, length-append s.order s.pending);
        since_first = replayed-append s.shape s.order s.pending (Some s.first) ∙ ap (all_replayed s.shape s.pending) stands.since_first ∙ map_is;
      }

  -- ---- a segment is dropped

  rises_to : (p : Place) (fs : List Frame) → HasLasting all_frames w.log s.low s.at p fs → p.seg ≤ s.at.seg
  rises_to p fs leads = subst (λ (q : Place). p.seg ≤ q.seg) leads.to (rises_from p fs)

  pub drop_step : (seg : ℕ) → CanLog (DropSegment seg) s → Stands wanted told (log_state (DropSegment seg) s) (step_world (DropSegment seg) s.end w)
  drop_step seg can =
      let mark = can.mark in
      let low = max s.low (seg + 1) in
      let ended = good_ended in
      let up = rises_to (replay_of s.now.checkpoint) ended.frames ended.replay in
      let begin_up : seg + 1 ≤ s.at.seg = subst (λ c. (replay_of c).seg ≤ s.at.seg → seg + 1 ≤ s.at.seg) (sym can.ended) (λ le. omega (arith, le, can.below_replay)) up in
      let files : FilesHoldLog all_frames w.log low s.at s.pending s.tail = record {
        reaches = omega (arith, stands.log.reaches, begin_up);
        older = λ n le lt. stands.log.older n (omega (arith, le)) lt;
        below = stands.log.below;
        stood = stands.log.stood;
        above = stands.log.above;
        tail_is = stands.log.tail_is;
      } in
      let lasting : (p : Place) (fs : List Frame) → seg < p.seg → HasLasting all_frames w.log s.low s.at p fs → HasLasting all_frames w.log low s.at p fs =
      λ p fs lt leads. record { kept = omega (arith, lt, leads.kept); run = leads.run; to = leads.to; goes_on = leads.goes_on } in
      let may : seg < low = omega arith in
      let moves : (p : Place) (fs : List Frame) → seg < p.seg → HasLasting all_frames w.log s.low s.at p fs → IsWritten (step_world (DropSegment seg) s.end w) low p s.end (written_by s fs) =
      λ p fs lt leads. step_keeps low (DropSegment seg) w p s.end (written_by s fs) (record { log = record { files = files; leads = lasting p fs lt leads }; ends = stands.ends }) may in
      let here = moves s.at [] (omega (arith, begin_up)) from_end in
      record {
        log = here.log.files;
        ends = here.ends;
        marks = stands.marks;
        reads = stands.reads;
        quiet = stands.quiet;
        good = λ view is.
            let now : view ≡ s.now = subst (λ o. IsViewOf s.now o view) can.alone is in
            subst (λ (v : View). IsGood wanted (log_state (DropSegment seg) s) (step_world (DropSegment seg) s.end w).log w.pages v) (sym now)
            (dropped s.now.checkpoint s.now.rebuilt mark can.ended can.below_begin can.below_replay (λ p fs lt leads. (moves p fs lt leads).log.leads) ended);
        well = stands.well;
        newest = stands.newest;
        newest_is = stands.newest_is;
        said = stands.said;
        since_first = stands.since_first;
      }
    where
      good_ended : IsGood wanted s w.log w.pages s.now
      good_ended = stands.good s.now (subst (λ o. IsViewOf s.now o s.now) (sym can.alone) refl)

      dropped : (checkpoint : Checkpoint) (rebuilt : Partitions) (mark : Mark) → checkpoint ≡ Ended mark → seg < mark.begin.seg → seg < mark.replay.seg
          → ((p : Place) (fs : List Frame) → seg < p.seg → HasLasting all_frames w.log s.low s.at p fs → HasLasting all_frames (step_world (DropSegment seg) s.end w).log (max s.low (seg + 1)) s.at p fs)
          → IsGood wanted s w.log w.pages (record { checkpoint = checkpoint; rebuilt = rebuilt })
          → IsGood wanted (log_state (DropSegment seg) s) (step_world (DropSegment seg) s.end w).log w.pages (record { checkpoint = checkpoint; rebuilt = rebuilt })
      dropped NoStart rebuilt mark is begin replay moves good = absurd cc
      dropped (Started other) rebuilt mark is begin replay moves good = absurd cc
      dropped (Ended other) rebuilt mark is begin replay moves good =
          let same : other ≡ mark = cc in
          let begin_there : seg < other.begin.seg = subst (λ (m : Mark). seg < m.begin.seg) (sym same) begin in
          let replay_there : seg < other.replay.seg = subst (λ (m : Mark). seg < m.replay.seg) (sym same) replay in
          record {
            shaped = good.shaped;
            rebuilt_lasts = good.rebuilt_lasts;
            has_meta = good.has_meta;
            bare = tt;
            pages_stand = good.pages_stand;
            calm = good.calm;
            based = good.based;
            based_is = good.based_is;
            frames = good.frames;
            replay = moves other.replay good.frames replay_there good.replay;
            holds = good.holds;
            begins = (good.begins.0, moves other.begin good.begins.0 begin_there good.begins.1, good.begins.2);
            restarts = tt;
            empty_wanted = tt;
          }

  pub log_step : (t : Step) → CanLog t s → Stands wanted told (log_state t s) (step_world t s.end w)
  log_step CutTail can = cut_step can
  log_step (Append f) can = append_step f can
  log_step Force can = force_step can
  log_step NextSegment can = next_step can
  log_step (DropSegment seg) can = drop_step seg can
  log_step (ForceSegment seg) can = force_segment_step seg can
