-- The records of the log, applied again one after the other over page frames.
use Rattle.std.proofs.Common.{◌≡◌, ◌⊎◌, inl, inr, ℕ, ◌+◌, ◌<◌, ◌≤◌, ◌^◌, Bool, true, false, List, [], ◌∷◌, ◌++◌, length, Option, Some, None, Result, Ok, Err, refl, sym, ap, ◌∙◌, subst, arith, append_assoc, append-nil}
use Rattle.std.specs.Prelude.{◌||◌, if◌then◌else◌, IsErrOf}
use Rattle.std.proofs.lemmas.Option.{same_Some}
use Rattle.pm_types.specs.declared.fault.StoreFault.{StoreFault}
use Rattle.pm_types.specs.declared.fault.StoreFault.TheVariants.{BadPage, BadRecord, Memory}
use Rattle.pm_types.specs.declared.fault.Lack.TheVariants.{Bytes, Numbers}
use Rattle.pm_types.specs.declared.page_id.PageId.{PageId}
use Rattle.pm_types.specs.declared.place.Place.{Place}
use Rattle.pm_types.specs.declared.shape.Shape.{Shape}
use Rattle.pm_frame.specs.declared.limits.TheConstants.{FRAME_END_MAX, SEGMENT_END_MAX}
use Rattle.pm_frame.specs.Frames.{Frame, frame_at, end_max}
use Rattle.pm_frame.proofs.FrameAt.{frame_at-some}
use Rattle.pm_disk.specs.Moments.{History, IsHistory, AllMoments}
use Rattle.pm_disk.specs.Worlds.{World}
use Rattle.pm_disk.proofs.Chain.{started, joined}
use Rattle.pm_model.specs.Eval.{Pairs}
use Rattle.pm_records.specs.LogFiles.{contents}
use Rattle.pm_records.specs.Logs.{all_frames, record_in, is_seal, ends_log, next_place, after_frames, is_over, HasFrames}
use Rattle.pm_records.proofs.Runs.{neither, next_rises, rises, rises_from, after_frames-append, over-append}
use Rattle.pm_segments.specs.Ends.{EndsThere}
use Rattle.pm_segments.specs.Scans.{Scanned, StaysAt, bytes_after, frame_ahead, Advances, IsAhead}
use Rattle.pm_segments.proofs.GrownLog.{frame_stays}
use Rattle.pm_segments.proofs.Reading.{going_on}
use Rattle.pm_core.specs.Replays.{replayed, all_replayed}
use Rattle.pm_core.specs.States.{State}
use Rattle.pm_core.proofs.Replaying.{replayed-append, replayed-none}
use Rattle.pm_engine.specs.EngineReplays.{HasWholePages, GoesOnInFrames, KeepsEngineReady, NamesNoPage}
use Rattle.pm_engine.specs.Engines.{FrameRunning, map_in, running_in}
use Rattle.pm_engine.specs.FrameHosts.{ChangesNoWorld}
use Rattle.pm_engine.specs.FrameReplayCheckpoints.{ReplaysRecordFrom, ReplaysRecord}
use Rattle.pm_engine.specs.FrameReplayLogs.{AppliesNextIn, AppliesFrameIn, IsBadNextIn, HasRecordsIn, CanReplayIn, CanReplayOn, StepsReplay, ReplaysAllIn, ReplaysOverAny, ReplaysWellFormed, ReplaysScan, record_found}
use Rattle.pm_engine.specs.FrameStores.{HasCleanPages, pages_in_frames}
use Rattle.pm_engine.specs.MetPages.{AllowsRecord, KeepsOrMeets}
use Rattle.pm_engine.specs.RunningStores.{number_of}
use Rattle.pm_engine.specs.Replays.{AreLasting, CanBeRefused, CrashHoldsMap, IsBadAt, EndsBefore, IsBadReplay, LogLeadsTo}
use Rattle.pm_engine.specs.RunningStores.{HasSegmentsFor}
use Rattle.pm_engine.proofs.AnyReplays.{AppliesFront, allows_next, front_none, front_more, front_refused}
use Rattle.pm_engine.proofs.MetPages.{kept_same, meets_then}
use Rattle.pm_engine.proofs.ReadyEngines.{ready_same, ready_refused, ready_ok, ready_err, ready_then}
use Rattle.pm_engine.proofs.ReappliedRecords.{goes_on_quiet}
use Rattle.pm_engine.proofs.ReplayedRecords.{quiet_keeps, quiet_meets, record_alone, record_halted}
use Rattle.pm_engine.proofs.ReplayedLog.{StandsAhead, ReadsSoFar, stands_on, front_run, run_on, reads_none, or_false, lasts_next}
use Rattle.pm_engine.proofs.ReplayingStores.{holds_now, holds_soon}
use Rattle.pm_engine.proofs.Results.{ok_anyway}
use Rattle.pm_engine.proofs.RunningLines.{map_further, map_moments}
use Rattle.pm_engine.proofs.ScanSteps.{further_by}
use Rattle.pm_engine.proofs.WholePages.{running_whole}

-- ---- the next frame

-- no frame fits after the last place that a marker may name
none_fits : (scan : Scanned) (w : World) → FRAME_END_MAX < scan.next.off → frame_ahead scan w ≡ None
none_fits scan w past = none_ahead scan.is_over
  where
    latest : (b : Bool) → (if b then SEGMENT_END_MAX else FRAME_END_MAX) ≤ SEGMENT_END_MAX
    latest true = omega arith
    latest false = omega arith

    none_there : (o : Option Frame) → frame_at scan.next (bytes_after scan.next w) ≡ o → o ≡ None
    none_there None is = refl
    none_there (Some f) is =
        let head = (frame_at-some scan.next (bytes_after scan.next w) f is).0 in
        let most : end_max f.kind ≤ SEGMENT_END_MAX = latest (is_seal f) in
        absurd (omega (arith, past, head.ends, most))

    none_ahead : (over : Bool) → (if over then None else frame_at scan.next (bytes_after scan.next w)) ≡ None
    none_ahead true = refl
    none_ahead false = none_there (frame_at scan.next (bytes_after scan.next w)) refl

none_some : {A : Type 0} (x : A) → None ≡ Some x → ⊥
none_some x e = absurd cc

module _ (last highest : ℕ) (wanted : Shape) (told : List ℕ → ℕ) (pairs : Pairs) (scan : Scanned) (end : Place) (before : FrameRunning) (w : World) (apart : scan.next ≡ end → ⊥) (c : CanReplayOn last highest wanted told pairs scan end before w) where
  abbrev ahead : HasRecordsIn pairs scan.next end before w
  ahead = c.can.ahead

  -- a frame stands next
  data NextFrame : Type 0 where
    FrameStands : (f : Frame) (rest : List Frame) → ahead.rest ≡ f ∷ rest → frame_ahead scan w ≡ Some f → NextFrame

  frame_next : NextFrame
  frame_next = by ahead.rest refl
    where
      by : (fs : List Frame) → ahead.rest ≡ fs → NextFrame
      by [] is = absurd (apart (ap (after_frames scan.next) (sym is) ∙ ahead.to))
      by (f ∷ rest) is =
          let run = subst (HasFrames all_frames (contents w.log) scan.next) is ahead.run in
          FrameStands f rest is (stands_on scan w c.over ∙ run.0)

  -- there is one at least
  one_left : 1 ≤ length ahead.rest
  one_left = elim frame_next [ FrameStands f rest is stands ↦ omega (arith, ap (λ (fs : List Frame). length fs) is) ]

  room : HasSegmentsFor before.log 33
  room = omega (arith, one_left, c.can.numbers.segments, c.can.numbers.last_fits)

  numbered : number_of before.ckpt.mark + 1 < 2 ^ 64
  numbered = omega (arith, one_left, c.can.numbers.marks, c.can.numbers.highest_fits)

  left_after : (f : Frame) (rest : List Frame) → ahead.rest ≡ f ∷ rest → all_replayed before.store.shape rest (replayed before.store.shape (record_in f) (map_in before w)) ≡ Some pairs
  left_after f rest is = ap (λ fs. all_replayed before.store.shape fs (Some (map_in before w))) (sym is) ∙ ahead.left

  -- what a crash leaves of it now
  now_holds : CrashHoldsMap (last + 1) highest wanted before.store.shape pairs w
  now_holds =
      map_further (before.log.end.seg + 33) (number_of before.ckpt.mark) (last + 1) highest wanted before.store.shape pairs w (omega (arith, one_left, c.can.numbers.segments)) (omega (arith, c.can.numbers.marks))
      (holds_soon wanted told pairs (running_in before w c.can.is.logged) c.state w c.can.is.runs c.can.is.keeps)

  never_past : FRAME_END_MAX < scan.next.off → ⊥
  never_past past = elim frame_next [ FrameStands f rest is stands ↦ none_some f (sym (none_fits scan w past) ∙ stands) ]

-- ---- how it was read

module _ (tells : Type 0) (scan later : Scanned) (engine : FrameRunning) (old mid : History) (quiet : tells → ChangesNoWorld old mid) (there : tells → EndsThere engine.log old.world) (clean : tells → HasCleanPages engine.store old.world) (on : engine.store.is_open ≡ true) where
  goes : GoesOnInFrames tells engine engine old mid
  goes = goes_on_quiet tells engine old mid quiet there clean

  -- it couldn't be read
  pub next_unread : (fault : StoreFault) → NamesNoPage {T = Bool} (Err fault) → AppliesNextIn tells scan later engine engine old mid (Err fault)
  next_unread fault plain = record {
    found = None;
    stands = λ t. tt;
    is_next = λ t frame is. absurd (none_some frame is);
    advances = tt;
    there = λ is. absurd cc;
    still = λ t none. tt;
    replays = record_alone tells scan.next None engine engine old mid goes (Err fault) tt (λ t well. tt) (λ t well. plain)
        (quiet_meets tells None engine old.world mid.world (Err fault) (λ t. (quiet t).world) plain) (λ is. tt);
  }

  -- none stands there
  pub next_none : (tells → None ≡ frame_ahead scan old.world) → Advances scan later None → AppliesNextIn tells scan later engine engine old mid (Ok false)
  next_none stands advances = record {
    found = None;
    stands = stands;
    is_next = λ t frame is. absurd (none_some frame is);
    advances = advances;
    there = λ is. absurd cc;
    still = λ t none. (quiet t).world;
    replays = record_alone tells scan.next None engine engine old mid goes (Ok false) on (λ t well. refl) (λ t well id is. absurd cc)
        (quiet_meets tells None engine old.world mid.world (Ok false) (λ t. (quiet t).world) (λ id is. absurd cc)) (λ is. tt);
  }

  -- one stands there, which was applied
  pub next_some : (f : Frame) (now : FrameRunning) (new : History) (result : Result Bool StoreFault) → (tells → IsHistory mid) → (tells → Some f ≡ frame_ahead scan old.world) → Advances scan later (Some f) → ReplaysRecord tells scan.next (record_in f) engine now mid new result
      → AppliesNextIn tells scan later engine now old new result
  next_some f now new result sound stands advances x = record {
    found = Some f;
    stands = λ t. ok_anyway result (Some f ≡ frame_ahead scan old.world) (stands t);
    is_next = λ t frame is. sym (stands t) ∙ is;
    advances = ok_anyway result (Advances scan later (Some f)) advances;
    there = λ is. (f, refl);
    still = λ t none. absurd (none_some f (sym none));
    replays = record_halted tells scan.next (record_in f) engine engine now old mid new sound goes on refl (λ t. (quiet t).world) (λ t well. ap (λ (w : World). map_in engine w) (quiet t).world) result x
        (λ t may_change allows. quiet_keeps tells engine old.world mid.world (λ t. (quiet t).world) t may_change);
  }

-- ---- it was applied, or couldn't be

module _ (tells : Type 0) (scan mid : Scanned) (before now : FrameRunning) (old new : History) where
  module _ (t : tells) (last highest : ℕ) (wanted : Shape) (told : List ℕ → ℕ) (pairs : Pairs) (end : Place) (apart : scan.next ≡ end → ⊥) (c : CanReplayOn last highest wanted told pairs scan end before old.world) where
    abbrev rest : List Frame
    rest = c.can.ahead.rest

    next_crash : (found : Option Frame) (result : Result Bool StoreFault) → ReplaysRecord tells scan.next (record_found found) before now old new result → AllMoments old new (CrashHoldsMap (last + 1) highest wanted before.store.shape pairs)
    next_crash found result x =
        map_moments (before.log.end.seg + 34) (number_of before.ckpt.mark + 1) (last + 1) highest wanted before.store.shape pairs old new
        (omega (arith, one_left last highest wanted told pairs scan end before old.world apart c, c.can.numbers.segments)) (omega (arith, one_left last highest wanted told pairs scan end before old.world apart c, c.can.numbers.marks))
        (x.crash t wanted told pairs c.state rest c.can.is c.can.lasts c.can.ahead.left (room last highest wanted told pairs scan end before old.world apart c) (numbered last highest wanted told pairs scan end before old.world apart c))

    module _ (can : Bool) (x : AppliesNextIn tells scan mid before now old new (Ok can)) where
      replays : ReplaysRecordFrom wanted told pairs scan.next rest (record_found x.found) before now old.world new.world can
      replays = x.replays.runs t wanted told pairs c.state rest c.can.is c.can.lasts c.can.ahead.left (room last highest wanted told pairs scan end before old.world apart c) (numbered last highest wanted told pairs scan end before old.world apart c)

    -- it is not bad
    next_never_bad : AppliesNextIn tells scan mid before now old new (Ok false) → ⊥
    next_never_bad x = elim (frame_next last highest wanted told pairs scan end before old.world apart c) [
      | FrameStands f others is stands ↦
          let found : x.found ≡ Some f = x.stands t ∙ stands in
          let fails : replayed before.store.shape (record_in f) (map_in before old.world) ≡ None = subst (λ (o : Option Frame). replayed before.store.shape (record_found o) (map_in before old.world) ≡ None) found (replays false x).applies in
          none_some pairs (sym (replayed-none before.store.shape others) ∙ ap (all_replayed before.store.shape others) (sym fails) ∙ left_after last highest wanted told pairs scan end before old.world apart c f others is)
    ]

    -- once it is applied the others stand after it
    next_goes : (later : Scanned) → StaysAt mid later → AppliesNextIn tells scan mid before now old new (Ok true) → CanReplayOn last highest wanted told pairs later end now new.world
    next_goes later stays x = elim (frame_next last highest wanted told pairs scan end before old.world apart c) [
      | FrameStands f others is stands ↦
          let found : x.found ≡ Some f = x.stands t ∙ stands in
          let advances = subst (λ (o : Option Frame). Advances scan mid o) found x.advances in
          let r = replays true x in
          let makes : replayed before.store.shape (record_in f) (map_in before old.world) ≡ Some (map_in now new.world) =
          subst (λ (o : Option Frame). replayed before.store.shape (record_found o) (map_in before old.world) ≡ Some (map_in now new.world)) found r.applies in
          let parts = neither (ends_log scan.next f) (is_over (next_place scan.next f) others) (ap (is_over scan.next) (sym is) ∙ c.can.ahead.goes_on) in
          let run = subst (HasFrames all_frames (contents old.world.log) scan.next) is c.can.ahead.run in
          let leads_to : after_frames (next_place scan.next f) others ≡ end = ap (after_frames scan.next) (sym is) ∙ c.can.ahead.to in
          let room_is = room last highest wanted told pairs scan end before old.world apart c in
          let next : later.next ≡ next_place scan.next f = stays.next ∙ advances.1 in
          let stay : HasFrames all_frames (contents new.world.log) (next_place scan.next f) others =
          run_on (contents old.world.log) (contents new.world.log) (next_place scan.next f) others end.seg
          (λ seg low high. x.replays.log t room_is seg (omega (arith, low, next_rises scan.next f)) (omega (arith, high, c.can.ahead.behind))) (omega (arith, ap (λ (p : Place). p.seg) leads_to)) run.2 in
          record {
            state = r.state;
            can = record {
              is = r.is;
              ahead = record {
                rest = others;
                run = subst (λ (p : Place). HasFrames all_frames (contents new.world.log) p others) (sym next) stay;
                to = ap (λ (p : Place). after_frames p others) next ∙ leads_to;
                goes_on = ap (λ (p : Place). is_over p others) next ∙ parts.1;
                left = subst (λ (k : Shape). all_replayed k others (Some (map_in now new.world)) ≡ Some pairs) (sym x.replays.ready.same.shape)
                    (ap (all_replayed before.store.shape others) (sym makes) ∙ left_after last highest wanted told pairs scan end before old.world apart c f others is);
                behind = omega (arith, c.can.ahead.behind, x.replays.goes_on t room_is);
              };
              numbers = record {
                segments = omega (arith, c.can.numbers.segments, x.replays.rises, ap (λ (fs : List Frame). length fs) is);
                last_fits = c.can.numbers.last_fits;
                marks = omega (arith, c.can.numbers.marks, x.replays.number, ap (λ (fs : List Frame). length fs) is);
                highest_fits = c.can.numbers.highest_fits;
              };
              lasts = subst (λ (p : Place). AreLasting p others now.store.shape pairs r.state new.world) (sym next)
                  (lasts_next scan.next f others now.store.shape pairs r.state new.world (subst (λ (fs : List Frame). AreLasting scan.next fs now.store.shape pairs r.state new.world) is r.lasts));
            };
            over = stays.is_over ∙ advances.2 ∙ parts.0;
          }
    ]

  -- ---- as a step

  same_page : (fault : StoreFault) → NamesNoPage {T = Bool} (Err fault) → NamesNoPage {T = Unit {0}} (Err fault)
  same_page fault none id is = none id (let same : fault ≡ BadPage id = cc is in ap (λ (f : StoreFault). Err f) same)

  same_bad : (made at : Place) → IsErrOf {T = Unit {0}} {E = StoreFault} (Err (BadRecord made)) (BadRecord at) → made ≡ at
  same_bad made at is = cc is

  -- what the frame that stands next may change, the one that was found may
  found_allowed : (t : tells) (result : Result Bool StoreFault) (x : AppliesNextIn tells scan mid before now old new result) (may_change : ℕ → Bool) → AllowsRecord may_change before.store.shape (record_found (frame_ahead scan old.world)) → AllowsRecord may_change before.store.shape (record_found x.found)
  found_allowed t result x may_change allows = by x.found refl
    where
      by : (o : Option Frame) → x.found ≡ o → AllowsRecord may_change before.store.shape (record_found o)
      by None is = tt
      by (Some f) is = subst (λ (o : Option Frame). AllowsRecord may_change before.store.shape (record_found o)) (x.is_next t f is) allows

  -- which partition it changes, and which page is found bad
  found_meets : (t : tells) (result : Result Bool StoreFault) (x : AppliesNextIn tells scan mid before now old new result) (may_change : ℕ → Bool) → AllowsRecord may_change before.store.shape (record_found (frame_ahead scan old.world))
      → KeepsOrMeets tells may_change before.store.shape (pages_in_frames before.store old.world) (pages_in_frames now.store new.world) (now.store.is_open ≡ true) (λ id. IsErrOf result (BadPage id))
  found_meets t result x may_change allows = x.replays.meets t may_change (found_allowed t result x may_change allows)

  named_page : (fault : StoreFault) (id : PageId) → IsErrOf {T = Unit {0}} (Err fault) (BadPage id) → IsErrOf {T = Bool} (Err fault) (BadPage id)
  named_page fault id is = let same : fault ≡ BadPage id = cc is in ap (λ (f : StoreFault). Err f) same

  -- a fault
  pub steps_fault : (later : Scanned) (fault : StoreFault) → ((at : Place) → IsErrOf {T = Unit {0}} (Err fault) (BadRecord at) → ⊥) → AppliesNextIn tells scan mid before now old new (Err fault) → StepsReplay {T = Unit {0}} tells scan later before now old new (Err fault)
  steps_fault later fault plain x = record {
    ready = ready_err tells before now old new (Err fault) (Err fault) refl x.replays.ready;
    passes = tt;
    bound = tt;
    ahead = λ t. tt;
    applies = λ t whole. tt;
    any = λ t. record {
      meets = λ may_change allows.
          let its = found_meets t (Err fault) x may_change allows in
          record { keeps = its.keeps; meets = λ id is. its.meets id (named_page fault id is) };
      refuses = λ at is. absurd (plain at is);
      log = λ at is. absurd (plain at is);
      stands = tt;
      loses_none = tt;
      goes_on = tt;
    };
    no_page = λ t whole. same_page fault (x.replays.no_page t whole);
    bad = λ t whole at is. absurd (plain at is);
    runs = λ t last highest wanted told pairs end apart c. tt;
    no_bad = λ t last highest wanted told pairs end apart c. plain;
    crash = λ t last highest wanted told pairs end apart c. next_crash t last highest wanted told pairs end apart c x.found (Err fault) x.replays;
  }

  -- it couldn't be applied, or none stands there
  pub steps_bad : (later : Scanned) (at : Place) → at ≡ scan.next → HasSegmentsFor before.log 33 → AppliesNextIn tells scan mid before now old new (Ok false) → StepsReplay {T = Unit {0}} tells scan later before now old new (Err (BadRecord at))
  steps_bad later at here room x = record {
    ready = ready_err tells before now old new (Ok false) (Err (BadRecord at)) refl x.replays.ready;
    passes = tt;
    bound = tt;
    ahead = λ t. tt;
    applies = λ t whole. tt;
    any = λ t. record {
      meets = λ may_change allows. record { keeps = (found_meets t (Ok false) x may_change allows).keeps; meets = λ id is. absurd cc };
      refuses = λ place is. (
        sym (same_bad at place is) ∙ here,
        subst (λ (o : Option Frame). CanBeRefused (record_found o)) (x.stands t) (x.replays.refuses refl),
        λ none. x.still t (x.stands t ∙ none),
      );
      log = λ place is. x.replays.log t room;
      stands = tt;
      loses_none = tt;
      goes_on = tt;
    };
    no_page = λ t whole id is. absurd cc;
    bad = λ t whole place is. record {
      there = sym (same_bad at place is) ∙ here;
      found = x.found;
      stands = x.stands t;
      fails = (x.replays.whole t whole).applies;
      still = x.still t;
      log = x.replays.log t room;
    };
    runs = λ t last highest wanted told pairs end apart c. tt;
    no_bad = λ t last highest wanted told pairs end apart c _ _. next_never_bad t last highest wanted told pairs end apart c x;
    crash = λ t last highest wanted told pairs end apart c. next_crash t last highest wanted told pairs end apart c x.found (Ok false) x.replays;
  }

  -- it was applied
  pub steps_on : (later : Scanned) → StaysAt mid later → HasSegmentsFor before.log 33 → ((frame : Frame) × Advances scan later (Some frame)) → later.next.off ≤ SEGMENT_END_MAX → (tells → IsAhead later new.world) → AppliesNextIn tells scan mid before now old new (Ok true)
      → StepsReplay {T = Unit {0}} tells scan later before now old new (Ok tt)
  steps_on later stays room passes bound ahead x = record {
    ready = ready_ok tells before now old new true tt x.replays.ready;
    passes = passes;
    bound = bound;
    ahead = ahead;
    applies = λ t whole.
        let one = x.there refl in
        let a = subst (λ (o : Option Frame). Advances scan mid o) one.1 x.advances in
        let made = x.replays.whole t whole in
        record {
          frame = one.0;
          stands = sym (x.stands t) ∙ one.1;
          advances = (stays.place ∙ a.0, stays.next ∙ a.1, stays.is_over ∙ a.2);
          makes = subst (λ (o : Option Frame). replayed before.store.shape (record_found o) (map_in before old.world) ≡ Some (map_in now new.world)) one.1 made.applies;
          pages = made.pages;
          log = x.replays.log t room;
          goes_on = x.replays.goes_on t room;
        };
    any = λ t.
        let one = x.there refl in
        let a = subst (λ (o : Option Frame). Advances scan mid o) one.1 x.advances in
        record {
          meets = λ may_change allows. record { keeps = (found_meets t (Ok true) x may_change allows).keeps; meets = λ id is. absurd cc };
          refuses = λ at is. absurd cc;
          log = λ at is. absurd cc;
          stands = (one.0, sym (x.stands t) ∙ one.1, (stays.place ∙ a.0, stays.next ∙ a.1, stays.is_over ∙ a.2));
          loses_none = x.replays.log t room;
          goes_on = x.replays.goes_on t room;
        };
    no_page = λ t whole id is. absurd cc;
    bad = λ t whole at is. absurd cc;
    runs = λ t last highest wanted told pairs end apart c. next_goes t last highest wanted told pairs end apart c later stays x;
    no_bad = λ t last highest wanted told pairs end apart c at is. absurd cc;
    crash = λ t last highest wanted told pairs end apart c. next_crash t last highest wanted told pairs end apart c x.found (Ok true) x.replays;
  }

-- nothing was done
module _ (tells : Type 0) (scan : Scanned) (engine : FrameRunning) (old : History) (sound : tells → IsHistory old) where
  steps_none : (fault : StoreFault) → NamesNoPage {T = Unit {0}} (Err fault) → ((at : Place) → IsErrOf {T = Unit {0}} (Err fault) (BadRecord at) → (at ≡ scan.next) × CanBeRefused (record_found (frame_ahead scan old.world)))
      → (tells → (at : Place) → IsErrOf {T = Unit {0}} (Err fault) (BadRecord at) → IsBadNextIn scan engine old.world old.world at) → (tells → (last highest : ℕ) (wanted : Shape) (told : List ℕ → ℕ) (pairs : Pairs) (end : Place) → (scan.next ≡ end → ⊥) → CanReplayOn last highest wanted told pairs scan end engine old.world → (at : Place) → IsErrOf {T = Unit {0}} (Err fault) (BadRecord at) → ⊥)
      → StepsReplay {T = Unit {0}} tells scan scan engine engine old old (Err fault)
  steps_none fault no_page refuses bad no_bad = record {
    ready = ready_refused tells engine old fault sound;
    passes = tt;
    bound = tt;
    ahead = λ t. tt;
    applies = λ t whole. tt;
    any = λ t. record {
      meets = λ may_change allows. record { keeps = λ on. kept_same may_change (pages_in_frames engine.store old.world); meets = λ id is. absurd (no_page id is) };
      refuses = λ at is. let its = refuses at is in (its.0, its.1, λ none. refl);
      log = λ at is. λ seg low high. ([], sym (append-nil (contents old.world.log seg)));
      stands = tt;
      loses_none = tt;
      goes_on = tt;
    };
    no_page = λ t whole. no_page;
    bad = λ t whole. bad t;
    runs = λ t last highest wanted told pairs end apart c. tt;
    no_bad = no_bad;
    crash = λ t last highest wanted told pairs end apart c.
        started old (CrashHoldsMap (last + 1) highest wanted engine.store.shape pairs) (sound t) (now_holds last highest wanted told pairs scan end engine old.world apart c);
  }

  pub steps_unnumbered : StepsReplay {T = Unit {0}} tells scan scan engine engine old old (Err (Memory Numbers))
  steps_unnumbered = steps_none (Memory Numbers) (λ id is. absurd cc) (λ at is. absurd cc) (λ t at is. absurd cc) (λ t last highest wanted told pairs end apart c at is. absurd cc)

  pub steps_past : (at : Place) → at ≡ scan.next → FRAME_END_MAX < scan.next.off → StepsReplay {T = Unit {0}} tells scan scan engine engine old old (Err (BadRecord at))
  steps_past at here past = steps_none (BadRecord at) (λ id is. absurd cc)
      (λ place is. (sym (named at place is) ∙ here, subst (λ (o : Option Frame). CanBeRefused (record_found o)) (sym (none_fits scan old.world past)) tt))
      (λ t place is. record {
        there = sym (named at place is) ∙ here;
        found = None;
        stands = sym (none_fits scan old.world past);
        fails = refl;
        still = λ none. refl;
        log = λ seg low high. ([], sym (append-nil (contents old.world.log seg)));
      })
      (λ t last highest wanted told pairs end apart c _ _. never_past last highest wanted told pairs scan end engine old.world apart c past)
    where
      named : (made at : Place) → IsErrOf {T = Unit {0}} {E = StoreFault} (Err (BadRecord made)) (BadRecord at) → made ≡ at
      named made at is = cc is

-- ---- all of them

-- the place from which a scan goes on rises
pub passes_further : (scan later : Scanned) → ((frame : Frame) × Advances scan later (Some frame)) → (scan.next.seg < later.next.seg) ⊎ ((scan.next.seg ≡ later.next.seg) × (scan.next.off < later.next.off))
passes_further scan later x = further_by scan later x.0 x.1

-- The frames that were applied over any store's pages make the map of them, and the others stand ahead of the scan.
pub record ReadsWhole (from end : Place) (scan : Scanned) (before now : FrameRunning) (was w : World) : Type 0 where
  pub reads : ReadsSoFar from end (map_in before was) scan now.store.shape (map_in now w) was w now.log
  pub pages : HasWholePages now.store w

-- What was applied so far: the engine goes on, and where a sound store could be replayed from where the scan began, it
-- can be from where it stands.
pub record ReplaysSoFar (tells : Type 0) (start scan : Scanned) (end : Place) (before now : FrameRunning) (old new : History) : Type 0 where
  pub bound : scan.next.off ≤ SEGMENT_END_MAX
  pub from_one : 1 ≤ scan.next.seg
  pub ready : KeepsEngineReady {T = Unit {0}} {E = StoreFault} tells before now old new (Ok tt)
  pub ahead : tells → IsAhead scan new.world
  pub sound : tells → (last highest : ℕ) (wanted : Shape) (told : List ℕ → ℕ) (pairs : Pairs) → CanReplayOn last highest wanted told pairs start end before old.world
      → CanReplayOn last highest wanted told pairs scan end now new.world × AllMoments old new (CrashHoldsMap (last + 1) highest wanted before.store.shape pairs)
  pub any : tells → start.is_over ≡ false → LogLeadsTo start.next end before.log old.world → HasWholePages before.store old.world → ReadsWhole start.next end scan before now old.world new.world
  pub over_any : tells → start.is_over ≡ false → (leads : LogLeadsTo start.next end before.log old.world) → AppliesFront start.next end leads.frames scan before now old.world new.world

-- what a crash leaves of a store that can be replayed
rests_hold : (last highest : ℕ) (wanted : Shape) (told : List ℕ → ℕ) (pairs : Pairs) (from end : Place) (engine : FrameRunning) (s : State) (old : History) → IsHistory old → CanReplayIn last highest wanted told pairs from end engine s old.world
    → AllMoments old old (CrashHoldsMap (last + 1) highest wanted engine.store.shape pairs)
rests_hold last highest wanted told pairs from end engine s old sound c =
    started old (CrashHoldsMap (last + 1) highest wanted engine.store.shape pairs) sound
    (map_further (engine.log.end.seg + 1) (number_of engine.ckpt.mark) (last + 1) highest wanted engine.store.shape pairs old.world (omega (arith, c.numbers.segments)) (omega (arith, c.numbers.marks))
    (holds_now wanted told pairs (running_in engine old.world c.is.logged) s old.world c.is.runs c.is.keeps))

-- memory ran out before
pub none_replayed : (last highest : ℕ) (wanted : Shape) (told : List ℕ → ℕ) (pairs : Pairs) (from end : Place) (engine : FrameRunning) (s : State) (old : History) → IsHistory old → CanReplayIn last highest wanted told pairs from end engine s old.world
    → ReplaysAllIn {T = Unit {0}} last highest wanted told pairs engine engine old old (Err (Memory Bytes))
none_replayed last highest wanted told pairs from end engine s old sound c = record {
  replays = tt;
  map = tt;
  segment = tt;
  number = tt;
  no_bad = λ at is. absurd cc;
  no_page = λ id is. absurd cc;
  crash = rests_hold last highest wanted told pairs from end engine s old sound c;
}

pub so_far_none : (tells : Type 0) (scan : Scanned) (end : Place) (engine : FrameRunning) (old : History) → (tells → IsHistory old) → scan.next.off ≤ SEGMENT_END_MAX → 1 ≤ scan.next.seg → engine.store.is_open ≡ true → (tells → HasCleanPages engine.store old.world)
    → (tells → EndsThere engine.log old.world) → (tells → IsAhead scan old.world) → ReplaysSoFar tells scan scan end engine engine old old
so_far_none tells scan end engine old sound bound from_one on clean there ahead = record {
  bound = bound;
  from_one = from_one;
  ready = ready_same tells engine old tt sound on clean there;
  ahead = ahead;
  sound = λ t last highest wanted told pairs c. (c, rests_hold last highest wanted told pairs scan.next end engine c.state old (sound t) c.can);
  any = λ t over leads whole. record { reads = reads_none scan.next end (map_in engine old.world) scan engine.store.shape old.world engine.log refl over leads; pages = whole };
  over_any = λ t over leads. front_none scan.next end scan engine old.world refl over leads;
}

-- memory ran out before
pub none_applied : (from end : Place) (engine : FrameRunning) (w : World) → ReplaysWellFormed {T = Unit {0}} from end engine engine w w (Err (Memory Bytes))
none_applied from end engine w = record { applies = tt; no_page = λ id is. absurd cc; bad = λ at is. absurd cc }

pub none_refused : (tells : Type 0) (from end : Place) (frames : List Frame) (engine : FrameRunning) (w : World) → ReplaysOverAny {T = Unit {0}} tells from end frames engine engine w w (Err (Memory Bytes))
none_refused tells from end frames engine w = record {
  meets = λ may_change all. record { keeps = λ on. kept_same may_change (pages_in_frames engine.store w); meets = λ id is. absurd cc };
  refuses = λ at is. absurd cc;
}

-- the next one was applied
reads_next : (from end : Place) (base : Pairs) (scan later : Scanned) (before now : FrameRunning) (was old new : World) → now.store.shape ≡ before.store.shape → (scan.next ≡ end → ⊥) → AppliesFrameIn scan later before now old new
    → ReadsSoFar from end base scan before.store.shape (map_in before old) was old before.log → ReadsSoFar from end base later now.store.shape (map_in now new) was new now.log
reads_next from end base scan later before now was old new shape apart x reads =
    let f = x.frame in
    let going = going_on scan old f x.stands in
    record {
      frames = reads.frames ++ f ∷ [];
      next = x.advances.1 ∙ ap (λ (q : Place). next_place q f) reads.next ∙ sym (after_frames-append from reads.frames (f ∷ []));
      holds = subst (λ (k : Shape). all_replayed k (reads.frames ++ f ∷ []) (Some base) ≡ Some (map_in now new)) (sym shape)
          (replayed-append before.store.shape reads.frames (f ∷ []) (Some base) ∙ ap (all_replayed before.store.shape (f ∷ [])) reads.holds ∙ x.makes);
      over = x.advances.2 ∙ ap (λ (q : Place). ends_log q f) reads.next ∙ sym (or_false (ends_log (after_frames from reads.frames) f))
          ∙ ap (λ b. b || (ends_log (after_frames from reads.frames) f || false)) (sym going ∙ reads.over) ∙ sym (over-append from reads.frames (f ∷ []));
      stands = stands_next reads.stands.rest refl;
    }
  where
    stands_next : (fs : List Frame) → reads.stands.rest ≡ fs → StandsAhead from end (reads.frames ++ x.frame ∷ []) later was new now.log
    stands_next [] is = absurd (apart (ap (after_frames scan.next) (sym is) ∙ reads.stands.to))
    stands_next (g ∷ rest) is =
        let f = x.frame in
        let so = reads.stands in
        let first = subst (HasFrames all_frames (contents old.log) scan.next) is so.ahead in
        let same : g ≡ f = same_Some g f (sym (stands_on scan old (going_on scan old f x.stands) ∙ first.0) ∙ x.stands) in
        let rest_is : so.rest ≡ f ∷ rest = is ∙ ap (λ (h : Frame). h ∷ rest) same in
        let run = subst (HasFrames all_frames (contents old.log) scan.next) rest_is so.ahead in
        let leads : after_frames (next_place scan.next f) rest ≡ end = ap (after_frames scan.next) (sym rest_is) ∙ so.to in
        record {
          rest = rest;
          stood = subst (HasFrames all_frames (contents was.log) from) (sym (append_assoc reads.frames (f ∷ []) rest)) (subst (λ (fs : List Frame). HasFrames all_frames (contents was.log) from (reads.frames ++ fs)) rest_is so.stood);
          ahead = subst (λ (p : Place). HasFrames all_frames (contents new.log) p rest) (sym x.advances.1)
              (run_on (contents old.log) (contents new.log) (next_place scan.next f) rest end.seg (λ seg low high. x.log seg (omega (arith, low, next_rises scan.next f)) (omega (arith, high, so.behind))) (omega (arith, ap (λ (p : Place). p.seg) leads)) run.2);
          to = ap (λ (p : Place). after_frames p rest) x.advances.1 ∙ leads;
          behind = omega (arith, so.behind, x.goes_on);
        }

-- the next one can't be
bad_next_in : (from end : Place) (before now : FrameRunning) (scan : Scanned) (was old new : World) (at : Place) → now.store.shape ≡ before.store.shape → (scan.next ≡ end → ⊥) → IsBadNextIn scan now old new at → ReadsWhole from end scan before now was old
    → IsBadReplay before.store.shape (map_in before was) (contents was.log) from end new at
bad_next_in from end before now scan was old new at shape apart bad so = record {
  before = reads.frames;
  rest = reads.stands.rest;
  stand = reads.stands.stood;
  to = after_frames-append from reads.frames reads.stands.rest ∙ ap (λ (p : Place). after_frames p reads.stands.rest) (sym reads.next) ∙ reads.stands.to;
  there = sym reads.next ∙ sym bad.there;
  not_end = λ is. apart (sym bad.there ∙ is);
  map = map_in now old;
  holds = subst (λ (k : Shape). all_replayed k reads.frames (Some (map_in before was)) ≡ Some (map_in now old)) shape reads.holds;
  bad = subst (λ (q : Place). Why q) (sym bad.there) (by bad.found bad.stands bad.fails bad.still);
}
  where
    reads : ReadsSoFar from end (map_in before was) scan now.store.shape (map_in now old) was old now.log
    reads = so.reads

    Why : Place → Type 0
    Why q = IsBadAt before.store.shape (map_in now old) new q ⊎ EndsBefore reads.frames from new q

    -- the place is in no later segment than the log's end
    within : scan.next.seg ≤ now.log.end.seg
    within = omega (arith, rises_from scan.next reads.stands.rest, ap (λ (p : Place). p.seg) reads.stands.to, reads.stands.behind)

    by : (found : Option Frame) → found ≡ frame_ahead scan old → replayed now.store.shape (record_found found) (map_in now old) ≡ None → (found ≡ None → new ≡ old) → Why scan.next
    by None stands fails still =
        inr (λ going. ap (λ (w : World). all_frames.frame_at scan.next.seg scan.next.off (contents w.log scan.next.seg)) (still refl) ∙ sym (stands_on scan old (reads.over ∙ going)) ∙ sym stands)
    by (Some f) stands fails still =
        let going = going_on scan old f (sym stands) in
        inl (
          f,
          frame_stays scan.next.seg scan.next.off (contents old.log scan.next.seg) (contents new.log scan.next.seg) f (bad.log scan.next.seg (omega arith) within) (sym (stands_on scan old going) ∙ sym stands),
          subst (λ (k : Shape). replayed k (record_in f) (map_in now old) ≡ None) shape fails,
        )

module _ (tells : Type 0) (start scan : Scanned) (end : Place) (before mid now : FrameRunning) (old h1 h2 : History) (sound : tells → IsHistory h1) (so : ReplaysSoFar tells start scan end before mid old h1) (apart : scan.next ≡ end → ⊥) where
  both_crash : {T : Type 0} (later : Scanned) (result : Result T StoreFault) → StepsReplay {T = T} tells scan later mid now h1 h2 result → tells → (last highest : ℕ) (wanted : Shape) (told : List ℕ → ℕ) (pairs : Pairs) → CanReplayOn last highest wanted told pairs start end before old.world
      → AllMoments old h2 (CrashHoldsMap (last + 1) highest wanted before.store.shape pairs)
  both_crash later result x t last highest wanted told pairs c =
      let mid_is = so.sound t last highest wanted told pairs c in
      joined old h1 h2 (CrashHoldsMap (last + 1) highest wanted before.store.shape pairs) mid_is.1
      (subst (λ (k : Shape). AllMoments h1 h2 (CrashHoldsMap (last + 1) highest wanted k pairs)) so.ready.same.shape (x.crash t last highest wanted told pairs end apart mid_is.0))

  ready_then_on : (later : Scanned) (result : Result (Unit {0}) StoreFault) → StepsReplay {T = Unit {0}} tells scan later mid now h1 h2 result → KeepsEngineReady {T = Unit {0}} {E = StoreFault} tells before now old h2 result
  ready_then_on later result x = ready_then tells before mid now old h1 h2 (Ok tt) result sound so.ready x.ready

  pub so_far_more : (later : Scanned) → StepsReplay {T = Unit {0}} tells scan later mid now h1 h2 (Ok tt) → ReplaysSoFar tells start later end before now old h2
  so_far_more later x = record {
    bound = x.bound;
    from_one = omega (arith, so.from_one, next_rises scan.next x.passes.0, ap (λ (p : Place). p.seg) x.passes.1.1);
    ready = ready_then_on later (Ok tt) x;
    ahead = x.ahead;
    sound = λ t last highest wanted told pairs c. (x.runs t last highest wanted told pairs end apart (so.sound t last highest wanted told pairs c).0, both_crash later (Ok tt) x t last highest wanted told pairs c);
    any = λ t over leads whole.
        let mid_is = so.any t over leads whole in
        let applied = x.applies t mid_is.pages in
        record {
          reads = reads_next start.next end (map_in before old.world) scan later mid now old.world h1.world h2.world x.ready.same.shape apart applied mid_is.reads;
          pages = applied.pages;
        };
    over_any = λ t over leads.
        let any = x.any t in
        let one = any.stands in
        front_more start.next end leads.frames scan before mid old.world h1.world (so.over_any t over leads) apart later now h2.world one.0 so.ready.same.shape one.1 one.2 any.loses_none any.goes_on
        (λ may_change allows. (any.meets may_change allows).keeps x.ready.is_open);
  }

  pub so_far_fails : (later : Scanned) (fault : StoreFault) → StepsReplay {T = Unit {0}} tells scan later mid now h1 h2 (Err fault) → ReplaysScan {T = Unit {0}} tells start end before now old h2 (Err fault)
  so_far_fails later fault x = record {
    ready = ready_then_on later (Err fault) x;
    sound = λ t last highest wanted told pairs c. record {
      replays = tt;
      map = tt;
      segment = tt;
      number = tt;
      no_bad = x.no_bad t last highest wanted told pairs end apart (so.sound t last highest wanted told pairs c).0;
      no_page =
          let mid_is = (so.sound t last highest wanted told pairs c).0 in
          x.no_page t (running_whole wanted told pairs mid mid_is.state h1.world mid_is.can.is);
      crash = both_crash later (Err fault) x t last highest wanted told pairs c;
    };
    any = λ t over leads whole.
        let mid_is = so.any t over leads whole in
        record {
          applies = tt;
          no_page = x.no_page t mid_is.pages;
          bad = λ at is. bad_next_in start.next end before mid scan old.world h1.world h2.world at so.ready.same.shape apart (x.bad t mid_is.pages at is) mid_is;
        };
    over_any = λ t over leads.
        let front = so.over_any t over leads in
        let any = x.any t in
        let was = pages_in_frames before.store old.world in
        let had = pages_in_frames mid.store h1.world in
        let has = pages_in_frames now.store h2.world in
        let frames = leads.frames in
        record {
          meets = λ may_change all.
              let its = any.meets may_change (allows_next start.next end frames scan before mid old.world h1.world front apart may_change so.ready.same.shape all) in
              meets_then may_change was had (front.keeps may_change all) tells before.store.shape has (now.store.is_open ≡ true) (λ id. IsErrOf {T = Unit {0}} (Err fault) (BadPage id))
              (subst (λ (k : Shape). KeepsOrMeets tells may_change k had has (now.store.is_open ≡ true) (λ id. IsErrOf {T = Unit {0}} (Err fault) (BadPage id))) so.ready.same.shape its);
          refuses = λ at is.
              let its = any.refuses at is in
              front_refused start.next end frames scan before mid old.world h1.world front apart h2.world at its.0 its.1 its.2 (any.log at is);
        };
  }

-- all were applied
all_applied : (pairs : Pairs) (from end : Place) (engine : FrameRunning) (w : World) → HasRecordsIn pairs from end engine w → from ≡ end → map_in engine w ≡ pairs
all_applied pairs from end engine w can is = by can.rest can.to can.left
  where
    by : (fs : List Frame) → after_frames from fs ≡ end → all_replayed engine.store.shape fs (Some (map_in engine w)) ≡ Some pairs → map_in engine w ≡ pairs
    by [] to left = same_Some (map_in engine w) pairs left
    by (f ∷ fs) to left =
        let back : after_frames from (f ∷ fs) ≡ from = to ∙ sym is in
        absurd (elim (rises from (f ∷ fs)) [ inl up ↦ omega (arith, up, ap (λ (p : Place). p.seg) back) | inr on ↦ omega (arith, on.1, ap (λ (p : Place). p.off) back) ])

pub so_far_ends : (tells : Type 0) (start scan : Scanned) (end : Place) (before now : FrameRunning) (old new : History) → ReplaysSoFar tells start scan end before now old new → scan.next ≡ end → ReplaysScan {T = Unit {0}} tells start end before now old new (Ok tt)
so_far_ends tells start scan end before now old new so at = record {
  ready = so.ready;
  sound = λ t last highest wanted told pairs c.
      let x = so.sound t last highest wanted told pairs c in
      record {
        replays = (x.0.state, x.0.can.is);
        map = all_applied pairs scan.next end now new.world x.0.can.ahead at;
        segment = omega (arith, x.0.can.numbers.segments);
        number = omega (arith, x.0.can.numbers.marks);
        no_bad = λ place is. absurd cc;
        no_page = λ id is. absurd cc;
        crash = x.1;
      };
  any = λ t over leads whole.
      let x = so.any t over leads whole in
      record {
        applies = record {
          frames = x.reads.frames;
          stand = front_run (contents old.world.log) start.next x.reads.frames x.reads.stands.rest x.reads.stands.stood;
          to = sym x.reads.next ∙ at;
          makes = subst (λ (k : Shape). all_replayed k x.reads.frames (Some (map_in before old.world)) ≡ Some (map_in now new.world)) so.ready.same.shape x.reads.holds;
          well_formed = x.pages.well_formed;
        };
        no_page = λ id is. absurd cc;
        bad = λ place is. absurd cc;
      };
  over_any = λ t over leads. record {
    meets = λ may_change all. record { keeps = λ on. (so.over_any t over leads).keeps may_change all; meets = λ id is. absurd cc };
    refuses = λ place is. absurd cc;
  };
}
