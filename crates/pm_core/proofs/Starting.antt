-- A sound disk with nothing pending is as the machine's first state says.
use Rattle.std.proofs.Common.{◌≡◌, inl, ℕ, ◌+◌, ◌^◌, ◌<◌, ◌≤◌, List, [], ◌∷◌, ◌++◌, length, Option, Some, None, true, false, refl, sym, ◌∙◌, ap, subst, arith}
use Rattle.std.specs.Prelude.{IsSome}
use Rattle.std.proofs.lemmas.Option.{same_Some}
use Rattle.pm_types.specs.declared.place.Place.{Place}
use Rattle.pm_types.specs.declared.shape.Mark.{Mark}
use Rattle.pm_types.specs.declared.shape.Shape.{Shape}
use Rattle.pm_frame.specs.Frames.{Frame}
use Rattle.pm_disk.specs.Files.{bytes_of, content}
use Rattle.pm_disk.specs.Worlds.{World}
use Rattle.pm_disk.proofs.Files.{quiet_content}
use Rattle.pm_model.specs.Eval.{Pairs}
use Rattle.pm_records.specs.FirstRecords.{is_restart, shape_in, log_shape}
use Rattle.pm_records.specs.LogFiles.{Uncut, HoldsLog, contents}
use Rattle.pm_records.specs.Logs.{all_frames, record_in, after_frames, is_over, IsLogFrom, IsLogWithNothingAbove}
use Rattle.pm_records.specs.Records.{Record, Logical, Snapshot, Delta, CpBegin, Restart, Seal}
use Rattle.pm_records.proofs.FrameGrammar.{frame_laws}
use Rattle.pm_records.proofs.HeldLog.{quiet_held}
use Rattle.pm_records.proofs.OpeningLaw.{run_within}
use Rattle.pm_records.proofs.Runs.{few_go_on, log_join, after_frames-append, rises_from}
use Rattle.pm_marks.specs.InForce.{Checkpoint, NoStart, Started, Ended, replay_of}
use Rattle.pm_core.specs.Replays.{all_replayed}
use Rattle.pm_core.specs.BasePages.{Partitions, no_pages, pages_of, laid_over, base_of, IsBegin, RebuiltAre}
use Rattle.pm_core.specs.LogAlone.{image_of}
use Rattle.pm_core.specs.Held.{AllWellFormed, in_force, store_shape, BeginsWell, pairs_in}
use Rattle.pm_core.specs.Sound.{BeginEnds, AreBare, Sound}
use Rattle.pm_core.specs.Starts.{start_state, CanBegin}
use Rattle.pm_core.specs.States.{State, View, RestartIsFirst, BeginIsFirst}
use Rattle.pm_core.specs.Stands.{OnlyNoStart, HasShape, MarksSay, RebuiltIsLasting, BeginIsLasting, IsGood, Stands}
use Rattle.pm_core.proofs.MarkSteps.{quiet_marks}
use Rattle.pm_core.proofs.PageSteps.{quiet_pages}
use Rattle.pm_core.proofs.Replaying.{records_grammar}
use Rattle.pm_core.proofs.Saying.{in_force_said}

-- ---- the log of a disk with nothing pending

module _ (w : World) (at : Place) (quiet : (seg : ℕ) → (w.log seg).since ≡ []) (numbered : at.seg + 1 < 2 ^ 64) (above : (seg : ℕ) → at.seg < seg → contents w.log seg ≡ []) where
  few : (p : Place) (fs : List Frame) → after_frames p fs ≡ at → is_over p fs ≡ false
  few p fs to = few_go_on p fs (subst (λ (q : Place). q.seg + 1 < 2 ^ 64) (sym to) numbered)

  with_above : (p : Place) (fs : List Frame) → IsLogFrom all_frames (contents w.log) p fs → after_frames p fs ≡ at → IsLogWithNothingAbove all_frames (contents w.log) p fs
  with_above p fs log to = record { log = log; nothing_above = λ seg lt. above seg (subst (λ (q : Place). q.seg < seg) to lt) }

  pub lasting_from : (p : Place) (fs : List Frame) → at.off ≤ length (contents w.log at.seg) → IsLogWithNothingAbove all_frames (contents w.log) p fs → after_frames p fs ≡ at → HoldsLog all_frames w.log 0 p at fs [] Uncut
  lasting_from p fs fits log to = quiet_held all_frames frame_laws w.log 0 p at fs (λ seg le. quiet seg) (omega arith) log (few p fs to) to fits

  pub rebuilt_starts : (fits : at.off ≤ length (contents w.log at.seg)) (checkpoint : Checkpoint) (rebuilt : Partitions) → RebuiltAre checkpoint (contents w.log) rebuilt → BeginEnds checkpoint (contents w.log) at
      → RebuiltIsLasting checkpoint w.log 0 at rebuilt
  rebuilt_starts fits NoStart rebuilt is begins = is
  rebuilt_starts fits (Ended mark) rebuilt is begins = is
  rebuilt_starts fits (Started mark) rebuilt is begins =
      let up : mark.begin.seg ≤ at.seg = subst (λ (q : Place). mark.begin.seg ≤ q.seg) begins.same_end (rises_from mark.begin begins.frames) in
      let goes_on : is_over mark.from is.frames ≡ false = few_go_on mark.from is.frames (subst (λ (q : Place). q.seg + 1 < 2 ^ 64) (sym is.reaches) (omega (arith, up, numbered))) in
      let later = with_above mark.begin begins.frames begins.is_log begins.same_end in
      let log = log_join all_frames (contents w.log) mark.from is.frames begins.frames is.run goes_on (subst (λ (q : Place). IsLogWithNothingAbove all_frames (contents w.log) q begins.frames) (sym is.reaches) later) in
      let to = after_frames-append mark.from is.frames begins.frames ∙ ap (λ (q : Place). after_frames q begins.frames) is.reaches ∙ begins.same_end in
      record {
        before = is.frames;
        after = begins.frames;
        leads = (lasting_from mark.from (is.frames ++ begins.frames) fits log to).leads;
        reaches = is.reaches;
        is = is.rebuilt;
      }

  begin_first : (mark : Mark) (ys : List Frame) (begin : Frame) → IsLogFrom all_frames (contents w.log) mark.begin ys
      → all_frames.frame_at mark.begin.seg mark.begin.off (contents w.log mark.begin.seg) ≡ Some begin → IsBegin mark.number begin → BeginIsFirst mark.number ys
  begin_first mark [] begin log stands is = let no : None ≡ Some begin = sym (log.ends refl) ∙ stands in absurd cc
  begin_first mark (y ∷ ys) begin log stands is = subst (IsBegin mark.number) (same_Some begin y (sym stands ∙ log.run.0)) is

  pub begins_start : (fits : at.off ≤ length (contents w.log at.seg)) (checkpoint : Checkpoint) (rebuilt : Partitions) → RebuiltAre checkpoint (contents w.log) rebuilt → BeginEnds checkpoint (contents w.log) at
      → BeginIsLasting checkpoint w.log 0 at
  begins_start fits NoStart rebuilt is begins = tt
  begins_start fits (Ended mark) rebuilt is begins =
      (begins.frames, (lasting_from mark.begin begins.frames fits (with_above mark.begin begins.frames begins.is_log begins.same_end) begins.same_end).leads, records_grammar begins.frames begins.in_grammar)
  begins_start fits (Started mark) rebuilt is begins = record {
    frames = begins.frames;
    leads = (lasting_from mark.begin begins.frames fits (with_above mark.begin begins.frames begins.is_log begins.same_end) begins.same_end).leads;
    in_grammar = records_grammar begins.frames begins.in_grammar;
    begins = begin_first mark begins.frames is.begin begins.is_log is.stands is.begins;
  }

-- ---- shape and pages

shape_starts : (wanted shape : Shape) (checkpoint : Checkpoint) (fs : List Frame) → shape ≡ store_shape wanted checkpoint fs → HasShape shape checkpoint
shape_starts wanted shape NoStart fs is = tt
shape_starts wanted shape (Started mark) fs is = sym is
shape_starts wanted shape (Ended mark) fs is = sym is

pub restart_of : (wanted shape : Shape) (found : Option Record) → is_restart found ≡ true → shape ≡ shape_in wanted found → found ≡ Some (Restart shape)
restart_of wanted shape None is told = absurd cc
restart_of wanted shape (Some (Logical op cache key value)) is told = absurd cc
restart_of wanted shape (Some (Snapshot page bytes)) is told = absurd cc
restart_of wanted shape (Some (Delta page ranges)) is told = absurd cc
restart_of wanted shape (Some (CpBegin number replay)) is told = absurd cc
restart_of wanted shape (Some (Restart other)) is told = ap (λ (s : Shape). Some (Restart s)) (sym told)
restart_of wanted shape (Some Seal) is told = absurd cc

restart_starts : (wanted shape : Shape) (checkpoint : Checkpoint) (fs : List Frame) → BeginsWell checkpoint fs → shape ≡ store_shape wanted checkpoint fs → OnlyNoStart checkpoint (RestartIsFirst shape (fs ++ []))
restart_starts wanted shape NoStart [] begins told = tt
restart_starts wanted shape NoStart (f ∷ fs) begins told = restart_of wanted shape (record_in f) begins told
restart_starts wanted shape (Started mark) fs begins told = tt
restart_starts wanted shape (Ended mark) fs begins told = tt

wanted_starts : (wanted shape : Shape) (checkpoint : Checkpoint) (fs : List Frame) → shape ≡ store_shape wanted checkpoint fs → OnlyNoStart checkpoint (fs ≡ [] → shape ≡ wanted)
wanted_starts wanted shape NoStart fs told = λ none. told ∙ ap (log_shape wanted) none
wanted_starts wanted shape (Started mark) fs told = tt
wanted_starts wanted shape (Ended mark) fs told = tt

bare_starts : (shape : Shape) (checkpoint : Checkpoint) (files : ℕ → Option (List ℕ)) → AreBare checkpoint shape.page_size files → OnlyNoStart checkpoint (pages_of shape.page_size files ≡ no_pages)
bare_starts shape NoStart files bare = λ i part index. bare part index i
bare_starts shape (Started mark) files bare = tt
bare_starts shape (Ended mark) files bare = tt

-- the base is the rebuilt pages laid over those of the files
base_starts : (log : ℕ → List ℕ) (shape : Shape) (checkpoint : Checkpoint) (rebuilt : Partitions) (files : ℕ → Option (List ℕ)) → HasShape shape checkpoint → RebuiltAre checkpoint log rebuilt
    → OnlyNoStart checkpoint (pages_of shape.page_size files ≡ no_pages) → base_of checkpoint rebuilt files ≡ laid_over rebuilt (pages_of shape.page_size files)
base_starts log shape NoStart rebuilt files shaped none bare =
    sym (ap (λ (r : Partitions). laid_over r (pages_of shape.page_size files)) none ∙ ap (λ (f : Partitions). laid_over no_pages f) bare)
base_starts log shape (Started mark) rebuilt files shaped is bare = ap (λ (s : Shape). laid_over rebuilt (pages_of s.page_size files)) shaped
base_starts log shape (Ended mark) rebuilt files shaped none bare = ap (λ (s : Shape). laid_over rebuilt (pages_of s.page_size files)) shaped

module _ (wanted : Shape) (told : List ℕ → ℕ) (w : World) (shape : Shape) (pairs : Pairs) (can : CanBegin wanted told w shape pairs) where
  abbrev sound : Sound wanted w shape pairs
  sound = can.sound

  abbrev first : State
  first = start_state wanted w shape pairs can.sound

  abbrev checkpoint : Checkpoint
  checkpoint = in_force (image_of w)

  abbrev forced : ℕ → Option (List ℕ)
  forced part = (w.pages part).forced

  -- what is there of the pages' files is forced
  same_files : (image_of w).pages ≡ forced
  same_files = λ i part. quiet_content (w.pages part) (can.quiet.pages part) i

  shaped : HasShape shape checkpoint
  shaped = shape_starts wanted shape checkpoint sound.holds.frames sound.holds.told

  bare : OnlyNoStart checkpoint (pages_of shape.page_size forced ≡ no_pages)
  bare = bare_starts shape checkpoint forced (subst (λ (files : ℕ → Option (List ℕ)). AreBare checkpoint shape.page_size files) same_files sound.bare)

  base : base_of checkpoint sound.holds.rebuilt (image_of w).pages ≡ laid_over sound.holds.rebuilt first.files
  base = ap (λ (files : ℕ → Option (List ℕ)). base_of checkpoint sound.holds.rebuilt files) same_files ∙ base_starts (contents w.log) shape checkpoint sound.holds.rebuilt forced shaped sound.holds.rebuilt_are bare

  fits : first.at.off ≤ length (contents w.log first.at.seg)
  fits = run_within (contents w.log) (replay_of checkpoint) sound.holds.frames sound.holds.reaches sound.holds.log.run

  held : HoldsLog all_frames w.log 0 (replay_of checkpoint) first.at sound.holds.frames [] Uncut
  held = lasting_from w first.at can.quiet.log can.numbered sound.nothing_above (replay_of checkpoint) sound.holds.frames fits (record { log = sound.holds.log; nothing_above = sound.nothing_above }) refl

  good : IsGood wanted first w.log w.pages first.now
  good = record {
    shaped = shaped;
    rebuilt_lasts = rebuilt_starts w first.at can.quiet.log can.numbered sound.nothing_above fits checkpoint sound.holds.rebuilt sound.holds.rebuilt_are sound.begin_ends;
    has_meta = λ part index some. subst (λ (p : Partitions). IsSome (p part 0)) base (sound.has_meta part index some);
    bare = bare;
    pages_stand = quiet_pages shape.page_size sound.holds.rebuilt w.pages can.quiet.pages;
    calm = λ part. inl (can.quiet.pages part);
    based = pairs_in shape.partitions (laid_over sound.holds.rebuilt first.files);
    based_is = record { well_formed = subst (λ (p : Partitions). AllWellFormed shape p) base sound.holds.well_formed; is = refl };
    frames = sound.holds.frames;
    replay = held.leads;
    holds = ap (λ (p : Partitions). all_replayed shape sound.holds.frames (Some (pairs_in shape.partitions p))) (sym base) ∙ sound.holds.map;
    begins = begins_start w first.at can.quiet.log can.numbered sound.nothing_above fits checkpoint sound.holds.rebuilt sound.holds.rebuilt_are sound.begin_ends;
    restarts = restart_starts wanted shape checkpoint sound.holds.frames sound.holds.begins sound.holds.told;
    empty_wanted = wanted_starts wanted shape checkpoint sound.holds.frames sound.holds.told;
  }

  pub stands_first : Stands wanted told first w
  stands_first =
      let say : MarksSay checkpoint (bytes_of (content w.starts)) (bytes_of (content w.ends)) = in_force_said (bytes_of (content w.starts)) (bytes_of (content w.ends)) sound.ends_below in
      record {
        log = held.files;
        ends = (refl, refl);
        marks = quiet_marks w.starts w.ends first.now can.quiet.starts can.quiet.ends say;
        reads = say;
        quiet = (inl can.quiet.starts, inl can.quiet.ends);
        good = λ view is. subst (λ (v : View). IsGood wanted first w.log w.pages v) (sym is) good;
        well = tt;
        newest = pairs;
        newest_is = refl;
        said = omega (arith, can.silent);
        since_first = refl;
      }
