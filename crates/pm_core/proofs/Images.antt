-- Every true image of a disk that is as a state says is sound, and holds the map after a prefix of what was appended.
use Rattle.std.proofs.Common.{◌≡◌, ℕ, ◌+◌, ◌≤◌, List, [], ◌∷◌, ◌++◌, length, take, Option, Some, None, true, false, refl, sym, ◌∙◌, ap, subst, arith, length-append}
use Rattle.std.specs.Prelude.{IsSome, is_some}
use Rattle.pm_types.specs.declared.place.Place.{Place}
use Rattle.pm_types.specs.declared.shape.Mark.{Mark}
use Rattle.pm_types.specs.declared.shape.Shape.{Shape}
use Rattle.pm_frame.specs.Frames.{Frame}
use Rattle.pm_disk.specs.Files.{File, bytes_of}
use Rattle.pm_disk.specs.Images.{Image, Leaves, LeavesAll}
use Rattle.pm_disk.specs.Worlds.{World}
use Rattle.pm_model.specs.Eval.{Pairs}
use Rattle.pm_records.specs.LogFiles.{HasLasting}
use Rattle.pm_records.specs.Logs.{Grammar, all_frames, next_place, after_frames, HasFrames, IsLogWithNothingAbove}
use Rattle.pm_records.proofs.FrameGrammar.{frame_laws}
use Rattle.pm_records.proofs.Runs.{LogLeft, log_image, log_join, after_frames-append}
use Rattle.pm_marks.specs.InForce.{Checkpoint, NoStart, Started, Ended, replay_of, number_in}
use Rattle.pm_marks.specs.Slots.{mark_at}
use Rattle.pm_core.specs.Replays.{all_replayed}
use Rattle.pm_core.specs.BasePages.{Partitions, no_pages, pages_of, laid_over, base_of, IsBegin, RebuiltAre}
use Rattle.pm_core.specs.LogAlone.{log_in}
use Rattle.pm_core.specs.Held.{store_shape, BeginsWell}
use Rattle.pm_core.specs.Sound.{BeginsLog, BeginEnds, AreBare, SoundWith, IsTrueImage}
use Rattle.pm_core.specs.States.{State, View, AllInGrammar, RestartIsFirst, BeginIsFirst, HavePairs}
use Rattle.pm_core.specs.Stands.{OnlyNoStart, HasShape, MarksSay, RebuiltIsLasting, BeginIsLasting, PagesStand, IsGood, Stands}
use Rattle.pm_core.specs.Prefixes.{KeepsPrefix}
use Rattle.pm_core.proofs.LeftPages.{pages_grow, still_some, none_there}
use Rattle.pm_core.proofs.Replaying.{replayed-append, replayed_front, grammar_front, grammar_append, grammar_records, restart_front, restart_begins, restart_shape, take_past}
use Rattle.pm_core.proofs.Saying.{say_in_force}

no_more : (xs ys : List Frame) → xs ++ ys ≡ [] → xs ≡ []
no_more [] ys is = refl
no_more (x ∷ xs) ys is = absurd cc

pub run_front : (g : Grammar) (c : ℕ → List ℕ) (p : Place) (xs ys : List Frame) → HasFrames g c p (xs ++ ys) → HasFrames g c p xs
run_front g c p [] ys run = tt
run_front g c p (x ∷ xs) ys run = (run.0, λ ends. no_more xs ys (run.1 ends), run_front g c (next_place p x) xs ys run.2)

-- the place that a run begins at isn't past its segment's end
run_reaches : (c : ℕ → List ℕ) (at p : Place) (fs : List Frame) → at.off ≤ length (c at.seg) → HasFrames all_frames c p fs → after_frames p fs ≡ at → p.off ≤ length (c p.seg)
run_reaches c at p [] le run to = subst (λ (q : Place). q.off ≤ length (c q.seg)) (sym to) le
run_reaches c at p (f ∷ fs) le run to = omega (arith, frame_laws.within p.seg p.off (c p.seg) f run.0)

-- What the image's log tells of the checkpoint.
module _ (log : ℕ → File) (low : ℕ) (at : Place) (pending : List Frame) (c : ℕ → List ℕ) (li : LogLeft all_frames log low at pending c) where
  abbrev k : ℕ
  k = li.front.count

  pub joined_log : (p : Place) (fs : List Frame) → HasLasting all_frames log low at p fs → IsLogWithNothingAbove all_frames c p (fs ++ take k pending)
  joined_log p fs leads =
      log_join all_frames c p fs (take k pending) (li.kept p fs leads) leads.goes_on (subst (λ (q : Place). IsLogWithNothingAbove all_frames c q (take k pending)) (sym leads.to) li.front.log)

  pub joined_end : (p : Place) (fs : List Frame) → HasLasting all_frames log low at p fs → after_frames p (fs ++ take k pending) ≡ after_frames at (take k pending)
  joined_end p fs leads = after_frames-append p fs (take k pending) ∙ ap (λ (q : Place). after_frames q (take k pending)) leads.to

  first_frame : (mark : Mark) (fs : List Frame) → BeginIsFirst mark.number fs → HasFrames all_frames c mark.begin fs
      → (begin : Frame) × (all_frames.frame_at mark.begin.seg mark.begin.off (c mark.begin.seg) ≡ Some begin) × IsBegin mark.number begin
  first_frame mark [] begins run = absurd begins
  first_frame mark (f ∷ fs) begins run = (f, run.0, begins)

  pub rebuilt_image : (checkpoint : Checkpoint) (rebuilt : Partitions) → RebuiltIsLasting checkpoint log low at rebuilt → BeginIsLasting checkpoint log low at → RebuiltAre checkpoint c rebuilt
  rebuilt_image NoStart rebuilt is begins = is
  rebuilt_image (Ended mark) rebuilt is begins = is
  rebuilt_image (Started mark) rebuilt is begins =
      let first = first_frame mark begins.frames begins.begins (li.kept mark.begin begins.frames begins.leads) in
      record {
        frames = is.before;
        run = run_front all_frames c mark.from is.before is.after (li.kept mark.from (is.before ++ is.after) is.leads);
        reaches = is.reaches;
        begin = first.0;
        stands = first.1;
        begins = first.2;
        rebuilt = is.is;
      }

  begins_log : (mark : Mark) (p : Place) (fs ys : List Frame) → HasLasting all_frames log low at p fs → AllInGrammar pending → HasLasting all_frames log low at mark.begin ys → AllInGrammar ys
      → BeginsLog mark c (after_frames p (fs ++ take k pending))
  begins_log mark p fs ys leads well begin_leads in_grammar = record {
    frames = ys ++ take k pending;
    is_log = (joined_log mark.begin ys begin_leads).log;
    same_end = joined_end mark.begin ys begin_leads ∙ sym (joined_end p fs leads);
    in_grammar = grammar_records (ys ++ take k pending) (grammar_append ys (take k pending) in_grammar (grammar_front k pending well));
  }

  pub begins_image : (checkpoint : Checkpoint) (fs : List Frame) → HasLasting all_frames log low at (replay_of checkpoint) fs → AllInGrammar pending → BeginIsLasting checkpoint log low at
      → BeginEnds checkpoint c (after_frames (replay_of checkpoint) (fs ++ take k pending))
  begins_image NoStart fs leads well is = tt
  begins_image (Started mark) fs leads well is = begins_log mark mark.replay fs is.frames leads well is.leads is.in_grammar
  begins_image (Ended mark) fs leads well is = begins_log mark mark.replay fs is.0 leads well is.1 is.2

  pub restart_image : (shape : Shape) (checkpoint : Checkpoint) (fs : List Frame) → OnlyNoStart checkpoint (RestartIsFirst shape (fs ++ pending)) → BeginsWell checkpoint (fs ++ take k pending)
  restart_image shape NoStart fs is = restart_begins shape (fs ++ take k pending) (restart_front shape k fs pending is)
  restart_image shape (Started mark) fs is = tt
  restart_image shape (Ended mark) fs is = tt

  pub shape_image : (wanted shape : Shape) (checkpoint : Checkpoint) (fs : List Frame) → HasShape shape checkpoint → OnlyNoStart checkpoint (RestartIsFirst shape (fs ++ pending))
      → OnlyNoStart checkpoint (fs ≡ [] → shape ≡ wanted) → shape ≡ store_shape wanted checkpoint (fs ++ take k pending)
  shape_image wanted shape NoStart fs shaped is empty = restart_shape wanted shape fs (take k pending) (restart_front shape k fs pending is) empty
  shape_image wanted shape (Started mark) fs shaped is empty = sym shaped
  shape_image wanted shape (Ended mark) fs shaped is empty = sym shaped

-- The pages of the image.
module _ (shape : Shape) (files rebuilt : Partitions) (pages : ℕ → File) (left : ℕ → Option (List ℕ)) (stand : PagesStand shape.page_size files rebuilt pages)
    (leaves : (part : ℕ) → Leaves (pages part) (left part)) (log : ℕ → File) (low : ℕ) (at : Place) where
  sized : (mark : Mark) → mark.shape ≡ shape → laid_over rebuilt (pages_of mark.shape.page_size left) ≡ laid_over rebuilt (pages_of shape.page_size left)
  sized mark shaped = ap (λ (s : Shape). laid_over rebuilt (pages_of s.page_size left)) shaped

  both_none : rebuilt ≡ no_pages → files ≡ no_pages → laid_over rebuilt files ≡ no_pages
  both_none none bare = ap (λ (r : Partitions). laid_over r files) none ∙ ap (λ (f : Partitions). laid_over no_pages f) bare

  pub base_image : (checkpoint : Checkpoint) → HasShape shape checkpoint → RebuiltIsLasting checkpoint log low at rebuilt → OnlyNoStart checkpoint (files ≡ no_pages)
      → (pairs : Pairs) → HavePairs shape (laid_over rebuilt files) pairs → HavePairs shape (base_of checkpoint rebuilt left) pairs
  base_image NoStart shaped none bare pairs have = subst (λ (p : Partitions). HavePairs shape p pairs) (both_none none bare) have
  base_image (Started mark) shaped is bare pairs have =
      subst (λ (p : Partitions). HavePairs shape p pairs) (sym (sized mark shaped)) (pages_grow shape.page_size files rebuilt pages left stand leaves shape pairs have)
  base_image (Ended mark) shaped is bare pairs have =
      subst (λ (p : Partitions). HavePairs shape p pairs) (sym (sized mark shaped)) (pages_grow shape.page_size files rebuilt pages left stand leaves shape pairs have)

  pub meta_image : (checkpoint : Checkpoint) → HasShape shape checkpoint → RebuiltIsLasting checkpoint log low at rebuilt
      → (part index : ℕ) → IsSome (rebuilt part index) → IsSome (laid_over rebuilt files part 0) → IsSome (base_of checkpoint rebuilt left part 0)
  meta_image NoStart shaped none part index some meta = let no : false ≡ true = sym (ap (λ (p : Partitions). is_some (p part index)) none) ∙ some in absurd cc
  meta_image (Started mark) shaped is part index some meta =
      subst (λ (p : Partitions). IsSome (p part 0)) (sym (sized mark shaped)) (still_some shape.page_size files rebuilt pages left stand leaves part 0 meta)
  meta_image (Ended mark) shaped none part index some meta =
      subst (λ (p : Partitions). IsSome (p part 0)) (sym (sized mark shaped)) (still_some shape.page_size files rebuilt pages left stand leaves part 0 meta)

  pub bare_image : (checkpoint : Checkpoint) → RebuiltIsLasting checkpoint log low at rebuilt → OnlyNoStart checkpoint (files ≡ no_pages) → AreBare checkpoint shape.page_size left
  bare_image NoStart none bare = none_there shape.page_size files rebuilt pages left stand leaves none bare
  bare_image (Started mark) is bare = tt
  bare_image (Ended mark) is bare = tt

ends_up_to : (checkpoint : Checkpoint) (starts ends : List ℕ) → MarksSay checkpoint starts ends → (slot : ℕ) (mark : Mark) → mark_at slot ends ≡ Some mark → mark.number ≤ number_in checkpoint
ends_up_to NoStart starts ends say slot mark is = let no : None ≡ Some mark = sym (say.1 slot) ∙ is in absurd cc
ends_up_to (Started other) starts ends say slot mark is = say.1 slot mark is
ends_up_to (Ended other) starts ends say slot mark is = say.1 slot mark is

-- The crash law of one moment.
pub image_law : (wanted : Shape) (told : List ℕ → ℕ) (s : State) (w : World) (image : Image) → Stands wanted told s w → LeavesAll w image → IsTrueImage w image
    → KeepsPrefix wanted s.shape s.first (s.order ++ s.pending) (length s.order) image
image_law wanted told s w image stands leaves honest =
    let c : ℕ → List ℕ = log_in image in
    let li : LogLeft all_frames w.log s.low s.at s.pending c = log_image all_frames frame_laws w.log s.low s.at s.pending s.tail image.log stands.log leaves.log honest.frames in
    let mv = stands.marks image.starts image.ends leaves.starts honest.starts leaves.ends honest.ends in
    let v : View = mv.0 in
    let good : IsGood wanted s w.log w.pages v = stands.good v mv.1 in
    let n = li.front.count in
    let part = replayed_front s.shape n s.pending (Some s.map) stands.newest stands.newest_is in
    let base = base_image s.shape s.files v.rebuilt w.pages image.pages good.pages_stand leaves.pages w.log s.low s.at v.checkpoint good.shaped good.rebuilt_lasts good.bare good.based good.based_is in
    let log = joined_log w.log s.low s.at s.pending c li (replay_of v.checkpoint) good.frames good.replay in
    let sound : SoundWith wanted v.checkpoint image s.shape part.0 = record {
      holds = record {
        rebuilt = v.rebuilt;
        frames = good.frames ++ take n s.pending;
        rebuilt_are = rebuilt_image w.log s.low s.at s.pending c li v.checkpoint v.rebuilt good.rebuilt_lasts good.begins;
        log = log.log;
        reaches = run_reaches c s.at (replay_of v.checkpoint) good.frames li.long (li.kept (replay_of v.checkpoint) good.frames good.replay) good.replay.to;
        begins = restart_image w.log s.low s.at s.pending c li s.shape v.checkpoint good.frames good.restarts;
        told = shape_image w.log s.low s.at s.pending c li wanted s.shape v.checkpoint good.frames good.shaped good.restarts good.empty_wanted;
        well_formed = base.well_formed;
        map = ap (λ m. all_replayed s.shape (good.frames ++ take n s.pending) (Some m)) base.is
            ∙ replayed-append s.shape good.frames (take n s.pending) (Some good.based) ∙ ap (all_replayed s.shape (take n s.pending)) good.holds ∙ part.1;
      };
      nothing_above = log.nothing_above;
      begin_ends = begins_image w.log s.low s.at s.pending c li v.checkpoint good.frames good.replay stands.well good.begins;
      has_meta = λ p index some. meta_image s.shape s.files v.rebuilt w.pages image.pages good.pages_stand leaves.pages w.log s.low s.at v.checkpoint good.shaped good.rebuilt_lasts p index some (good.has_meta p index some);
      ends_below = ends_up_to v.checkpoint (bytes_of image.starts) (bytes_of image.ends) mv.2;
      bare = bare_image s.shape s.files v.rebuilt w.pages image.pages good.pages_stand leaves.pages w.log s.low s.at v.checkpoint good.rebuilt_lasts good.bare;
    } in
    record {
      map = part.0;
      sound = subst (λ ch. SoundWith wanted ch image s.shape part.0) (sym (say_in_force v.checkpoint (bytes_of image.starts) (bytes_of image.ends) mv.2)) sound;
      count = length s.order + n;
      has = omega arith;
      fits = omega (arith, length-append s.order s.pending, li.front.fits);
      is = ap (λ l. all_replayed s.shape l (Some s.first)) (take_past s.order s.pending n)
          ∙ replayed-append s.shape s.order (take n s.pending) (Some s.first) ∙ ap (all_replayed s.shape (take n s.pending)) stands.since_first ∙ part.1;
    }
