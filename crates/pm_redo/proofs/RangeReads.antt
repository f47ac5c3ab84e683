-- What the records of a range of the log rebuild, read one after the other.
use Rattle.std.proofs.Common.{◌≡◌, ◌⊎◌, inl, inr, ℕ, ◌<◌, List, [], ◌∷◌, ◌++◌, take, Option, Some, None, Bool, true, false, refl, sym, ◌∙◌, ap, subst, arith, append_assoc}
use Rattle.std.specs.Prelude.{if◌then◌else◌, IsTrue, ◌↔◌, ◌==◌, ◌&&◌}
use Rattle.std.proofs.lemmas.Bool.{and_from, and_parts, eqb-true, eq-eqb}
use Rattle.std.proofs.lemmas.List.{append-nil}
use Rattle.std.proofs.lemmas.Option.{same_Some}
use Rattle.pm_types.specs.declared.place.Place.{Place}
use Rattle.pm_types.specs.declared.shape.Mark.{Mark}
use Rattle.pm_types.specs.declared.shape.Shape.{Shape}
use Rattle.pm_frame.specs.Frames.{Frame, frame_at}
use Rattle.pm_disk.specs.Worlds.{World}
use Rattle.pm_records.specs.FirstRecords.{is_restart}
use Rattle.pm_records.specs.LogFiles.{contents}
use Rattle.pm_records.specs.Logs.{Grammar, all_frames, record_in, enters_next, next_place, after_frames, HasFrames}
use Rattle.pm_records.specs.Records.{Record, Logical, Snapshot, Delta, CpBegin, Restart, Seal}
use Rattle.pm_records.proofs.Runs.{bool_cases, rises, after_frames-append, run_begins, next-enters, next-stays}
use Rattle.pm_segments.specs.Scans.{Scanned, bytes_after, frame_ahead, Advances}
use Rattle.pm_segments.proofs.Reading.{going_on, scan_starts, scan_goes, scan_ends}
use Rattle.pm_core.specs.BasePages.{Partitions, no_pages, IsBegin, records_in, rebuilt_by, rebuilt_of}
use Rattle.pm_redo.specs.declared.log_pages.Taken.{Taken}
use Rattle.pm_redo.specs.declared.log_pages.Taken.TheVariants as taken
use Rattle.pm_redo.specs.declared.log_pages.RebuildStep.{RebuildStep}
use Rattle.pm_redo.specs.declared.log_pages.RebuildStep.TheVariants as rebuild_step
use Rattle.pm_redo.specs.declared.rebuilt_pages.PageNumber.{PageNumber}
use Rattle.pm_redo.specs.PageMaps.{PageMap, pages_in, kept_pages, pages_after}
use Rattle.pm_redo.specs.Rebuilding.{Misses, BeginStands, IsBadBegin, IsBadFrame, CanNotRebuild, RebuildsOr, taken_of, Takes, TakesFrame, IsNoRecord, IsAtEnd, TakesNext, first_bad, refused_after, bad_at_begin}
use Rattle.pm_redo.specs.Rebuilding.{AreRebuiltOr, TakesPrefix, IsBeginRead}
use Rattle.pm_redo.proofs.MoreFrames.{records_more, rebuilt_none, nothing_rebuilt, then_after, then_restarted, then_none}

-- ---- runs of frames

-- of two runs from one place one is a prefix of the other
runs_agree : (g : Grammar) (c : ℕ → List ℕ) (p : Place) (xs ys : List Frame) → HasFrames g c p xs → HasFrames g c p ys → ((rest : List Frame) × (ys ≡ xs ++ rest)) ⊎ ((rest : List Frame) × (xs ≡ ys ++ rest))
runs_agree g c p [] ys one two = inl (ys, refl)
runs_agree g c p (x ∷ xs) [] one two = inr (x ∷ xs, refl)
runs_agree g c p (x ∷ xs) (y ∷ ys) one two =
    let same : x ≡ y = same_Some x y (sym one.0 ∙ two.0) in
    let more = runs_agree g c (next_place p x) xs ys one.2 (subst (λ f. HasFrames g c (next_place p f) ys) (sym same) two.2) in
    elim more [
      | inl some ↦ inl (some.0, ap (λ f. f ∷ ys) (sym same) ∙ ap (λ l. x ∷ l) some.1)
      | inr some ↦ inr (some.0, ap (λ l. x ∷ l) some.1 ∙ ap (λ f. f ∷ (ys ++ some.0)) same)
    ]

nothing_between : (p : Place) (rest : List Frame) → after_frames p rest ≡ p → rest ≡ []
nothing_between p [] is = refl
nothing_between p (f ∷ rest) is = elim (rises p (f ∷ rest)) [
  | inl up ↦ absurd (omega (arith, up, ap (λ (q : Place). q.seg) is))
  | inr on ↦ absurd (omega (arith, on.1, ap (λ (q : Place). q.off) is))
]

-- runs between two places are one
pub same_range : (c : ℕ → List ℕ) (p q : Place) (xs ys : List Frame) → HasFrames all_frames c p xs → HasFrames all_frames c p ys → after_frames p xs ≡ q → after_frames p ys ≡ q → xs ≡ ys
same_range c p q xs ys one two to_one to_two = elim (runs_agree all_frames c p xs ys one two) [
  | inl some ↦ sym (some.1 ∙ ap (λ rest. xs ++ rest) (none p q xs ys some.0 some.1 to_one to_two) ∙ append-nil xs)
  | inr some ↦ some.1 ∙ ap (λ rest. ys ++ rest) (none p q ys xs some.0 some.1 to_two to_one) ∙ append-nil ys
]
  where
    none : (p q : Place) (xs ys rest : List Frame) → ys ≡ xs ++ rest → after_frames p xs ≡ q → after_frames p ys ≡ q → rest ≡ []
    none p q xs ys rest is to_one to_two =
        nothing_between q rest (ap (λ r. after_frames r rest) (sym to_one) ∙ sym (after_frames-append p xs rest) ∙ ap (after_frames p) (sym is) ∙ to_two)

misses_more : (at begin : Place) (frames : List Frame) (f : Frame) → Misses at begin frames → (after_frames at frames ≡ begin → ⊥) → Misses at begin (frames ++ f ∷ [])
misses_more at begin [] f misses not_it = (not_it, tt)
misses_more at begin (g ∷ frames) f misses not_it = (misses.0, misses_more (next_place at g) begin frames f misses.1 not_it)

missed : (at begin : Place) (before : List Frame) (f : Frame) (rest : List Frame) → Misses at begin (before ++ f ∷ rest) → after_frames at before ≡ begin → ⊥
missed at begin [] f rest misses is = misses.0 is
missed at begin (g ∷ before) f rest misses is = missed (next_place at g) begin before f rest misses.1 is

-- a run to the begin place is no prefix of one that misses it
no_prefix : (at begin : Place) (before rest frames : List Frame) → Misses at begin frames → (after_frames at frames ≡ begin → ⊥) → frames ≡ before ++ rest → after_frames at before ≡ begin → ⊥
no_prefix at begin before [] frames misses not_it is reaches = not_it (ap (after_frames at) (is ∙ append-nil before) ∙ reaches)
no_prefix at begin before (f ∷ rest) frames misses not_it is reaches = missed at begin before f rest (subst (Misses at begin) is misses) reaches

-- ---- a scan

-- it goes up
pub further_by : (scan later : Scanned) (f : Frame) → Advances scan later (Some f) → (scan.next.seg < later.next.seg) ⊎ ((scan.next.seg ≡ later.next.seg) × (scan.next.off < later.next.off))
further_by scan later f advances = elim (bool_cases (enters_next scan.next f)) [
  | inl enters ↦ let to = advances.1 ∙ next-enters scan.next f enters in inl (omega (arith, ap (λ (p : Place). p.seg) to))
  | inr stays ↦ let to = advances.1 ∙ next-stays scan.next f stays in inr (sym (ap (λ (p : Place). p.seg) to), omega (arith, ap (λ (p : Place). p.off) to))
]

-- the frame that it gives stands where it went on
stands_at : (scan : Scanned) (world : World) (f : Frame) (at : Place) → frame_ahead scan world ≡ Some f → scan.next ≡ at → all_frames.frame_at at.seg at.off (contents world.log at.seg) ≡ Some f
stands_at scan world f at ahead is =
    ap (λ (q : Place). frame_at q (bytes_after q world)) (sym is)
    ∙ sym (ap (λ (b : Bool). if b then None else frame_at scan.next (bytes_after scan.next world)) (going_on scan world f ahead)) ∙ ahead

-- what a scan from the begin place finds first
pub first_there : (mark : Mark) (world : World) (scan : Scanned) (found : Option Frame) → scan.next ≡ mark.begin → scan.is_over ≡ false → found ≡ frame_ahead scan world
    → all_frames.frame_at mark.begin.seg mark.begin.off (contents world.log mark.begin.seg) ≡ found
first_there mark world scan found begins goes is =
    ap (λ (q : Place). frame_at q (bytes_after q world)) (sym begins)
    ∙ sym (ap (λ (b : Bool). if b then None else frame_at scan.next (bytes_after scan.next world)) goes) ∙ sym is

pub begin_there : (mark : Mark) (log : ℕ → List ℕ) (f : Frame) (b : Bool) → all_frames.frame_at mark.begin.seg mark.begin.off (log mark.begin.seg) ≡ Some f → IsTrue b ↔ IsBegin mark.number f → IsTrue b ↔ BeginStands mark log
begin_there mark log f b stands is = (
  λ holds. record { frame = f; stands = stands; begins = is.0 holds },
  λ there. is.1 (subst (IsBegin mark.number) (same_Some there.frame f (sym there.stands ∙ stands)) there.begins),
)

-- ---- what a record is

no_restart_plain : (found : Record) → taken_of found ≡ taken.Plain → is_restart (Some found) ≡ false
no_restart_plain (Logical op cache key value) is = refl
no_restart_plain (Snapshot page bytes) is = refl
no_restart_plain (Delta page delta) is = refl
no_restart_plain (CpBegin number replay) is = refl
no_restart_plain (Restart shape) is = absurd cc
no_restart_plain Seal is = refl

is_cp_begin : (found : Record) (number : ℕ) → taken_of found ≡ taken.Begin number → (replay : Place) × (found ≡ CpBegin number replay)
is_cp_begin (Logical op cache key value) number is = absurd cc
is_cp_begin (Snapshot page bytes) number is = absurd cc
is_cp_begin (Delta page delta) number is = absurd cc
is_cp_begin (CpBegin other replay) number is = let same : other ≡ number = cc in (replay, ap (λ n. CpBegin n replay) same)
is_cp_begin (Restart shape) number is = absurd cc
is_cp_begin Seal number is = absurd cc

restarts : (found : Record) → taken_of found ≡ taken.Restart → is_restart (Some found) ≡ true
restarts (Logical op cache key value) is = absurd cc
restarts (Snapshot page bytes) is = absurd cc
restarts (Delta page delta) is = absurd cc
restarts (CpBegin number replay) is = absurd cc
restarts (Restart shape) is = refl
restarts Seal is = absurd cc

-- a RESTART can always be
refused_no_restart : (shape : Shape) (found : Record) (pages : Partitions) → pages_after shape found pages ≡ None → is_restart (Some found) ≡ false
refused_no_restart shape (Logical op cache key value) pages is = refl
refused_no_restart shape (Snapshot page bytes) pages is = refl
refused_no_restart shape (Delta page delta) pages is = refl
refused_no_restart shape (CpBegin number replay) pages is = refl
refused_no_restart shape (Restart told) pages is = let no : Some no_pages ≡ None = is in absurd cc
refused_no_restart shape Seal pages is = refl

-- ---- one frame more

module _ (mark : Mark) (log : ℕ → List ℕ) (frames : List Frame) (records : List Record) (f : Frame) (found : Record) (old new : PageMap) (are : records_in frames ≡ Some records) (read : record_in f ≡ Some found)
    (shaped : old.shape ≡ mark.shape) where
  abbrev more : List Frame
  more = frames ++ f ∷ []

  known : (o : Option Partitions) → pages_after old.shape found (kept_pages old) ≡ o → rebuilt_of mark.shape frames ≡ Some (kept_pages old) → rebuilt_of mark.shape more ≡ o
  known o takes were =
      then_after mark.shape frames records f found (kept_pages old) are read were
      ∙ ap (λ (shape : Shape). pages_after shape found (kept_pages old)) (sym shaped) ∙ takes

  plain_step : (refused : Option Place) → is_restart (Some found) ≡ false → pages_after old.shape found (kept_pages old) ≡ Some (kept_pages new) → AreRebuiltOr refused mark log frames old → AreRebuiltOr refused mark log more new
  plain_step None other takes were = known (Some (kept_pages new)) takes were
  plain_step (Some at) other takes were = (then_none mark.shape frames records f found are read other were.0, were.1)

  refused_step : (refused : Option Place) (at : Place) → HasFrames all_frames log mark.from more → after_frames mark.from frames ≡ at → Misses mark.from mark.begin more → pages_after old.shape found (kept_pages old) ≡ None
      → AreRebuiltOr refused mark log frames old → AreRebuiltOr (Some (first_bad refused at)) mark log more new
  refused_step None at run there misses takes were = (
    known None takes were,
    record { before = frames; frame = f; run = run; there = there; misses = misses; pages = kept_pages old; fine = were; bad = known None takes were },
  )
  refused_step (Some earlier) at run there misses takes were =
      (then_none mark.shape frames records f found are read (refused_no_restart old.shape found (kept_pages old) takes) were.0, were.1)

  pub rebuilt_step : (kind : Taken) (refused : Option Place) (at : Place) → HasFrames all_frames log mark.from more → after_frames mark.from frames ≡ at → Misses mark.from mark.begin more → Takes kind old new found
      → AreRebuiltOr refused mark log frames old → AreRebuiltOr (refused_after kind refused at) mark log more new
  rebuilt_step taken.Plain refused at run there misses takes were = plain_step refused (no_restart_plain found takes.0) takes.1.1 were
  rebuilt_step (taken.Begin number) refused at run there misses takes were =
      plain_step refused (ap (λ (r : Record). is_restart (Some r)) (is_cp_begin found number takes.0).1) takes.1.1 were
  rebuilt_step taken.Restart refused at run there misses takes were =
      let is = restarts found takes.0 in
      then_restarted mark.shape frames records f found are read is
      ∙ ap (λ (b : Bool). let o : Option Partitions = if b then Some no_pages else rebuilt_by old.shape found (kept_pages old) in o) (sym is) ∙ takes.1.1
  rebuilt_step taken.Refused refused at run there misses takes were = refused_step refused at run there misses takes.1 were

same_shape : (kind : Taken) (old new : PageMap) (found : Record) → Takes kind old new found → new.shape ≡ old.shape
same_shape taken.Plain old new found takes = takes.1.0
same_shape (taken.Begin number) old new found takes = takes.1.0
same_shape taken.Restart old new found takes = takes.1.0
same_shape taken.Refused old new found takes = ap (λ (p : PageMap). p.shape) takes.0

-- ---- a prefix

pub takes_none : (mark : Mark) (world : World) (scan : Scanned) (rebuilt : PageMap) → scan.next ≡ mark.from → scan.is_over ≡ false → rebuilt.shape ≡ mark.shape → rebuilt.entries ≡ [] → TakesPrefix mark world scan rebuilt None
takes_none mark world scan rebuilt is goes shaped none = record {
  frames = [];
  scanned = scan_starts (contents world.log) mark.from scan is goes;
  misses = tt;
  records = [];
  are = refl;
  shaped = shaped;
  rebuilt = nothing_rebuilt mark.shape ∙ ap (λ (l : List (PageNumber × List ℕ)). let o : Option Partitions = Some (pages_in l) in o) (sym none);
}

module _ (mark : Mark) (world : World) (scan later : Scanned) (old new : PageMap) (refused : Option Place) (prefix : TakesPrefix mark world scan old refused) where
  abbrev log : ℕ → List ℕ
  log = contents world.log

  pub takes_more : (kind : Taken) → TakesFrame kind scan later old new world → (later.place ≡ mark.begin → ⊥) → TakesPrefix mark world later new (refused_after kind refused later.place)
  takes_more kind t not_it =
      let goes = scan_goes world mark.from prefix.frames scan later t.frame prefix.scanned t.ahead t.advances in
      let there : after_frames mark.from prefix.frames ≡ later.place = sym prefix.scanned.next ∙ sym t.advances.0 in
      let misses = misses_more mark.from mark.begin prefix.frames t.frame prefix.misses (λ is. not_it (sym there ∙ is)) in
      record {
        frames = prefix.frames ++ t.frame ∷ [];
        scanned = goes;
        misses = misses;
        records = prefix.records ++ t.found ∷ [];
        are = records_more prefix.frames prefix.records t.frame t.found prefix.are t.read;
        shaped = same_shape kind old new t.found t.takes ∙ prefix.shaped;
        rebuilt = rebuilt_step mark log prefix.frames prefix.records t.frame t.found old new prefix.are t.read prefix.shaped kind refused later.place goes.run there misses t.takes prefix.rebuilt;
      }

  -- where no pages are rebuilt, the place that is bad is the first one
  placed : (o : Option Place) (at : Place) → AreRebuiltOr o mark log prefix.frames old → (rebuilt_of mark.shape prefix.frames ≡ Some (kept_pages old) → IsBadFrame mark log at ⊎ ((at ≡ mark.begin) × IsBadBegin mark log))
      → IsBadFrame mark log (first_bad o at) ⊎ ((first_bad o at ≡ mark.begin) × IsBadBegin mark log)
  placed None at were otherwise = otherwise were
  placed (Some earlier) at were otherwise = inl were.1

  -- the log ends
  pub takes_all : IsAtEnd scan later old new world → (later.place ≡ mark.begin → ⊥) → CanNotRebuild mark log (first_bad refused mark.begin)
  takes_all t not_it =
      let ends = scan_ends world mark.from prefix.frames scan later prefix.scanned t.ahead t.advances in
      let unreached : (gs : List Frame) → HasFrames all_frames log mark.from gs → after_frames mark.from gs ≡ mark.begin → ⊥ =
      λ gs run reaches.
      let front = run_begins all_frames log mark.from gs prefix.frames run ends.0 in
      no_prefix mark.from mark.begin gs front.0 prefix.frames prefix.misses (λ is. not_it (ends.1 ∙ is)) front.1 reaches in
      record {
        none = λ pages r. unreached r.frames r.run r.reaches;
        place = placed refused mark.begin prefix.rebuilt (λ were. inr (refl, λ gs run reaches there. unreached gs run reaches));
      }

  none_after : (f : Frame) → record_in f ≡ None → (rest : List Frame) (pages : Partitions) → rebuilt_of mark.shape ((prefix.frames ++ f ∷ []) ++ rest) ≡ Some pages → ⊥
  none_after f bad rest pages is =
      let both : None ≡ Some pages = sym (rebuilt_none mark.shape prefix.frames f rest bad) ∙ ap (rebuilt_of mark.shape) (sym (append_assoc prefix.frames (f ∷ []) rest)) ∙ is in absurd cc

  not_before : (f : Frame) → record_in f ≡ None → Misses mark.from mark.begin (prefix.frames ++ f ∷ []) → (gs rest : List Frame) (pages : Partitions) → prefix.frames ++ f ∷ [] ≡ gs ++ rest
      → after_frames mark.from gs ≡ mark.begin → rebuilt_of mark.shape gs ≡ Some pages → ⊥
  not_before f bad misses gs [] pages is reaches rebuilt =
      let both : None ≡ Some pages = sym (rebuilt_none mark.shape prefix.frames f [] bad) ∙ ap (rebuilt_of mark.shape) (is ∙ append-nil gs) ∙ rebuilt in absurd cc
  not_before f bad misses gs (h ∷ rest) pages is reaches rebuilt = missed mark.from mark.begin gs h rest (subst (Misses mark.from mark.begin) is misses) reaches

  -- a frame is in no grammar
  pub takes_bad : IsNoRecord scan later old new world → (later.place ≡ mark.begin → ⊥) → CanNotRebuild mark log (first_bad refused later.place)
  takes_bad t not_it =
      let goes = scan_goes world mark.from prefix.frames scan later t.frame prefix.scanned t.ahead t.advances in
      let there : after_frames mark.from prefix.frames ≡ later.place = sym prefix.scanned.next ∙ sym t.advances.0 in
      let more = prefix.frames ++ t.frame ∷ [] in
      let misses = misses_more mark.from mark.begin prefix.frames t.frame prefix.misses (λ is. not_it (sym there ∙ is)) in
      record {
        none = λ pages r. elim (runs_agree all_frames log mark.from more r.frames goes.run r.run) [
          | inl some ↦ none_after t.frame t.read some.0 pages (ap (rebuilt_of mark.shape) (sym some.1) ∙ r.rebuilt)
          | inr some ↦ not_before t.frame t.read misses r.frames some.0 pages some.1 r.reaches r.rebuilt
        ];
        place = placed refused later.place prefix.rebuilt (λ were. inl (record {
          before = prefix.frames;
          frame = t.frame;
          run = goes.run;
          there = there;
          misses = misses;
          pages = kept_pages old;
          fine = were;
          bad = rebuilt_none mark.shape prefix.frames t.frame [] t.read;
        }));
      }

  -- the begin place is reached
  concluded : (o : Option Place) (holds : Bool) → AreRebuiltOr o mark log prefix.frames old → scan.next ≡ mark.begin → (holds ≡ true → BeginStands mark log × (kept_pages old ≡ kept_pages new)) → (holds ≡ false → BeginStands mark log → ⊥)
      → RebuildsOr (bad_at_begin holds o mark.begin) mark log new
  concluded None true were is yes_it no_it =
      let stands = (yes_it refl).0 in
      record {
        frames = prefix.frames;
        run = prefix.scanned.run;
        reaches = sym prefix.scanned.next ∙ is;
        begin = stands.frame;
        stands = stands.stands;
        begins = stands.begins;
        rebuilt = were ∙ ap (λ (p : Partitions). Some p) (yes_it refl).1;
      }
  concluded (Some at) true were is yes_it no_it = record {
    none = λ pages r.
        let same = same_range log mark.from mark.begin prefix.frames r.frames prefix.scanned.run r.run (sym prefix.scanned.next ∙ is) r.reaches in
        let both : None ≡ Some pages = sym were.0 ∙ ap (rebuilt_of mark.shape) same ∙ r.rebuilt in absurd cc;
    place = inl were.1;
  }
  concluded None false were is yes_it no_it = record {
    none = λ pages r. no_it refl (record { frame = r.begin; stands = r.stands; begins = r.begins });
    place = inr (refl, λ gs run reaches there. no_it refl there);
  }
  concluded (Some at) false were is yes_it no_it = record {
    none = λ pages r. no_it refl (record { frame = r.begin; stands = r.stands; begins = r.begins });
    place = inl were.1;
  }

  -- the frame there is another one
  other : (frame : Frame) (found : Record) → frame_ahead scan world ≡ Some frame → scan.next ≡ mark.begin → record_in frame ≡ Some found → ((replay : Place) → found ≡ CpBegin mark.number replay → ⊥) → BeginStands mark log → ⊥
  other frame found ahead is read not_it there =
      let same : there.frame ≡ frame = same_Some there.frame frame (sym there.stands ∙ stands_at scan world frame mark.begin ahead is) in
      let both : Some found ≡ Some (CpBegin mark.number there.begins.replay) = sym read ∙ ap record_in (sym same) ∙ there.begins.is in
      not_it there.begins.replay (same_Some _ _ both)

  no_true : (holds : Bool) {X : Type 0} → holds ≡ false → holds ≡ true → X
  no_true holds is was = let both : false ≡ true = sym is ∙ was in absurd cc

  pub takes_begin : (step : RebuildStep) (holds : Bool) → TakesNext step scan later old new world → later.place ≡ mark.begin → IsBeginRead step mark world holds → RebuildsOr (bad_at_begin holds refused mark.begin) mark log new
  takes_begin (rebuild_step.Frame taken.Plain) holds t at reads =
      let is = sym t.advances.0 ∙ at in
      concluded refused holds prefix.rebuilt is (λ was. no_true holds reads was)
      (λ was. other t.frame t.found t.ahead is t.read (λ replay same. let both : taken.Begin mark.number ≡ taken.Plain = ap taken_of (sym same) ∙ t.takes.0 in absurd cc))
  takes_begin (rebuild_step.Frame (taken.Begin number)) holds t at reads =
      let is = sym t.advances.0 ∙ at in
      let found_is = is_cp_begin t.found number t.takes.0 in
      let kept : Some (kept_pages old) ≡ Some (kept_pages new) = ap (λ (r : Record). pages_after old.shape r (kept_pages old)) (sym found_is.1) ∙ t.takes.1.1 in
      concluded refused holds prefix.rebuilt is
      (λ was. (
        record {
          frame = t.frame;
          stands = stands_at scan world t.frame mark.begin t.ahead is;
          begins = record { replay = found_is.0; is = t.read ∙ ap (λ (r : Record). Some r) (found_is.1 ∙ ap (λ n. CpBegin n found_is.0) (reads.0 was)) };
        },
        same_Some (kept_pages old) (kept_pages new) kept,
      ))
      (λ was. other t.frame t.found t.ahead is t.read
      (λ replay same.
      let both : taken.Begin mark.number ≡ taken.Begin number = ap taken_of (sym same) ∙ t.takes.0 in
      let numbers : number ≡ mark.number = cc in no_true holds was (reads.1 numbers)))
  takes_begin (rebuild_step.Frame taken.Restart) holds t at reads =
      let is = sym t.advances.0 ∙ at in
      concluded refused holds prefix.rebuilt is (λ was. no_true holds reads was)
      (λ was. other t.frame t.found t.ahead is t.read (λ replay same. let both : taken.Begin mark.number ≡ taken.Restart = ap taken_of (sym same) ∙ t.takes.0 in absurd cc))
  takes_begin (rebuild_step.Frame taken.Refused) holds t at reads =
      let is = sym t.advances.0 ∙ at in
      concluded refused holds prefix.rebuilt is (λ was. no_true holds reads was)
      (λ was. other t.frame t.found t.ahead is t.read
      (λ replay same. let both : Some (kept_pages old) ≡ None = ap (λ (r : Record). pages_after old.shape r (kept_pages old)) (sym same) ∙ t.takes.1 in absurd cc))
  takes_begin rebuild_step.Bad holds t at reads =
      let is = sym t.advances.0 ∙ at in
      concluded refused holds prefix.rebuilt is (λ was. no_true holds reads was)
      (λ was there.
      let same : there.frame ≡ t.frame = same_Some there.frame t.frame (sym there.stands ∙ stands_at scan world t.frame mark.begin t.ahead is) in
      let both : None ≡ Some (CpBegin mark.number there.begins.replay) = sym t.read ∙ ap record_in (sym same) ∙ there.begins.is in absurd cc)
  takes_begin rebuild_step.End holds t at reads =
      let is = sym t.advances.0 ∙ at in
      concluded refused holds prefix.rebuilt is (λ was. (reads.0 was, ap kept_pages (sym t.same))) (λ was there. no_true holds was (reads.1 there))

pub no_bytes : (xs : List ℕ) → take 0 xs ≡ []
no_bytes [] = refl
no_bytes (x ∷ xs) = refl

-- ---- places

pub place_same : (p q : Place) (b : Bool) → b ≡ (p.seg == q.seg && p.off == q.off) → b ≡ true → p ≡ q
place_same p q b is it =
    let both = and_parts (p.seg == q.seg) (p.off == q.off) (sym is ∙ it) in
    λ i. record { seg = eqb-true p.seg q.seg both.0 i; off = eqb-true p.off q.off both.1 i }

pub place_differs : (p q : Place) (b : Bool) → b ≡ (p.seg == q.seg && p.off == q.off) → b ≡ false → p ≡ q → ⊥
place_differs p q b is it same =
    let both : true ≡ false =
    sym (and_from (p.seg == q.seg) (p.off == q.off) (eq-eqb p.seg q.seg (ap (λ (r : Place). r.seg) same)) (eq-eqb p.off q.off (ap (λ (r : Place). r.off) same))) ∙ sym is ∙ it in
    absurd cc

-- what a scan finds first
pub first_found : (at : Place) (world : World) (scan : Scanned) (found : Option Frame) → scan.next ≡ at → scan.is_over ≡ false → found ≡ frame_ahead scan world
    → all_frames.frame_at at.seg at.off (contents world.log at.seg) ≡ found
first_found at world scan found begins goes is =
    ap (λ (q : Place). frame_at q (bytes_after q world)) (sym begins)
    ∙ sym (ap (λ (b : Bool). if b then None else frame_at scan.next (bytes_after scan.next world)) goes) ∙ sym is
