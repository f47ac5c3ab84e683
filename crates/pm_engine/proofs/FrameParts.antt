-- The parts of a batch over page frames: a round, a scan, a checkpoint, and how they follow one another.
use Rattle.std.proofs.Common.{◌≡◌, ℕ, zero, suc, ◌+◌, ◌*◌, ◌<◌, ◌≤◌, List, [], ◌∷◌, ◌++◌, length, take, get_or, Bool, true, false, Some, inl, inr}
use Rattle.std.proofs.Common.{Result, Ok, Err, refl, sym, ◌∙◌, ap, subst, arith, length-append}
use Rattle.std.specs.Prelude.{drop, slice_get, if◌then◌else◌, IsErrOf}
use Rattle.std.specs.List.{All}
use Rattle.std.proofs.lemmas.List.{take-append-drop}
use Rattle.std.proofs.lemmas.Option.{same_Some, slice_get_within}
use Rattle.std.proofs.Math.Seq.{take-append-le}
use Rattle.pm_types.specs.declared.fault.PageFault.{PageFault}
use Rattle.pm_types.specs.declared.fault.PageFault.TheVariants as page
use Rattle.pm_types.specs.declared.fault.StoreFault.{StoreFault}
use Rattle.pm_types.specs.declared.fault.StoreFault.TheVariants.{Failed, Memory, BadPage, BadRecord}
use Rattle.pm_types.specs.declared.fault.Lack.{Lack}
use Rattle.pm_types.specs.declared.fault.Lack.TheVariants.{Bytes, Frames}
use Rattle.pm_types.specs.declared.page_id.PageId.{PageId}
use Rattle.pm_types.specs.Faults.{store_fault_of}
use Rattle.pm_disk.specs.Moments.{History}
use Rattle.pm_disk.specs.Worlds.{World}
use Rattle.pm_segments.specs.Ends.{EndsThere}
use Rattle.pm_model.specs.declared.line.Cmd.TheVariants.{Put, Get, Remove, Scan, Checkpoint}
use Rattle.pm_model.specs.declared.line.Line.{Line}
use Rattle.pm_model.specs.declared.line.Line.TheVariants.{Good, Bad, Long}
use Rattle.pm_model.specs.Batches.{HasCache}
use Rattle.pm_model.specs.ReplyLists.{ReplyList}
use Rattle.pm_redo.specs.Faults.{IsPlainFault}
use Rattle.pm_engine.specs.declared.frame_lines.Stop.TheVariants.{Faulted}
use Rattle.pm_engine.specs.declared.frame_rounds.RoundEnd.{RoundEnd}
use Rattle.pm_engine.specs.declared.frame_scans.ScanStop.{ScanStop}
use Rattle.pm_engine.specs.declared.frame_scans.ScanStop.TheVariants as scan
use Rattle.pm_engine.specs.FrameBatches.{TakesNumbersIn, MayGoOn, KeepsEngine, RunsFrameBatch, TriesLines}
use Rattle.pm_engine.specs.FrameBatches.{AreRoundLines, is_alone, CountsRound, CountsScan}
use Rattle.pm_engine.specs.Engines.{FrameRunning, DoesRoundLines, LosesRoundLines, LeavesEngine}
use Rattle.pm_engine.specs.FrameHosts.{IsStoreLine, ChangesNoWorld, ScansStore}
use Rattle.pm_engine.specs.FrameLines.{is_scan}
use Rattle.pm_engine.specs.FrameStores.{FrameStoreView, pages_in_frames, HasCleanPages}
use Rattle.pm_engine.specs.MetPages.{MeetsBadPage}
use Rattle.pm_engine.specs.Batches.{StaysOpen, is_checkpoint, checkpoints_in, asked_last}
use Rattle.pm_engine.proofs.FrameBatchCalls.{keeps_itself, keeps_numbers, kept_none, kept_line, none_done, round_inside, round_done, round_lacks, round_faulted, round_numbers, round_lost}
use Rattle.pm_engine.proofs.FrameBatching.{may_well_formed, batch_wider, batch_part}

-- ---- lines of a round

alone_checkpoint : (line : Line) → is_alone line ≡ false → is_checkpoint line ≡ false
alone_checkpoint (Good (Put cache key value)) is = refl
alone_checkpoint (Good (Get cache key)) is = refl
alone_checkpoint (Good (Remove cache key)) is = refl
alone_checkpoint (Good (Scan cache)) is = refl
alone_checkpoint (Good Checkpoint) is = absurd (cc is)
alone_checkpoint Bad is = refl
alone_checkpoint Long is = refl

alone_scan : (line : Line) → is_alone line ≡ false → is_scan line ≡ false
alone_scan (Good (Put cache key value)) is = refl
alone_scan (Good (Get cache key)) is = refl
alone_scan (Good (Remove cache key)) is = refl
alone_scan (Good (Scan cache)) is = absurd (cc is)
alone_scan (Good Checkpoint) is = refl
alone_scan Bad is = refl
alone_scan Long is = refl

-- none of them asks for a checkpoint
none_in : (lines : List Line) → AreRoundLines lines → (n : ℕ) → checkpoints_in (take n lines) ≡ 0
none_in [] are zero = refl
none_in [] are (suc n) = refl
none_in (line ∷ lines) are zero = refl
none_in (line ∷ lines) are (suc n) =
    omega (arith, ap {B = ℕ} (λ (b : Bool). if b then 1 else 0) (alone_checkpoint line (are 0 line refl)), none_in lines (λ i other at. are (suc i) other at) n)

at_get : (lines : List Line) (i : ℕ) (line : Line) → slice_get lines i ≡ Some line → get_or lines i line ≡ line
at_get [] i line at = absurd (cc at)
at_get (one ∷ lines) zero line at = same_Some one line at
at_get (one ∷ lines) (suc i) line at = at_get lines i line at

-- each may be done in a round over a store
pub round_lines : (lines : List Line) → All HasCache lines → AreRoundLines lines → (i : ℕ) (line : Line) → slice_get lines i ≡ Some line → IsStoreLine line
round_lines lines caches are i line at = record {
  cache = subst HasCache (at_get lines i line at) (caches i line (slice_get_within lines i line at));
  no_scan = alone_scan line (are i line at);
}

-- the first so many lines, and the others
pub caches_first : (lines : List Line) (n : ℕ) → All HasCache lines → (k : ℕ) (d : Line) → k < length (take n lines) → HasCache (get_or (take n lines) k d)
caches_first [] zero caches k d lt = absurd (omega (arith, lt))
caches_first [] (suc n) caches k d lt = absurd (omega (arith, lt))
caches_first (line ∷ lines) zero caches k d lt = absurd (omega (arith, lt))
caches_first (line ∷ lines) (suc n) caches zero d lt = caches 0 d (omega arith)
caches_first (line ∷ lines) (suc n) caches (suc k) d lt = caches_first lines n (λ j e le. caches (suc j) e (omega (arith, le))) k d (omega (arith, lt))

pub caches_rest : (lines : List Line) (n : ℕ) → All HasCache lines → (k : ℕ) (d : Line) → k < length (drop n lines) → HasCache (get_or (drop n lines) k d)
caches_rest [] zero caches k d lt = absurd (omega (arith, lt))
caches_rest [] (suc n) caches k d lt = absurd (omega (arith, lt))
caches_rest (line ∷ lines) zero caches k d lt = caches k d lt
caches_rest (line ∷ lines) (suc n) caches k d lt = caches_rest lines n (λ j e le. caches (suc j) e (omega (arith, le))) k d lt

pub first_alone : (lines : List Line) (n : ℕ) → ((i : ℕ) (line : Line) → i < n → slice_get lines i ≡ Some line → is_alone line ≡ false) → AreRoundLines (take n lines)
first_alone [] zero are i line at = absurd (cc at)
first_alone [] (suc n) are i line at = absurd (cc at)
first_alone (one ∷ lines) zero are i line at = absurd (cc at)
first_alone (one ∷ lines) (suc n) are zero line at = are 0 line (omega arith) at
first_alone (one ∷ lines) (suc n) are (suc i) line at = first_alone lines n (λ j other lt is. are (suc j) other (omega (arith, lt)) is) i line at

-- where none asks for a checkpoint the last one doesn't
pub last_no_checkpoint : (lines : List Line) (was : Bool) → checkpoints_in lines ≡ 0 → 1 ≤ length lines → asked_last was lines ≡ false
last_no_checkpoint [] was none some = absurd (omega (arith, some))
last_no_checkpoint (line ∷ []) was none some = by (is_checkpoint line) refl none
  where
    by : (b : Bool) → is_checkpoint line ≡ b → (if b then 1 else 0) + 0 ≡ 0 → is_checkpoint line ≡ false
    by true is zero_is = absurd (omega (arith, zero_is))
    by false is zero_is = is
last_no_checkpoint (line ∷ other ∷ lines) was none some =
    last_no_checkpoint (other ∷ lines) (is_checkpoint line) (omega (arith, none)) (omega arith)

-- ---- a round

module _ (tells : Type 0) (old new : History) (first : ℕ) (lines : List Line) (before now : FrameRunning) (was replies : ReplyList) where
  round_fault : (end : RoundEnd) → DoesRoundLines tells old new first 0 lines before now was replies end → (fault : PageFault) → end.stop ≡ Some (Faulted fault)
      → TriesLines tells old new first lines before now was replies (Err (store_fault_of fault))
  round_fault end does page.Failed is = record {
    inside = tt;
    runs = round_faulted tells old new first lines before now was replies end does page.Failed is;
    numbers = λ stays. absurd stays;
    none_asked = tt;
  }
  round_fault end does (page.BadPage id) is = record {
    inside = tt;
    runs = round_faulted tells old new first lines before now was replies end does (page.BadPage id) is;
    numbers = λ stays. absurd stays;
    none_asked = tt;
  }

  pub round_tried : (end : RoundEnd) → DoesRoundLines tells old new first 0 lines before now was replies end → AreRoundLines lines → (r : Result ℕ StoreFault) → CountsRound end r
      → TriesLines tells old new first lines before now was replies r
  round_tried end does alone (Ok count) counts = record {
    inside = omega (arith, counts.0, round_inside tells old new first lines before now was replies end does);
    runs = subst (λ n. RunsFrameBatch tells old new first (take n lines) (33 * length lines) 0 before now was replies (Ok tt)) (sym counts.0)
        (round_done tells old new first lines before now was replies end does counts.1);
    numbers = λ stays. subst (λ n. TakesNumbersIn before now (33 * n) 0) (sym counts.0) (round_numbers tells old new first lines before now was replies end does);
    none_asked = none_in lines alone count;
  }
  round_tried end does alone (Err fault) (inl lacks) =
      subst (λ (f : StoreFault). TriesLines tells old new first lines before now was replies (Err f)) (sym lacks.0) (record {
        inside = tt;
        runs = round_lacks tells old new first lines before now was replies end does lacks.2;
        numbers = λ stays. subst (λ n. TakesNumbersIn before now (33 * n) 0) lacks.1 (round_numbers tells old new first lines before now was replies end does);
        none_asked = tt;
      })
  round_tried end does alone (Err fault) (inr it) =
      subst (λ (f : StoreFault). TriesLines tells old new first lines before now was replies (Err f)) (sym it.2) (round_fault end does it.0 it.1)

  -- a round that wasn't run, or whose lines couldn't be appended
  pub round_untried : (fault : StoreFault) → IsPlainFault fault → (fault ≡ Failed → LosesRoundLines tells old new first 0 lines before now)
      → ((lack : Lack) → fault ≡ Memory lack → LeavesEngine tells old new before now was replies) → before.store.is_open ≡ true → (tells → EndsThere before.log old.world)
      → (tells → HasCleanPages before.store old.world) → TriesLines tells old new first lines before now was replies (Err fault)
  round_untried Failed plain lost left opens ends_there clean = record {
    inside = tt;
    runs = round_lost tells old new first lines before now was replies (lost refl);
    numbers = λ stays. absurd stays;
    none_asked = tt;
  }
  round_untried (Memory lack) plain lost left opens ends_there clean =
      let leaves = left lack refl in
      let keeps = keeps_itself tells old new before now leaves.engine leaves.world clean in
      record {
        inside = tt;
        runs = subst (λ (l : ReplyList). RunsFrameBatch tells old new first lines (33 * length lines) 0 before now was l (Err (Memory lack))) (sym leaves.replies)
            (none_done lack tells old new before now keeps first (33 * length lines) 0 lines was (ap (λ (e : FrameRunning). e.store.is_open) leaves.engine ∙ opens) ends_there);
        numbers = λ stays. keeps_numbers tells old new before now keeps 0 0;
        none_asked = tt;
      }
  round_untried (BadPage id) plain lost left opens ends_there clean = absurd plain
  round_untried (BadRecord at) plain lost left opens ends_there clean = absurd plain

-- more lines after those of the round
tries_more : (tells : Type 0) (old new : History) (first : ℕ) (xs ys : List Line) (before now : FrameRunning) (was replies : ReplyList) (r : Result ℕ StoreFault)
    → TriesLines tells old new first xs before now was replies r → TriesLines tells old new first (xs ++ ys) before now was replies r
tries_more tells old new first xs ys before now was replies (Ok count) tries =
    let same : take count (xs ++ ys) ≡ take count xs = take-append-le count xs ys tries.inside in
    record {
      inside = omega (arith, tries.inside, length-append xs ys);
      runs = subst (λ ls. RunsFrameBatch tells old new first ls (33 * length (xs ++ ys)) 0 before now was replies (Ok tt)) (sym same)
          (batch_wider tells old new first (take count xs) (33 * length xs) 0 (33 * length (xs ++ ys)) 0 before now was replies (Ok tt) tries.runs
          (omega (arith, length-append xs ys)) (omega arith));
      numbers = tries.numbers;
      none_asked = ap checkpoints_in same ∙ tries.none_asked;
    }
tries_more tells old new first xs ys before now was replies (Err fault) tries = record {
  inside = tt;
  runs = batch_part tells old new first xs ys (33 * length xs) 0 (33 * length (xs ++ ys)) 0 before now was replies fault tries.runs (omega (arith, length-append xs ys)) (omega arith);
  numbers = tries.numbers;
  none_asked = tt;
}

-- these were the first ones of the lines
pub tries_first : (tells : Type 0) (old new : History) (first : ℕ) (n : ℕ) (lines : List Line) (before now : FrameRunning) (was replies : ReplyList) (r : Result ℕ StoreFault)
    → TriesLines tells old new first (take n lines) before now was replies r → TriesLines tells old new first lines before now was replies r
tries_first tells old new first n lines before now was replies r tries =
    subst (λ ls. TriesLines tells old new first ls before now was replies r) (take-append-drop n lines)
    (tries_more tells old new first (take n lines) (drop n lines) before now was replies r tries)

-- the first one alone
pub tries_head : (tells : Type 0) (old new : History) (first : ℕ) (line : Line) (lines : List Line) (before now : FrameRunning) (was replies : ReplyList) (r : Result ℕ StoreFault)
    → slice_get lines 0 ≡ Some line → TriesLines tells old new first (line ∷ []) before now was replies r → TriesLines tells old new first lines before now was replies r
tries_head tells old new first line [] before now was replies r at tries = absurd (cc at)
tries_head tells old new first line (one ∷ lines) before now was replies r at tries =
    tries_more tells old new first (one ∷ []) lines before now was replies r
    (subst (λ (l : Line). TriesLines tells old new first (l ∷ []) before now was replies r) (sym (same_Some one line at)) tries)

-- ---- a scan

module _ (tells : Type 0) (old new : History) (first cache : ℕ) (before : FrameRunning) (after : FrameStoreView) (was replies : ReplyList)
    (world : tells → ChangesNoWorld old new) (opens : before.store.is_open ≡ true) (ends_there : tells → EndsThere before.log old.world) where
  abbrev scanned : FrameRunning
  scanned = record before { store = after }

  abbrev line : Line
  line = Good (Scan cache)

  module _ (answer : Result (Unit {0}) ScanStop) (scans : ScansStore tells cache before.store after old.world was replies answer) where
    scan_keeps : KeepsEngine tells old new before scanned
    scan_keeps = record {
      same = record { shape = scans.same.shape; region = scans.same.region; locks = scans.same.locks };
      log = refl;
      ckpt = refl;
      began = refl;
      order = refl;
      dirty = scans.dirty;
      pages = λ t. ap (λ (w : World). pages_in_frames after w) (world t).world ∙ scans.pages t;
      clean = λ t. subst (λ (w : World). HasCleanPages after w) (sym (world t).world) (scans.clean t);
      world = world;
    }

    scan_numbers : TakesNumbersIn before scanned 0 0
    scan_numbers = keeps_numbers tells old new before scanned scan_keeps 0 0

    -- something ran out for it
    scan_lacks : (lack : Lack) → after.is_open ≡ true → replies ≡ was → TriesLines tells old new first (line ∷ []) before scanned was replies (Err (Memory lack))
    scan_lacks lack on none = record {
      inside = tt;
      runs = subst (λ (l : ReplyList). RunsFrameBatch tells old new first (line ∷ []) 33 0 before scanned was l (Err (Memory lack))) (sym none)
          (none_done lack tells old new before scanned scan_keeps first 33 0 (line ∷ []) was on ends_there);
      numbers = λ stays. scan_numbers;
      none_asked = tt;
    }

    scan_fails : (fault : StoreFault) → (StaysOpen (Err fault) → ⊥) → after.is_open ≡ false → replies ≡ was
        → (tells → MayGoOn before old.world 33 0 → (id : PageId) → IsErrOf {T = Unit {0}} {E = StoreFault} (Err fault) (BadPage id) → ⊥)
        → (tells → (may_change : ℕ → Bool) → (id : PageId) → IsErrOf {T = Unit {0}} {E = StoreFault} (Err fault) (BadPage id)
        → MeetsBadPage tells may_change before.store.shape (pages_in_frames before.store old.world) id)
        → TriesLines tells old new first (line ∷ []) before scanned was replies (Err fault)
    scan_fails fault shut off none sound meets = record {
      inside = tt;
      runs = batch_part tells old new first [] (line ∷ []) 33 0 33 0 before scanned was replies fault
          (subst (λ (l : ReplyList). RunsFrameBatch tells old new first [] 33 0 before scanned was l (Err fault)) (sym none)
          (kept_none tells old new before scanned scan_keeps first 33 0 was (Err fault) (λ stays. absurd (shut stays)) (λ is. off) ends_there sound meets tt)) (omega arith) (omega arith);
      numbers = λ stays. absurd (shut stays);
      none_asked = tt;
    }

  pub scan_tried : (answer : Result (Unit {0}) ScanStop) → ScansStore tells cache before.store after old.world was replies answer → (r : Result ℕ StoreFault) → CountsScan answer r
      → TriesLines tells old new first (line ∷ []) before scanned was replies r
  scan_tried (Ok done) scans r counts =
      subst (λ (q : Result ℕ StoreFault). TriesLines tells old new first (line ∷ []) before scanned was replies q) (sym counts) (record {
        inside = omega arith;
        runs = kept_line tells old new before scanned (scan_keeps (Ok done) scans) first 33 0 line was replies scans.is_open ends_there
            (omega (arith, ap (λ (l : ReplyList). l.spare) scans.replied.appended)) (λ shape pairs. refl) (λ shape pairs number. refl)
            (λ t may. scans.evaluates t (may_well_formed before old.world 33 0 may));
        numbers = λ stays. keeps_numbers tells old new before scanned (scan_keeps (Ok done) scans) 33 0;
        none_asked = refl;
      })
  scan_tried (Err (scan.Halted halt)) scans r (inl counts) =
      subst (λ (q : Result ℕ StoreFault). TriesLines tells old new first (line ∷ []) before scanned was replies q) (sym counts) (record {
        inside = omega arith;
        runs = subst (λ (l : ReplyList). RunsFrameBatch tells old new first [] 33 0 before scanned was l (Ok tt)) (sym scans.no_reply)
            (kept_none tells old new before scanned (scan_keeps (Err (scan.Halted halt)) scans) first 33 0 was (Ok tt) (λ stays. scans.is_open) (λ shut. absurd (shut tt)) ends_there
            (λ t may id bad. absurd (cc bad)) (λ t may_change id bad. absurd (cc bad)) refl);
        numbers = λ stays. scan_numbers (Err (scan.Halted halt)) scans;
        none_asked = refl;
      })
  scan_tried (Err (scan.Halted halt)) scans r (inr counts) =
      subst (λ (q : Result ℕ StoreFault). TriesLines tells old new first (line ∷ []) before scanned was replies q) (sym counts)
      (scan_lacks (Err (scan.Halted halt)) scans Frames scans.is_open scans.no_reply)
  scan_tried (Err scan.Memory) scans r counts =
      subst (λ (q : Result ℕ StoreFault). TriesLines tells old new first (line ∷ []) before scanned was replies q) (sym counts)
      (scan_lacks (Err scan.Memory) scans Bytes scans.is_open scans.no_reply)
  scan_tried (Err (scan.Faulted page.Failed)) scans r counts =
      subst (λ (q : Result ℕ StoreFault). TriesLines tells old new first (line ∷ []) before scanned was replies q) (sym counts)
      (scan_fails (Err (scan.Faulted page.Failed)) scans Failed (λ stays. stays) scans.is_open scans.no_reply (λ t may id bad. absurd (cc bad)) (λ t may_change id bad. absurd (cc bad)))
  scan_tried (Err (scan.Faulted (page.BadPage id))) scans r counts =
      subst (λ (q : Result ℕ StoreFault). TriesLines tells old new first (line ∷ []) before scanned was replies q) (sym counts)
      (scan_fails (Err (scan.Faulted (page.BadPage id))) scans (BadPage id) (λ stays. stays) scans.is_open scans.no_reply
      (λ t may other bad. scans.sound t (may_well_formed before old.world 33 0 may) other (same_bad id other bad))
      (λ t may_change other bad. scans.meets t may_change other (same_bad id other bad)))
    where
      same_bad : (p q : PageId) → IsErrOf {T = Unit {0}} {E = StoreFault} (Err (BadPage p)) (BadPage q) → IsErrOf {T = Unit {0}} {E = ScanStop} (Err (scan.Faulted (page.BadPage p))) (scan.Faulted (page.BadPage q))
      same_bad p q is = ap (λ (n : PageId). let r : Result (Unit {0}) ScanStop = Err (scan.Faulted (page.BadPage n)) in r) (cc is)
