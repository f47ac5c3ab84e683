-- Pages that couldn't be used, which lines of a run met, and which partitions these lines left as they were.
use Rattle.std.proofs.Common.{◌≡◌, ℕ, Bool, List, [], ◌++◌, length, Result, Ok, Err, refl, ap, sym, ◌∙◌, subst, append_assoc}
use Rattle.std.specs.Prelude.{IsErrOf}
use Rattle.std.specs.List.{All}
use Rattle.std.proofs.lemmas.List.{take_at, drop_at}
use Rattle.std.proofs.lemmas.List.Elements.{All-take, All-drop}
use Rattle.pm_types.specs.declared.fault.StoreFault.{StoreFault}
use Rattle.pm_types.specs.declared.fault.StoreFault.TheVariants.{BadPage}
use Rattle.pm_types.specs.declared.page_id.PageId.{PageId}
use Rattle.pm_types.specs.declared.shape.Shape.{Shape}
use Rattle.pm_disk.specs.Worlds.{World}
use Rattle.pm_model.specs.declared.line.Line.{Line}
use Rattle.pm_core.specs.BasePages.{Partitions}
use Rattle.pm_engine.specs.Batches.{StaysOpen}
use Rattle.pm_engine.specs.Engines.{FrameRunning}
use Rattle.pm_engine.specs.FrameStores.{pages_in_frames}
use Rattle.pm_engine.specs.MetPages.{AllowsLine, KeepsOrMeets, KeepsPagesBut, MeetsBadPage}
use Rattle.pm_engine.specs.RunningLines.{SameDisk}
use Rattle.pm_engine.proofs.MetPages.{kept_same, kept_then, met_before, meets_then}
use Rattle.pm_engine.proofs.ToldFaults.{met_told}
use Rattle.pm_script.specs.Reading.{Unread}
use Rattle.pm_engine.specs.Batches.{IsPlainFault}
use Rattle.pm_top.specs.declared.batch.Continuation.{Continuation}
use Rattle.pm_top.specs.declared.batch.Continuation.TheVariants as then_comes
use Rattle.pm_top.specs.declared.run.Run.{Run}
use Rattle.pm_top.specs.Promises.{IsMetByLine}
use Rattle.pm_top.specs.Runs.{MeetsOnScript}
use Rattle.pm_top.specs.Scripts.{ContinuationIs}
use Rattle.pm_top.specs.Served.{script_of}
use Rattle.pm_top.proofs.FrameRests.{is_beside}

-- ---- lines that come one after the other

pub all_front : (P : Line → Type 0) (xs ys : List Line) → All P (xs ++ ys) → All P xs
all_front P xs ys all = subst (λ (ls : List Line). All P ls) (take_at xs ys (length xs) refl) (All-take P (length xs) (xs ++ ys) all)

pub all_back : (P : Line → Type 0) (xs ys : List Line) → All P (xs ++ ys) → All P ys
all_back P xs ys all = subst (λ (ls : List Line). All P ls) (drop_at xs ys (length xs) refl) (All-drop P (length xs) (xs ++ ys) all)

-- ---- what is said and read leaves the pages as they are

pub pages_beside : (engine : FrameRunning) (old now : World) → SameDisk old now → pages_in_frames engine.store now ≡ pages_in_frames engine.store old
pages_beside engine old now same = sym (ap (λ (w : World). pages_in_frames engine.store w) (is_beside old now same))

-- ---- what calls leave

-- lines of this list were run: what is kept or met then
abbrev pub LinesMeet : Shape → List Line → Partitions → Partitions → Result (Unit {0}) StoreFault → Type 0
LinesMeet shape lines old new result =
    (may_change : ℕ → Bool) → All (AllowsLine may_change shape) lines → KeepsOrMeets (Unit {0}) may_change shape old new (result ≡ Ok tt) (λ id. IsErrOf result (BadPage id))

-- a batch that was run
pub batch_meets : (tells : Type 0) (t : tells) (shape : Shape) (lines : List Line) (old new : Partitions) (result : Result (Unit {0}) StoreFault)
    → ((may_change : ℕ → Bool) → All (AllowsLine may_change shape) lines → KeepsOrMeets tells may_change shape old new (StaysOpen result) (λ id. IsErrOf result (BadPage id)))
    → LinesMeet shape lines old new result
batch_meets tells t shape lines old new result meets may_change allows =
    let its = meets may_change allows in
    record {
      keeps = λ is. its.keeps (subst StaysOpen (sym is) tt);
      meets = λ id is. met_told tells (Unit {0}) (λ u. t) may_change shape old id (its.meets id is);
    }

-- no page is named, and the pages are the same
pub none_met : (shape : Shape) (lines : List Line) (pages : Partitions) (result : Result (Unit {0}) StoreFault) → ((id : PageId) → IsErrOf result (BadPage id) → ⊥) → LinesMeet shape lines pages pages result
none_met shape lines pages result none may_change allows = record {
  keeps = λ is. kept_same may_change pages;
  meets = λ id is. absurd (none id is);
}

-- a fault that names no page
pub fault_met : (shape : Shape) (lines : List Line) (old new : Partitions) (fault : StoreFault) → ((id : PageId) → fault ≡ BadPage id → ⊥) → LinesMeet shape lines old new (Err fault)
fault_met shape lines old new fault plain may_change allows = record {
  keeps = λ is. absurd cc;
  meets = λ id is. absurd (plain id (let same : fault ≡ BadPage id = cc in same));
}

-- a fault came in the first lines
pub first_meet : (shape : Shape) (xs ys : List Line) (old new : Partitions) (result : Result (Unit {0}) StoreFault) → LinesMeet shape xs old new result → LinesMeet shape (xs ++ ys) old new result
first_meet shape xs ys old new result first may_change allows = first may_change (all_front (AllowsLine may_change shape) xs ys allows)

-- the others were run after them
pub both_meet : (shape later : Shape) (xs ys : List Line) (old mid new : Partitions) (result : Result (Unit {0}) StoreFault) → later ≡ shape → LinesMeet shape xs old mid (Ok tt) → LinesMeet later ys mid new result
    → LinesMeet shape (xs ++ ys) old new result
both_meet shape later xs ys old mid new result same first second may_change allows =
    let kept = (first may_change (all_front (AllowsLine may_change shape) xs ys allows)).keeps refl in
    let others : LinesMeet shape ys mid new result = subst (λ (s : Shape). LinesMeet s ys mid new result) same second in
    meets_then may_change old mid kept (Unit {0}) shape new (result ≡ Ok tt) (λ id. IsErrOf result (BadPage id)) (others may_change (all_back (AllowsLine may_change shape) xs ys allows))

-- ---- lines of a script

-- what a batch leaves of the script is what is left to be read
pub left_script : (continuation : Continuation) (at new : Unread) (left now_rest : List ℕ) → ContinuationIs continuation at new left now_rest → (continuation ≡ then_comes.Over → ⊥) → script_of left ≡ script_of now_rest
left_script then_comes.More at new left now_rest is within = ap script_of is.1
left_script then_comes.End at new left now_rest is within = ap script_of (is.0 ∙ sym is.1)
left_script then_comes.Over at new left now_rest is within = absurd (within refl)

module _ (script left : List Line) (old new : World) (before now : Run) where
  -- a fault came before the first line
  pub script_unmet : (fault : StoreFault) → IsPlainFault fault → MeetsOnScript script left old new before now (Err fault)
  script_unmet fault plain = record {
    lines = [];
    others = [];
    taken = tt;
    left_are = tt;
    keeps = tt;
    meets = λ id is. absurd (subst IsPlainFault (let same : fault ≡ BadPage id = cc in same) plain);
  }

  module _ (mid : World) (same : pages_in_frames before.engine.store mid ≡ pages_in_frames before.engine.store old) (lines others : List Line) (is : script ≡ lines ++ others) where
    from_start : (result : Result (Unit {0}) StoreFault) → LinesMeet before.engine.store.shape lines (pages_in_frames before.engine.store mid) (pages_in_frames now.engine.store new) result
        → LinesMeet before.engine.store.shape lines (pages_in_frames before.engine.store old) (pages_in_frames now.engine.store new) result
    from_start result meets = subst (λ (p : Partitions). LinesMeet before.engine.store.shape lines p (pages_in_frames now.engine.store new) result) same meets

    -- a fault came in these lines
    pub script_stops : (fault : StoreFault) → LinesMeet before.engine.store.shape lines (pages_in_frames before.engine.store mid) (pages_in_frames now.engine.store new) (Err fault)
        → MeetsOnScript script left old new before now (Err fault)
    script_stops fault meets = record {
      lines = lines;
      others = others;
      taken = tt;
      left_are = tt;
      keeps = tt;
      meets = λ id named may_change allows.
          (from_start (Err fault) meets may_change (all_front (AllowsLine may_change before.engine.store.shape) lines others (subst (λ (ls : List Line). All (AllowsLine may_change before.engine.store.shape) ls) is allows))).meets id
          (let same_fault : fault ≡ BadPage id = cc in ap Err same_fault);
    }

    -- these lines were done
    pub script_goes : (continuation : Continuation) → ((continuation ≡ then_comes.Over → ⊥) → others ≡ left)
        → LinesMeet before.engine.store.shape lines (pages_in_frames before.engine.store mid) (pages_in_frames now.engine.store new) (Ok tt) → MeetsOnScript script left old new before now (Ok continuation)
    script_goes continuation left_are meets = record {
      lines = lines;
      others = others;
      taken = is;
      left_are = left_are;
      keeps = λ may_change allows. (from_start (Ok tt) meets may_change allows).keeps refl;
      meets = λ id named. absurd cc;
    }

-- ---- a run that went on to the rest of its script

module _ (first shape : Shape) (same : shape ≡ first) (script done rest : List Line) (is : script ≡ done ++ rest) where
  pub rest_allows : (may_change : ℕ → Bool) → All (AllowsLine may_change first) script → All (AllowsLine may_change shape) rest
  rest_allows may_change allows =
      subst (λ (s : Shape). All (AllowsLine may_change s) rest) (sym same)
      (all_back (AllowsLine may_change first) done rest (subst (λ (ls : List Line). All (AllowsLine may_change first) ls) is allows))

  -- what one of the other lines met, one of the script's lines did
  pub met_later : (start mid : Partitions) → ((may_change : ℕ → Bool) → All (AllowsLine may_change first) script → KeepsPagesBut may_change start mid) → (id : PageId) → IsMetByLine shape mid rest id → IsMetByLine first start script id
  met_later start mid kept id met may_change allows =
      subst (λ (s : Shape). MeetsBadPage (Unit {0}) may_change s start id) same
      (met_before may_change start mid (kept may_change allows) (Unit {0}) shape id (met may_change (rest_allows may_change allows)))

  -- some of them were done too
  pub kept_later : (start mid new : Partitions) (lines others : List Line) → rest ≡ lines ++ others → ((may_change : ℕ → Bool) → All (AllowsLine may_change first) script → KeepsPagesBut may_change start mid)
      → ((may_change : ℕ → Bool) → All (AllowsLine may_change shape) lines → KeepsPagesBut may_change mid new) → (may_change : ℕ → Bool) → All (AllowsLine may_change first) script → KeepsPagesBut may_change start new
  kept_later start mid new lines others parted kept more may_change allows =
      kept_then may_change start mid (kept may_change allows) new
      (more may_change (all_front (AllowsLine may_change shape) lines others (subst (λ (ls : List Line). All (AllowsLine may_change shape) ls) parted (rest_allows may_change allows))))

  pub done_later : (lines others : List Line) → rest ≡ lines ++ others → (more : List Line) × (script ≡ more ++ others)
  done_later lines others parted = (done ++ lines, is ∙ ap (λ ls. done ++ ls) parted ∙ sym (append_assoc done lines others))

-- ---- a batch after these lines

module _ (tells : Type 0) (t : tells) (first shape : Shape) (same : shape ≡ first) (lines more : List Line) (start mid new : Partitions) (result : Result (Unit {0}) StoreFault)
    (kept : (may_change : ℕ → Bool) → All (AllowsLine may_change first) lines → KeepsPagesBut may_change start mid)
    (batch : (may_change : ℕ → Bool) → All (AllowsLine may_change shape) more → KeepsOrMeets tells may_change shape mid new (StaysOpen result) (λ id. IsErrOf result (BadPage id))) where
  -- it was done
  pub kept_more : StaysOpen result → (may_change : ℕ → Bool) → All (AllowsLine may_change first) (lines ++ more) → KeepsPagesBut may_change start new
  kept_more stays may_change allows =
      let its = batch may_change (rest_allows first shape same (lines ++ more) lines more refl may_change allows) in
      kept_then may_change start mid (kept may_change (all_front (AllowsLine may_change first) lines more allows)) new (its.keeps stays)

  -- it met a page, and so one of the script's lines did
  pub met_more : (script rest : List Line) → script ≡ lines ++ (more ++ rest) → (id : PageId) → IsErrOf result (BadPage id) → IsMetByLine first start script id
  met_more script rest is id named may_change allows =
      let whole = subst (λ (ls : List Line). All (AllowsLine may_change first) ls) is allows in
      let its = batch may_change (all_front (AllowsLine may_change shape) more rest (rest_allows first shape same script lines (more ++ rest) is may_change allows)) in
      subst (λ (s : Shape). MeetsBadPage (Unit {0}) may_change s start id) same
      (met_before may_change start mid (kept may_change (all_front (AllowsLine may_change first) lines (more ++ rest) whole)) (Unit {0}) shape id (met_told tells (Unit {0}) (λ u. t) may_change shape mid id (its.meets id named)))
