-- Where a flush ends: at the job's end, or at a page whose write failed.
use Rattle.std.proofs.Common.{◌≡◌, ℕ, ◌+◌, ◌<◌, ◌≤◌, List, [], ◌∷◌, ◌++◌, length, map, take, drop, get_or, sym, ap, ◌∙◌, subst, arith, true, Result, Ok, Err}
use Rattle.std.specs.Prelude.{All, Contains, OnOk, OnErr, IsErr}
use Rattle.std.proofs.lemmas.List.Elements.{All-push, Contains-push}
use Rattle.std.proofs.lemmas.List.{length-take-le, take-map, drop-map, drop_more, take_more, take-append-drop}
use Rattle.std.proofs.lemmas.List.{map_push}
use Rattle.pm_types.specs.declared.page_id.PageId.{PageId}
use Rattle.pm_disk.specs.States.{DeviceState, Access, MayWrite, IsLaterState}
use Rattle.pm_locks.specs.declared.view.View.{View}
use Rattle.pm_flush.specs.declared.due_page.DuePage.{DuePage}
use Rattle.pm_flush.specs.Copies.{CopiedPage, copy_of}
use Rattle.pm_flush.specs.Frames.{TakesImages, RefusesFrames}
use Rattle.pm_flush.specs.Steps.{TriesPage}
use Rattle.pm_flush.specs.Jobs.{pages_of, Splits, SplitsJob, asked_of, MayWriteAll}
use Rattle.pm_flush.proofs.Naming.{IsOnce}
use Rattle.pm_flush.proofs.Progress.{Progress, Tried, InJob, done_count, done_splits, progress_failed, asked_in, kept_in, in_more, takes_images, refuses_frames}

-- what may be written may be so later
pub may_later : (before now : DeviceState) (page : PageId) → IsLaterState before now → MayWrite before page → MayWrite now page
may_later before now page later may = record {
  usable = later.usable may.usable;
  allowed = ap (λ (a : Access). a.writes page) later.access ∙ may.allowed;
}

pub all_may_later : (before now : DeviceState) (job : List DuePage) → IsLaterState before now → MayWriteAll before job → MayWriteAll now job
all_may_later before now job later all k d lt = may_later before now (get_or job k d).page later (all k d lt)

-- a failed result
pub not_ok : {T E : Type 0} (result : Result T E) (P : Type 0) → IsErr result → OnOk result P
not_ok (Ok x) P is = absurd cc
not_ok (Err e) P is = tt

on_err : {T E P : Type 0} (result : Result T E) → P → OnErr result P
on_err (Ok x) p = tt
on_err (Err e) p = p

module _ (start now : View) (copies : List CopiedPage) (job : List DuePage) (i : ℕ) (ws ls : List PageId) (p : Progress start now copies (take i job) ws ls) where
  count_is : i ≤ length job → length ws + length ls ≡ i
  count_is le = done_count start now copies (take i job) ws ls p ∙ length-take-le i job le

  first_splits : i ≤ length job → Splits (take (length ws + length ls) (pages_of job)) ws ls
  first_splits le = subst (λ ps. Splits ps ws ls) (sym (ap (λ n. take n (pages_of job)) (count_is le) ∙ take-map (λ (e : DuePage). e.page) i job)) (done_splits start now copies (take i job) ws ls p)

  -- the write of the page at hand failed
  pub splits_stopped : {T E : Type 0} (result : Result T E) → IsErr result → i < length job → SplitsJob job ws ls result
  splits_stopped result is lt =
      let le : i ≤ length job = omega arith in
      let n = count_is le in record {
        splits = first_splits le;
        all = not_ok result (length ws + length ls ≡ length job) is;
        stops = on_err result (omega arith);
      }

  pub hand_is : {T E : Type 0} (result : Result T E) (none : DuePage) → IsErr result → i < length job → asked_of job ws ls result ≡ ws ++ (get_or job i none).page ∷ []
  hand_is (Ok x) none is lt = absurd cc
  hand_is (Err e) none is lt =
      let le : i ≤ length job = omega arith in
      ap (λ n. ws ++ take 1 (drop n (pages_of job))) (count_is le)
      ∙ ap (λ ps. ws ++ take 1 ps) (drop-map (λ (e : DuePage). e.page) i job)
      ∙ ap (λ ds. ws ++ take 1 (map (λ (e : DuePage). e.page) ds)) (drop_more job i none lt)

  pub hand_asked : {T E : Type 0} (result : Result T E) (none : DuePage) → IsErr result → i < length job → asked_of job ws ls result ≡ pages_of (p.asked ++ get_or job i none ∷ [])
  hand_asked result none is lt =
      hand_is result none is lt ∙ ap (λ ps. ps ++ (get_or job i none).page ∷ []) p.written_are ∙ sym (map_push (λ (e : DuePage). e.page) p.asked (get_or job i none))

  -- each page was written, or left
  pub splits_all : (T E : Type 0) (x : T) → length job ≤ i → i ≤ length job → SplitsJob {T = T} {E = E} job ws ls (Ok x)
  splits_all T E x past le =
      let n = count_is le in record {
        splits = first_splits le;
        all = omega arith;
        stops = tt;
      }

-- the pages up to the one at hand, and the whole job, are of the job
pub up_to_hand : (job : List DuePage) (i : ℕ) (none : DuePage) → IsOnce job → i < length job → InJob job (take i job ++ get_or job i none ∷ [])
up_to_hand job i none once lt = record {
  once = once;
  rest = drop (i + 1) job;
  is = sym (take-append-drop (i + 1) job) ∙ ap (λ (ds : List DuePage). ds ++ drop (i + 1) job) (take_more job i none lt);
}

pub whole_job : (job : List DuePage) (i : ℕ) → IsOnce job → InJob job (take i job)
whole_job job i once = record { once = once; rest = drop i job; is = sym (take-append-drop i job) }

-- ---- what the contract says

module _ (start now next : View) (copies : List CopiedPage) (job : List DuePage) (i : ℕ) (ws ls : List PageId) (none : DuePage) (once : IsOnce job) (lt : i < length job)
    (p : Progress start now copies (take i job) ws ls) (step : TriesPage (copy_of copies (get_or job i none).page) true now next (get_or job i none)) where
  abbrev d : DuePage
  d = get_or job i none

  abbrev part : List DuePage
  part = take i job ++ d ∷ []

  hand_tried : Tried start next copies part (p.asked ++ d ∷ []) p.kept
  hand_tried = progress_failed start now next copies (take i job) ws ls d step p

  hand_in : All (Contains part) (p.asked ++ d ∷ [])
  hand_in = All-push (Contains part) p.asked d (in_more (take i job) p.asked d (asked_in start now copies (take i job) ws ls p)) (Contains-push (take i job) d)

  pub failed_images : {T E : Type 0} (result : Result T E) → IsErr result → TakesImages start next copies job (asked_of job ws ls result)
  failed_images result is =
      takes_images start next copies job part (p.asked ++ d ∷ []) p.kept (up_to_hand job i none once lt) hand_tried
      (asked_of job ws ls result) (hand_asked start now copies job i ws ls p result none is lt) hand_in

  pub failed_left : RefusesFrames start next copies job ls
  failed_left =
      refuses_frames start next copies job part (p.asked ++ d ∷ []) p.kept (up_to_hand job i none once lt) hand_tried
      ls p.left_are (in_more (take i job) p.kept d (kept_in start now copies (take i job) ws ls p))

module _ (start now : View) (copies : List CopiedPage) (job : List DuePage) (i : ℕ) (ws ls : List PageId) (once : IsOnce job) (p : Progress start now copies (take i job) ws ls) where
  pub all_images : (T E : Type 0) (x : T) → TakesImages start now copies job (asked_of {T = T} {E = E} job ws ls (Ok x))
  all_images T E x =
      takes_images start now copies job (take i job) p.asked p.kept (whole_job job i once) p.tried
      ws p.written_are (asked_in start now copies (take i job) ws ls p)

  pub all_left : RefusesFrames start now copies job ls
  all_left =
      refuses_frames start now copies job (take i job) p.asked p.kept (whole_job job i once) p.tried
      ls p.left_are (kept_in start now copies (take i job) ws ls p)
