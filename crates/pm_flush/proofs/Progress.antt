-- How a job's pages are flushed one after another, and what the contract says of them all.
use Rattle.std.proofs.Common.{◌≡◌, ℕ, ◌+◌, List, [], ◌∷◌, ◌++◌, length, get_or, Bool, true, false, cond, Option, Some, None, refl, sym, ap, ◌∙◌, subst, arith, Result}
use Rattle.std.specs.Prelude.{All, Contains}
use Rattle.std.proofs.lemmas.List.{map_push, length-map, append-nil}
use Rattle.std.proofs.lemmas.List.Elements.{All-weaker, All-contains, Contains-append_left, Contains-get_or}
use Rattle.pm_types.specs.declared.page_id.PageId.{PageId}
use Rattle.pm_locks.specs.declared.view.View.{View}
use Rattle.pm_disk.specs.Moments.{History}
use Rattle.pm_flush.specs.declared.due_page.DuePage.{DuePage}
use Rattle.pm_flush.specs.Copies.{CopiedPage, copy_of}
use Rattle.pm_flush.specs.Flushes.{WritesDue}
use Rattle.pm_flush.specs.Frames.{bytes_due, IsUncopied, TakesImages, RefusesFrames}
use Rattle.pm_flush.specs.Jobs.{pages_of, Splits}
use Rattle.pm_flush.specs.Steps.{TriesPage}
use Rattle.pm_flush.proofs.Naming.{IsOnce, by_page, page_in, same_due}
use Rattle.pm_flush.proofs.Refusing.{Refused, refused_none, refused_copied, refused_had, refused_more, IsMetOf, IsShown, IsBare}
use Rattle.pm_flush.proofs.Splitting.{split_first, split_second, split_map, split_length, parts_in}
use Rattle.pm_flush.proofs.Taking.{Took, took_none, took_copied, took_left, took_frame, NotAt, WasDue, IsTaken, IsOutOf}
use Rattle.pm_flush.proofs.Writing.{WroteDue, IsDueWrite}

-- these pages of a part of the job were asked for, and those were left
pub record Tried (start now : View) (copies : List CopiedPage) (part asked kept : List DuePage) : Type 0 where
  pub took : Took start now copies asked
  pub refused : Refused start now copies part kept

-- a part of the job is done: each of its pages was written, or left
pub record Progress (start now : View) (copies : List CopiedPage) (part : List DuePage) (written left : List PageId) : Type 0 where
  pub asked : List DuePage
  pub kept : List DuePage
  pub splits : Splits part asked kept
  pub written_are : written ≡ pages_of asked
  pub left_are : left ≡ pages_of kept
  pub tried : Tried start now copies part asked kept

pub progress_none : (start : View) (copies : List CopiedPage) → Progress start start copies [] [] []
progress_none start copies = record {
  asked = [];
  kept = [];
  splits = (refl, refl);
  written_are = refl;
  left_are = refl;
  tried = record { took = took_none start copies; refused = refused_none start copies };
}

-- ---- one page more

asked_more : (copied : Option (List ℕ)) (start now next : View) (copies : List CopiedPage) (part asked kept : List DuePage) (d : DuePage) → copy_of copies d.page ≡ copied → TriesPage copied true now next d
    → Tried start now copies part asked kept → Tried start next copies (part ++ d ∷ []) (asked ++ d ∷ []) kept
asked_more (Some bytes) start now next copies part asked kept d is step so_far = record {
  took = took_copied start now next copies asked d so_far.took bytes is step.1;
  refused = refused_copied start now next copies part kept d so_far.refused step.1;
}
asked_more None start now next copies part asked kept d is step so_far = record {
  took = took_frame start now next copies asked d so_far.took is step;
  refused = refused_had start now next copies part kept d so_far.refused is step;
}

left_more : (copied : Option (List ℕ)) (start now next : View) (copies : List CopiedPage) (part asked kept : List DuePage) (d : DuePage) → copy_of copies d.page ≡ copied → TriesPage copied false now next d
    → Tried start now copies part asked kept → Tried start next copies (part ++ d ∷ []) asked (kept ++ d ∷ [])
left_more (Some bytes) start now next copies part asked kept d is step so_far = absurd (let e : false ≡ true = step.0 in cc e)
left_more None start now next copies part asked kept d is step so_far = record {
  took = took_left start now next copies asked d so_far.took step;
  refused = refused_more start now next copies part kept d so_far.refused is step;
}

-- the page was written, or left
pub progress_more : (written : Bool) (start now next : View) (copies : List CopiedPage) (part : List DuePage) (ws ls : List PageId) (d : DuePage) → TriesPage (copy_of copies d.page) written now next d
    → Progress start now copies part ws ls → Progress start next copies (part ++ d ∷ []) (ws ++ cond written (d.page ∷ []) []) (ls ++ cond written [] (d.page ∷ []))
progress_more true start now next copies part ws ls d step p = record {
  asked = p.asked ++ d ∷ [];
  kept = p.kept;
  splits = split_first part p.asked p.kept d p.splits;
  written_are = ap (λ ps. ps ++ d.page ∷ []) p.written_are ∙ sym (map_push (λ (e : DuePage). e.page) p.asked d);
  left_are = append-nil ls ∙ p.left_are;
  tried = asked_more (copy_of copies d.page) start now next copies part p.asked p.kept d refl step p.tried;
}
progress_more false start now next copies part ws ls d step p = record {
  asked = p.asked;
  kept = p.kept ++ d ∷ [];
  splits = split_second part p.asked p.kept d p.splits;
  written_are = append-nil ws ∙ p.written_are;
  left_are = ap (λ ps. ps ++ d.page ∷ []) p.left_are ∙ sym (map_push (λ (e : DuePage). e.page) p.kept d);
  tried = left_more (copy_of copies d.page) start now next copies part p.asked p.kept d refl step p.tried;
}

-- the write of the page at hand failed
pub progress_failed : (start now next : View) (copies : List CopiedPage) (part : List DuePage) (ws ls : List PageId) (d : DuePage) → TriesPage (copy_of copies d.page) true now next d
    → (p : Progress start now copies part ws ls) → Tried start next copies (part ++ d ∷ []) (p.asked ++ d ∷ []) p.kept
progress_failed start now next copies part ws ls d step p = asked_more (copy_of copies d.page) start now next copies part p.asked p.kept d refl step p.tried

-- ---- how many are done

pub done_count : (start now : View) (copies : List CopiedPage) (part : List DuePage) (ws ls : List PageId) → Progress start now copies part ws ls → length ws + length ls ≡ length part
done_count start now copies part ws ls p =
    let a = split_length part p.asked p.kept p.splits in
    let b : length ws ≡ length p.asked = ap length p.written_are ∙ length-map p.asked (λ (e : DuePage). e.page) in
    let c : length ls ≡ length p.kept = ap length p.left_are ∙ length-map p.kept (λ (e : DuePage). e.page) in
    omega arith

pub done_splits : (start now : View) (copies : List CopiedPage) (part : List DuePage) (ws ls : List PageId) → Progress start now copies part ws ls → Splits (pages_of part) ws ls
done_splits start now copies part ws ls p =
    subst (λ (x : List PageId × List PageId). Splits (pages_of part) x.0 x.1) (λ i. (sym p.written_are i, sym p.left_are i)) (split_map (λ (e : DuePage). e.page) part p.asked p.kept p.splits)

-- what was asked for or left is of the part
pub asked_in : (start now : View) (copies : List CopiedPage) (part : List DuePage) (ws ls : List PageId) (p : Progress start now copies part ws ls) → All (Contains part) p.asked
asked_in start now copies part ws ls p = (parts_in part p.asked p.kept p.splits).0

pub kept_in : (start now : View) (copies : List CopiedPage) (part : List DuePage) (ws ls : List PageId) (p : Progress start now copies part ws ls) → All (Contains part) p.kept
kept_in start now copies part ws ls p = (parts_in part p.asked p.kept p.splits).1

pub in_more : (part ds : List DuePage) (d : DuePage) → All (Contains part) ds → All (Contains (part ++ d ∷ [])) ds
in_more part ds d all = All-weaker (Contains part) (Contains (part ++ d ∷ [])) (λ e h. Contains-append_left part (d ∷ []) e h) ds all

-- ---- what a part of the job has, the whole has

pub record InJob (job part : List DuePage) : Type 0 where
  pub once : IsOnce job
  pub rest : List DuePage
  pub is : job ≡ part ++ rest

in_job : (job part : List DuePage) → InJob job part → (d : DuePage) → Contains part d → Contains job d
in_job job part of d h = subst (λ ds. Contains ds d) (sym of.is) (Contains-append_left part of.rest d h)

all_in_job : (job part ds : List DuePage) → InJob job part → All (Contains part) ds → All (Contains job) ds
all_in_job job part ds of all = All-weaker (Contains part) (Contains job) (in_job job part of) ds all

module _ (start now : View) (copies : List CopiedPage) (job part asked kept : List DuePage) (of : InJob job part) (tried : Tried start now copies part asked kept) where
  -- the pages that were asked for
  pub takes_images : (pages : List PageId) → pages ≡ pages_of asked → All (Contains part) asked → TakesImages start now copies job pages
  takes_images pages are inside =
      let among = all_in_job job part asked of inside in
      let at : (due : DuePage) → IsUncopied copies job pages due → Contains (pages_of asked) due.page = λ due x. subst (λ ps. Contains ps due.page) are x.among in
      let uncopied : (due : DuePage) → Contains asked due → copy_of copies due.page ≡ None → IsUncopied copies job pages due = λ due h none.
      record { named = All-contains (Contains job) asked due among h; among = subst (λ ps. Contains ps due.page) (sym are) (page_in asked due h); uncopied = none } in
      record {
        was_due = λ due x. by_page (WasDue start copies) job asked due of.once among tried.took.was_due x.named (at due x) x.uncopied;
        taken = λ due x. by_page (IsTaken start now copies) job asked due of.once among tried.took.taken x.named (at due x) x.uncopied;
        others = λ f none. tried.took.others f (All-from (NotAt copies f) asked (λ due h bare. none due (uncopied due h bare)));
        outs = tried.took.outs;
        outs_are = tried.took.outs_are;
        only = All-weaker (IsOutOf copies asked) (λ out. (due : DuePage) × IsUncopied copies job pages due × (out.0 ≡ due.frame))
            (λ out x. (x.0, uncopied x.0 x.1 x.2, x.3)) tried.took.outs tried.took.only;
      }
    where
      All-from : (P : DuePage → Type 0) (ds : List DuePage) → ((d : DuePage) → Contains ds d → P d) → All P ds
      All-from P ds f k d lt = f (get_or ds k d) (Contains-get_or ds k d lt)

  -- the pages that were left
  pub refuses_frames : (pages : List PageId) → pages ≡ pages_of kept → All (Contains part) kept → RefusesFrames start now copies job pages
  refuses_frames pages are inside =
      let among = all_in_job job part kept of inside in
      let r = tried.refused in
      let at : (due : DuePage) → Contains pages due.page → Contains (pages_of kept) due.page = λ due x. subst (λ ps. Contains ps due.page) are x in
      record {
        added = r.added;
        met = r.met;
        frames = All-weaker (IsMetOf copies part) (λ m. (due : DuePage) × Contains job due × (copy_of copies due.page ≡ None) × (m.frame ≡ due.frame))
            (λ m x. (x.0, in_job job part of x.0 x.1, x.2, x.3)) r.added r.frames;
        uncopied = λ due named page. by_page (IsBare copies) job kept due of.once among r.uncopied named (at due page);
        refused = λ due named page. by_page (IsShown r.added) job kept due of.once among r.refused named (at due page);
      }

-- what was written is as it is due
pub writes_due : {T E : Type 0} (old new : History) (result : Result T E) (copies : List CopiedPage) (view : View) (job part : List DuePage) (pages : List PageId) → InJob job part
    → WroteDue {T = T} {E = E} old new result copies view part pages → WritesDue {T = T} {E = E} old new result copies view job pages
writes_due old new result copies view job part pages of wrote = record {
  writes = wrote.writes;
  pages_are = wrote.pages_are;
  bytes_are = λ w due has named page.
      let x = All-contains (IsDueWrite copies view part) wrote.writes w wrote.named has in
      let same : x.0 ≡ due = same_due job x.0 due of.once (in_job job part of x.0 x.1) named (x.2 ∙ sym page) in
      x.3 ∙ ap (bytes_due copies view) same;
  made = wrote.made;
}
