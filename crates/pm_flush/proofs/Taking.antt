-- How images are taken one page after another.
use Rattle.std.proofs.Common.{◌≡◌, ◌≢◌, ℕ, List, [], ◌∷◌, ◌++◌, Option, Some, None, true, refl, sym, ap, ◌∙◌, subst}
use Rattle.std.specs.Prelude.{All, Contains}
use Rattle.std.proofs.lemmas.List.Elements.{All-nil, All-cons, All-push, All-pop, All-weaker, Contains-append_left, Contains-push}
use Rattle.std.proofs.lemmas.Option.{same_Some}
use mathlib.Core.Logic.{dite}
use native.Mathlib.Decide.{ℕ_discrete}
use Rattle.pm_locks.specs.declared.view.Due.{Due}
use Rattle.pm_locks.specs.declared.view.Out.{Out}
use Rattle.pm_locks.specs.declared.view.View.{View}
use Rattle.pm_locks.specs.Rule.{HasImage, HasTakenImage}
use Rattle.pm_locks.specs.Views.{due_at}
use Rattle.pm_flush.specs.declared.due_page.DuePage.{DuePage}
use Rattle.pm_flush.specs.Copies.{CopiedPage, copy_of}
use Rattle.pm_flush.specs.Frames.{image_in, image_of, copied_or, bytes_due}
use Rattle.pm_flush.specs.Steps.{TakesFrame, LeavesFrame, TriesPage}

-- a frame has one image
same_image : (o : Option Due) (t u : ℕ) (a b : List ℕ) → HasImage o t a → HasImage o u b → (t ≡ u) × (a ≡ b)
same_image o t u a b x y =
    let same : x.0 ≡ y.0 = same_Some x.0 y.0 (sym x.1 ∙ y.1) in (
      sym x.2 ∙ ap (λ (d : Due). d.tag) same ∙ y.2,
      sym x.3 ∙ ap (λ (d : Due). d.image) same ∙ y.3,
    )

pub image_is : (o : Option Due) (t : ℕ) (a : List ℕ) → HasImage o t a → a ≡ image_in o
image_is o t a x = sym x.3 ∙ ap image_in (sym x.1)

has_image : (o : Option Due) (t : ℕ) (a : List ℕ) → HasTakenImage o t a → HasImage o t a
has_image o t a x = (x.0, x.1, x.2, x.3)

-- of a page that isn't copied: its frame is not this one, its image was due, and its image is taken
abbrev pub NotAt : List CopiedPage → ℕ → DuePage → Type 0
NotAt copies f d = copy_of copies d.page ≡ None → d.frame ≢ f

abbrev pub WasDue : View → List CopiedPage → DuePage → Type 0
WasDue start copies d = copy_of copies d.page ≡ None → HasImage (due_at start.dues d.frame) d.tag (image_of start d)

abbrev pub IsTaken : View → View → List CopiedPage → DuePage → Type 0
IsTaken start now copies d = copy_of copies d.page ≡ None → HasTakenImage (due_at now.dues d.frame) d.tag (image_of start d)

-- a frame that was taken is that of one of these pages, which isn't copied
abbrev pub IsOutOf : List CopiedPage → List DuePage → (ℕ × Option Out) → Type 0
IsOutOf copies asked out = (d : DuePage) × Contains asked d × (copy_of copies d.page ≡ None) × (out.0 ≡ d.frame)

-- of these pages those that aren't copied were taken
pub record Took (start now : View) (copies : List CopiedPage) (asked : List DuePage) : Type 0 where
  pub images : (f t : ℕ) (bytes : List ℕ) → HasImage (due_at now.dues f) t bytes → HasImage (due_at start.dues f) t bytes
  pub was_due : All (WasDue start copies) asked
  pub taken : All (IsTaken start now copies) asked
  pub others : (f : ℕ) → All (NotAt copies f) asked → due_at now.dues f ≡ due_at start.dues f
  pub outs : List (ℕ × Option Out)
  pub outs_are : now.outs ≡ outs ++ start.outs
  pub only : All (IsOutOf copies asked) outs

pub took_none : (start : View) (copies : List CopiedPage) → Took start start copies []
took_none start copies = record {
  images = λ f t bytes h. h;
  was_due = All-nil (WasDue start copies);
  taken = All-nil (IsTaken start start copies);
  others = λ f all. refl;
  outs = [];
  outs_are = refl;
  only = All-nil (IsOutOf copies []);
}

-- the pages before the last
front : (P : DuePage → Type 0) (ds : List DuePage) (d : DuePage) → All P (ds ++ d ∷ []) → All P ds × P d
front P ds d all = All-pop P (ds ++ d ∷ []) ds (Some d) refl all

outs_more : (copies : List CopiedPage) (asked : List DuePage) (d : DuePage) (outs : List (ℕ × Option Out)) → All (IsOutOf copies asked) outs → All (IsOutOf copies (asked ++ d ∷ [])) outs
outs_more copies asked d outs all = All-weaker (IsOutOf copies asked) (IsOutOf copies (asked ++ d ∷ []))
    (λ out x. (x.0, Contains-append_left asked (d ∷ []) x.0 x.1, x.2, x.3)) outs all

module _ (start now next : View) (copies : List CopiedPage) (asked : List DuePage) (d : DuePage) (took : Took start now copies asked) where
  -- a copied page takes no frame
  pub took_copied : (bytes : List ℕ) → copy_of copies d.page ≡ Some bytes → next ≡ now → Took start next copies (asked ++ d ∷ [])
  took_copied bytes some same =
      let not : copy_of copies d.page ≡ None → ⊥ = λ none. absurd (let e : Some bytes ≡ None = sym some ∙ none in cc e) in
      let kept : Took start next copies asked = subst (λ (v : View). Took start v copies asked) (sym same) took in
      record {
        images = kept.images;
        was_due = All-push (WasDue start copies) asked d kept.was_due (λ none. absurd (not none));
        taken = All-push (IsTaken start next copies) asked d kept.taken (λ none. absurd (not none));
        others = λ f all. kept.others f (front (NotAt copies f) asked d all).0;
        outs = kept.outs;
        outs_are = kept.outs_are;
        only = outs_more copies asked d kept.outs kept.only;
      }

  -- a page that is left takes none
  pub took_left : LeavesFrame now next d → Took start next copies asked
  took_left left = record {
    images = λ f t bytes h. took.images f t bytes (subst (λ ds. HasImage (due_at ds f) t bytes) left.dues h);
    was_due = took.was_due;
    taken = All-weaker (IsTaken start now copies) (IsTaken start next copies) (λ e x none. subst (λ ds. HasTakenImage (due_at ds e.frame) e.tag (image_of start e)) (sym left.dues) (x none)) asked took.taken;
    others = λ f all. ap (λ ds. due_at ds f) left.dues ∙ took.others f all;
    outs = took.outs;
    outs_are = left.outs ∙ took.outs_are;
    only = took.only;
  }

  -- the image of a page whose frame is had was due there at first
  first_image : TakesFrame now next d → HasImage (due_at start.dues d.frame) d.tag (image_of now d)
  first_image step = took.images d.frame d.tag (image_of now d) step.was_due

  same_first : (step : TakesFrame now next d) → image_of now d ≡ image_of start d
  same_first step = image_is (due_at start.dues d.frame) d.tag (image_of now d) (first_image step)

  next_images : (step : TakesFrame now next d) (f t : ℕ) (bytes : List ℕ) → HasImage (due_at next.dues f) t bytes → HasImage (due_at start.dues f) t bytes
  next_images step f t bytes h = dite (ℕ_discrete f d.frame)
      (λ e.
      let here : HasImage (due_at next.dues d.frame) t bytes = subst (λ g. HasImage (due_at next.dues g) t bytes) e h in
      let same = same_image (due_at next.dues d.frame) d.tag t (image_of now d) bytes (has_image (due_at next.dues d.frame) d.tag (image_of now d) step.taken) here in
      subst (λ (p : (ℕ × ℕ) × List ℕ). HasImage (due_at start.dues p.0.0) p.0.1 p.1) (λ i. ((sym e i, same.0 i), same.1 i)) (first_image step))
      (λ ne. took.images f t bytes (subst (λ o. HasImage o t bytes) (step.others f ne) h))

  next_taken : (step : TakesFrame now next d) (e : DuePage) → IsTaken start now copies e → IsTaken start next copies e
  next_taken step e x none = dite (ℕ_discrete e.frame d.frame)
      (λ is.
      let was : HasTakenImage (due_at now.dues d.frame) e.tag (image_of start e) = subst (λ g. HasTakenImage (due_at now.dues g) e.tag (image_of start e)) is (x none) in
      let same = same_image (due_at now.dues d.frame) d.tag e.tag (image_of now d) (image_of start e) step.was_due (has_image (due_at now.dues d.frame) e.tag (image_of start e) was) in
      subst (λ (p : (ℕ × ℕ) × List ℕ). HasTakenImage (due_at next.dues p.0.0) p.0.1 p.1) (λ i. ((sym is i, same.0 i), same.1 i)) step.taken)
      (λ ne. subst (λ o. HasTakenImage o e.tag (image_of start e)) (sym (step.others e.frame ne)) (x none))

  pub took_frame : copy_of copies d.page ≡ None → TakesFrame now next d → Took start next copies (asked ++ d ∷ [])
  took_frame none step = record {
    images = next_images step;
    was_due = All-push (WasDue start copies) asked d took.was_due (λ _. subst (HasImage (due_at start.dues d.frame) d.tag) (same_first step) (first_image step));
    taken = All-push (IsTaken start next copies) asked d (All-weaker (IsTaken start now copies) (IsTaken start next copies) (next_taken step) asked took.taken)
        (λ _. subst (HasTakenImage (due_at next.dues d.frame) d.tag) (same_first step) step.taken);
    others = λ f all. let x = front (NotAt copies f) asked d all in step.others f (λ e. x.1 none (sym e)) ∙ took.others f x.0;
    outs = (d.frame, None) ∷ (d.frame, Some step.out) ∷ took.outs;
    outs_are = step.outs ∙ ap (λ (os : List (ℕ × Option Out)). (d.frame, None) ∷ (d.frame, Some step.out) ∷ os) took.outs_are;
    only =
        let P = IsOutOf copies (asked ++ d ∷ []) in
        let rest = outs_more copies asked d took.outs took.only in
        let here : Contains (asked ++ d ∷ []) d = Contains-push asked d in
        All-cons P (d.frame, None) ((d.frame, Some step.out) ∷ took.outs) (d, here, none, refl)
        (All-cons P (d.frame, Some step.out) took.outs (d, here, none, refl) rest);
  }

-- the bytes that are due of a page that was asked for were so at first
pub same_bytes : (copied : Option (List ℕ)) (start now next : View) (copies : List CopiedPage) (asked : List DuePage) (d : DuePage) → copy_of copies d.page ≡ copied → TriesPage copied true now next d → Took start now copies asked
    → bytes_due copies now d ≡ bytes_due copies start d
same_bytes (Some bytes) start now next copies asked d is step took = ap (λ o. copied_or o (image_of now d)) is ∙ sym (ap (λ o. copied_or o (image_of start d)) is)
same_bytes None start now next copies asked d is step took =
    ap (λ o. copied_or o (image_of now d)) is ∙ same_first start now next copies asked d took step ∙ sym (ap (λ o. copied_or o (image_of start d)) is)
