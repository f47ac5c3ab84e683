-- What a seat meets one page after another.
use Rattle.std.proofs.Common.{◌≡◌, List, [], ◌∷◌, ◌++◌, None, ap, ◌∙◌}
use Rattle.std.specs.Prelude.{All, Contains}
use Rattle.std.proofs.lemmas.List.Elements.{All-nil, All-append, All-push, All-weaker, Contains-append_left, Contains-push}
use Rattle.pm_types.specs.declared.flag.Flag.TheVariants as flag
use Rattle.pm_locks.specs.declared.view.Met.{Met}
use Rattle.pm_locks.specs.declared.view.View.{View}
use Rattle.pm_locks.specs.Refusals.{HasAdded, AreOfFrame, ShowsNotLent}
use Rattle.pm_locks.proofs.Refusing.{added_none, added_then, piece_first, piece_last, not_lent_in}
use Rattle.pm_flush.specs.declared.due_page.DuePage.{DuePage}
use Rattle.pm_flush.specs.Copies.{CopiedPage, copy_of}
use Rattle.pm_flush.specs.Steps.{TakesFrame, LeavesFrame}

-- an entry is of the frame of one of these pages, which isn't copied
abbrev pub IsMetOf : List CopiedPage → List DuePage → Met → Type 0
IsMetOf copies part m = (d : DuePage) × Contains part d × (copy_of copies d.page ≡ None) × (m.frame ≡ d.frame)

-- the entries show why the page's frame wasn't had
abbrev pub IsShown : List Met → DuePage → Type 0
IsShown added d = ShowsNotLent added d.frame d.tag flag.Due

abbrev pub IsBare : List CopiedPage → DuePage → Type 0
IsBare copies d = copy_of copies d.page ≡ None

-- of a part of the job these pages were left, and the entries show why
pub record Refused (start now : View) (copies : List CopiedPage) (part kept : List DuePage) : Type 0 where
  pub added : List Met
  pub met : HasAdded start now added
  pub frames : All (IsMetOf copies part) added
  pub uncopied : All (IsBare copies) kept
  pub refused : All (IsShown added) kept

pub refused_none : (start : View) (copies : List CopiedPage) → Refused start start copies [] []
refused_none start copies = record {
  added = [];
  met = added_none start;
  frames = All-nil (IsMetOf copies []);
  uncopied = All-nil (IsBare copies);
  refused = All-nil (IsShown []);
}

module _ (start now next : View) (copies : List CopiedPage) (part kept : List DuePage) (d : DuePage) (so_far : Refused start now copies part kept) where
  frames_kept : All (IsMetOf copies (part ++ d ∷ [])) so_far.added
  frames_kept = All-weaker (IsMetOf copies part) (IsMetOf copies (part ++ d ∷ [])) (λ m x. (x.0, Contains-append_left part (d ∷ []) x.0 x.1, x.2, x.3)) so_far.added so_far.frames

  frames_more : (more : List Met) → copy_of copies d.page ≡ None → AreOfFrame d.frame more → All (IsMetOf copies (part ++ d ∷ [])) (so_far.added ++ more)
  frames_more more none of = All-append (IsMetOf copies (part ++ d ∷ [])) so_far.added more frames_kept
      (All-weaker (λ (m : Met). m.frame ≡ d.frame) (IsMetOf copies (part ++ d ∷ [])) (λ m e. (d, Contains-push part d, none, e)) more of)

  refused_kept : (more : List Met) → All (IsShown (so_far.added ++ more)) kept
  refused_kept more = All-weaker (IsShown so_far.added) (IsShown (so_far.added ++ more))
      (λ e x. not_lent_in (so_far.added ++ more) so_far.added (piece_first so_far.added more) e.frame e.tag flag.Due x) kept so_far.refused

  -- a copied page
  pub refused_copied : next ≡ now → Refused start next copies (part ++ d ∷ []) kept
  refused_copied same = record {
    added = so_far.added;
    met = ap (λ (v : View). v.met) same ∙ so_far.met;
    frames = frames_kept;
    uncopied = so_far.uncopied;
    refused = so_far.refused;
  }

  -- a page whose frame was had
  pub refused_had : copy_of copies d.page ≡ None → TakesFrame now next d → Refused start next copies (part ++ d ∷ []) kept
  refused_had none step = record {
    added = so_far.added ++ step.added;
    met = added_then start now next so_far.added step.added so_far.met step.met;
    frames = frames_more step.added none step.frame;
    uncopied = so_far.uncopied;
    refused = refused_kept step.added;
  }

  -- a page that is left
  pub refused_more : copy_of copies d.page ≡ None → LeavesFrame now next d → Refused start next copies (part ++ d ∷ []) (kept ++ d ∷ [])
  refused_more none step =
      let more = step.shown.added in
      record {
        added = so_far.added ++ more;
        met = added_then start now next so_far.added more so_far.met step.shown.met;
        frames = frames_more more none step.shown.frame;
        uncopied = All-push (IsBare copies) kept d so_far.uncopied none;
        refused = All-push (IsShown (so_far.added ++ more)) kept d (refused_kept more)
            (not_lent_in (so_far.added ++ more) more (piece_last so_far.added more) d.frame d.tag flag.Due step.shown.shown);
      }
