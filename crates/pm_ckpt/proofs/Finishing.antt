-- The end of a checkpoint: its guards, and what it leaves of the pages.
use Rattle.std.proofs.Common.{◌≡◌, inr, ℕ, zero, suc, ◌+◌, ◌<◌, List, [], ◌∷◌, ◌++◌, map, length, get_or, Bool, true, false, Option, Some, None, refl, sym, ◌∙◌, ap, subst}
use Rattle.std.specs.Prelude.{◌==◌, not, if◌then◌else◌, All, IsSome, is_some}
use Rattle.std.proofs.lemmas.Bool.{eq-eqb}
use Rattle.pm_types.specs.declared.limits.TheConstants.{PARTITIONS_MAX}
use Rattle.pm_types.specs.declared.page_id.PageId.{PageId}
use Rattle.pm_types.specs.declared.shape.Mark.{Mark}
use Rattle.pm_types.specs.declared.shape.Shape.{Shape}
use Rattle.pm_types.specs.Ids.{part_of_id, index_of_id}
use Rattle.pm_disk.specs.Files.{File}
use Rattle.pm_disk.specs.declared.mark.MarkFile.TheVariants as mark_file
use Rattle.pm_disk.specs.Worlds.{World}
use Rattle.pm_marks.specs.MarkWrites.{first_written}
use Rattle.pm_core.specs.BasePages.{Partitions, page_in_file}
use Rattle.pm_core.specs.Calls.{AreRebuilt, CanFinish, end_steps, force_steps, finish_steps}
use Rattle.pm_core.specs.Machine.{DiskStep, ForcePages, CanAll, CanEnd, next_state, next_world, states, worlds}
use Rattle.pm_core.specs.PageSets.{AreAmong, AreOnce, has_index, has_page, has_part, left_after, without_page}
use Rattle.pm_core.specs.States.{State}
use Rattle.pm_core.specs.Stands.{Stands}
use Rattle.pm_core.proofs.CrashLaw.{run_stands}
use Rattle.pm_core.proofs.Finishing.{finish_can}
use Rattle.pm_core.proofs.Making.{worlds_join}
use Rattle.pm_ckpt.proofs.Once.{none_without}
use Rattle.pm_ckpt.specs.Checkpoints.{CanEndOnce}
use Rattle.pm_ckpt.specs.Writes.{Writing, written_page, page_of, named_of, IsHeld, write_steps, HaveGaps, AreHome}
use Rattle.pm_ckpt.proofs.Home.{IsDue, all_home, writes_can, index_of_own}
use Rattle.pm_ckpt.proofs.Written.{after_writes, writes_keep, writes_world}

-- ---- the pages that are named

-- a page that is named is there, and has these bytes
named_some : (held : Partitions) (order : List PageId) (part index : ℕ) (page : List ℕ) → named_of held order part index ≡ Some page → (has_index part index order ≡ true) × (held part index ≡ Some page)
named_some held order part index page is = by (has_index part index order) refl is
  where
    by : (b : Bool) → has_index part index order ≡ b → (if b then held part index else None) ≡ Some page → (has_index part index order ≡ true) × (held part index ≡ Some page)
    by true has is = (has, is)
    by false has is = absurd cc

named_held : (held : Partitions) (order : List PageId) (part index : ℕ) → has_index part index order ≡ true → named_of held order part index ≡ held part index
named_held held order part index has = ap (λ (b : Bool). if b then held part index else None) has

option_some : (o : Option (List ℕ)) → IsSome o → (page : List ℕ) × (o ≡ Some page)
option_some None is = absurd cc
option_some (Some page) is = (page, refl)

-- the pages that are rebuilt are named
pub are_rebuilt : (held : Partitions) (order : List PageId) (rebuilt : Partitions) → ((part index : ℕ) → rebuilt part index ≡ named_of held order part index) → AreRebuilt order rebuilt
are_rebuilt held order rebuilt are part index some =
    let page = option_some (rebuilt part index) some in
    (named_some held order part index page.0 (sym (are part index) ∙ page.1)).0

-- ---- the pages' guards

module _ (wanted : Shape) (told : List ℕ → ℕ) (s : State) (mark : Mark) (held : Partitions) (order : List PageId) (w : World) (can : CanEndOnce wanted told s mark held order w)
    (held_all : All (IsHeld mark.shape.page_size held) order) where
  -- a page of the checkpoint is rebuilt with its bytes
  rebuilt_own : (k : ℕ) (d : PageId) → k < length order
      → s.now.rebuilt (part_of_id (get_or order k d)) (index_of_id (get_or order k d)) ≡ Some (page_of held (get_or order k d))
  rebuilt_own k d lt =
      let page = get_or order k d in
      can.rebuilds (part_of_id page) (index_of_id page) ∙ named_held held order (part_of_id page) (index_of_id page) (index_of_own order k d lt) ∙ (held_all k d lt).there

  held_here : All (IsHeld s.shape.page_size held) order
  held_here = subst (λ (shape : Shape). All (IsHeld shape.page_size held) order) can.shaped held_all

  due : All (IsDue s) order
  due k d lt = ap (λ (o : Option (List ℕ)). is_some o) (rebuilt_own k d lt)

  module _ (xs : List Writing) (pages_are : map written_page xs ≡ order) (gaps : HaveGaps held xs w) where
    pub may_write : CanAll told (write_steps held xs) s w
    may_write =
        writes_can told s mark held xs w can.runs can.alone (subst (λ ps. All (IsHeld s.shape.page_size held) ps) (sym pages_are) held_here)
        (subst (λ ps. All (IsDue s) ps) (sym pages_are) due) gaps

    after_stands : Stands wanted told s (after_writes held xs w)
    after_stands =
        subst (λ (v : World). Stands wanted told s v) (writes_world held xs s w)
        (subst (λ (r : State). Stands wanted told r (worlds (write_steps held xs) s w)) (writes_keep held xs s w) (run_stands wanted told (write_steps held xs) s w can.stands may_write))

    pub can_finish : CanFinish mark order s (after_writes held xs w)
    can_finish = record {
      runs = can.runs;
      alone = can.alone;
      fits = can.fits;
      pages_are = λ part index some.
          let page = option_some (s.now.rebuilt part index) some in
          (named_some held order part index page.0 (sym (can.rebuilds part index) ∙ page.1)).0;
      written = λ part index page is.
          let named = named_some held order part index page (sym (can.rebuilds part index) ∙ is) in
          all_home s.shape.page_size held xs w (subst (λ ps. All (IsHeld s.shape.page_size held) ps) (sym pages_are) held_here) gaps part index page named.1
          (inr (subst (λ ps. has_index part index ps ≡ true) (sym pages_are) named.0));
    }

    pub finish_all : CanAll told (finish_steps mark order) s (after_writes held xs w)
    finish_all = finish_can wanted told mark order s (after_writes held xs w) after_stands can_finish

-- ---- what it leaves

pub can_rest : (told : List ℕ → ℕ) (xs ys : List DiskStep) (s : State) (w : World) → CanAll told (xs ++ ys) s w → CanAll told ys (states xs s w) (worlds xs s w)
can_rest told [] ys s w can = can
can_rest told (x ∷ xs) ys s w can = can_rest told xs ys (next_state x s w) (next_world x s w) can.1

-- forces keep the state and the segments
pub forces_keep : (from n : ℕ) (pages : List PageId) (s : State) (w : World) → (states (force_steps from n pages) s w ≡ s) × ((worlds (force_steps from n pages) s w).log ≡ w.log)
unfolding force_steps
forces_keep from zero pages s w = (refl, refl)
forces_keep from (suc n) pages s w =
    elim (has_part from pages) as (λ b. (states ((if b then ForcePages from ∷ [] else []) ++ force_steps (from + 1) n pages) s w ≡ s)
    × ((worlds ((if b then ForcePages from ∷ [] else []) ++ force_steps (from + 1) n pages) s w).log ≡ w.log)) [
      | true ↦ forces_keep (from + 1) n pages s (next_world (ForcePages from) s w)
      | false ↦ forces_keep (from + 1) n pages s w
    ]

pub finish_log : (mark : Mark) (pages : List PageId) (s : State) (w : World) → (worlds (finish_steps mark pages) s w).log ≡ w.log
finish_log mark pages s w =
    ap (λ (v : World). v.log) (worlds_join (force_steps 0 PARTITIONS_MAX pages) (end_steps mark) s w) ∙ (forces_keep 0 PARTITIONS_MAX pages s w).1

pub writes_log : (held : Partitions) (xs : List Writing) (w : World) → (after_writes held xs w).log ≡ w.log
writes_log held [] w = refl
writes_log held (x ∷ xs) w = writes_log held xs _

-- the pages are in their files for good
module _ (wanted : Shape) (told : List ℕ → ℕ) (s : State) (mark : Mark) (held : Partitions) (order : List PageId) (w : World) (can : CanEndOnce wanted told s mark held order w)
    (held_all : All (IsHeld mark.shape.page_size held) order) (xs : List Writing) (pages_are : map written_page xs ≡ order) (gaps : HaveGaps held xs w) where
  pub home : (new : World) → new ≡ worlds (finish_steps mark order) s (after_writes held xs w) → AreHome mark.shape.page_size held order new
  home new is =
      let v = after_writes held xs w in
      let forces = force_steps 0 PARTITIONS_MAX order in
      let ready : World = first_written mark_file.End (worlds forces s v) in
      let end_there : CanEnd mark (states forces s v) ready =
      (can_rest told forces (end_steps mark) s v (finish_all wanted told s mark held order w can held_all xs pages_are gaps)).1.0.0 in
      let end : CanEnd mark s ready = subst (λ (r : State). CanEnd mark r ready) (forces_keep 0 PARTITIONS_MAX order s v).0 end_there in
      let pages : new.pages ≡ (worlds forces s v).pages = ap (λ (u : World). u.pages) (is ∙ worlds_join forces (end_steps mark) s v) in
      record {
        quiet = λ k d lt.
            let page = get_or order k d in
            ap (λ (files : ℕ → File). (files (part_of_id page)).since) pages
            ∙ end.quiet (part_of_id page) (index_of_id page) (ap (λ (o : Option (List ℕ)). is_some o) (rebuilt_own wanted told s mark held order w can held_all k d lt));
        stand = λ k d lt.
            let page = get_or order k d in
            ap (λ (shape : Shape). page_in_file shape.page_size (new.pages (part_of_id page)).forced (index_of_id page)) can.shaped
            ∙ ap (λ (files : ℕ → File). page_in_file s.shape.page_size (files (part_of_id page)).forced (index_of_id page)) pages
            ∙ end.written (part_of_id page) (index_of_id page) (page_of held page) (rebuilt_own wanted told s mark held order w can held_all k d lt)
            ∙ sym (held_all k d lt).there;
      }

-- ---- all pages are written

among_more : (xs all : List PageId) (x : PageId) → AreAmong xs all → AreAmong xs (x ∷ all)
among_more [] all x among = tt
among_more (y ∷ ys) all x among = (by (x.0 == y.0) among.0, among_more ys all x among.1)
  where
    by : (b : Bool) → has_page y all ≡ true → (if b then true else has_page y all) ≡ true
    by true has = refl
    by false has = has

pub among_own : (xs : List PageId) → AreAmong xs xs
among_own [] = tt
among_own (x ∷ xs) = (ap (λ (b : Bool). if b then true else has_page x xs) (eq-eqb x.0 x.0 refl), among_more xs xs x (among_own xs))

-- the first page is taken out
without_first : (x : PageId) (xs : List PageId) → has_page x xs ≡ false → without_page x (x ∷ xs) ≡ xs
without_first x xs new =
    ap (λ (b : Bool). let l : List PageId = if not b then x ∷ without_page x xs else without_page x xs in l) (eq-eqb x.0 x.0 refl) ∙ none_without x xs new

pub none_left : (xs : List PageId) → AreOnce xs → left_after xs xs ≡ []
none_left [] once = refl
none_left (x ∷ xs) once = ap (left_after xs) (without_first x xs once.0) ∙ none_left xs once.1
