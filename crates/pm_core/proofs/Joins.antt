-- Steps of the log and steps of the pages side by side: each pair of their moments is a moment of one list of steps.
use Rattle.std.proofs.Common.{◌≡◌, ℕ, zero, suc, List, [], ◌∷◌, ◌++◌, length, take, refl, sym, ◌∙◌, ap, subst, append-nil}
use Rattle.std.specs.Prelude.{IsSome}
use Rattle.pm_types.specs.declared.shape.Shape.{Shape}
use Rattle.pm_types.specs.Ids.{part_of_id, index_of_id}
use Rattle.pm_disk.specs.Files.{File, content, with_change, all_forced, missing, gapped}
use Rattle.pm_disk.specs.Images.{Image, LeavesAll}
use Rattle.pm_disk.specs.Worlds.{World, with_file, page_at}
use Rattle.pm_records.specs.LogSteps.{Step, CutTail, Append, Force, NextSegment, DropSegment, ForceSegment, step_world}
use Rattle.pm_marks.specs.InForce.{Started}
use Rattle.pm_core.specs.Sound.{IsTrueImage}
use Rattle.pm_core.specs.States.{State, View}
use Rattle.pm_core.specs.Stands.{Stands}
use Rattle.pm_core.specs.Machine.{DiskStep, OnLog, log_state, next_state, next_world, Can, CanAll, states, worlds}
use Rattle.pm_core.specs.Prefixes.{KeepsPrefix}
use Rattle.pm_core.specs.Rounds.{PageStep, Writes, Forces, page_step, on_log, on_pages, joined}
use Rattle.pm_core.specs.Starts.{CanBegin, start_state, appended}
use Rattle.pm_model.specs.Eval.{Pairs}
use Rattle.pm_core.proofs.Starting.{stands_first}
use Rattle.pm_core.proofs.CrashLaw.{run_stands, can_front, run_appends, SameStart, run_start, keeps_more}
use Rattle.pm_core.proofs.Images.{image_law}

-- ---- the steps of the pages look at the pages and the checkpoint alone

pub record SameForPages (s t : State) (u v : World) : Type 0 where
  pub now : t.now ≡ s.now
  pub soon : t.soon ≡ s.soon
  pub shape : t.shape ≡ s.shape
  pub pages : v.pages ≡ u.pages

log_same : (step : Step) (s : State) (w : World) → SameForPages s (log_state step s) w (step_world step s.end w)
log_same CutTail s w = record { now = refl; soon = refl; shape = refl; pages = refl }
log_same (Append f) s w = record { now = refl; soon = refl; shape = refl; pages = refl }
log_same Force s w = record { now = refl; soon = refl; shape = refl; pages = refl }
log_same NextSegment s w = record { now = refl; soon = refl; shape = refl; pages = refl }
log_same (DropSegment seg) s w = record { now = refl; soon = refl; shape = refl; pages = refl }
log_same (ForceSegment seg) s w = record { now = refl; soon = refl; shape = refl; pages = refl }

logs_same : (ls : List Step) (s : State) (w : World) → SameForPages s (states (on_log ls) s w) w (worlds (on_log ls) s w)
logs_same [] s w = record { now = refl; soon = refl; shape = refl; pages = refl }
logs_same (l ∷ ls) s w =
    let one = log_same l s w in
    let more = logs_same ls (log_state l s) (step_world l s.end w) in
    record { now = more.now ∙ one.now; soon = more.soon ∙ one.soon; shape = more.shape ∙ one.shape; pages = more.pages ∙ one.pages }

-- what a step of the pages makes of them
abbrev written_pages : (ℕ → File) → PageStep → ℕ → File
written_pages pages (Writes page gap bytes) =
    with_file pages (part_of_id page) (with_change (pages (part_of_id page)) (gapped (content (pages (part_of_id page))) (page_at page (length bytes)) gap bytes))
written_pages pages (Forces part) = with_file pages part (all_forced (pages part))

page_next : (p : PageStep) (s : State) (w : World) → (next_state (page_step p) s w ≡ s) × (next_world (page_step p) s w ≡ record w { pages = written_pages w.pages p })
page_next (Writes page gap bytes) s w = (refl, refl)
page_next (Forces part) s w = (refl, refl)

page_can : (told : List ℕ → ℕ) (p : PageStep) (s t : State) (u v : World) → SameForPages s t u v → Can told (page_step p) s u → Can told (page_step p) t v
page_can told (Forces part) s t u v same can = tt
page_can told (Writes page gap bytes) s t u v same can = record {
  mark = can.mark;
  runs = subst (λ (view : View). view.checkpoint ≡ Started can.mark) (sym same.now) can.runs;
  alone = same.soon ∙ can.alone;
  sized = can.sized ∙ ap (λ (shape : Shape). shape.page_size) (sym same.shape);
  reaches = subst (λ (pages : ℕ → File). length gap ≡ missing (page_at page (length bytes)) (content (pages (part_of_id page)))) (sym same.pages) can.reaches;
  due = subst (λ (view : View). IsSome (view.rebuilt (part_of_id page) (index_of_id page))) (sym same.now) can.due;
}

-- the steps of the pages may be made in each world that has the same pages, and do the same
pub pages_can : (told : List ℕ → ℕ) (ps : List PageStep) (s t : State) (u v : World) → SameForPages s t u v → CanAll told (on_pages ps) s u → CanAll told (on_pages ps) t v
pages_can told [] s t u v same can = tt
pages_can told (p ∷ ps) s t u v same can =
    let one = page_next p s u in
    let two = page_next p t v in
    let next : SameForPages (next_state (page_step p) s u) (next_state (page_step p) t v) (next_world (page_step p) s u) (next_world (page_step p) t v) = record {
      now = ap (λ (r : State). r.now) two.0 ∙ same.now ∙ sym (ap (λ (r : State). r.now) one.0);
      soon = ap (λ (r : State). r.soon) two.0 ∙ same.soon ∙ sym (ap (λ (r : State). r.soon) one.0);
      shape = ap (λ (r : State). r.shape) two.0 ∙ same.shape ∙ sym (ap (λ (r : State). r.shape) one.0);
      pages = ap (λ (x : World). x.pages) two.1 ∙ ap (λ (pages : ℕ → File). written_pages pages p) same.pages ∙ sym (ap (λ (x : World). x.pages) one.1);
    } in
    (page_can told p s t u v same can.0, pages_can told ps (next_state (page_step p) s u) (next_state (page_step p) t v) (next_world (page_step p) s u) (next_world (page_step p) t v) next can.1)

abbrev all_written : (ℕ → File) → List PageStep → ℕ → File
all_written pages [] = pages
all_written pages (p ∷ ps) = all_written (written_pages pages p) ps

pages_after : (ps : List PageStep) (s : State) (w : World) → (states (on_pages ps) s w ≡ s) × (worlds (on_pages ps) s w ≡ record w { pages = all_written w.pages ps })
pages_after [] s w = (refl, refl)
pages_after (p ∷ ps) s w =
    let one = page_next p s w in
    let more = pages_after ps s (record w { pages = written_pages w.pages p }) in
    let both : (State × World) → State × World = λ x. (states (on_pages ps) x.0 x.1, worlds (on_pages ps) x.0 x.1) in
    let step : both (next_state (page_step p) s w, next_world (page_step p) s w) ≡ both (s, record w { pages = written_pages w.pages p }) = λ i. both (one.0 i, one.1 i) in
    (ap (λ (x : State × World). x.0) step ∙ more.0, ap (λ (x : State × World). x.1) step ∙ more.1)

log_after : (ls : List Step) (s : State) (w : World) → worlds (on_log ls) s w ≡ record w { log = (worlds (on_log ls) s w).log }
log_after [] s w = refl
log_after (l ∷ ls) s w =
    let one = log_only l s w in
    log_after ls (log_state l s) (step_world l s.end w) ∙ ap (λ (v : World). record v { log = (worlds (on_log ls) (log_state l s) (step_world l s.end w)).log }) one
  where
    log_only : (step : Step) (s : State) (w : World) → step_world step s.end w ≡ record w { log = (step_world step s.end w).log }
    log_only CutTail s w = refl
    log_only (Append f) s w = refl
    log_only Force s w = refl
    log_only NextSegment s w = refl
    log_only (DropSegment seg) s w = refl
    log_only (ForceSegment seg) s w = refl

-- ---- two lists one after the other

worlds-append : (xs ys : List DiskStep) (s : State) (w : World) → worlds (xs ++ ys) s w ≡ worlds ys (states xs s w) (worlds xs s w)
worlds-append [] ys s w = refl
worlds-append (x ∷ xs) ys s w = worlds-append xs ys (next_state x s w) (next_world x s w)

states-append : (xs ys : List DiskStep) (s : State) (w : World) → states (xs ++ ys) s w ≡ states ys (states xs s w) (worlds xs s w)
states-append [] ys s w = refl
states-append (x ∷ xs) ys s w = states-append xs ys (next_state x s w) (next_world x s w)

pub can-append : (told : List ℕ → ℕ) (xs ys : List DiskStep) (s : State) (w : World) → CanAll told xs s w → CanAll told ys (states xs s w) (worlds xs s w) → CanAll told (xs ++ ys) s w
can-append told [] ys s w one two = two
can-append told (x ∷ xs) ys s w one two = (one.0, can-append told xs ys (next_state x s w) (next_world x s w) one.1 two)

take_logs : (k : ℕ) (ls : List Step) → take k (on_log ls) ≡ on_log (take k ls)
take_logs zero ls = refl
take_logs (suc k) [] = refl
take_logs (suc k) (l ∷ ls) = ap (λ rest. OnLog l ∷ rest) (take_logs k ls)

take_pages : (k : ℕ) (ps : List PageStep) → take k (on_pages ps) ≡ on_pages (take k ps)
take_pages zero ps = refl
take_pages (suc k) [] = refl
take_pages (suc k) (p ∷ ps) = ap (λ rest. page_step p ∷ rest) (take_pages k ps)

-- the world after both is that of each moment of the one and each of the other
joined_world : (ls : List Step) (ps : List PageStep) (s : State) (w : World) → worlds (on_log ls ++ on_pages ps) s w ≡ joined w (worlds (on_log ls) s w) (worlds (on_pages ps) s w)
joined_world ls ps s w =
    let v = worlds (on_log ls) s w in
    let same = logs_same ls s w in
    worlds-append (on_log ls) (on_pages ps) s w
    ∙ (pages_after ps (states (on_log ls) s w) v).1
    ∙ ap (λ (pages : ℕ → File). let u : World = record v { pages = all_written pages ps } in u) same.pages
    ∙ ap (λ (u : World). let x : World = record u { pages = all_written w.pages ps } in x) (log_after ls s w)
    ∙ ap (λ (u : World). let x : World = record w { log = v.log; pages = u.pages } in x) (sym (pages_after ps s w).1)

-- At each pair of a moment of the log's steps and one of the pages' steps a crash leaves what it leaves at that moment of the log's.
pub round_law : (wanted : Shape) (told : List ℕ → ℕ) (s : State) (w : World) (ls : List Step) (ps : List PageStep) → Stands wanted told s w → CanAll told (on_log ls) s w → CanAll told (on_pages ps) s w → (j k : ℕ) (image : Image)
    → LeavesAll (joined w (worlds (take j (on_log ls)) s w) (worlds (take k (on_pages ps)) s w)) image → IsTrueImage (joined w (worlds (take j (on_log ls)) s w) (worlds (take k (on_pages ps)) s w)) image
    → KeepsPrefix wanted s.shape s.first (appended (states (on_log ls) s w)) (length (states (take j (on_log ls)) s w).order) image
round_law wanted told s w ls ps stands can may j k image leaves honest =
    let one = take j ls in
    let two = take k ps in
    let can_one : CanAll told (on_log one) s w = subst (λ ts. CanAll told ts s w) (take_logs j ls) (can_front told j (on_log ls) s w can) in
    let may_two : CanAll told (on_pages two) s w = subst (λ ts. CanAll told ts s w) (take_pages k ps) (can_front told k (on_pages ps) s w may) in
    let mid = states (on_log one) s w in
    let both : CanAll told (on_log one ++ on_pages two) s w =
    can-append told (on_log one) (on_pages two) s w can_one (pages_can told two s mid w (worlds (on_log one) s w) (logs_same one s w) may_two) in
    let state : states (on_log one ++ on_pages two) s w ≡ mid = states-append (on_log one) (on_pages two) s w ∙ (pages_after two mid (worlds (on_log one) s w)).0 in
    let world : worlds (on_log one ++ on_pages two) s w ≡ joined w (worlds (take j (on_log ls)) s w) (worlds (take k (on_pages ps)) s w) =
    joined_world one two s w ∙ ap (λ ts. joined w (worlds ts s w) (worlds (on_pages two) s w)) (sym (take_logs j ls)) ∙ ap (λ ts. joined w (worlds (take j (on_log ls)) s w) (worlds ts s w)) (sym (take_pages k ps)) in
    let then : Stands wanted told mid (worlds (on_log one ++ on_pages two) s w) =
    subst (λ (r : State). Stands wanted told r (worlds (on_log one ++ on_pages two) s w)) state (run_stands wanted told (on_log one ++ on_pages two) s w stands both) in
    let law = image_law wanted told mid (worlds (on_log one ++ on_pages two) s w) image then (subst (λ (v : World). LeavesAll v image) (sym world) leaves) (subst (λ (v : World). IsTrueImage v image) (sym world) honest) in
    let taken : KeepsPrefix wanted (states (take j (on_log ls)) s w).shape (states (take j (on_log ls)) s w).first (appended (states (take j (on_log ls)) s w)) (length (states (take j (on_log ls)) s w).order) image =
    subst (λ ts. KeepsPrefix wanted (states ts s w).shape (states ts s w).first (appended (states ts s w)) (length (states ts s w).order) image) (sym (take_logs j ls)) law in
    let more = run_appends j (on_log ls) s w in
    keeps_more wanted s (states (take j (on_log ls)) s w) (appended (states (take j (on_log ls)) s w)) more.0 (appended (states (on_log ls) s w)) (length (states (take j (on_log ls)) s w).order) image
    (run_start (take j (on_log ls)) s w) more.1 taken

-- After both lists the disk is as the state after the log's steps says.
pub round_stands : (wanted : Shape) (told : List ℕ → ℕ) (s : State) (w : World) (ls : List Step) (ps : List PageStep) → Stands wanted told s w → CanAll told (on_log ls) s w → CanAll told (on_pages ps) s w
    → Stands wanted told (states (on_log ls) s w) (joined w (worlds (on_log ls) s w) (worlds (on_pages ps) s w))
round_stands wanted told s w ls ps stands can may =
    let mid = states (on_log ls) s w in
    let both : CanAll told (on_log ls ++ on_pages ps) s w =
    can-append told (on_log ls) (on_pages ps) s w can (pages_can told ps s mid w (worlds (on_log ls) s w) (logs_same ls s w) may) in
    let state : states (on_log ls ++ on_pages ps) s w ≡ mid = states-append (on_log ls) (on_pages ps) s w ∙ (pages_after ps mid (worlds (on_log ls) s w)).0 in
    subst (λ (v : World). Stands wanted told mid v) (joined_world ls ps s w)
    (subst (λ (r : State). Stands wanted told r (worlds (on_log ls ++ on_pages ps) s w)) state (run_stands wanted told (on_log ls ++ on_pages ps) s w stands both))

-- The same after a run from a sound disk.
pub round_of_run : (wanted : Shape) (told : List ℕ → ℕ) (world : World) (shape : Shape) (pairs : Pairs) (can : CanBegin wanted told world shape pairs) (steps : List DiskStep)
    → CanAll told steps (start_state wanted world shape pairs can.sound) world → (mid : State) → mid ≡ states steps (start_state wanted world shape pairs can.sound) world
    → (now : World) → now ≡ worlds steps (start_state wanted world shape pairs can.sound) world → (ls : List Step) (ps : List PageStep) → CanAll told (on_log ls) mid now → CanAll told (on_pages ps) mid now
    → (j k : ℕ) (image : Image) → LeavesAll (joined now (worlds (take j (on_log ls)) mid now) (worlds (take k (on_pages ps)) mid now)) image
    → IsTrueImage (joined now (worlds (take j (on_log ls)) mid now) (worlds (take k (on_pages ps)) mid now)) image
    → KeepsPrefix wanted shape pairs (appended (states (on_log ls) mid now)) (length (states (take j (on_log ls)) mid now).order) image
round_of_run wanted told world shape pairs can steps may mid mid_is now now_is ls ps can_ls can_ps j k image leaves honest =
    let first = start_state wanted world shape pairs can.sound in
    let run = run_stands wanted told steps first world (stands_first wanted told world shape pairs can) may in
    let then : Stands wanted told mid now = subst (λ (r : State). Stands wanted told r now) (sym mid_is) (subst (λ (v : World). Stands wanted told (states steps first world) v) (sym now_is) run) in
    let law = round_law wanted told mid now ls ps then can_ls can_ps j k image leaves honest in
    let same = run_start steps first world in
    let from : SameStart first mid = record { shape = ap (λ (r : State). r.shape) mid_is ∙ same.shape; first = ap (λ (r : State). r.first) mid_is ∙ same.first } in
    keeps_more wanted first mid (appended (states (on_log ls) mid now)) [] (appended (states (on_log ls) mid now)) (length (states (take j (on_log ls)) mid now).order) image from
    (append-nil (appended (states (on_log ls) mid now))) law
