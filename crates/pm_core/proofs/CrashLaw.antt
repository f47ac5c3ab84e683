-- The crash law over all lists of steps.
use Rattle.std.proofs.Common.{◌≡◌, ℕ, zero, suc, ◌≤◌, List, [], ◌∷◌, ◌++◌, length, take, Some, refl, sym, ◌∙◌, ap, subst, arith, append_assoc, append-nil, length-append}
use Rattle.std.proofs.lemmas.List.{take-append-le}
use Rattle.pm_types.specs.declared.shape.Shape.{Shape}
use Rattle.pm_frame.specs.Frames.{Frame}
use Rattle.pm_disk.specs.Images.{Image, LeavesAll}
use Rattle.pm_disk.specs.Worlds.{World}
use Rattle.pm_model.specs.Eval.{Pairs}
use Rattle.pm_records.specs.LogSteps.{Step, CutTail, Append, Force, NextSegment, DropSegment, ForceSegment}
use Rattle.pm_core.specs.Replays.{all_replayed}
use Rattle.pm_core.specs.Sound.{SoundImage, IsTrueImage}
use Rattle.pm_core.specs.States.{State}
use Rattle.pm_core.specs.Stands.{Stands}
use Rattle.pm_core.specs.Machine.{DiskStep, OnLog, WriteFirst, WriteStart, ForceStart, WritePage, ForcePages, WriteEnd, ForceEnd, Say, log_state, next_state, next_world, Can, CanAll, states, worlds}
use Rattle.pm_core.specs.Starts.{appended}
use Rattle.pm_core.specs.Prefixes.{KeepsPrefix}
use Rattle.pm_core.specs.Calls.{MakesPrefix}
use Rattle.pm_core.proofs.Images.{image_law}
use Rattle.pm_core.proofs.LogSteps.{log_step}
use Rattle.pm_core.proofs.MarkSteps.{force_start_step, force_end_step, write_first_step, write_start_step}
use Rattle.pm_core.proofs.PageSteps.{write_page_step, force_pages_step, write_end_step}

say_step : (wanted : Shape) (told : List ℕ → ℕ) (s : State) (w : World) (bytes : List ℕ) → Stands wanted told s w → Can told (Say bytes) s w → Stands wanted told (next_state (Say bytes) s w) (next_world (Say bytes) s w)
say_step wanted told s w bytes stands can = record {
  log = stands.log;
  ends = stands.ends;
  marks = stands.marks;
  reads = stands.reads;
  quiet = stands.quiet;
  good = stands.good;
  well = stands.well;
  newest = stands.newest;
  newest_is = stands.newest_is;
  said = can;
  since_first = stands.since_first;
}

-- Each step keeps the disk as the state says.
pub step_stands : (wanted : Shape) (told : List ℕ → ℕ) (t : DiskStep) (s : State) (w : World) → Stands wanted told s w → Can told t s w → Stands wanted told (next_state t s w) (next_world t s w)
step_stands wanted told (OnLog step) s w stands can = log_step wanted told s w stands step can
step_stands wanted told (WriteFirst file) s w stands can = write_first_step wanted told s w stands can file
step_stands wanted told (WriteStart mark rebuilt) s w stands can = write_start_step wanted told s w mark rebuilt stands can.0 can.1
step_stands wanted told ForceStart s w stands can = force_start_step wanted told s w stands can
step_stands wanted told (WritePage page gap bytes) s w stands can = write_page_step wanted told s w page gap bytes stands can
step_stands wanted told (ForcePages part) s w stands can = force_pages_step wanted told s w part stands
step_stands wanted told (WriteEnd mark) s w stands can = write_end_step wanted told s w mark stands can.0 can.1
step_stands wanted told ForceEnd s w stands can = force_end_step wanted told s w stands can
step_stands wanted told (Say bytes) s w stands can = say_step wanted told s w bytes stands can

pub run_stands : (wanted : Shape) (told : List ℕ → ℕ) (ts : List DiskStep) (s : State) (w : World) → Stands wanted told s w → CanAll told ts s w → Stands wanted told (states ts s w) (worlds ts s w)
run_stands wanted told [] s w stands can = stands
run_stands wanted told (t ∷ ts) s w stands can = run_stands wanted told ts (next_state t s w) (next_world t s w) (step_stands wanted told t s w stands can.0) can.1

pub can_front : (told : List ℕ → ℕ) (k : ℕ) (ts : List DiskStep) (s : State) (w : World) → CanAll told ts s w → CanAll told (take k ts) s w
can_front told zero ts s w can = tt
can_front told (suc k) [] s w can = tt
can_front told (suc k) (t ∷ ts) s w can = (can.0, can_front told k ts (next_state t s w) (next_world t s w) can.1)

-- a step appends, and takes nothing away
log_appends : (t : Step) (s : State) → (rest : List Frame) × (appended s ++ rest ≡ appended (log_state t s))
log_appends CutTail s = ([], append-nil (appended s))
log_appends (Append f) s = (f ∷ [], append_assoc s.order s.pending (f ∷ []))
log_appends Force s = ([], refl)
log_appends NextSegment s = ([], append-nil (appended s))
log_appends (DropSegment seg) s = ([], append-nil (appended s))
log_appends (ForceSegment seg) s = ([], append-nil (appended s))

pub step_appends : (t : DiskStep) (s : State) (w : World) → (rest : List Frame) × (appended s ++ rest ≡ appended (next_state t s w))
step_appends (OnLog step) s w = log_appends step s
step_appends (WriteFirst file) s w = ([], append-nil (appended s))
step_appends (WriteStart mark rebuilt) s w = ([], append-nil (appended s))
step_appends ForceStart s w = ([], append-nil (appended s))
step_appends (WritePage page gap bytes) s w = ([], append-nil (appended s))
step_appends (ForcePages part) s w = ([], append-nil (appended s))
step_appends (WriteEnd mark) s w = ([], append-nil (appended s))
step_appends ForceEnd s w = ([], append-nil (appended s))
step_appends (Say bytes) s w = ([], append-nil (appended s))

pub run_appends : (k : ℕ) (ts : List DiskStep) (s : State) (w : World) → (rest : List Frame) × (appended (states (take k ts) s w) ++ rest ≡ appended (states ts s w))
run_appends zero [] s w = ([], append-nil (appended s))
run_appends (suc k) [] s w = ([], append-nil (appended s))
run_appends zero (t ∷ ts) s w =
    let one = step_appends t s w in
    let more = run_appends zero ts (next_state t s w) (next_world t s w) in
    (one.0 ++ more.0, sym (append_assoc (appended s) one.0 more.0) ∙ ap (λ l. l ++ more.0) one.1 ∙ more.1)
run_appends (suc k) (t ∷ ts) s w = run_appends k ts (next_state t s w) (next_world t s w)

-- the shape and the first map stay
pub record SameStart (s t : State) : Type 0 where
  pub shape : t.shape ≡ s.shape
  pub first : t.first ≡ s.first

log_start : (t : Step) (s : State) → SameStart s (log_state t s)
log_start CutTail s = record { shape = refl; first = refl }
log_start (Append f) s = record { shape = refl; first = refl }
log_start Force s = record { shape = refl; first = refl }
log_start NextSegment s = record { shape = refl; first = refl }
log_start (DropSegment seg) s = record { shape = refl; first = refl }
log_start (ForceSegment seg) s = record { shape = refl; first = refl }

step_start : (t : DiskStep) (s : State) (w : World) → SameStart s (next_state t s w)
step_start (OnLog step) s w = log_start step s
step_start (WriteFirst file) s w = record { shape = refl; first = refl }
step_start (WriteStart mark rebuilt) s w = record { shape = refl; first = refl }
step_start ForceStart s w = record { shape = refl; first = refl }
step_start (WritePage page gap bytes) s w = record { shape = refl; first = refl }
step_start (ForcePages part) s w = record { shape = refl; first = refl }
step_start (WriteEnd mark) s w = record { shape = refl; first = refl }
step_start ForceEnd s w = record { shape = refl; first = refl }
step_start (Say bytes) s w = record { shape = refl; first = refl }

pub run_start : (ts : List DiskStep) (s : State) (w : World) → SameStart s (states ts s w)
run_start [] s w = record { shape = refl; first = refl }
run_start (t ∷ ts) s w =
    let one = step_start t s w in
    let more = run_start ts (next_state t s w) (next_world t s w) in
    record { shape = more.shape ∙ one.shape; first = more.first ∙ one.first }

-- a longer order
pub keeps_more : (wanted : Shape) (s t : State) (order more whole : List Frame) (lasting : ℕ) (image : Image) → SameStart s t → order ++ more ≡ whole → KeepsPrefix wanted t.shape t.first order lasting image
    → KeepsPrefix wanted s.shape s.first whole lasting image
keeps_more wanted s t order more whole lasting image same is keeps = record {
  map = keeps.map;
  sound = subst (λ (shape : Shape). SoundImage wanted image shape keeps.map) same.shape keeps.sound;
  count = keeps.count;
  has = keeps.has;
  fits = omega (arith, keeps.fits, length-append order more, ap (λ (l : List Frame). length l) is);
  is = ap (λ (shape : Shape). all_replayed shape (take keeps.count whole) (Some s.first)) (sym same.shape)
      ∙ ap (λ (a : Pairs). all_replayed t.shape (take keeps.count whole) (Some a)) (sym same.first)
      ∙ ap (λ (l : List Frame). all_replayed t.shape (take keeps.count l) (Some t.first)) (sym is)
      ∙ ap (λ (l : List Frame). all_replayed t.shape l (Some t.first)) (take-append-le keeps.count order more keeps.fits) ∙ keeps.is;
}

-- After any first steps of a list that meets its guards, every true image is sound, and holds the map of the start after a prefix
-- of all that the list appends, which has all that is lasting then.
pub law_of_state : (wanted : Shape) (told : List ℕ → ℕ) (s : State) (w : World) (ts : List DiskStep) → Stands wanted told s w → CanAll told ts s w → (k : ℕ) (image : Image)
    → LeavesAll (worlds (take k ts) s w) image → IsTrueImage (worlds (take k ts) s w) image
    → KeepsPrefix wanted s.shape s.first (appended (states ts s w)) (length (states (take k ts) s w).order) image
law_of_state wanted told s w ts stands can k image leaves honest =
    let mid = states (take k ts) s w in
    let law = image_law wanted told mid (worlds (take k ts) s w) image (run_stands wanted told (take k ts) s w stands (can_front told k ts s w can)) leaves honest in
    let more = run_appends k ts s w in
    keeps_more wanted s mid (appended mid) more.0 (appended (states ts s w)) (length mid.order) image (run_start (take k ts) s w) more.1 law

-- the replies that were begun speak of lasting records
pub said_of_state : (wanted : Shape) (told : List ℕ → ℕ) (s : State) (w : World) (ts : List DiskStep) → Stands wanted told s w → CanAll told ts s w → (k : ℕ)
    → told (worlds (take k ts) s w).said ≤ length (states (take k ts) s w).order
said_of_state wanted told s w ts stands can k = (run_stands wanted told (take k ts) s w stands (can_front told k ts s w can)).said

-- the lasting order only grows
log_grows : (t : Step) (s : State) → length s.order ≤ length (log_state t s).order
log_grows CutTail s = omega arith
log_grows (Append f) s = omega arith
log_grows Force s = omega (arith, length-append s.order s.pending)
log_grows NextSegment s = omega arith
log_grows (DropSegment seg) s = omega arith
log_grows (ForceSegment seg) s = omega arith

step_grows : (t : DiskStep) (s : State) (w : World) → length s.order ≤ length (next_state t s w).order
step_grows (OnLog step) s w = log_grows step s
step_grows (WriteFirst file) s w = omega arith
step_grows (WriteStart mark rebuilt) s w = omega arith
step_grows ForceStart s w = omega arith
step_grows (WritePage page gap bytes) s w = omega arith
step_grows (ForcePages part) s w = omega arith
step_grows (WriteEnd mark) s w = omega arith
step_grows ForceEnd s w = omega arith
step_grows (Say bytes) s w = omega arith

pub run_grows : (ts : List DiskStep) (s : State) (w : World) → length s.order ≤ length (states ts s w).order
run_grows [] s w = omega arith
run_grows (t ∷ ts) s w = omega (arith, step_grows t s w, run_grows ts (next_state t s w) (next_world t s w))

-- The same of a call that makes these steps, or a prefix of them.
pub law_of_call : (wanted : Shape) (told : List ℕ → ℕ) (s : State) (w : World) (ts : List DiskStep) → Stands wanted told s w → CanAll told ts s w → (now : World) → MakesPrefix ts s w now → (image : Image)
    → LeavesAll now image → IsTrueImage now image → KeepsPrefix wanted s.shape s.first (appended (states ts s w)) (length s.order) image
law_of_call wanted told s w ts stands can now some image leaves honest =
    let k = some.0 in
    let law = law_of_state wanted told s w ts stands can k image (subst (λ (v : World). LeavesAll v image) some.2 leaves) (subst (λ (v : World). IsTrueImage v image) some.2 honest) in
    record {
      map = law.map;
      sound = law.sound;
      count = law.count;
      has = omega (arith, law.has, run_grows (take k ts) s w);
      fits = law.fits;
      is = law.is;
    }
