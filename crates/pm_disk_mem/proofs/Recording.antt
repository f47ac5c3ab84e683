-- A step or a round that is kept in the record: what a host tells after it.
use Rattle.std.proofs.Common.{◌≡◌, inl, inr, ℕ, List, [], ◌∷◌, ◌++◌, length, Option, Vec, Result, Ok, Err, OnOk, OnErr, refl, sym, ◌∙◌, ap, subst, arith}
use Rattle.std.specs.Prelude.{IsErr, replicate}
use Rattle.std.specs.declared.alloc.Global.{Global}
use Rattle.std.proofs.lemmas.Bool.{false≢true}
use Rattle.std.proofs.lemmas.List.{take_all, append-nil, length-replicate}
use Rattle.pm_types.specs.Ids.{part_of_id}
use Rattle.pm_types.specs.declared.page_id.PageId.{PageId}
use Rattle.pm_disk.specs.Files.{missing}
use Rattle.pm_disk.specs.Worlds.{World, with_said, pages_in, page_at}
use Rattle.pm_disk.specs.Moments.{History, Elapses, Does, WritesPage, Says}
use Rattle.pm_disk.specs.declared.mark.MarkFile.TheVariants as mark
use Rattle.pm_disk_mem.specs.Changes.{bytes_in}
use Rattle.pm_disk_mem.specs.Disks.{Store, config_from, world_from}
use Rattle.pm_disk_mem.specs.Held.{Begins}
use Rattle.pm_disk_mem.specs.Parts.{store_of}
use Rattle.pm_disk_mem.specs.Events.{after_event, after_events, history_during}
use Rattle.pm_disk_mem.specs.Steps.{stepped, start_world, HoldsWorld}
use Rattle.pm_disk_mem.specs.declared.console.Console.{Console}
use Rattle.pm_disk_mem.specs.declared.event.Event.{Event}
use Rattle.pm_disk_mem.specs.declared.event.Event.TheVariants.{Single, Round}
use Rattle.pm_disk_mem.specs.declared.files.Files.{Files}
use Rattle.pm_disk_mem.specs.declared.parts.DiskParts.{DiskParts}
use Rattle.pm_disk_mem.specs.declared.step.ChangedFile.TheVariants.{Segment, Pages, Marks}
use Rattle.pm_disk_mem.specs.declared.step.Step.{Step}
use Rattle.pm_disk_mem.specs.declared.step.Step.TheVariants.{Change, Force, Print, Take}
use Rattle.pm_disk_mem.proofs.Rounds.{after-push, elapses_single}

-- no step changes the configuration
config-step : (step : Step) (world : World) → (stepped step world).config ≡ world.config
config-step (Change (Segment seg) change) world = refl
config-step (Change (Pages part) change) world = refl
config-step (Change (Marks mark.Start) change) world = refl
config-step (Change (Marks mark.End) change) world = refl
config-step (Force (Segment seg)) world = refl
config-step (Force (Pages part)) world = refl
config-step (Force (Marks mark.Start)) world = refl
config-step (Force (Marks mark.End)) world = refl
config-step (Print bytes) world = refl
config-step (Take count) world = refl

config-event : (event : Event) (world : World) → (after_event event world).config ≡ world.config
config-event (Single step) world = config-step step world
config-event (Round log pages) world = refl

pub config-after : (events : List Event) (world : World) → (after_events events world).config ≡ world.config
config-after [] world = refl
config-after (event ∷ events) world = config-after events (after_event event world) ∙ config-event event world

-- before the first step the world is that of the disk
pub begun : (began : Files) (config script : List ℕ) (events : List Event) (parts : DiskParts) (stored : Option (Vec ℕ Global)) (disk : Store) (input handed_in : List ℕ)
    → Begins began parts → store_of parts (bytes_in stored) ≡ disk → script ≡ input → config ≡ config_from handed_in (bytes_in stored) → events ≡ [] → after_events events (start_world began config script) ≡ world_from disk input handed_in
begun began config script events parts stored disk input handed_in begins disk_is script_is config_is none =
    ap (λ (l : List Event). after_events l (start_world began config script)) none ∙ first ∙ ap (λ (s : Store). world_from s input handed_in) disk_is
  where
    first : start_world began config script ≡ world_from (store_of parts (bytes_in stored)) input handed_in
    first = λ i. record {
      log = λ seg. (begins.log seg i).file;
      pages = λ part. (begins.pages part i).file;
      starts = (begins.starts i).file;
      ends = (begins.ends i).file;
      config = config_is i;
      said = [];
      input = script_is i;
    }

-- no time passes where nothing is done
no_time : (h : History) → Elapses h h
no_time h = record { later = omega arith; nothing_else = λ t w le was. inl was; keeps = λ t w le was. was }

-- an error says nothing of what holds at `Ok`
pub on_error : {T E : Type 0} (result : Result T E) (P : Type 0) → IsErr result → OnOk result P
on_error (Ok value) P is = absurd (false≢true is)
on_error (Err error) P is = tt

-- a call that leaves the record as it was
pub nothing_done : {T E : Type 0} (h : History) (result : Result T E) (next : World) → OnOk result (h.world ≡ next) → Does {T = T} {E = E} h h result next
nothing_done h result next ok = record { time = no_time h; ok = ok; either = inl refl }

-- a page that a failed call hasn't written
pub page_unwritten : {T E : Type 0} (h : History) (result : Result T E) (page : PageId) (bytes : List ℕ) → IsErr result → WritesPage {T = T} {E = E} h h result page bytes
page_unwritten h result page bytes error =
    let far = missing (page_at page (length bytes)) (pages_in h.world (part_of_id page)) in
    record { gap = replicate far 0; reaches = length-replicate {A = ℕ} far 0; does = nothing_done h result _ (on_error result _ error) }

-- bytes that were said, or were not
pub says_done : {T E : Type 0} (old new : History) (result : Result T E) (bytes : List ℕ) → Does old new result (with_said bytes old.world) → Says old new result bytes
says_done old new result bytes does = record {
  time = does.time;
  ok = does.ok;
  part = elim does.either [
    | inl same ↦ (0, omega arith, same ∙ ap (λ (l : List ℕ). record old.world { said = l }) (sym (append-nil old.world.said)))
    | inr is ↦ (length bytes, omega arith, is ∙ ap (λ (l : List ℕ). with_said l old.world) (sym (take_all (length bytes) bytes (omega arith))))
  ];
}

pub on_error_too : {T E : Type 0} (result : Result T E) (P : Type 0) → P → OnErr result P
on_error_too (Ok value) P p = tt
on_error_too (Err error) P p = p

-- a call that failed and changed nothing didn't do anything else either
pub not_done : {T U E : Type 0} (old new : History) (result : Result T E) (failed : Result U E) (next other : World) → Does old new result next → new.world ≡ old.world → IsErr failed → Does old new failed other
not_done old new result failed next other does same error = record { time = does.time; ok = on_error failed _ error; either = inl same }

-- one step more
done : {T E : Type 0} (start : World) (events : List Event) (step : Step) (value : T)
    → Does {T = T} {E = E} (history_during start events) (history_during start (events ++ Single step ∷ [])) (Ok value) (stepped step (after_events events start))
done start events step value = record { time = elapses_single start events step; ok = after-push events (Single step) start; either = inr (after-push events (Single step) start) }

-- What is held before a step and after it, or after out of memory. The script is the same, and so the first world.
module _ (files new_files : Files) (console new_console : Console) (began : Files) (config : List ℕ) (script : new_console.script ≡ console.script) (events new_events : List Event) where
  abbrev pub before : World
  before = start_world began config console.script.items

  abbrev pub renewed : World
  renewed = start_world began config new_console.script.items

  first : renewed ≡ before
  first = ap (λ (s : Vec ℕ Global). start_world began config s.items) script

  pub stands_still : HoldsWorld files console (after_events events before) → ((w : World) → HoldsWorld files console w → HoldsWorld new_files new_console w) → new_events ≡ events → HoldsWorld new_files new_console (after_events new_events renewed)
  stands_still stands keeps is =
      subst (λ (l : List Event). HoldsWorld new_files new_console (after_events l renewed)) (sym is)
      (subst (λ (w : World). HoldsWorld new_files new_console (after_events events w)) (sym first) (keeps (after_events events before) stands))

  pub does_nothing : {T E : Type 0} (result : Result T E) (next : World) → IsErr result → new_events ≡ events → Does {T = T} {E = E} (history_during before events) (history_during renewed new_events) result next
  does_nothing {T} {E} result next failed is =
      subst (λ (l : List Event). Does {T = T} {E = E} (history_during before events) (history_during renewed l) result next) (sym is)
      (subst (λ (w : World). Does {T = T} {E = E} (history_during before events) (history_during w events) result next) (sym first) (nothing_done (history_during before events) result next (on_error result _ failed)))

  pub stands_after : (step : Step) → HoldsWorld files console (after_events events before) → ((w : World) → HoldsWorld files console w → HoldsWorld new_files new_console (stepped step w)) → new_events ≡ events ++ Single step ∷ []
      → HoldsWorld new_files new_console (after_events new_events renewed)
  stands_after step stands goes is =
      subst (λ (l : List Event). HoldsWorld new_files new_console (after_events l renewed)) (sym is)
      (subst (λ (w : World). HoldsWorld new_files new_console (after_events (events ++ Single step ∷ []) w)) (sym first)
      (subst (λ (w : World). HoldsWorld new_files new_console w) (sym (after-push events (Single step) before)) (goes (after_events events before) stands)))

  pub does_step : {T E : Type 0} (step : Step) (value : T) → new_events ≡ events ++ Single step ∷ [] → Does {T = T} {E = E} (history_during before events) (history_during renewed new_events) (Ok value) (stepped step (after_events events before))
  does_step {T} {E} step value is =
      subst (λ (l : List Event). Does {T = T} {E = E} (history_during before events) (history_during renewed l) (Ok value) (stepped step (after_events events before))) (sym is)
      (subst (λ (w : World). Does {T = T} {E = E} (history_during before events) (history_during w (events ++ Single step ∷ [])) (Ok value) (stepped step (after_events events before))) (sym first) (done before events step value))

  pub world_same : new_events ≡ events → after_events new_events renewed ≡ after_events events before
  world_same is = ap (λ (l : List Event). after_events l renewed) is ∙ ap (λ (w : World). after_events events w) first
