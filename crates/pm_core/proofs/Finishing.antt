-- A checkpoint's calls meet the guards of their steps.
use Rattle.std.proofs.Common.{◌≡◌, ◌⊎◌, inl, inr, ℕ, zero, suc, ◌+◌, ◌<◌, ◌≤◌, List, [], ◌∷◌, ◌++◌, Option, Some, None, Bool, true, false, refl, sym, ◌∙◌, ap, subst, arith}
use Rattle.std.specs.Prelude.{◌&&◌, ◌==◌, nat_lt, fold, if◌then◌else◌, IsSome, is_some}
use Rattle.std.specs.Option.{option_and_then}
use Rattle.std.proofs.lemmas.Bool.{and_parts, eqb-true, ltb-true, cases_eq}
use Rattle.std.proofs.lemmas.Option.{same_Some}
use Rattle.pm_types.specs.declared.limits.TheConstants.{PARTITIONS_MAX}
use Rattle.pm_types.specs.declared.page_id.PageId.{PageId}
use Rattle.pm_types.specs.declared.place.Place.{Place}
use Rattle.pm_types.specs.declared.shape.Mark.{Mark}
use Rattle.pm_types.specs.declared.shape.Shape.{Shape}
use Rattle.pm_types.specs.Ids.{part_of_id, index_of_id}
use Rattle.pm_frame.specs.Frames.{Frame}
use Rattle.pm_disk.specs.Files.{File, content, all_forced}
use Rattle.pm_disk.specs.Worlds.{World, pages_forced}
use Rattle.pm_disk.proofs.Families.{file_here, file_cases}
use Rattle.pm_disk.proofs.Files.{quiet_content}
use Rattle.pm_disk.specs.declared.mark.MarkFile.TheVariants as mark_file
use Rattle.pm_marks.specs.MarkWrites.{first_written}
use Rattle.pm_marks.proofs.FirstSlots.{first_there}
use Rattle.pm_records.specs.Records.{Record, Logical, Snapshot, Delta, CpBegin, Restart, Seal}
use Rattle.pm_marks.specs.InForce.{Checkpoint, NoStart, Started, Ended}
use Rattle.pm_core.specs.BasePages.{Partitions, no_pages, with_page, whole, patched, page_in_file, rebuilt_by, rebuilt_from, since_restart, records_in, rebuilt_of}
use Rattle.pm_core.specs.Calls.{begin_steps, end_steps, force_steps, finish_steps, CanFinish}
use Rattle.pm_core.specs.Machine.{DiskStep, ForcePages, CanStart, CanEnd, CanAll, states, worlds}
use Rattle.pm_core.specs.PageSets.{has_part}
use Rattle.pm_core.specs.States.{State}
use Rattle.pm_core.specs.Stands.{IsViewOf, RebuiltIsLasting, Stands}
use Rattle.pm_core.proofs.Joins.{can-append}
use Rattle.pm_core.proofs.Rebuilt.{found_some}
use Rattle.pm_core.proofs.Sets.{part_of_page}

-- the first slots of the marker files don't matter to the guards
start_then : (mark : Mark) (rebuilt : Partitions) (s : State) (w : World) → CanStart mark rebuilt s w → CanStart mark rebuilt s (first_written mark_file.Start w)
start_then mark rebuilt s w can = record {
  alone = can.alone;
  idle = can.idle;
  next = can.next;
  fits = can.fits;
  shaped = can.shaped;
  before = can.before;
  after = can.after;
  leads = can.leads;
  reaches = can.reaches;
  begins = can.begins;
  in_grammar = can.in_grammar;
  rebuilds = can.rebuilds;
  has_meta = can.has_meta;
  frames = can.frames;
  replay = can.replay;
  based = can.based;
  based_is = can.based_is;
  same_map = can.same_map;
}

end_then : (mark : Mark) (s : State) (w : World) → CanEnd mark s w → CanEnd mark s (first_written mark_file.End w)
end_then mark s w can = record { runs = can.runs; alone = can.alone; fits = can.fits; quiet = can.quiet; written = can.written }

-- a start marker is written once the first slot is there, and forced once it is written
pub begin_can : (told : List ℕ → ℕ) (mark : Mark) (rebuilt : Partitions) (s : State) (w : World) → CanStart mark rebuilt s w → CanAll told (begin_steps mark rebuilt) s w
begin_can told mark rebuilt s w can = (
  can.alone,
  (
    (start_then mark rebuilt s w can, first_there w.starts),
    (record { mark = mark; view = record { checkpoint = Started mark; rebuilt = rebuilt }; is = refl; says = refl }, tt),
  ),
)

-- and an end marker
pub end_can : (told : List ℕ → ℕ) (mark : Mark) (s : State) (w : World) → CanEnd mark s w → CanAll told (end_steps mark) s w
end_can told mark s w can = (
  can.alone,
  (
    (end_then mark s w can, first_there w.ends),
    (record { mark = mark; view = record { checkpoint = Ended mark; rebuilt = no_pages }; is = refl; says = refl }, tt),
  ),
)

-- ---- the log rebuilds pages of the shape's partitions alone

abbrev AreInside : Shape → Partitions → Type 0
AreInside shape pages = (part index : ℕ) → IsSome (pages part index) → part < shape.partitions

inside_step : (shape : Shape) (found : Record) (start mid : Partitions) → AreInside shape start → rebuilt_by shape found start ≡ Some mid → AreInside shape mid
inside_step shape (Snapshot page bytes) start mid inside is = elim (found_some (nat_lt (part_of_id page) shape.partitions) start mid page (whole shape.page_size bytes) is) [
  | inl here ↦ subst (AreInside shape) here.1.2 (placed shape page here.1.0 start inside (ltb-true _ _ here.0))
  | inr out ↦ subst (AreInside shape) out.1 inside
]
  where
    placed : (shape : Shape) (page : PageId) (now : List ℕ) (start : Partitions) → AreInside shape start → part_of_id page < shape.partitions → AreInside shape (with_page start page now)
    placed shape page now start inside lt part index some = by (part == part_of_id page && index == index_of_id page) refl some
      where
        by : (b : Bool) → (part == part_of_id page && index == index_of_id page) ≡ b → IsSome (if b then Some now else start part index) → part < shape.partitions
        by true it some = let at = eqb-true _ _ (and_parts (part == part_of_id page) (index == index_of_id page) it).0 in omega (arith, at, lt)
        by false it some = inside part index some
inside_step shape (Delta page delta) start mid inside is =
    let was = start (part_of_id page) (index_of_id page) in
    elim (found_some (nat_lt (part_of_id page) shape.partitions) start mid page (option_and_then (patched delta) was) is) [
      | inl here ↦ subst (AreInside shape) here.1.2 (placed shape page here.1.0 start inside (ltb-true _ _ here.0))
      | inr out ↦ subst (AreInside shape) out.1 inside
    ]
  where
    placed : (shape : Shape) (page : PageId) (now : List ℕ) (start : Partitions) → AreInside shape start → part_of_id page < shape.partitions → AreInside shape (with_page start page now)
    placed shape page now start inside lt part index some = by (part == part_of_id page && index == index_of_id page) refl some
      where
        by : (b : Bool) → (part == part_of_id page && index == index_of_id page) ≡ b → IsSome (if b then Some now else start part index) → part < shape.partitions
        by true it some = let at = eqb-true _ _ (and_parts (part == part_of_id page) (index == index_of_id page) it).0 in omega (arith, at, lt)
        by false it some = inside part index some
inside_step shape (Logical op cache key value) start mid inside is = subst (AreInside shape) (same_Some start mid is) inside
inside_step shape (CpBegin number replay) start mid inside is = subst (AreInside shape) (same_Some start mid is) inside
inside_step shape (Restart told) start mid inside is = subst (AreInside shape) (same_Some start mid is) inside
inside_step shape Seal start mid inside is = subst (AreInside shape) (same_Some start mid is) inside

abbrev step : Shape → Option Partitions → Record → Option Partitions
step shape pages found = option_and_then (rebuilt_by shape found) pages

none_stays : (shape : Shape) (records : List Record) → fold (step shape) None records ≡ None
none_stays shape [] = refl
none_stays shape (found ∷ records) = none_stays shape records

inside_fold : (shape : Shape) (records : List Record) (start pages : Partitions) → AreInside shape start → fold (step shape) (Some start) records ≡ Some pages → AreInside shape pages
inside_fold shape [] start pages inside is = subst (AreInside shape) (same_Some start pages is) inside
inside_fold shape (found ∷ records) start pages inside is = elim (cases (rebuilt_by shape found start)) [
  | inl none ↦ let no : None ≡ Some pages = sym (none_stays shape records) ∙ ap (λ o. fold (step shape) o records) (sym none) ∙ is in absurd cc
  | inr some ↦ inside_fold shape records some.0 pages (inside_step shape found start some.0 inside some.1) (ap (λ o. fold (step shape) o records) (sym some.1) ∙ is)
]
  where
    cases : (o : Option Partitions) → (o ≡ None) ⊎ ((x : Partitions) × (o ≡ Some x))
    cases None = inl refl
    cases (Some x) = inr (x, refl)

pub rebuilt_inside : (shape : Shape) (frames : List Frame) (pages : Partitions) → rebuilt_of shape frames ≡ Some pages → (part index : ℕ) → IsSome (pages part index) → part < shape.partitions
unfolding rebuilt_of
rebuilt_inside shape frames pages is = by (records_in frames) is
  where
    nothing : AreInside shape no_pages
    nothing part index some = let no : false ≡ true = some in absurd cc

    by : (o : Option (List Record)) → option_and_then (λ records. rebuilt_from shape (since_restart records)) o ≡ Some pages → AreInside shape pages
    by None is = let no : None ≡ Some pages = is in absurd cc
    by (Some records) is = inside_fold shape (since_restart records) no_pages pages nothing is

now_inside : (log : ℕ → File) (low : ℕ) (at : Place) (checkpoint : Checkpoint) (rebuilt : Partitions) (mark : Mark) → checkpoint ≡ Started mark → RebuiltIsLasting checkpoint log low at rebuilt
    → (part index : ℕ) → IsSome (rebuilt part index) → part < mark.shape.partitions
now_inside log low at NoStart rebuilt mark is lasts part index some = absurd cc
now_inside log low at (Ended other) rebuilt mark is lasts part index some = absurd cc
now_inside log low at (Started other) rebuilt mark is lasts part index some =
    let same : other ≡ mark = cc in
    subst (λ (m : Mark). part < m.shape.partitions) same (rebuilt_inside other.shape lasts.before rebuilt lasts.is part index some)

-- ---- forces

-- some files were forced, and nothing else happened
record ForcesSome (from n : ℕ) (pages : List PageId) (w v : World) : Type 0 where
  same : (part : ℕ) → content (v.pages part) ≡ content (w.pages part)
  still : (part : ℕ) → (w.pages part).since ≡ [] → (v.pages part).since ≡ []
  forced : (part : ℕ) → has_part part pages ≡ true → from ≤ part → part < from + n → (v.pages part).since ≡ []

after_forces : (told : List ℕ → ℕ) (from n : ℕ) (pages : List PageId) (s : State) (w : World)
    → CanAll told (force_steps from n pages) s w × (states (force_steps from n pages) s w ≡ s) × ForcesSome from n pages w (worlds (force_steps from n pages) s w)
unfolding force_steps
after_forces told from zero pages s w = (
  tt,
  refl,
  record { same = λ part. refl; still = λ part quiet. quiet; forced = λ part has le lt. absurd (omega (arith, le, lt)) },
)
after_forces told from (suc n) pages s w =
    let P : Bool → Type 0 = λ b. has_part from pages ≡ b
    → (let steps : List DiskStep = (if b then ForcePages from ∷ [] else []) ++ force_steps (from + 1) n pages in
    CanAll told steps s w × (states steps s w ≡ s) × ForcesSome from (suc n) pages w (worlds steps s w)) in
    let by : P (has_part from pages) =
    elim (has_part from pages) as P [
      | true ↦ λ has.
          let mid : World = pages_forced from w in
          let rest = after_forces told (from + 1) n pages s mid in (
            (tt, rest.0),
            rest.1,
            record {
              same = λ part. rest.2.same part ∙ file_cases w.pages from (all_forced (w.pages from)) (λ k f. content f ≡ content (w.pages k)) refl (λ k other. refl) part;
              still = λ part quiet. rest.2.still part (file_cases w.pages from (all_forced (w.pages from)) (λ k f. (w.pages k).since ≡ [] → f.since ≡ []) (λ q. refl) (λ k other q. q) part quiet);
              forced = λ part has_it le lt. elim (cases_eq part from) [
                | inl here ↦ rest.2.still part (subst (λ k. (mid.pages k).since ≡ []) (sym here) (ap (λ (f : File). f.since) (file_here w.pages from (all_forced (w.pages from)))))
                | inr other ↦ rest.2.forced part has_it (omega (arith, le, other)) (omega (arith, lt))
              ];
            },
          )
      | false ↦ λ has.
          let rest = after_forces told (from + 1) n pages s w in (
            rest.0,
            rest.1,
            record {
              same = rest.2.same;
              still = rest.2.still;
              forced = λ part has_it le lt. elim (cases_eq part from) [
                | inl here ↦ let no : true ≡ false = sym has_it ∙ ap (λ k. has_part k pages) here ∙ has in absurd cc
                | inr other ↦ rest.2.forced part has_it (omega (arith, le, other)) (omega (arith, lt))
              ];
            },
          )
    ]
    in
    by refl

-- once the files are forced the end marker may be written
pub finish_can : (wanted : Shape) (told : List ℕ → ℕ) (mark : Mark) (pages : List PageId) (s : State) (w : World) → Stands wanted told s w → CanFinish mark pages s w → CanAll told (finish_steps mark pages) s w
finish_can wanted told mark pages s w stands can =
    let forces = force_steps 0 PARTITIONS_MAX pages in
    let after = after_forces told 0 PARTITIONS_MAX pages s w in
    let v = worlds forces s w in
    let good = stands.good s.now (subst (λ o. IsViewOf s.now o s.now) (sym can.alone) refl) in
    let small : (part index : ℕ) → IsSome (s.now.rebuilt part index) → part < 0 + PARTITIONS_MAX =
    λ part index some. let lt = now_inside w.log s.low s.at s.now.checkpoint s.now.rebuilt mark can.runs good.rebuilt_lasts part index some in omega (arith, lt, can.fits.shape.partitions_to) in
    let quiet : (part index : ℕ) → IsSome (s.now.rebuilt part index) → (v.pages part).since ≡ [] =
    λ part index some. after.2.forced part (part_of_page part index pages (can.pages_are part index some)) (omega arith) (small part index some) in
    let end : CanEnd mark s v = record {
      runs = can.runs;
      alone = can.alone;
      fits = can.fits;
      quiet = quiet;
      written = λ part index bytes is.
          let some : IsSome (s.now.rebuilt part index) = ap (λ o. is_some o) is in
          let same : (v.pages part).forced ≡ content (w.pages part) = sym (quiet_content (v.pages part) (quiet part index some)) ∙ after.2.same part in
          ap (λ (o : Option (List ℕ)). page_in_file s.shape.page_size o index) same ∙ can.written part index bytes is;
    } in
    let end_there : CanEnd mark (states forces s w) v = subst (λ (r : State). CanEnd mark r v) (sym after.1) end in
    can-append told forces (end_steps mark) s w after.0 (end_can told mark (states forces s w) v end_there)
