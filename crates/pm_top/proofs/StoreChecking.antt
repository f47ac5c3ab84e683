-- What `verify` says and leaves.
use Rattle.std.proofs.Common.{◌≡◌, ◌⊎◌, inl, inr, ℕ, List, [], take, refl, sym, ◌∙◌, ap, subst, arith}
use Rattle.pm_types.specs.declared.page_id.PageId.{PageId}
use Rattle.pm_types.specs.declared.place.Place.{Place}
use Rattle.pm_types.specs.declared.shape.Shape.{Shape}
use Rattle.pm_disk.specs.Moments.{History, AllMoments}
use Rattle.pm_disk.specs.States.{DeviceState, Rose}
use Rattle.pm_disk.specs.Worlds.{World, with_said}
use Rattle.pm_disk.proofs.Chain.{joined, weaker}
use Rattle.pm_model.specs.Eval.{Pairs}
use Rattle.pm_marks.specs.InForce.{number_in}
use Rattle.pm_core.specs.Held.{in_force}
use Rattle.pm_core.specs.LogAlone.{image_of}
use Rattle.pm_engine.specs.Replays.{CrashHoldsMap}
use Rattle.pm_redo.specs.Rebuilding.{IsSame}
use Rattle.pm_tools.specs.Verifying.{IsBadRecord, IsBadBasePage}
use Rattle.pm_top.specs.declared.status.Status.{Status}
use Rattle.pm_top.specs.declared.status.Status.TheVariants.{Done, Failed, Memory, Damaged}
use Rattle.pm_top.specs.Configurations.{wanted_in}
use Rattle.pm_top.specs.Crashes.{opened_to}
use Rattle.pm_top.specs.Promises.{IsStart, NamesBad, SameConfig, SaysPart}
use Rattle.pm_top.specs.StoreChecks.{MaySayOfCheck, SaysCounts, SaysLine, VerifyCompletes, VerifyHolds}
use Rattle.pm_top.proofs.LogListing.{isnt}
use Rattle.pm_top.proofs.Opened.{start_map, start_said}

-- ---- what is said

pub same_says : (old new : History) → AllMoments old new (IsSame old.world) → AllMoments old new (MaySayOfCheck old.world)
same_says old new = weaker old new (IsSame old.world) (MaySayOfCheck old.world) (λ w is. inl is)

-- a line, after calls that changed nothing
line_says : (old mid new : History) (text : List ℕ) → SaysCounts old.world text ⊎ NamesBad old.world text → AllMoments old mid (IsSame old.world) → mid.world ≡ old.world → AllMoments mid new (SaysPart text mid.world) → AllMoments old new (MaySayOfCheck old.world)
line_says old mid new text is first same second =
    joined old mid new (MaySayOfCheck old.world) (same_says old mid first)
    (weaker mid new (SaysPart text mid.world) (MaySayOfCheck old.world) (λ w part. inr (record { text = text; is_text = is; part = subst (λ (v : World). SaysPart text v w) same part })) second)

-- what was said is no file
check_crash : (old new : History) → AllMoments old new (MaySayOfCheck old.world) → (shape : Shape) (pairs : Pairs) (start : IsStart (wanted_in old.world) old.world shape pairs)
    → AllMoments old new (CrashHoldsMap (opened_to start.sound) (number_in (in_force (image_of old.world))) (wanted_in old.world) shape pairs)
check_crash old new says shape pairs start =
    let wanted = wanted_in old.world in
    let K : World → Type 0 = CrashHoldsMap (opened_to start.sound) (number_in (in_force (image_of old.world))) wanted shape pairs in
    weaker old new (MaySayOfCheck old.world) K (λ w may. elim may [
      | inl same ↦ subst K (sym same) (start_map wanted old.world shape pairs start)
      | inr is ↦ subst K (sym is.part.1) (start_said wanted old.world shape pairs start (take is.part.0 is.text))
    ]) says

-- the configuration is as it was
pub check_config : (old new : History) → AllMoments old new (MaySayOfCheck old.world) → AllMoments old new (SameConfig old.world)
check_config old new =
    weaker old new (MaySayOfCheck old.world) (SameConfig old.world) (λ w may. elim may [
      | inl same ↦ subst (SameConfig old.world) (sym same) refl
      | inr is ↦ subst (SameConfig old.world) (sym is.part.1) refl
    ])

-- ---- what `verify` promises

-- the store is whole, and what it has was said or is to be said
pub check_done : (old mid new : History) (status : Status) (lines : ℕ) (order text : List ℕ) → SaysCounts old.world text → AllMoments old mid (IsSame old.world) → mid.world ≡ old.world → AllMoments mid new (SaysPart text mid.world)
    → (status ≡ Done) ⊎ (status ≡ Failed) ⊎ (status ≡ Memory) → (status ≡ Done → new.world ≡ with_said text mid.world) → lines ≡ 0 → order ≡ [] → VerifyHolds old new status lines order
check_done old mid new status lines order text is first same second cases said none no_order =
    let says = line_says old mid new text (inl is) first same second in
    record {
      moments = says;
      crash = check_crash old new says;
      done = λ done. (text, is, said done ∙ ap (with_said text) same);
      damaged = λ other. elim cases [
        | inl here ↦ isnt status Done Damaged here other (λ e. omega (arith, e))
        | inr more ↦ elim more [ inl here ↦ isnt status Failed Damaged here other (λ e. omega (arith, e)) | inr here ↦ isnt status Memory Damaged here other (λ e. omega (arith, e)) ]
      ];
      statuses = elim cases [ inl here ↦ inl here | inr more ↦ inr (inr more) ];
      none = none;
      order_is = no_order;
    }

-- a record or a page is bad, and was named or is to be named
pub check_bad : (old mid new : History) (status : Status) (lines : ℕ) (order text : List ℕ) → NamesBad old.world text → AllMoments old mid (IsSame old.world) → mid.world ≡ old.world → AllMoments mid new (SaysPart text mid.world)
    → (status ≡ Damaged) ⊎ (status ≡ Failed) ⊎ (status ≡ Memory) → (status ≡ Damaged → new.world ≡ with_said text mid.world) → lines ≡ 0 → order ≡ [] → VerifyHolds old new status lines order
check_bad old mid new status lines order text is first same second cases said none no_order =
    let says = line_says old mid new text (inr is) first same second in
    record {
      moments = says;
      crash = check_crash old new says;
      done = λ other. elim cases [
        | inl here ↦ isnt status Damaged Done here other (λ e. omega (arith, e))
        | inr more ↦ elim more [ inl here ↦ isnt status Failed Done here other (λ e. omega (arith, e)) | inr here ↦ isnt status Memory Done here other (λ e. omega (arith, e)) ]
      ];
      damaged = λ bad. (text, is, said bad ∙ ap (with_said text) same);
      statuses = inr cases;
      none = none;
      order_is = no_order;
    }

-- a call failed, or memory ran out, and nothing was said
pub check_ends : (old new : History) (status : Status) (lines : ℕ) (order : List ℕ) → AllMoments old new (IsSame old.world) → (status ≡ Failed) ⊎ (status ≡ Memory) → lines ≡ 0 → order ≡ [] → VerifyHolds old new status lines order
check_ends old new status lines order same cases none no_order =
    let says = same_says old new same in
    record {
      moments = says;
      crash = check_crash old new says;
      done = λ other. elim cases [ inl is ↦ isnt status Failed Done is other (λ e. omega (arith, e)) | inr is ↦ isnt status Memory Done is other (λ e. omega (arith, e)) ];
      damaged = λ other. elim cases [ inl is ↦ isnt status Failed Damaged is other (λ e. omega (arith, e)) | inr is ↦ isnt status Memory Damaged is other (λ e. omega (arith, e)) ];
      statuses = inr (inr cases);
      none = none;
      order_is = no_order;
    }

-- ---- after calls that changed nothing

pub check_from : (old mid new : History) (status : Status) (lines : ℕ) (order : List ℕ) → AllMoments old mid (IsSame old.world) → mid.world ≡ old.world → VerifyHolds mid new status lines order → VerifyHolds old new status lines order
check_from old mid new status lines order first same holds =
    let says : AllMoments old new (MaySayOfCheck old.world) = joined old mid new (MaySayOfCheck old.world) (same_says old mid first) (subst (λ (w : World). AllMoments mid new (MaySayOfCheck w)) same holds.moments) in
    record {
      moments = says;
      crash = check_crash old new says;
      done = λ is. subst (λ (w : World). SaysLine (SaysCounts w) w new.world) same (holds.done is);
      damaged = λ is. subst (λ (w : World). SaysLine (NamesBad w) w new.world) same (holds.damaged is);
      statuses = holds.statuses;
      none = holds.none;
      order_is = holds.order_is;
    }

-- ---- what follows

pub check_completes : (old new : History) (status : Status) (lines : ℕ) (order : List ℕ) (before now : DeviceState) → VerifyHolds old new status lines order → (status ≡ Failed → Rose before now) → VerifyCompletes status old.world before now
check_completes old new status lines order before now holds failed = λ records pages none. elim holds.statuses [
  | inl is ↦ inl is
  | inr more ↦ elim more [
    | inl is ↦ absurd (never (holds.damaged is) records pages)
    | inr other ↦ elim other [ inl is ↦ absurd (none (failed is)) | inr is ↦ inr is ]
  ]
]
  where
    never : SaysLine (NamesBad old.world) old.world new.world → ((at : Place) → IsBadRecord old.world at → ⊥) → ((id : PageId) → IsBadBasePage old.world id → ⊥) → ⊥
    never line records pages = elim line.1 [
      | inl bad ↦ records bad.0 bad.1
      | inr bad ↦ pages bad.0 bad.1
    ]
