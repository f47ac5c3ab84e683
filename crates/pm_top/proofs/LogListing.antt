-- What `wal` says and leaves.
use Rattle.std.proofs.Common.{◌≡◌, ◌⊎◌, inl, inr, ℕ, ◌+◌, List, [], ◌++◌, length, take, refl, sym, ◌∙◌, ap, subst, append_assoc, arith}
use Rattle.std.proofs.lemmas.List.{take-append-le}
use Rattle.std.proofs.Math.Seq.{take-append-add}
use Rattle.pm_types.specs.declared.place.Place.{Place}
use Rattle.pm_types.specs.declared.shape.Shape.{Shape}
use Rattle.pm_model.specs.Eval.{Pairs}
use Rattle.pm_disk.specs.Worlds.{World, with_said}
use Rattle.pm_disk.specs.Moments.{History, AllMoments}
use Rattle.pm_disk.specs.States.{DeviceState, Rose}
use Rattle.pm_disk.proofs.Chain.{joined, weaker}
use Rattle.pm_marks.specs.InForce.{number_in}
use Rattle.pm_core.specs.Held.{in_force}
use Rattle.pm_core.specs.LogAlone.{image_of}
use Rattle.pm_engine.specs.Replays.{CrashHoldsMap}
use Rattle.pm_redo.specs.Rebuilding.{IsSame}
use Rattle.pm_records.specs.LogFiles.{contents}
use Rattle.pm_tools.specs.Listings.{list_place, IsListed, IsListedUpTo, IsSaid, SaysOfLog}
use Rattle.pm_tools.proofs.Listed.{nothing_yet, never_both}
use Rattle.pm_top.specs.declared.status.Status.{Status}
use Rattle.pm_top.specs.declared.status.Status.TheVariants.{Done, Failed, Memory, Damaged}
use Rattle.pm_top.specs.Configurations.{wanted_in}
use Rattle.pm_top.specs.Crashes.{opened_to}
use Rattle.pm_top.specs.Promises.{IsStart, SameConfig, SaysPart, fault_record}
use Rattle.pm_top.specs.LogListings.{IsCutShort, SaysOfWal, WalHolds, WalCompletes}
use Rattle.pm_top.specs.Statuses.{code_of}
use Rattle.pm_top.proofs.Opened.{start_said}

-- ---- what is said

of_log : (old now : World) → SaysOfLog (list_place old) old now → SaysOfWal old now
of_log old now says = elim says.is_text [
  | inl all ↦ record { text = says.text; is_text = inl all; part = (says.prefix.count, says.prefix.said) }
  | inr up ↦ record {
    text = says.text ++ fault_record up.0;
    is_text = inr (up.0, says.text, up.1, refl);
    part = (says.prefix.count, says.prefix.said ∙ ap (λ l. with_said l old) (sym (take-append-le says.prefix.count says.text (fault_record up.0) says.prefix.within)));
  }
]

pub wal_moments : (old now : History) → AllMoments old now (SaysOfLog (list_place old.world) old.world) → AllMoments old now (SaysOfWal old.world)
wal_moments old now = weaker old now (SaysOfLog (list_place old.world) old.world) (SaysOfWal old.world) (of_log old.world)

-- the line that names a record, after the lines before it
said_after : (one two : List ℕ) (world : World) → with_said two (with_said one world) ≡ with_said (one ++ two) world
said_after one two world = ap (λ (s : List ℕ). record world { said = s }) (append_assoc world.said one two)

fault_part : (old mid now : World) (at : Place) → IsListedUpTo (list_place old) at old mid → SaysPart (fault_record at) mid now → SaysOfWal old now
fault_part old mid now at up part = record {
  text = up.text ++ fault_record at;
  is_text = inr (at, up.text, up.lists, refl);
  part = (
    length up.text + part.0,
    part.1 ∙ ap (with_said (take part.0 (fault_record at))) up.said ∙ said_after up.text (take part.0 (fault_record at)) old
        ∙ ap (λ l. with_said l old) (sym (take-append-add up.text (fault_record at) part.0)),
  );
}

pub fault_moments : (old mid now : History) (at : Place) → AllMoments old mid (SaysOfLog (list_place old.world) old.world) → IsListedUpTo (list_place old.world) at old.world mid.world → AllMoments mid now (SaysPart (fault_record at) mid.world) → AllMoments old now (SaysOfWal old.world)
fault_moments old mid now at first up second =
    joined old mid now (SaysOfWal old.world) (wal_moments old mid first)
    (weaker mid now (SaysPart (fault_record at) mid.world) (SaysOfWal old.world) (λ w part. fault_part old.world mid.world w at up part) second)

pub cut_short : (old mid now : World) (at : Place) → IsListedUpTo (list_place old) at old mid → IsSaid (fault_record at) mid now → IsCutShort old now
cut_short old mid now at up said = record {
  at = at;
  lines = up.text;
  lists = up.lists;
  said = said ∙ ap (with_said (fault_record at)) up.said ∙ said_after up.text (fault_record at) old;
}

-- ---- what a crash leaves

-- what was said is no file
wal_crash : (old new : History) → AllMoments old new (SaysOfWal old.world) → (shape : Shape) (pairs : Pairs) (start : IsStart (wanted_in old.world) old.world shape pairs)
    → AllMoments old new (CrashHoldsMap (opened_to start.sound) (number_in (in_force (image_of old.world))) (wanted_in old.world) shape pairs)
wal_crash old new says shape pairs start =
    let wanted = wanted_in old.world in
    let K : World → Type 0 = CrashHoldsMap (opened_to start.sound) (number_in (in_force (image_of old.world))) wanted shape pairs in
    weaker old new (SaysOfWal old.world) K (λ w is. subst K (sym is.part.1) (start_said wanted old.world shape pairs start (take is.part.0 is.text))) says

-- ---- what `wal` promises

pub isnt : {A : Type 0} (status one other : Status) → status ≡ one → status ≡ other → (code_of one ≡ code_of other → ⊥) → A
isnt status one other is also differ = absurd (differ (ap code_of (sym is ∙ also)))

-- the log was listed whole
pub wal_done : (old new : History) (status : Status) (lines : ℕ) (order : List ℕ) → AllMoments old new (SaysOfLog (list_place old.world) old.world) → IsListed (list_place old.world) old.world new.world → status ≡ Done → lines ≡ 0 → order ≡ [] → WalHolds old new status lines order
wal_done old new status lines order moments listed is none no_order = record {
  moments = wal_moments old new moments;
  crash = wal_crash old new (wal_moments old new moments);
  done = λ _. listed;
  damaged = λ other. isnt status Done Damaged is other (λ e. omega (arith, e));
  statuses = inl is;
  none = none;
  order_is = no_order;
}

-- a call failed, or memory ran out
pub wal_ends : (old new : History) (status : Status) (lines : ℕ) (order : List ℕ) → AllMoments old new (SaysOfWal old.world) → (status ≡ Failed) ⊎ (status ≡ Memory) → lines ≡ 0 → order ≡ [] → WalHolds old new status lines order
wal_ends old new status lines order says cases none no_order = record {
  moments = says;
  crash = wal_crash old new says;
  done = λ other. elim cases [ inl is ↦ isnt status Failed Done is other (λ e. omega (arith, e)) | inr is ↦ isnt status Memory Done is other (λ e. omega (arith, e)) ];
  damaged = λ other. elim cases [ inl is ↦ isnt status Failed Damaged is other (λ e. omega (arith, e)) | inr is ↦ isnt status Memory Damaged is other (λ e. omega (arith, e)) ];
  statuses = inr (inr cases);
  none = none;
  order_is = no_order;
}

-- a record is bad
pub wal_cut : (old mid new : History) (status : Status) (lines : ℕ) (order : List ℕ) (at : Place) → AllMoments old mid (SaysOfLog (list_place old.world) old.world) → IsListedUpTo (list_place old.world) at old.world mid.world
    → (status ≡ Damaged) ⊎ (status ≡ Failed) ⊎ (status ≡ Memory) → (status ≡ Damaged → IsSaid (fault_record at) mid.world new.world) → AllMoments mid new (SaysPart (fault_record at) mid.world) → lines ≡ 0 → order ≡ [] → WalHolds old new status lines order
wal_cut old mid new status lines order at first up cases said second none no_order = record {
  moments = fault_moments old mid new at first up second;
  crash = wal_crash old new (fault_moments old mid new at first up second);
  done = λ other. elim cases [
    | inl is ↦ isnt status Damaged Done is other (λ e. omega (arith, e))
    | inr more ↦ elim more [ inl is ↦ isnt status Failed Done is other (λ e. omega (arith, e)) | inr is ↦ isnt status Memory Done is other (λ e. omega (arith, e)) ]
  ];
  damaged = λ is. cut_short old.world mid.world new.world at up (said is);
  statuses = inr cases;
  none = none;
  order_is = no_order;
}

-- ---- after calls that changed nothing

same_says : (old new : History) → AllMoments old new (IsSame old.world) → AllMoments old new (SaysOfWal old.world)
same_says old new = weaker old new (IsSame old.world) (SaysOfWal old.world) (λ w is. subst (SaysOfWal old.world) (sym is) (of_log old.world old.world (nothing_yet (list_place old.world) old.world)))

pub wal_from : (old mid new : History) (status : Status) (lines : ℕ) (order : List ℕ) → AllMoments old mid (IsSame old.world) → mid.world ≡ old.world → WalHolds mid new status lines order → WalHolds old new status lines order
wal_from old mid new status lines order first same holds =
    let says : AllMoments old new (SaysOfWal old.world) = joined old mid new (SaysOfWal old.world) (same_says old mid first) (subst (λ (w : World). AllMoments mid new (SaysOfWal w)) same holds.moments) in
    record {
      moments = says;
      crash = wal_crash old new says;
      done = λ is. subst (λ (w : World). IsListed (list_place w) w new.world) same (holds.done is);
      damaged = λ is. subst (λ (w : World). IsCutShort w new.world) same (holds.damaged is);
      statuses = holds.statuses;
      none = holds.none;
      order_is = holds.order_is;
    }

-- the folder wasn't bound
pub wal_unbound : (old new : History) (status : Status) (lines : ℕ) (order : List ℕ)
    → AllMoments old new (IsSame old.world) → (status ≡ Failed) ⊎ (status ≡ Memory) → lines ≡ 0 → order ≡ []
    → WalHolds old new status lines order
wal_unbound old new status lines order same cases none no_order =
    wal_ends old new status lines order (same_says old new same) cases none no_order

-- ---- what follows

-- the configuration is as it was
pub wal_config : (old new : History) → AllMoments old new (SaysOfWal old.world) → AllMoments old new (SameConfig old.world)
wal_config old new = weaker old new (SaysOfWal old.world) (SameConfig old.world) (λ w is. subst (SameConfig old.world) (sym is.part.1) refl)

pub wal_completes : (old new : History) (status : Status) (lines : ℕ) (order : List ℕ) (before now : DeviceState) → WalHolds old new status lines order → (status ≡ Failed → Rose before now) → WalCompletes status old.world before now
wal_completes old new status lines order before now holds failed = record {
  whole = λ sound none. elim holds.statuses [
    | inl is ↦ inl is
    | inr more ↦ elim more [
      | inl is ↦ let cut = holds.damaged is in absurd (sound cut.at cut.lines cut.lists)
      | inr other ↦ elim other [ inl is ↦ absurd (none (failed is)) | inr is ↦ inr is ]
    ]
  ];
  bad = λ at lines_before cut none. elim holds.statuses [
    | inl is ↦ let listed = holds.done is in absurd (never_both (contents old.world.log) (list_place old.world) at listed.text lines_before listed.lists cut)
    | inr more ↦ elim more [
      | inl is ↦ inl is
      | inr other ↦ elim other [ inl is ↦ absurd (none (failed is)) | inr is ↦ inr is ]
    ]
  ];
}
