-- In a sound store no record is bad.
use Rattle.std.proofs.Common.{◌≡◌, inl, inr, ℕ, ◌≤◌, List, [], ◌∷◌, length, Some, None, true, false, sym, ◌∙◌, ap, refl, arith}
use Rattle.std.proofs.lemmas.Option.{same_Some}
use Rattle.pm_types.specs.declared.place.Place.{Place}
use Rattle.pm_frame.specs.Frames.{Frame}
use Rattle.pm_records.specs.FirstRecords.{is_restart, begins_well}
use Rattle.pm_records.specs.Logs.{place, all_frames, record_in, IsLogFrom}
use Rattle.pm_marks.specs.InForce.{Checkpoint, NoStart, Started, Ended, replay_of}
use Rattle.pm_core.specs.BasePages.{Partitions, RebuiltAre}
use Rattle.pm_core.specs.Held.{BeginsWell}
use Rattle.pm_redo.specs.Restoring.{IsBadFirst, IsPastEnd, IsBadRestore}

good_first : (log : ℕ → List ℕ) (frames : List Frame) (at : Place) → IsLogFrom all_frames log (place 1 0) frames → begins_well frames ≡ true → IsBadFirst log at → ⊥
good_first log [] at is_log begins bad = let both : None ≡ Some bad.frame = sym (is_log.ends refl) ∙ bad.stands in absurd cc
good_first log (f ∷ frames) at is_log begins bad =
    let same : f ≡ bad.frame = same_Some f bad.frame (sym is_log.run.0 ∙ bad.stands) in
    let both : true ≡ false = sym begins ∙ ap (λ g. is_restart (record_in g)) same ∙ bad.no_restart in absurd cc

within : (log : ℕ → List ℕ) (replay at : Place) → replay.off ≤ length (log replay.seg) → IsPastEnd log replay at → ⊥
within log replay at reaches past = absurd (omega (arith, reaches, past.short))

pub no_bad_record : (checkpoint : Checkpoint) (log : ℕ → List ℕ) (rebuilt : Partitions) (frames : List Frame) → RebuiltAre checkpoint log rebuilt → IsLogFrom all_frames log (replay_of checkpoint) frames
    → (replay_of checkpoint).off ≤ length (log (replay_of checkpoint).seg) → BeginsWell checkpoint frames → (at : Place) → IsBadRestore checkpoint log at → ⊥
no_bad_record NoStart log rebuilt frames are is_log reaches begins at (inl first) = good_first log frames at is_log begins first
no_bad_record NoStart log rebuilt frames are is_log reaches begins at (inr (inl none)) = none
no_bad_record NoStart log rebuilt frames are is_log reaches begins at (inr (inr past)) = within log (place 1 0) at reaches past
no_bad_record (Started mark) log rebuilt frames are is_log reaches begins at (inl first) = first
no_bad_record (Started mark) log rebuilt frames are is_log reaches begins at (inr (inl none)) = none.none rebuilt are
no_bad_record (Started mark) log rebuilt frames are is_log reaches begins at (inr (inr past)) = within log mark.replay at reaches past
no_bad_record (Ended mark) log rebuilt frames are is_log reaches begins at (inl first) = first
no_bad_record (Ended mark) log rebuilt frames are is_log reaches begins at (inr (inl none)) = none
no_bad_record (Ended mark) log rebuilt frames are is_log reaches begins at (inr (inr past)) = within log mark.replay at reaches past
