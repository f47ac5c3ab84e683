-- How a SEAL is written where it fits.
use Rattle.std.proofs.Common.{◌≡◌, ℕ, ◌+◌, ◌≤◌, Bool, true, false, List, [], ◌∷◌, refl, sym, ◌∙◌, ap, subst, arith, Result}
use Rattle.std.specs.Prelude.{if◌then◌else◌}
use Rattle.std.proofs.lemmas.Bool.{le-leb}
use Rattle.pm_types.specs.declared.place.Place.{Place}
use Rattle.pm_frame.specs.declared.limits.TheConstants.{FRAME_END_MAX, FRAME_EXTRA}
use Rattle.pm_disk.specs.Worlds.{World}
use Rattle.pm_disk.specs.Moments.{History, IsHistory, Does, AllMoments}
use Rattle.pm_records.specs.LogSteps.{written, Step, Append, end_after, world_after, DoesPrefix, next_segment, next_begin}
use Rattle.pm_records.specs.Logs.{seal_frame}
use Rattle.pm_records.proofs.Tracing.{moments_one, end_after-append}
use Rattle.pm_segments.specs.Appends.{can_seal, seal_len, seal_steps, enter_steps, roll_steps, rolled, room_steps, roomy}
use Rattle.pm_segments.specs.Ends.{LogEnd, has_room}

pub fits_seal : (end : Place) → end.off ≤ FRAME_END_MAX → can_seal end ≡ true
fits_seal end le = le-leb end.off FRAME_END_MAX le

-- where it fits it is the one step
pub seals : (end : Place) → can_seal end ≡ true → Append seal_frame ∷ [] ≡ seal_steps end
seals end fits = ap (λ (b : Bool). let steps : List Step = if b then Append seal_frame ∷ [] else [] in steps) (sym fits)

pub moments_sealed : {T E : Type 0} (old new : History) (result : Result T E) (end : Place) → can_seal end ≡ true → IsHistory old → Does {T = T} {E = E} old new result (written end seal_frame old.world)
    → AllMoments old new (DoesPrefix (seal_steps end) end old.world)
moments_sealed old new result end fits sound call =
    subst (λ steps. AllMoments old new (DoesPrefix steps end old.world)) (seals end fits)
    (moments_one old new result (Append seal_frame) end (written end seal_frame old.world) sound refl call)

pub world_sealed : (old new : World) (end : Place) → can_seal end ≡ true → new ≡ written end seal_frame old → new ≡ world_after (seal_steps end) end old
world_sealed old new end fits is = is ∙ ap (λ steps. world_after steps end old) (seals end fits)

-- the log ends after it
pub sealed_end : (end : Place) → end_after (seal_steps end) end ≡ record { seg = end.seg; off = end.off + seal_len end }
sealed_end end = each (can_seal end)
  where
    each : (b : Bool) → end_after (if b then Append seal_frame ∷ [] else []) end ≡ record { seg = end.seg; off = end.off + (if b then FRAME_EXTRA else 0) }
    each true = refl
    each false = let e : end.off ≡ end.off + 0 = omega arith in ap (λ n. let p : Place = record { seg = end.seg; off = n } in p) e

-- a roll leads to the begin of the next segment
pub rolled_end : (end : Place) → end_after (roll_steps end) end ≡ next_begin end
rolled_end end =
    end_after-append (seal_steps end) enter_steps end
    ∙ ap (λ (p : Place). let q : Place = record { seg = next_segment p.seg; off = 0 } in q) (sealed_end end)

-- where a frame goes
pub roomy_end : (log : LogEnd) (payload_len : ℕ) → end_after (room_steps log payload_len) log.end ≡ (roomy log payload_len).end
roomy_end log payload_len = each (has_room log payload_len)
  where
    each : (b : Bool) → end_after (if b then [] else roll_steps log.end) log.end ≡ (if b then log else rolled log).end
    each true = refl
    each false = rolled_end log.end
