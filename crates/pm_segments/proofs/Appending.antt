-- How an append goes: room is made where there is none, and then the frame is written.
use Rattle.std.proofs.Common.{◌≡◌, ◌⊎◌, inl, inr, ℕ, Bool, true, false, List, [], ◌∷◌, length, refl, sym, ◌∙◌, ap, subst, Result}
use Rattle.std.specs.Prelude.{if◌then◌else◌}
use Rattle.pm_types.specs.declared.place.Place.{Place}
use Rattle.pm_frame.specs.Frames.{Frame}
use Rattle.pm_disk.specs.Moments.{History, IsHistory, Does, AllMoments}
use Rattle.pm_records.specs.LogSteps.{written, Step, Append, end_after, world_after, DoesPrefix, DoesSteps}
use Rattle.pm_records.proofs.Tracing.{steps_one, steps_joined, world_joined}
use Rattle.pm_segments.specs.Appends.{rolled, room_steps, roomy, append_steps, steps_of, Reaches}
use Rattle.pm_segments.specs.Ends.{LogEnd, has_room}
use Rattle.pm_segments.proofs.Sealing.{roomy_end}

-- where a frame goes isn't changed by what the last append did
pub untried_end : (log : LogEnd) (payload_len : ℕ) → (roomy (record log { tried = false }) payload_len).end ≡ (roomy log payload_len).end
untried_end log payload_len = each (has_room log payload_len)
  where
    each : (b : Bool) → (if b then record log { tried = false } else rolled (record log { tried = false })).end ≡ (if b then log else rolled log).end
    each true = refl
    each false = refl

module _ {T E : Type 0} (old mid new : History) (result : Result T E) (log : LogEnd) (frame : Frame) (end : Place) (before : mid.world ≡ world_after (room_steps log (length frame.payload)) log.end old.world)
    (there : end ≡ (roomy log (length frame.payload)).end) (call : Does {T = T} {E = E} mid new result (written end frame mid.world)) where
  abbrev first : List Step
  first = room_steps log (length frame.payload)

  here : end ≡ end_after first log.end
  here = there ∙ sym (roomy_end log (length frame.payload))

  -- the steps of the append
  pub append_does : AllMoments old mid (DoesPrefix first log.end old.world) → IsHistory mid → (tried : Bool) → tried ≡ true → DoesSteps {T = T} {E = E} old new result (steps_of tried log frame) log.end
  append_does moments sound tried is =
      let one = steps_one mid new result (Append frame) end sound call in
      let all = steps_joined old mid new result first (Append frame ∷ []) log.end moments before (subst (λ p. DoesSteps {T = T} {E = E} mid new result (Append frame ∷ []) p) here one) in
      subst (λ b. DoesSteps {T = T} {E = E} old new result (steps_of b log frame) log.end) (sym is) all

  -- and how far they came
  pub append_reaches : (tried : Bool) → tried ≡ true → Reaches tried log frame old.world new.world
  append_reaches tried is =
      let either : (new.world ≡ world_after first log.end old.world) ⊎ (new.world ≡ world_after (append_steps log frame) log.end old.world) = elim call.either [
        | inl same ↦ inl (same ∙ before)
        | inr done ↦ inr (world_joined old.world mid.world new.world first (Append frame ∷ []) log.end before (done ∙ ap (λ p. written p frame mid.world) here))
      ] in
      subst (λ b. Reaches b log frame old.world new.world) (sym is) either
