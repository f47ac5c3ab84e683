-- Where nothing is appended the log's end stays.
use Rattle.std.proofs.Common.{◌≡◌, ◌⊎◌, inl, inr, ◌≤◌, List, [], ◌∷◌, ◌++◌, ℕ, length, refl, sym, ap, ◌∙◌, arith, append-nil, length-append}
use Rattle.pm_disk.specs.Worlds.{World}
use Rattle.pm_frame.specs.Frames.{Frame}
use Rattle.pm_records.specs.LogFiles.{Tail, Ready, Cutting, AfterSeal}
use Rattle.pm_records.specs.LogSteps.{Step, CutTail, Append, Force, NextSegment, DropSegment, ForceSegment, tail_forced}
use Rattle.pm_core.specs.Machine.{DiskStep, OnLog, WriteFirst, WriteStart, ForceStart, WritePage, ForcePages, WriteEnd, ForceEnd, Say, Can, CanAll, CanLog, log_state, next_state, next_world, states}
use Rattle.pm_core.specs.Starts.{appended}
use Rattle.pm_core.specs.States.{State}

log_grows : (t : Step) (s : State) → length (appended s) ≤ length (appended (log_state t s))
log_grows CutTail s = omega arith
log_grows (Append f) s = omega (arith, length-append s.order s.pending, length-append s.order (s.pending ++ f ∷ []), length-append s.pending (f ∷ []))
log_grows Force s = omega (arith, ap length (append-nil (s.order ++ s.pending)))
log_grows NextSegment s = omega arith
log_grows (DropSegment seg) s = omega arith
log_grows (ForceSegment seg) s = omega arith

step_grows : (t : DiskStep) (s : State) (w : World) → length (appended s) ≤ length (appended (next_state t s w))
step_grows (OnLog step) s w = log_grows step s
step_grows (WriteFirst file) s w = omega arith
step_grows (WriteStart mark rebuilt) s w = omega arith
step_grows ForceStart s w = omega arith
step_grows (WritePage page gap bytes) s w = omega arith
step_grows (ForcePages part) s w = omega arith
step_grows (WriteEnd mark) s w = omega arith
step_grows ForceEnd s w = omega arith
step_grows (Say bytes) s w = omega arith

all_grow : (ts : List DiskStep) (s : State) (w : World) → length (appended s) ≤ length (appended (states ts s w))
all_grow [] s w = omega arith
all_grow (t ∷ ts) s w = omega (arith, step_grows t s w, all_grow ts (next_state t s w) (next_world t s w))

-- nothing is pending, and the log isn't just after a SEAL
record IsStill (s t : State) : Type 0 where
  none : t.pending ≡ []
  unsealed : t.tail ≡ AfterSeal → ⊥
  ends : t.end ≡ s.end

forced_unsealed : (tail : Tail) (pending : List Frame) → pending ≡ [] → (tail ≡ Ready) ⊎ (tail ≡ Cutting) → tail_forced tail pending ≡ AfterSeal → ⊥
forced_unsealed tail pending none (inl ready) sealed =
    let e : tail_forced Ready [] ≡ AfterSeal = sym (ap (λ (q : Tail × List Frame). tail_forced q.0 q.1) {x = (tail, pending)} {y = (Ready, [])} (λ i. (ready i, none i))) ∙ sealed in
    absurd (cc e)
forced_unsealed tail pending none (inr cutting) sealed =
    let e : tail_forced Cutting [] ≡ AfterSeal = sym (ap (λ (q : Tail × List Frame). tail_forced q.0 q.1) {x = (tail, pending)} {y = (Cutting, [])} (λ i. (cutting i, none i))) ∙ sealed in
    absurd (cc e)

log_still : (t : Step) (s : State) → CanLog t s → s.pending ≡ [] → (s.tail ≡ AfterSeal → ⊥) → length (appended (log_state t s)) ≤ length (appended s) → IsStill s (log_state t s)
log_still CutTail s can none unsealed few = record { none = none; unsealed = λ sealed. absurd (cc sealed); ends = refl }
log_still (Append f) s can none unsealed few =
    absurd (omega (arith, few, length-append s.order s.pending, length-append s.order (s.pending ++ f ∷ []), length-append s.pending (f ∷ [])))
log_still Force s can none unsealed few = record { none = refl; unsealed = λ sealed. forced_unsealed s.tail s.pending none can sealed; ends = refl }
log_still NextSegment s can none unsealed few = absurd (unsealed can.0)
log_still (DropSegment seg) s can none unsealed few = record { none = none; unsealed = unsealed; ends = refl }
log_still (ForceSegment seg) s can none unsealed few = record { none = none; unsealed = unsealed; ends = refl }

step_still : (told : List ℕ → ℕ) (t : DiskStep) (s : State) (w : World) → Can told t s w → s.pending ≡ [] → (s.tail ≡ AfterSeal → ⊥) → length (appended (next_state t s w)) ≤ length (appended s) → IsStill s (next_state t s w)
step_still told (OnLog step) s w can none unsealed few = log_still step s can none unsealed few
step_still told (WriteFirst file) s w can none unsealed few = record { none = none; unsealed = unsealed; ends = refl }
step_still told (WriteStart mark rebuilt) s w can none unsealed few = record { none = none; unsealed = unsealed; ends = refl }
step_still told ForceStart s w can none unsealed few = record { none = none; unsealed = unsealed; ends = refl }
step_still told (WritePage page gap bytes) s w can none unsealed few = record { none = none; unsealed = unsealed; ends = refl }
step_still told (ForcePages part) s w can none unsealed few = record { none = none; unsealed = unsealed; ends = refl }
step_still told (WriteEnd mark) s w can none unsealed few = record { none = none; unsealed = unsealed; ends = refl }
step_still told ForceEnd s w can none unsealed few = record { none = none; unsealed = unsealed; ends = refl }
step_still told (Say bytes) s w can none unsealed few = record { none = none; unsealed = unsealed; ends = refl }

-- so the log's end stays
pub ends_still : (told : List ℕ → ℕ) (ts : List DiskStep) (s : State) (w : World) → CanAll told ts s w → s.pending ≡ [] → (s.tail ≡ AfterSeal → ⊥) → length (appended (states ts s w)) ≤ length (appended s) → (states ts s w).end ≡ s.end
ends_still told [] s w can none unsealed few = refl
ends_still told (t ∷ ts) s w can none unsealed few =
    let next = next_state t s w in
    let one = step_still told t s w can.0 none unsealed (omega (arith, few, all_grow ts next (next_world t s w))) in
    ends_still told ts next (next_world t s w) can.1 one.none one.unsealed (omega (arith, few, step_grows t s w)) ∙ one.ends
