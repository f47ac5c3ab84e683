-- At most half of the frames are protected.
use Rattle.std.proofs.Common.{◌≡◌, ℕ, ◌+◌, ◌/◌, ◌<◌, ◌≤◌, ◌⊎◌, ⊎_elim, Bool, true, false, List, length, set, replicate, sym, ap, ◌∙◌, subst, arith, length-set}
use Rattle.std.proofs.lemmas.Bool.{cases_lt}
use Rattle.pm_policies.specs.declared.segments.Standing.{Standing}
use Rattle.pm_policies.specs.Segments.{standing_at, count_protected, fresh, placed, Demotes, Protects}
use Rattle.pm_policies.proofs.Sides.{count_placed, count-replicate, one_if}

abbrev pub IsHalf : List Standing → Type 0
IsHalf frames = count_protected frames ≤ length frames / 2

-- at first none is
pub half_fresh : (n : ℕ) → IsHalf (replicate n fresh)
half_fresh n = omega (arith, count-replicate n)

one_if-le : (b : Bool) → one_if b ≤ 1
one_if-le true = omega arith
one_if-le false = omega arith

-- a frame that isn't protected afterwards
pub half_left : (frames : List Standing) (frame stamp : ℕ) → frame < length frames → IsHalf frames → IsHalf (placed frames frame stamp false)
half_left frames frame stamp within half =
    let s : Standing = record { stamp = stamp; is_protected = false } in
    omega (arith, count_placed frames frame s within, length-set frames frame s)

-- one that is counts for one more at most
pub one_more : (frames : List Standing) (frame stamp : ℕ) → frame < length frames → count_protected (placed frames frame stamp true) ≤ count_protected frames + 1
one_more frames frame stamp within =
    let s : Standing = record { stamp = stamp; is_protected = true } in
    omega (arith, count_placed frames frame s within)

-- the oldest protected one isn't any more
pub half_demoted : (frames new : List Standing) → Demotes frames new → count_protected frames ≤ length frames / 2 + 1 → IsHalf new
half_demoted frames new demotes most =
    let frame = demotes.frame in
    let s : Standing = record { stamp = (standing_at frames frame).stamp; is_protected = false } in
    let was = ap one_if demotes.was_oldest.stands in
    subst IsHalf (sym demotes.demoted) (omega (arith, count_placed frames frame s demotes.was_oldest.within, length-set frames frame s))

pub length_demoted : (frames new : List Standing) → Demotes frames new → length new ≡ length frames
length_demoted frames new demotes = ap length demotes.demoted ∙ length-set frames demotes.frame (record { stamp = (standing_at frames demotes.frame).stamp; is_protected = false })

-- no more than half are protected, so nothing else changes
pub protects_kept : (old new : List Standing) (frame stamp : ℕ) → new ≡ placed old frame stamp true → count_protected new ≤ length new / 2 → Protects old new frame stamp
protects_kept old new frame stamp is few =
    let many = ap count_protected is in let long = ap length is ∙ length-set old frame (record { stamp = stamp; is_protected = true }) in
    record { at_most_half = λ _. is; above_half = λ h. absurd (omega arith) }

pub protects_demoted : (old mid new : List Standing) (frame stamp : ℕ) → mid ≡ placed old frame stamp true → length mid / 2 < count_protected mid → Demotes mid new → Protects old new frame stamp
protects_demoted old mid new frame stamp is more demotes =
    let many = ap count_protected is in let long = ap length is ∙ length-set old frame (record { stamp = stamp; is_protected = true }) in
    record { at_most_half = λ h. absurd (omega arith); above_half = λ _. subst (λ fs. Demotes fs new) is demotes }

-- no more than half are protected then
pub half_protects : (old new : List Standing) (frame stamp : ℕ) → frame < length old → IsHalf old → Protects old new frame stamp → IsHalf new
half_protects old new frame stamp within half protects =
    let s : Standing = record { stamp = stamp; is_protected = true } in let mid = placed old frame stamp true in let long = length-set old frame s in
    ⊎_elim
    (λ (h : length old / 2 < count_protected mid). half_demoted mid new (protects.above_half h) (omega (arith, one_more old frame stamp within)))
    (λ (h : count_protected mid ≤ length old / 2). subst IsHalf (sym (protects.at_most_half h)) (omega arith))
    (cases_lt (length old / 2) (count_protected mid))

pub length_protects : (old new : List Standing) (frame stamp : ℕ) → Protects old new frame stamp → length new ≡ length old
length_protects old new frame stamp protects =
    let s : Standing = record { stamp = stamp; is_protected = true } in let mid = placed old frame stamp true in let long = length-set old frame s in
    ⊎_elim
    (λ (h : length old / 2 < count_protected mid). length_demoted mid new (protects.above_half h) ∙ long)
    (λ (h : count_protected mid ≤ length old / 2). ap length (protects.at_most_half h) ∙ long)
    (cases_lt (length old / 2) (count_protected mid))
