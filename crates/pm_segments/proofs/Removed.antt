-- Segments are removed one after the other.
use Rattle.std.proofs.Common.{◌≡◌, ◌⊎◌, inl, inr, ℕ, zero, suc, ◌+◌, ◌<◌, ◌≤◌, List, [], ◌∷◌, ◌++◌, Bool, true, false, Option, Some, None, refl, sym, ◌∙◌, ap, subst, arith, Result, append_assoc, append-nil}
use Rattle.std.specs.Prelude.{◌≢◌, IsSome, is_some, if◌then◌else◌}
use Rattle.std.proofs.lemmas.Bool.{cases_eq}
use Rattle.pm_disk.specs.Files.{File, Drop, absent, content, with_change, all_forced}
use Rattle.pm_disk.specs.Worlds.{World, segment_in, log_changed, log_forced}
use Rattle.pm_disk.proofs.Families.{changed_here, changed_there, forced_here, forced_there}
use Rattle.pm_disk.proofs.Files.{content_change}
use Rattle.pm_types.specs.declared.place.Place.{Place}
use Rattle.pm_disk.specs.Moments.{History, IsHistory, Does}
use Rattle.pm_disk.proofs.Chain.{does}
use Rattle.pm_records.specs.LogSteps.{Step, DropSegment, ForceSegment, DoesPrefix, DoesSteps}
use Rattle.pm_records.proofs.Tracing.{prefix_none, steps_none, steps_joined}
use Rattle.pm_segments.specs.Drops.{is_there, drop_one, drop_steps, AreDropped}

-- ---- the steps

pub drops_none : (from : ℕ) (world : World) → drop_steps from 0 world ≡ []
unfolding drop_steps
drops_none from world = refl

-- one segment more
pub drops_more : (from n : ℕ) (world : World) → drop_steps from (n + 1) world ≡ drop_steps from n world ++ drop_one (from + n) world
unfolding drop_steps
drops_more from zero world =
    let e : from ≡ from + 0 = omega arith in
    append-nil (drop_one from world) ∙ ap (λ k. drop_one k world) e
drops_more from (suc n) world =
    let e : suc n + 1 ≡ suc (n + 1) = omega arith in
    let f : from + 1 + n ≡ from + suc n = omega arith in
    ap (λ k. drop_steps from k world) e
    ∙ ap (λ rest. drop_one from world ++ rest) (drops_more (from + 1) n world ∙ ap (λ k. drop_steps (from + 1) n world ++ drop_one k world) f)
    ∙ sym (append_assoc (drop_one from world) (drop_steps (from + 1) n world) (drop_one (from + suc n) world))

-- so many segments, and then more
pub drops-append : (from a b : ℕ) (world : World) → drop_steps from (a + b) world ≡ drop_steps from a world ++ drop_steps (from + a) b world
unfolding drop_steps
drops-append from zero b world =
    let e : 0 + b ≡ b = omega arith in
    let f : from ≡ from + 0 = omega arith in
    ap (λ n. drop_steps from n world) e ∙ ap (λ n. drop_steps n b world) f
drops-append from (suc a) b world =
    let e : suc a + b ≡ suc (a + b) = omega arith in
    let f : from + 1 + a ≡ from + suc a = omega arith in
    ap (λ n. drop_steps from n world) e
    ∙ ap (λ rest. drop_one from world ++ rest) (drops-append (from + 1) a b world ∙ ap (λ n. drop_steps (from + 1) a world ++ drop_steps n b world) f)
    ∙ sym (append_assoc (drop_one from world) (drop_steps (from + 1) a world) (drop_steps (from + suc a) b world))

-- a segment that is as it was is removed by the same steps
pub same_drop : (seg : ℕ) (old mid : World) → mid.log seg ≡ old.log seg → drop_one seg mid ≡ drop_one seg old
same_drop seg old mid is =
    ap (λ (f : File). let steps : List Step = if is_some (content f) then DropSegment seg ∷ ForceSegment seg ∷ [] else [] in steps) is

-- ---- what they leave

-- a file that is removed, and whose absence is forced
gone_file : (file : File) → all_forced (with_change file Drop) ≡ absent
gone_file file = ap (λ (o : Option (List ℕ)). let f : File = record { forced = o; since = [] } in f) (content_change file Drop)

pub dropped_none : (from : ℕ) (world : World) → AreDropped from from world world
dropped_none from world = record {
  gone = λ seg le lt. absurd (omega (arith, le, lt));
  lasts = λ seg le lt. absurd (omega (arith, le, lt));
  others = λ seg out. refl;
}

-- a segment that isn't there
pub dropped_absent : (seg : ℕ) (world : World) → is_there seg world ≡ false → AreDropped seg (seg + 1) world world
dropped_absent seg world none = record {
  gone = λ n le lt. let same : seg ≡ n = omega (arith, le, lt) in subst (λ k. segment_in world k ≡ None) same (by (segment_in world seg) none);
  lasts = λ n le lt there. let same : n ≡ seg = omega (arith, le, lt) in let no : true ≡ false = sym (subst (λ k. IsSome (segment_in world k)) same there) ∙ none in absurd cc;
  others = λ n out. refl;
}
  where
    by : (o : Option (List ℕ)) → is_some o ≡ false → o ≡ None
    by None is = refl
    by (Some bytes) is = absurd cc

-- one that is removed, and whose absence is forced
pub dropped_one : (seg : ℕ) (old mid new : World) → mid ≡ log_changed seg Drop old → new ≡ log_forced seg mid → AreDropped seg (seg + 1) old new
dropped_one seg old mid new dropped forced = record {
  gone = λ n le lt. let same : seg ≡ n = omega (arith, le, lt) in subst (λ k. segment_in new k ≡ None) same (ap content here);
  lasts = λ n le lt there. let same : seg ≡ n = omega (arith, le, lt) in subst (λ k. new.log k ≡ absent) same here;
  others = λ n out. let apart : n ≢ seg = λ is. past n is out in there n apart;
}
  where
    here : new.log seg ≡ absent
    here =
        ap (λ (w : World). w.log seg) forced ∙ forced_here seg mid
        ∙ ap (λ (w : World). all_forced (w.log seg)) dropped ∙ ap all_forced (changed_here seg Drop old) ∙ gone_file (old.log seg)

    there : (n : ℕ) → n ≢ seg → new.log n ≡ old.log n
    there n apart =
        ap (λ (w : World). w.log n) forced ∙ forced_there seg n mid apart
        ∙ ap (λ (w : World). w.log n) dropped ∙ changed_there seg n Drop old apart

    past : (n : ℕ) → n ≡ seg → (n < seg) ⊎ (seg + 1 ≤ n) → ⊥
    past n is (inl lt) = omega (arith, is, lt)
    past n is (inr le) = omega (arith, is, le)

-- those up to a segment, and then that one
pub dropped_then : (from n : ℕ) (old mid new : World) → from ≤ n → AreDropped from n old mid → AreDropped n (n + 1) mid new → AreDropped from (n + 1) old new
dropped_then from n old mid new le first second = record {
  gone = λ seg low lt. elim (cases_eq seg n) [
    | inl is ↦ second.gone seg (omega (arith, is)) (omega (arith, is))
    | inr apart ↦ ap content (second.others seg (inl (omega (arith, lt, apart)))) ∙ first.gone seg low (omega (arith, lt, apart))
  ];
  lasts = λ seg low lt there. elim (cases_eq seg n) [
    | inl is ↦ second.lasts seg (omega (arith, is)) (omega (arith, is)) (subst (λ (f : File). IsSome (content f)) (sym (first.others seg (inr (omega (arith, is))))) there)
    | inr apart ↦ second.others seg (inl (omega (arith, lt, apart))) ∙ first.lasts seg low (omega (arith, lt, apart)) there
  ];
  others = λ seg out. elim out [
    | inl lt ↦ second.others seg (inl (omega (arith, lt, le))) ∙ first.others seg (inl lt)
    | inr high ↦ second.others seg (inr high) ∙ first.others seg (inr (omega (arith, high)))
  ];
}

-- ---- a call that only looks, and then steps

module _ {T E V : Type 0} (old mid new : History) (looked : Result T E) (result : Result V E) (steps : List Step) (end : Place) where
  pub after_look : IsHistory old → Does {T = T} {E = E} old mid looked old.world → mid.world ≡ old.world → DoesSteps {T = V} {E = E} mid new result steps end → DoesSteps {T = V} {E = E} old new result steps end
  after_look sound call same second =
      let P : World → Type 0 = DoesPrefix [] end old.world in
      let here = prefix_none [] end old.world in
      steps_joined old mid new result [] steps end (does old old mid looked old.world P (steps_none old [] end sound) call here here) same second

-- a segment that is there
pub drops_it : (seg : ℕ) (world : World) → is_there seg world ≡ true → drop_one seg world ≡ DropSegment seg ∷ ForceSegment seg ∷ []
drops_it seg world there = ap (λ (b : Bool). let steps : List Step = if b then DropSegment seg ∷ ForceSegment seg ∷ [] else [] in steps) there
