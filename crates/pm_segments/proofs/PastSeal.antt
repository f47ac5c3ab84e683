-- How a scan goes on after a SEAL.
use Rattle.std.proofs.Common.{◌≡◌, inl, inr, ◌+◌, Bool, true, false, Option, Some, None, refl, sym, ◌∙◌, ap, subst}
use Rattle.std.specs.Prelude.{◌&&◌, not, if◌then◌else◌}
use Rattle.pm_types.specs.declared.place.Place.{Place}
use Rattle.pm_frame.specs.Frames.{Frame}
use Rattle.pm_disk.specs.Worlds.{World}
use Rattle.pm_records.specs.Logs.{place_after, is_seal, is_last, next_place, ends_log}
use Rattle.pm_records.proofs.Runs.{bool_cases}
use Rattle.pm_segments.specs.Scans.{Scanned, IsAhead, StepsTo, Advances, found_seal, entered, past_seal}

abbrev over : Scanned → Scanned
over scan = record scan { is_over = true }

plain : (scan : Scanned) → found_seal scan.found ≡ false → past_seal scan ≡ scan
plain scan isnt = ap (λ (b : Bool). let s : Scanned = if b then (if is_last scan.next.seg then over scan else entered scan) else scan in s) isnt

sealed_last : (scan : Scanned) → found_seal scan.found ≡ true → is_last scan.next.seg ≡ true → past_seal scan ≡ over scan
sealed_last scan is_one last =
    ap (λ (b : Bool). let s : Scanned = if b then (if is_last scan.next.seg then over scan else entered scan) else scan in s) is_one
    ∙ ap (λ (b : Bool). let s : Scanned = if b then over scan else entered scan in s) last

sealed_inner : (scan : Scanned) → found_seal scan.found ≡ true → is_last scan.next.seg ≡ false → past_seal scan ≡ entered scan
sealed_inner scan is_one inner =
    ap (λ (b : Bool). let s : Scanned = if b then (if is_last scan.next.seg then over scan else entered scan) else scan in s) is_one
    ∙ ap (λ (b : Bool). let s : Scanned = if b then over scan else entered scan in s) inner

-- a scan past a frame, by cases
seal_cases : (scan : Scanned) → (P : Scanned → Type 0) → (found_seal scan.found ≡ false → P scan) → (found_seal scan.found ≡ true → is_last scan.next.seg ≡ true → P (over scan))
    → (found_seal scan.found ≡ true → is_last scan.next.seg ≡ false → P (entered scan)) → P (past_seal scan)
seal_cases scan P at_plain at_last at_inner = elim (bool_cases (found_seal scan.found)) [
  | inr isnt ↦ subst P (sym (plain scan isnt)) (at_plain isnt)
  | inl is_one ↦ elim (bool_cases (is_last scan.next.seg)) [
    | inl last ↦ subst P (sym (sealed_last scan is_one last)) (at_last is_one last)
    | inr inner ↦ subst P (sym (sealed_inner scan is_one inner)) (at_inner is_one inner)
  ]
]

-- the frame that was found stays
pub past_seal_found : (scan : Scanned) → (past_seal scan).found ≡ scan.found
past_seal_found scan = seal_cases scan (λ s. s.found ≡ scan.found) (λ isnt. refl) (λ is_one last. refl) (λ is_one inner. refl)

-- what is ahead stands on the disk
pub past_seal_ahead : (scan : Scanned) (world : World) → IsAhead scan world → IsAhead (past_seal scan) world
past_seal_ahead scan world is_ahead = seal_cases scan (λ s. IsAhead s world) (λ isnt. is_ahead)
    (λ is_one last. record { front = is_ahead.front; whole = is_ahead.whole })
    (λ is_one inner. record { front = refl; whole = λ whole. absurd cc })

module _ (old filled mid : Scanned) (stays : filled.next ≡ old.next) (going : mid.is_over ≡ false) where
  advances_none : mid.found ≡ None → StepsTo filled mid None → old.is_over ≡ false → Advances old (past_seal mid) None
  advances_none is steps was =
      let isnt : found_seal mid.found ≡ false = ap found_seal is in
      subst (λ s. Advances old s None) (sym (plain mid isnt)) (steps.0 ∙ stays, steps.1 ∙ stays, going ∙ sym was)

  advances_some : (f : Frame) → mid.found ≡ Some f → StepsTo filled mid (Some f) → Advances old (past_seal mid) (Some f)
  advances_some f is steps =
      let seal : found_seal mid.found ≡ is_seal f = ap found_seal is in
      let to_next : mid.next ≡ place_after old.next f = steps.1 ∙ ap (λ p. place_after p f) stays in
      let same_seg : mid.next.seg ≡ old.next.seg = ap (λ (p : Place). p.seg) to_next in
      let place : mid.place ≡ old.next = steps.0 ∙ stays in
      let to : (b : Bool) → (last : Bool) → is_seal f ≡ b → is_last old.next.seg ≡ last
      → (if b && not last then record { seg = old.next.seg + 1; off = 0 } else place_after old.next f) ≡ next_place old.next f =
      λ b last e1 e2.
      ap (λ (c : Bool). let p : Place = if c && not last then record { seg = old.next.seg + 1; off = 0 } else place_after old.next f in p) (sym e1)
      ∙ ap (λ (c : Bool). let p : Place = if is_seal f && not c then record { seg = old.next.seg + 1; off = 0 } else place_after old.next f in p) (sym e2) in
      let ended : (b : Bool) → (last : Bool) → is_seal f ≡ b → is_last old.next.seg ≡ last → (b && last) ≡ ends_log old.next f =
      λ b last e1 e2. ap (λ c. c && last) (sym e1) ∙ ap (λ c. is_seal f && c) (sym e2) in
      seal_cases mid (λ s. Advances old s (Some f))
      (λ isnt.
      let other = sym seal ∙ isnt in
      (place, to_next ∙ to false (is_last old.next.seg) other refl, going ∙ ended false (is_last old.next.seg) other refl))
      (λ is_one last.
      let sealed = sym seal ∙ is_one in
      let there = ap is_last (sym same_seg) ∙ last in
      (place, to_next ∙ to true true sealed there, ended true true sealed there))
      (λ is_one inner.
      let sealed = sym seal ∙ is_one in
      let there = ap is_last (sym same_seg) ∙ inner in
      let begin : record { seg = mid.next.seg + 1; off = 0 } ≡ record { seg = old.next.seg + 1; off = 0 } = ap (λ n. let p : Place = record { seg = n + 1; off = 0 } in p) same_seg in
      (place, begin ∙ to true false sealed there, going ∙ ended true false sealed there))

  -- a scan that went on in its segment goes on in the log
  advances_by : (found : Option Frame) → mid.found ≡ found → StepsTo filled mid found → old.is_over ≡ false → Advances old (past_seal mid) found
  advances_by None is steps was = advances_none is steps was
  advances_by (Some f) is steps was = advances_some f is steps

  pub past_seal_advances : StepsTo filled mid mid.found → old.is_over ≡ false → Advances old (past_seal mid) (past_seal mid).found
  past_seal_advances steps was = subst (λ found. Advances old (past_seal mid) found) (sym (past_seal_found mid)) (advances_by mid.found refl steps was)
