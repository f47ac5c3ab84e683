-- Frames that stand one after the other, and what a crash leaves of them.
use Rattle.std.proofs.Common.{◌≡◌, ◌⊎◌, inl, inr, ℕ, suc, ◌+◌, ◌-◌, ◌^◌, ◌<◌, ◌≤◌, List, [], ◌∷◌, ◌++◌, length, take, Option, Some, None, refl, sym, ◌∙◌, ap, subst, arith, Bool, true, false}
use Rattle.std.specs.Prelude.{if◌then◌else◌, slice_get, ◌&&◌, ◌||◌, not}
use Rattle.std.proofs.lemmas.Bool.{eqb-true}
use Rattle.std.proofs.lemmas.List.{nil_from_length}
use Rattle.std.proofs.lemmas.Option.{same_Some}
use Rattle.pm_disk.specs.Files.{File, at_change, bytes_of}
use Rattle.pm_disk.specs.Images.{Lasting, Leaves, IsTrueOf}
use Rattle.pm_disk.proofs.Files.{kept, no_longer, quiet_below}
use Rattle.pm_frame.specs.Frames.{Frame, frame_len}
use Rattle.pm_types.specs.declared.place.Place.{Place}
use Rattle.pm_records.specs.LogFiles.{forced_contents, OnlyTheseStood, Tail, FilesHoldLog, HasLasting}
use Rattle.pm_records.specs.Logs.{Grammar, place, is_seal, is_last, enters_next, ends_log, place_after, next_place, after_frames, is_over, HasFrames, IsLogFrom, IsLogWithNothingAbove, frames_len}
use Rattle.pm_records.proofs.GrammarLaws.{IsGrammar}

pub bool_cases : (b : Bool) → (b ≡ true) ⊎ (b ≡ false)
bool_cases true = inl refl
bool_cases false = inr refl

pub option_cases : {A : Type 0} (o : Option A) → (o ≡ None) ⊎ ((x : A) × (o ≡ Some x))
option_cases None = inl refl
option_cases (Some x) = inr (x, refl)

pub neither : (a b : Bool) → (a || b) ≡ false → (a ≡ false) × (b ≡ false)
neither true b is = absurd cc
neither false b is = (refl, is)

-- ---- the place after a frame

pub next-enters : (p : Place) (f : Frame) → enters_next p f ≡ true → next_place p f ≡ place (p.seg + 1) 0
next-enters p f is = ap (λ (b : Bool). let q : Place = if b then place (p.seg + 1) 0 else place_after p f in q) is

pub next-stays : (p : Place) (f : Frame) → enters_next p f ≡ false → next_place p f ≡ place_after p f
next-stays p f is = ap (λ (b : Bool). let q : Place = if b then place (p.seg + 1) 0 else place_after p f in q) is

pub next-seal : (p : Place) (f : Frame) → is_seal f ≡ true → is_last p.seg ≡ false → next_place p f ≡ place (p.seg + 1) 0
next-seal p f sealed inner = next-enters p f (ap (λ b. b && not (is_last p.seg)) sealed ∙ ap not inner)

pub next-plain : (p : Place) (f : Frame) → is_seal f ≡ false → next_place p f ≡ place_after p f
next-plain p f plain = next-stays p f (ap (λ b. b && not (is_last p.seg)) plain)

-- a frame that isn't a SEAL doesn't end the log, nor does one in a segment that has a next one
pub plain_goes_on : (p : Place) (f : Frame) → is_seal f ≡ false → ends_log p f ≡ false
plain_goes_on p f plain = ap (λ b. b && is_last p.seg) plain

pub seal_goes_on : (p : Place) (f : Frame) → is_seal f ≡ true → is_last p.seg ≡ false → ends_log p f ≡ false
seal_goes_on p f sealed inner = ap (λ b. b && is_last p.seg) sealed ∙ inner

-- the SEAL of the last segment
pub ends_last : (p : Place) (f : Frame) → ends_log p f ≡ true → (is_seal f ≡ true) × (p.seg + 1 ≡ 2 ^ 64)
ends_last p f ends = by (is_seal f) refl ends
  where
    by : (b : Bool) → is_seal f ≡ b → (b && is_last p.seg) ≡ true → (is_seal f ≡ true) × (p.seg + 1 ≡ 2 ^ 64)
    by true is last = let e = eqb-true p.seg (2 ^ 64 - 1) last in (is, omega (arith, e))
    by false is last = absurd cc

pub over-append : (p : Place) (xs ys : List Frame) → is_over p (xs ++ ys) ≡ (is_over p xs || is_over (after_frames p xs) ys)
over-append p [] ys = refl
over-append p (x ∷ xs) ys = ap (λ b. ends_log p x || b) (over-append (next_place p x) xs ys) ∙ or_assoc (ends_log p x) (is_over (next_place p x) xs) (is_over (after_frames (next_place p x) xs) ys)
  where
    or_assoc : (a b c : Bool) → (a || (b || c)) ≡ ((a || b) || c)
    or_assoc true b c = refl
    or_assoc false b c = refl

pub goes_on-append : (p at : Place) (xs ys : List Frame) → is_over p xs ≡ false → after_frames p xs ≡ at → is_over at ys ≡ false → is_over p (xs ++ ys) ≡ false
goes_on-append p at xs ys first to second = over-append p xs ys ∙ ap (λ b. b || is_over (after_frames p xs) ys) first ∙ ap (λ q. is_over q ys) to ∙ second

pub after_frames-append : (p : Place) (xs ys : List Frame) → after_frames p (xs ++ ys) ≡ after_frames (after_frames p xs) ys
after_frames-append p [] ys = refl
after_frames-append p (x ∷ xs) ys = after_frames-append (next_place p x) xs ys

pub none_past : (g : Grammar) (laws : IsGrammar g) (seg off : ℕ) (bytes : List ℕ) → length bytes ≤ off → g.frame_at seg off bytes ≡ None
none_past g laws seg off bytes short = elim (option_cases (g.frame_at seg off bytes)) [
  | inl none ↦ none
  | inr some ↦ absurd (omega (arith, short, laws.within seg off bytes some.0 some.1))
]

-- the place only rises
pub rises : (p : Place) (fs : List Frame) → (p.seg < (after_frames p fs).seg) ⊎ ((p.seg ≡ (after_frames p fs).seg) × (p.off + frames_len fs ≤ (after_frames p fs).off))
rises p [] = inr (refl, omega arith)
rises p (f ∷ fs) =
    let P : Bool → Type 0 = λ b. let q : Place = if b then place (p.seg + 1) 0 else place_after p f in
    ((q.seg < (after_frames q fs).seg) ⊎ ((q.seg ≡ (after_frames q fs).seg) × (q.off + frames_len fs ≤ (after_frames q fs).off)))
    → (p.seg < (after_frames q fs).seg) ⊎ ((p.seg ≡ (after_frames q fs).seg) × (p.off + (frame_len f + frames_len fs) ≤ (after_frames q fs).off)) in
    let cases : P (enters_next p f) = elim (enters_next p f) as P [
      | true ↦ λ h. elim h [ inl lt ↦ inl (omega (arith, lt)) | inr at ↦ inl (omega (arith, at.0)) ]
      | false ↦ λ h. elim h [ inl lt ↦ inl lt | inr at ↦ inr (at.0, omega (arith, at.1)) ]
    ] in
    cases (rises (next_place p f) fs)

pub next_rises : (p : Place) (f : Frame) → p.seg ≤ (next_place p f).seg
next_rises p f = elim (bool_cases (enters_next p f)) [
  | inl e ↦ subst (λ (q : Place). p.seg ≤ q.seg) (sym (next-enters p f e)) (omega arith)
  | inr e ↦ subst (λ (q : Place). p.seg ≤ q.seg) (sym (next-stays p f e)) (omega arith)
]

pub rises_from : (p : Place) (fs : List Frame) → p.seg ≤ (after_frames p fs).seg
rises_from p fs = elim (rises p fs) [ inl lt ↦ omega (arith, lt) | inr there ↦ omega (arith, there.0) ]

-- frames after which there is a next segment don't end the log
pub few_go_on : (p : Place) (fs : List Frame) → (after_frames p fs).seg + 1 < 2 ^ 64 → is_over p fs ≡ false
few_go_on p [] few = refl
few_go_on p (f ∷ fs) few = elim (bool_cases (ends_log p f)) [
  | inr goes_on ↦ ap (λ b. b || is_over (next_place p f) fs) goes_on ∙ few_go_on (next_place p f) fs few
  | inl ends ↦ absurd (omega (arith, (ends_last p f ends).1, next_rises p f, rises_from (next_place p f) fs, few))
]

-- ---- runs

pub run_join : (g : Grammar) (c : ℕ → List ℕ) (p : Place) (xs ys : List Frame) → HasFrames g c p xs → is_over p xs ≡ false → HasFrames g c (after_frames p xs) ys → HasFrames g c p (xs ++ ys)
run_join g c p [] ys first goes_on second = second
run_join g c p (x ∷ xs) ys first goes_on second =
    let parts = neither (ends_log p x) (is_over (next_place p x) xs) goes_on in
    (first.0, λ ends. let no : true ≡ false = sym ends ∙ parts.0 in absurd cc, run_join g c (next_place p x) xs ys first.2 parts.1 second)

-- the first so many bytes are the same
pub record Same (old new : List ℕ) (n : ℕ) : Type 0 where
  pub long : n ≤ length new
  pub same : (i : ℕ) → i < n → slice_get new i ≡ slice_get old i

-- where the bytes up to a place are the same, a run that ends there is the same
pub keeps_run : (g : Grammar) (laws : IsGrammar g) (old new : ℕ → List ℕ) (low : ℕ) (at p : Place) (fs : List Frame)
    → ((seg : ℕ) → low ≤ seg → seg < at.seg → Same (old seg) (new seg) (length (old seg)))
    → ((seg : ℕ) → seg ≡ at.seg → Same (old seg) (new seg) at.off)
    → low ≤ p.seg → HasFrames g old p fs → after_frames p fs ≡ at → HasFrames g new p fs
keeps_run g laws old new low at p [] older here le run to = tt
keeps_run g laws old new low at p (f ∷ fs) older here le run to =
    let fits = laws.within p.seg p.off (old p.seg) f run.0 in
    let up : (p.seg < at.seg) ⊎ ((p.seg ≡ at.seg) × (p.off + (frame_len f + frames_len fs) ≤ at.off)) = subst (λ (q : Place). (p.seg < q.seg) ⊎ ((p.seg ≡ q.seg) × (p.off + (frame_len f + frames_len fs) ≤ q.off))) to (rises p (f ∷ fs)) in
    let now : g.frame_at p.seg p.off (new p.seg) ≡ Some f = elim up [
      | inl lt ↦ let s = older p.seg le lt in laws.own p.seg p.off (old p.seg) (new p.seg) f run.0 (omega (arith, s.long, fits)) (λ i i_lt. s.same i (omega (arith, i_lt, fits)))
      | inr there ↦ let s = here p.seg there.0 in laws.own p.seg p.off (old p.seg) (new p.seg) f run.0 (omega (arith, s.long, there.1)) (λ i i_lt. s.same i (omega (arith, i_lt, there.1)))
    ] in
    (now, run.1, keeps_run g laws old new low at (next_place p f) fs older here (omega (arith, le, next_rises p f)) run.2 to)

-- ---- logs

-- a place has one log
pub one_log : (g : Grammar) (c : ℕ → List ℕ) (from : Place) (fs gs : List Frame) → IsLogFrom g c from fs → IsLogFrom g c from gs → fs ≡ gs
one_log g c from [] [] a b = refl
one_log g c from [] (h ∷ gs) a b = let none : None ≡ Some h = sym (a.ends refl) ∙ b.run.0 in absurd cc
one_log g c from (f ∷ fs) [] a b = let none : None ≡ Some f = sym (b.ends refl) ∙ a.run.0 in absurd cc
one_log g c from (f ∷ fs) (h ∷ gs) a b =
    let same : h ≡ f = same_Some h f (sym b.run.0 ∙ a.run.0) in
    let b_too : IsLogFrom g c from (f ∷ gs) = subst (λ x. IsLogFrom g c from (x ∷ gs)) same b in
    ap (λ xs. f ∷ xs) (rest b_too (one_log g c (next_place from f) fs gs)) ∙ ap (λ x. x ∷ gs) (sym same)
  where
    rest : IsLogFrom g c from (f ∷ gs) → (IsLogFrom g c (next_place from f) fs → IsLogFrom g c (next_place from f) gs → fs ≡ gs) → fs ≡ gs
    rest b_too again = elim (bool_cases (ends_log from f)) [
      | inl ends ↦ a.run.1 ends ∙ sym (b_too.run.1 ends)
      | inr goes_on ↦
          let left : IsLogFrom g c (next_place from f) fs = record { run = a.run.2; ends = λ still. a.ends (ap (λ b. b || is_over (next_place from f) fs) goes_on ∙ still) } in
          let right : IsLogFrom g c (next_place from f) gs = record { run = b_too.run.2; ends = λ still. b_too.ends (ap (λ b. b || is_over (next_place from f) gs) goes_on ∙ still) } in
          again left right
    ]

-- what a run begins with, the log begins with
pub run_begins : (g : Grammar) (c : ℕ → List ℕ) (from : Place) (xs fs : List Frame) → HasFrames g c from xs → IsLogFrom g c from fs → (rest : List Frame) × (fs ≡ xs ++ rest)
run_begins g c from [] fs run log = (fs, refl)
run_begins g c from (x ∷ xs) [] run log = let none : None ≡ Some x = sym (log.ends refl) ∙ run.0 in absurd cc
run_begins g c from (x ∷ xs) (f ∷ fs) run log =
    let same : f ≡ x = same_Some f x (sym log.run.0 ∙ run.0) in
    let more = by (subst (λ y. IsLogFrom g c from (y ∷ fs)) same log) (run_begins g c (next_place from x) xs fs run.2) in
    (more.0, ap (λ y. y ∷ fs) same ∙ ap (λ gs. x ∷ gs) more.1)
  where
    by : IsLogFrom g c from (x ∷ fs) → (IsLogFrom g c (next_place from x) fs → (rest : List Frame) × (fs ≡ xs ++ rest)) → (rest : List Frame) × (fs ≡ xs ++ rest)
    by log_too again = elim (bool_cases (ends_log from x)) [
      | inl ends ↦ let none = run.1 ends in (fs, ap (λ ys. ys ++ fs) (sym none))
      | inr goes_on ↦
          let left : IsLogFrom g c (next_place from x) fs = record { run = log_too.run.2; ends = λ still. log_too.ends (ap (λ b. b || is_over (next_place from x) fs) goes_on ∙ still) } in
          again left
    ]

pub run_last : (g : Grammar) (c : ℕ → List ℕ) (from : Place) (xs : List Frame) (f : Frame) → HasFrames g c from (xs ++ f ∷ []) → g.frame_at (after_frames from xs).seg (after_frames from xs).off (c (after_frames from xs).seg) ≡ Some f
run_last g c from [] f run = run.0
run_last g c from (x ∷ xs) f run = run_last g c (next_place from x) xs f run.2

-- no frame
pub log_none : (g : Grammar) (c : ℕ → List ℕ) (p : Place) → g.frame_at p.seg p.off (c p.seg) ≡ None → ((seg : ℕ) → p.seg < seg → c seg ≡ []) → IsLogWithNothingAbove g c p []
log_none g c p none clear = record { log = record { run = tt; ends = λ _. none }; nothing_above = clear }

pub log_cons : (g : Grammar) (c : ℕ → List ℕ) (p q : Place) (f : Frame) (fs : List Frame) → g.frame_at p.seg p.off (c p.seg) ≡ Some f → ends_log p f ≡ false → next_place p f ≡ q → IsLogWithNothingAbove g c q fs → IsLogWithNothingAbove g c p (f ∷ fs)
log_cons g c p q f fs here goes_on to log =
    let rest : IsLogWithNothingAbove g c (next_place p f) fs = subst (λ (r : Place). IsLogWithNothingAbove g c r fs) (sym to) log in
    record {
      log = record {
        run = (here, λ ends. let no : true ≡ false = sym ends ∙ goes_on in absurd cc, rest.log.run);
        ends = λ still. rest.log.ends (neither (ends_log p f) (is_over (next_place p f) fs) still).1;
      };
      nothing_above = rest.nothing_above;
    }

-- a run, and the log after it
pub log_join : (g : Grammar) (c : ℕ → List ℕ) (p : Place) (xs ys : List Frame) → HasFrames g c p xs → is_over p xs ≡ false → IsLogWithNothingAbove g c (after_frames p xs) ys → IsLogWithNothingAbove g c p (xs ++ ys)
log_join g c p [] ys run goes_on log = log
log_join g c p (f ∷ xs) ys run goes_on log =
    let parts = neither (ends_log p f) (is_over (next_place p f) xs) goes_on in
    log_cons g c p (next_place p f) f (xs ++ ys) run.0 parts.0 refl (log_join g c (next_place p f) xs ys run.2 parts.1 log)

-- ---- what a crash leaves

-- the log from a place is a front of these frames
pub record Front (g : Grammar) (c : ℕ → List ℕ) (p : Place) (pending : List Frame) : Type 0 where
  pub count : ℕ
  pub fits : count ≤ length pending
  pub log : IsLogWithNothingAbove g c p (take count pending)

-- where nothing but these frames ever stood there, the log after the place is a front of them
pub front_of : (g : Grammar) (laws : IsGrammar g) (c : ℕ → List ℕ) (seg off : ℕ) (file : File) (pending : List Frame) → OnlyTheseStood g seg file off pending
    → ((at : ℕ) (x : Frame) → g.frame_at seg at (c seg) ≡ Some x → (k : ℕ) × (k ≤ length file.since) × (g.frame_at seg at (bytes_of (at_change file k)) ≡ Some x))
    → ((s : ℕ) → seg < s → c s ≡ []) → Front g c (place seg off) pending
front_of g laws c seg off file [] stood honest clear = elim (option_cases (g.frame_at seg off (c seg))) [
  | inl none ↦ record { count = 0; fits = omega arith; log = log_none g c (place seg off) none clear }
  | inr some ↦
      let was = honest off some.0 some.1 in
      let no : None ≡ Some some.0 = sym (stood was.0 was.1) ∙ was.2 in cc
]
front_of g laws c seg off file (f ∷ fs) stood honest clear = elim (option_cases (g.frame_at seg off (c seg))) [
  | inl none ↦ record { count = 0; fits = omega arith; log = log_none g c (place seg off) none clear }
  | inr some ↦
      let was = honest off some.0 some.1 in
      let here : g.frame_at seg off (c seg) ≡ Some f = some.1 ∙ ap (λ (x : Frame). Some x) (stood.0 was.0 some.0 was.1 was.2) in
      let p : Place = place seg off in
      elim (bool_cases (is_seal f)) [
        | inl sealed ↦
            let q : Place = place (seg + 1) 0 in
            let inner = (stood.1 sealed).1 in
            let none : g.frame_at (seg + 1) 0 (c (seg + 1)) ≡ None = none_past g laws (seg + 1) 0 (c (seg + 1)) (let e = ap (λ (l : List ℕ). length l) (clear (seg + 1) (omega arith)) in omega (arith, e)) in
            let rest : IsLogWithNothingAbove g c q [] = log_none g c q none (λ s lt. clear s (omega (arith, lt))) in
            record { count = 1; fits = omega arith; log = log_cons g c p q f [] here (seal_goes_on p f sealed inner) (next-seal p f sealed inner) rest }
        | inr plain ↦
            let q : Place = place seg (off + frame_len f) in
            let rest : Front g c q fs = front_of g laws c seg (off + frame_len f) file fs (stood.2 plain) honest clear in
            record { count = suc rest.count; fits = omega (arith, rest.fits); log = log_cons g c p q f (take rest.count fs) here (plain_goes_on p f plain) (next-plain p f plain) rest.log }
      ]
]

-- What every true image of the log has: what was lasting, and a front of what was pending.
pub record LogLeft (g : Grammar) (log : ℕ → File) (low : ℕ) (at : Place) (pending : List Frame) (c : ℕ → List ℕ) : Type 0 where
  pub front : Front g c at pending
  pub long : at.off ≤ length (c at.seg)
  pub kept : (p : Place) (fs : List Frame) → HasLasting g log low at p fs → HasFrames g c p fs

pub log_image : (g : Grammar) (laws : IsGrammar g) (log : ℕ → File) (low : ℕ) (at : Place) (pending : List Frame) (tail : Tail) (left : ℕ → Option (List ℕ)) → FilesHoldLog g log low at pending tail
    → ((seg : ℕ) → Leaves (log seg) (left seg)) → ((seg : ℕ) → IsTrueOf (g.frame_at seg) (log seg) (left seg)) → LogLeft g log low at pending (λ seg. bytes_of (left seg))
log_image g laws log low at pending tail left files leaves honest = record {
  front = front_of g laws (λ seg. bytes_of (left seg)) at.seg at.off (log at.seg) pending files.stood (λ off x is. (honest at.seg).stood off x is)
      (λ s lt. nil_from_length (bytes_of (left s)) (let le = no_longer (log s) 0 (left s) (files.above s lt) (leaves s) in omega (arith, le)));
  long = (kept (log at.seg) at.off (left at.seg) files.below (leaves at.seg)).long;
  kept = λ p fs leads. keeps_run g laws (forced_contents log) (λ seg. bytes_of (left seg)) low at p fs
      (λ seg le lt. let k = kept (log seg) (length (bytes_of (log seg).forced)) (left seg) (quiet_below (log seg) (files.older seg le lt)) (leaves seg) in record { long = k.long; same = k.same })
      (λ seg is. let k = kept (log seg) at.off (left seg) (subst (λ s. Lasting (log s) 0 at.off) (sym is) files.below) (leaves seg) in record { long = k.long; same = k.same })
      leads.kept leads.run leads.to;
}
