-- A mark that is valid in a slot decides the slot's bytes, and its bytes alone say it.
use Rattle.std.proofs.Common.{◌≡◌, ◌⊎◌, inl, inr, ℕ, ◌+◌, ◌<◌, ◌≤◌, ◌^◌, true, false, Bool, eqb, List, length, take, drop, Option, Some, None, refl, sym, ap, subst, ◌∙◌, arith}
use Rattle.std.specs.Prelude.{replicate, ◌&&◌, nat_eq, nat_le, nat_lt}
use Rattle.std.specs.Cmp.Lexicographic.{pointwise}
use Rattle.std.proofs.lemmas.Bool.{and_parts, and_from, eqb-true, eq-eqb, cases_lt, false≢true}
use Rattle.std.proofs.lemmas.Bool.Decides.{Decides-eqb, nat_tests}
use Rattle.std.proofs.lemmas.List.{length-take, length-drop}
use Rattle.std.proofs.lemmas.Nat.{from_le_bytes-to_le_bytes_2, from_le_bytes-to_le_bytes_4, from_le_bytes-to_le_bytes_8}
use Rattle.std.proofs.lemmas.Option.{cond_some}
use Rattle.std.proofs.lemmas.Slice.Eq.{slice_eq-Decides}
use Rattle.pm_types.specs.declared.place.Place.{Place}
use Rattle.pm_types.specs.declared.shape.Mark.{Mark}
use Rattle.pm_types.specs.Fields.{u16_at, u32_at, u64_at}
use Rattle.pm_types.specs.Shapes.{is_shape}
use Rattle.pm_disk.specs.Files.{bytes_of, ReadsWhole}
use Rattle.pm_disk.specs.Worlds.{slot_at}
use Rattle.pm_disk.specs.declared.mark.TheConstants.{SLOT_LEN}
use Rattle.pm_records.specs.Records.{Restart}
use Rattle.pm_records.specs.Shapes.{shape_bytes}
use Rattle.pm_records.proofs.GrammarTests.{IsRecord-from, record_passes}
use Rattle.pm_records.proofs.ShapeBytes.{ShapeFits-from}
use Rattle.pm_marks.specs.Slots.{IsMark, IsMarkPlace, slot_of, marked_bytes, slot_bytes, is_mark, is_mark_place, named_mark, mark_in, bytes_in_slot, mark_at}
use Rattle.pm_marks.specs.InForce.{has_slot}

-- a slot has 64 bytes
pub length-slot_bytes : (mark : Mark) → length (slot_bytes mark) ≡ SLOT_LEN
unfolding slot_bytes marked_bytes shape_bytes
length-slot_bytes mark = refl

-- ---- the tests

place_passes : (p : Place) → IsMarkPlace p → is_mark_place p ≡ true
place_passes p h = grind (arith, nat_tests)

IsMarkPlace-from : (p : Place) → is_mark_place p ≡ true → IsMarkPlace p
IsMarkPlace-from p t = record {
  numbered = grind (arith, nat_tests);
  seg_fits = grind (arith, nat_tests);
  within = grind (arith, nat_tests);
}

five_pass : (a b c d e f : Bool) → a ≡ true → b ≡ true → c ≡ true → d ≡ true → e ≡ true → f ≡ true → (a && b && c && d && e && f) ≡ true
five_pass a b c d e f p q r s t u =
    and_from (a && b && c && d && e) f (and_from (a && b && c && d) e (and_from (a && b && c) d (and_from (a && b) c (and_from a b p q) r) s) t) u

pub mark_passes : (mark : Mark) → IsMark mark → is_mark mark ≡ true
mark_passes mark h =
    let from : nat_le 1 mark.number ≡ true = let le = h.numbered in grind (arith, nat_tests) in
    let fits : nat_lt mark.number (2 ^ 64) ≡ true = let lt = h.number_fits in grind (arith, nat_tests) in
    five_pass (nat_le 1 mark.number) (nat_lt mark.number (2 ^ 64)) (is_mark_place mark.begin) (is_mark_place mark.replay) (is_mark_place mark.from)
    (is_shape mark.shape) from fits (place_passes mark.begin h.begin) (place_passes mark.replay h.replay) (place_passes mark.from h.from)
    (record_passes (Restart mark.shape) h.shape)

pub IsMark-from : (mark : Mark) → is_mark mark ≡ true → IsMark mark
IsMark-from mark t =
    let from = nat_le 1 mark.number in
    let fits = nat_lt mark.number (2 ^ 64) in
    let begin = is_mark_place mark.begin in
    let replay = is_mark_place mark.replay in
    let comes = is_mark_place mark.from in
    let a = and_parts (from && fits && begin && replay && comes) (is_shape mark.shape) t in
    let b = and_parts (from && fits && begin && replay) comes a.0 in
    let c = and_parts (from && fits && begin) replay b.0 in
    let d = and_parts (from && fits) begin c.0 in
    let e = and_parts from fits d.0 in
    record {
      numbered = let le = e.0 in grind (arith, nat_tests);
      number_fits = let lt = e.1 in grind (arith, nat_tests);
      begin = IsMarkPlace-from mark.begin d.1;
      replay = IsMarkPlace-from mark.replay c.1;
      from = IsMarkPlace-from mark.from b.1;
      shape = IsRecord-from (Restart mark.shape) a.1;
    }

pub same_bytes : (a b : List ℕ) → a ≡ b → pointwise nat_eq a b ≡ true
same_bytes a b e = (slice_eq-Decides Decides-eqb a b _ refl).1 e

pub bytes_same : (a b : List ℕ) → pointwise nat_eq a b ≡ true → a ≡ b
bytes_same a b t = (slice_eq-Decides Decides-eqb a b _ refl).0 t

-- ---- what is spelled names itself

place_again : (p : Place) → IsMarkPlace p → p.off < 2 ^ 32
place_again p h = omega (arith, h.within)

pub named_mark-bytes : (mark : Mark) → IsMark mark → named_mark (slot_bytes mark) ≡ mark
unfolding named_mark slot_bytes marked_bytes shape_bytes u16_at u32_at u64_at
named_mark-bytes mark h =
    let number = from_le_bytes-to_le_bytes_8 mark.number h.number_fits in
    let begin_seg = from_le_bytes-to_le_bytes_8 mark.begin.seg h.begin.seg_fits in
    let begin_off = from_le_bytes-to_le_bytes_4 mark.begin.off (place_again mark.begin h.begin) in
    let replay_seg = from_le_bytes-to_le_bytes_8 mark.replay.seg h.replay.seg_fits in
    let replay_off = from_le_bytes-to_le_bytes_4 mark.replay.off (place_again mark.replay h.replay) in
    let from_seg = from_le_bytes-to_le_bytes_8 mark.from.seg h.from.seg_fits in
    let from_off = from_le_bytes-to_le_bytes_4 mark.from.off (place_again mark.from h.from) in
    let fits = ShapeFits-from mark.shape h.shape in
    let size = from_le_bytes-to_le_bytes_4 mark.shape.page_size fits.page_size in
    let partitions = from_le_bytes-to_le_bytes_2 mark.shape.partitions fits.partitions in
    let version = from_le_bytes-to_le_bytes_2 mark.shape.version fits.version in
    let rows = from_le_bytes-to_le_bytes_4 mark.shape.max_rows fits.max_rows in
    let segment = from_le_bytes-to_le_bytes_4 mark.shape.segment_bytes fits.segment_bytes in
    λ i. record {
      number = number i;
      begin = record { seg = begin_seg i; off = begin_off i };
      replay = record { seg = replay_seg i; off = replay_off i };
      from = record { seg = from_seg i; off = from_off i };
      shape = record { page_size = size i; partitions = partitions i; version = version i; max_rows = rows i; segment_bytes = segment i };
    }

-- ---- both ways

pub mark_in-some : (slot : ℕ) (bytes : List ℕ) (mark : Mark) → mark_in slot bytes ≡ Some mark
    → IsMark mark × (slot_of mark.number ≡ slot) × (bytes ≡ slot_bytes mark)
unfolding mark_in
mark_in-some slot bytes mark e =
    let named = named_mark bytes in
    let same = pointwise nat_eq bytes (slot_bytes named) in
    let t = cond_some (is_mark named && eqb (slot_of named.number) slot && same) named mark e in
    let p = and_parts (is_mark named && eqb (slot_of named.number) slot) same t.0 in
    let q = and_parts (is_mark named) (eqb (slot_of named.number) slot) p.0 in
    subst (λ m. IsMark m × (slot_of m.number ≡ slot) × (bytes ≡ slot_bytes m)) t.1
    (IsMark-from named q.0, eqb-true (slot_of named.number) slot q.1, bytes_same bytes (slot_bytes named) p.1)

pub mark_in-bytes : (slot : ℕ) (bytes : List ℕ) (mark : Mark) → IsMark mark → slot_of mark.number ≡ slot → bytes ≡ slot_bytes mark
    → mark_in slot bytes ≡ Some mark
unfolding mark_in
mark_in-bytes slot bytes mark h at spelled =
    let named : named_mark bytes ≡ mark = ap named_mark spelled ∙ named_mark-bytes mark h in
    let same : pointwise nat_eq bytes (slot_bytes mark) ≡ true = same_bytes bytes (slot_bytes mark) spelled in
    rw (named, mark_passes mark h, eq-eqb (slot_of mark.number) slot at, same) refl

pub option_cases : {A : Type 0} (o : Option A) → (o ≡ None) ⊎ ((a : A) × (o ≡ Some a))
option_cases None = inl refl
option_cases (Some a) = inr (a, refl)

-- where the mark that the bytes name isn't valid there, none is
pub mark_in-none : (slot : ℕ) (bytes : List ℕ) (mark : Mark) → mark ≡ named_mark bytes
    → (IsMark mark → slot_of mark.number ≡ slot → bytes ≡ slot_bytes mark → ⊥) → mark_in slot bytes ≡ None
mark_in-none slot bytes mark is never = elim (option_cases (mark_in slot bytes)) [
  | inl none ↦ none
  | inr some ↦
      let found = mark_in-some slot bytes some.0 some.1 in
      let same : some.0 ≡ mark = sym (named_mark-bytes some.0 found.0) ∙ ap named_mark (sym found.2) ∙ sym is in
      absurd (never (subst IsMark same found.0) (ap (λ (m : Mark). slot_of m.number) (sym same) ∙ found.1) (found.2 ∙ ap slot_bytes same))
]

-- bytes of another length are no slot
pub mark_in-length : (slot : ℕ) (bytes : List ℕ) → (length bytes ≡ SLOT_LEN → ⊥) → mark_in slot bytes ≡ None
mark_in-length slot bytes other = elim (option_cases (mark_in slot bytes)) [
  | inl none ↦ none
  | inr some ↦
      let found = mark_in-some slot bytes some.0 some.1 in
      absurd (other (ap length found.2 ∙ length-slot_bytes some.0))
]

-- a slot that isn't there in full is none
pub mark_at-short : (slot : ℕ) (file : List ℕ) → length file < slot_at slot + SLOT_LEN → mark_at slot file ≡ None
mark_at-short slot file few =
    mark_in-length slot (bytes_in_slot slot file) (λ long. omega (arith, long, few, length-take SLOT_LEN (drop (slot_at slot) file), length-drop (slot_at slot) file))

pub mark_within : (slot : ℕ) (file : List ℕ) (mark : Mark) → mark_at slot file ≡ Some mark → slot_at slot + SLOT_LEN ≤ length file
mark_within slot file mark e =
    let long = ap length (mark_in-some slot (bytes_in_slot slot file) mark e).2 ∙ length-slot_bytes mark in
    omega (arith, long, length-take SLOT_LEN (drop (slot_at slot) file), length-drop (slot_at slot) file)

-- zeros are no slot
pub zeros_are_none : (slot : ℕ) (file : List ℕ) → bytes_in_slot slot file ≡ replicate SLOT_LEN 0 → mark_at slot file ≡ None
unfolding named_mark u64_at
zeros_are_none slot file zeros = elim (option_cases (mark_at slot file)) [
  | inl none ↦ none
  | inr some ↦
      let mark = some.0 in
      let found = mark_in-some slot (bytes_in_slot slot file) mark some.1 in
      let is : slot_bytes mark ≡ replicate SLOT_LEN 0 = sym found.2 ∙ zeros in
      let number : 0 ≡ mark.number = ap (λ bytes. (named_mark bytes).number) (sym is) ∙ ap (λ (m : Mark). m.number) (named_mark-bytes mark found.0) in
      absurd (omega (arith, number, found.0.numbered))
]

-- where the file ends before the slot does, no mark has its slot there
pub has_slot-short : (file : List ℕ) (mark : Mark) → length file < slot_at (slot_of mark.number) + SLOT_LEN → has_slot file mark ≡ false
has_slot-short file mark few =
    let P : Bool → Type 0 = λ b. has_slot file mark ≡ b → has_slot file mark ≡ false in
    let cases : P (has_slot file mark) =
    elim (has_slot file mark) as P [
      | false ↦ λ e. e
      | true ↦ λ e.
          let slot = slot_of mark.number in
          let long = ap length (bytes_same (bytes_in_slot slot file) (slot_bytes mark) e) ∙ length-slot_bytes mark in
          absurd (omega (arith, few, long, length-take SLOT_LEN (drop (slot_at slot) file), length-drop (slot_at slot) file))
    ]
    in
    cases refl

-- what a read answers of a slot that isn't there in full
pub unread : (file : Option (List ℕ)) (slot : ℕ) (whole : Bool) (buffer : List ℕ) → length buffer ≡ SLOT_LEN → ReadsWhole file (slot_at slot) whole buffer
    → whole ≡ false → length (bytes_of file) < slot_at slot + SLOT_LEN
unread file slot whole buffer long reads not_whole = elim (cases_lt (length (bytes_of file)) (slot_at slot + SLOT_LEN)) [
  | inl few ↦ few
  | inr enough ↦ absurd (false≢true (sym not_whole ∙ reads.there.1 (omega (arith, long, enough))))
]

-- what a read found of a slot that is there in full
pub read_in_full : (file : Option (List ℕ)) (slot : ℕ) (whole : Bool) (buffer : List ℕ) → length buffer ≡ SLOT_LEN → ReadsWhole file (slot_at slot) whole buffer
    → whole ≡ true → buffer ≡ bytes_in_slot slot (bytes_of file)
read_in_full file slot whole buffer long reads is_whole = reads.found is_whole ∙ ap (λ n. take n (drop (slot_at slot) (bytes_of file))) long
