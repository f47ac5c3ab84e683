-- The delta of a page that is made of its patch is a delta, and gives the page.
use Rattle.std.proofs.Common.{◌≡◌, ℕ, suc, ◌+◌, ◌-◌, ◌^◌, ◌<◌, ◌≤◌, ◌⊎◌, List, [], ◌∷◌, ◌++◌, length, take, drop, get_or, subst, refl, sym, ap, ◌∙◌, inl, inr, arith}
use Rattle.std.specs.Prelude.{slice_range}
use Rattle.std.specs.List.{splice}
use Rattle.std.proofs.lemmas.Nat.{from_le_bytes-to_le_bytes_2}
use Rattle.std.proofs.lemmas.List.{take_at, drop_at, drop-drop, length-take, length-drop, length-append, length-take-le, get_or_append_left, get_or-append_right, get_or-take, get_or-drop}
use Rattle.std.proofs.lemmas.Bool.{cases_lt}
use Rattle.std.proofs.lemmas.Grind.{same_number_lists}
use Rattle.pm_types.specs.declared.spans.Span.{Span}
use Rattle.pm_types.specs.Spans.{IsInSpans, RiseFrom}
use Rattle.pm_types.specs.Pages.{SameOutside}
use Rattle.pm_types.specs.Fields.{bytes_at, u16_at}
use Rattle.pm_types.specs.DeltaRanges.{start_of, len_of, end_of, front_bytes, after_front, AreRanges, with_front, with_ranges}
use Rattle.pm_pages.specs.Deltas.{range_bytes, ranges_bytes}

-- what a range's bytes say, with anything after them
pub record Says (page : List ℕ) (span : Span) (ranges rest : List ℕ) : Type 0 where
  pub start : start_of ranges ≡ span.start
  pub len : len_of ranges ≡ span.end - span.start
  pub bytes : front_bytes ranges ≡ slice_range page span.start span.end
  pub after_front : after_front ranges ≡ rest
  pub long : 4 + (span.end - span.start) ≤ length ranges

pub says : (page : List ℕ) (span : Span) (rest : List ℕ) → span.start < span.end → span.end ≤ length page → length page < 2 ^ 16 → Says page span (range_bytes page span ++ rest) rest
unfolding u16_at
says page span rest some within small =
    let n : ℕ = span.end - span.start in
    let body : List ℕ = slice_range page span.start span.end in
    let long : length body ≡ n = omega (arith, length-take (span.end - span.start) (drop span.start page), length-drop span.start page) in
    let start = from_le_bytes-to_le_bytes_2 span.start (omega arith) in
    let len = from_le_bytes-to_le_bytes_2 n (omega arith) in
    let ranges : List ℕ = range_bytes page span ++ rest in
    let front : bytes_at ranges 4 n ≡ body = take_at body rest (4 + n - 4) (omega arith) in
    let left : drop (4 + n) ranges ≡ rest = sym (drop-drop n 4 ranges) ∙ drop_at body rest n long in
    record {
      start = start;
      len = len;
      bytes = ap (bytes_at ranges 4) len ∙ front;
      after_front = ap (λ m. drop (4 + m) ranges) len ∙ left;
      long = omega (arith, length-append body rest);
    }

-- a range at the front, and ranges after it
front_and_rest : (page : List ℕ) (span : Span) (number low : ℕ) (ranges rest : List ℕ) → Says page span ranges rest → low ≤ span.start → span.start < span.end → span.end ≤ length page → AreRanges number span.end (length page) rest → AreRanges (suc number) low (length page) ranges
front_and_rest page span number low ranges rest says' le some within are =
    let end : end_of ranges ≡ span.end = omega (arith, says'.start, says'.len) in
    let P : ℕ × List ℕ → Type 0 = λ p. AreRanges number p.0 (length page) p.1 in (
      record {
        head = omega (arith, says'.long);
        rises = omega (arith, says'.start);
        some = omega (arith, says'.len);
        within = omega (arith, end);
        whole = omega (arith, says'.len, says'.long);
      },
      subst P (λ i. (sym end i, sym says'.after_front i)) are,
    )

-- the ranges of a patch are ranges of a delta
pub are_ranges : (page : List ℕ) (spans : List Span) (low low' : ℕ) → RiseFrom low' spans → low ≤ low' → ((k : ℕ) → IsInSpans spans k → k < length page) → length page < 2 ^ 16 → AreRanges (length spans) low (length page) (ranges_bytes page spans)
are_ranges page [] low low' rise le within small = refl
are_ranges page (span ∷ spans) low low' rise le within small =
    let some = rise.1 in
    let last : span.end - 1 < length page = within (span.end - 1) (inl (omega (arith, some), omega (arith, some))) in
    front_and_rest page span (length spans) low (ranges_bytes page (span ∷ spans)) (ranges_bytes page spans)
    (says page span (ranges_bytes page spans) some (omega (arith, some, last)) small)
    (omega (arith, rise.0)) some (omega (arith, some, last))
    (are_ranges page spans span.end (span.end + 1) rise.2 (omega arith) (λ k h. within k (inr h)) small)

-- a page with the bytes of a range differs from the page that they are of in the other places alone
splice_same : (page was : List ℕ) (start end : ℕ) (others : ℕ → Type 0) → start ≤ end → end ≤ length page → SameOutside (λ k. ((start ≤ k) × (k < end)) ⊎ others k) was page → SameOutside others (splice was start end (slice_range page start end)) page
splice_same page was start end others le within same =
    let n : ℕ = end - start in
    let e : start + n ≡ end = omega arith in
    let body : List ℕ = slice_range page start end in
    let long : length body ≡ n = omega (arith, length-take (end - start) (drop start page), length-drop start page) in
    let front : length (take start was) ≡ start = length-take-le start was (omega (arith, same.size)) in
    let size : length (splice was start end body) ≡ length was = omega (arith, length-append (take start was) (body ++ drop end was), length-append body (drop end was), length-drop end was, same.size) in
    record {
      size = same.size ∙ sym size;
      bytes = λ k away. elim (cases_lt k start) [
        | inl below ↦ same.bytes k (λ h. elim h [ inl inside ↦ absurd (omega (arith, inside.0)) | inr other ↦ away other ]) ∙ sym (get_or_append_left (take start was) _ 0 k (omega arith) ∙ get_or-take start was k 0 below)
        | inr from ↦ elim (cases_lt k end) [
          | inl inside ↦
              let here : start + (k - start) ≡ k = omega arith in
              sym (get_or-append_right (take start was) _ start k 0 front from ∙ get_or_append_left body _ 0 (k - start) (omega (arith, long)) ∙ get_or-take n (drop start page) (k - start) 0 (omega arith) ∙ get_or-drop start page (k - start) 0 ∙ ap (λ q. get_or page q 0) here)
          | inr above ↦
              let here : end + (k - start - n) ≡ k = omega arith in
              same.bytes k (λ h. elim h [ inl inside ↦ absurd (omega (arith, inside.1)) | inr other ↦ away other ]) ∙ sym (get_or-append_right (take start was) _ start k 0 front from ∙ get_or-append_right body _ n (k - start) 0 long (omega arith) ∙ get_or-drop end was (k - start - n) 0 ∙ ap (λ q. get_or was q 0) here)
        ]
      ];
    }

-- the page with the range at the front
front_is : (page was : List ℕ) (span : Span) (ranges rest : List ℕ) → Says page span ranges rest → span.start < span.end → with_front ranges was ≡ splice was span.start span.end (slice_range page span.start span.end)
front_is page was span ranges rest says' some =
    let end : end_of ranges ≡ span.end = omega (arith, says'.start, says'.len) in
    ap (λ (p : ℕ × ℕ × List ℕ). splice was p.0 p.1 p.2) (λ i. (says'.start i, end i, says'.bytes i))

-- what differs from the page in these ranges alone is the page once they are applied
pub with_own_ranges : (page : List ℕ) (spans : List Span) (low : ℕ) (was : List ℕ) → RiseFrom low spans → ((k : ℕ) → IsInSpans spans k → k < length page) → length page < 2 ^ 16 → SameOutside (IsInSpans spans) was page → with_ranges (length spans) (ranges_bytes page spans) was ≡ page
with_own_ranges page [] low was rise within small same = same_number_lists was page (sym same.size) (λ k lt. sym (same.bytes k (λ h. h)))
with_own_ranges page (span ∷ spans) low was rise within small same =
    let some = rise.1 in
    let last : span.end - 1 < length page = within (span.end - 1) (inl (omega (arith, some), omega (arith, some))) in
    let fits : span.end ≤ length page = omega (arith, some, last) in
    let rest : List ℕ = ranges_bytes page spans in
    let says' = says page span rest some fits small in
    let ranges : List ℕ = ranges_bytes page (span ∷ spans) in
    let after : List ℕ = splice was span.start span.end (slice_range page span.start span.end) in
    ap (λ (p : List ℕ × List ℕ). with_ranges (length spans) p.0 p.1) (λ i. (says'.after_front i, front_is page was span ranges rest says' some i))
    ∙ with_own_ranges page spans (span.end + 1) after rise.2 (λ k h. within k (inr h)) small (splice_same page was span.start span.end (IsInSpans spans) (omega (arith, some)) fits same)
