-- The fields of an item, written one after the other.
use Rattle.std.proofs.Common.{◌≡◌, ℕ, ◌+◌, ◌-◌, ◌≤◌, List, [], ◌∷◌, length, get_or, replicate, sym, ap, ◌∙◌, arith}
use Rattle.pm_types.specs.Spans.{IsInSpan, span_of}
use Rattle.pm_types.specs.Pages.{SameOutside}
use Rattle.pm_types.specs.Fields.{bytes_at, u64_at}
use Rattle.pm_types.proofs.Changes.{outside_then}
use Rattle.pm_types.proofs.Unchanged.{get_or-bytes_at, bytes_same, are_zeros}
use Rattle.pm_btpage.specs.IndexPages.{item_at, offset_of, IsItem}

pub record WritesItem (was now key : List ℕ) (i word : ℕ) : Type 0 where
  pub item : item_at now i ≡ record { key = key; word = word }
  pub sound : IsItem now i
  pub outside : SameOutside (IsInSpan (span_of (offset_of i) 73)) was now

pub item_written : (p0 p1 p2 p3 p4 key : List ℕ) (i a word : ℕ) → a ≡ offset_of i → offset_of i + 73 ≤ length p0 → 1 ≤ length key → length key ≤ 64 →
    SameOutside (IsInSpan (span_of a 1)) p0 p1 → bytes_at p1 a 1 ≡ length key ∷ [] →
    SameOutside (IsInSpan (span_of (a + 1) (length key))) p1 p2 → bytes_at p2 (a + 1) (length key) ≡ key →
    SameOutside (IsInSpan (span_of (a + 1 + length key) (64 - length key))) p2 p3 → bytes_at p3 (a + 1 + length key) (64 - length key) ≡ replicate (64 - length key) 0 →
    SameOutside (IsInSpan (span_of (a + 65) 8)) p3 p4 → u64_at p4 (a + 65) ≡ word → WritesItem p0 p4 key i word
item_written p0 p1 p2 p3 p4 key i a word a_is fits some short o1 len_is o2 key_is o3 zeros_are o4 word_is =
    let l = length key in
    let W = IsInSpan (span_of (offset_of i) 73) in
    let first = outside_then (IsInSpan (span_of a 1)) (IsInSpan (span_of (a + 1) l)) W p0 p1 p2 o1 o2 (λ k h. (omega (arith, h.0, a_is), omega (arith, h.1, a_is))) (λ k h. (omega (arith, h.0, a_is), omega (arith, h.1, a_is, short))) in
    let second = outside_then (IsInSpan (span_of (a + 1 + l) (64 - l))) (IsInSpan (span_of (a + 65) 8)) W p2 p3 p4 o3 o4 (λ k h. (omega (arith, h.0, a_is), omega (arith, h.1, a_is, short))) (λ k h. (omega (arith, h.0, a_is), omega (arith, h.1, a_is))) in
    let a0 : a ≡ a + 0 = omega arith in
    let len_then : get_or p1 a 0 ≡ l = ap (λ k. get_or p1 k 0) a0 ∙ sym (get_or-bytes_at p1 a 1 0 (omega arith)) ∙ ap (λ (t : List ℕ). get_or t 0 0) len_is in
    let len_now : get_or p4 a 0 ≡ l = o4.bytes a (λ h. omega (arith, h.0)) ∙ o3.bytes a (λ h. omega (arith, h.0)) ∙ o2.bytes a (λ h. omega (arith, h.0)) ∙ len_then in
    let len_here : get_or p4 (offset_of i) 0 ≡ l = ap (λ k. get_or p4 k 0) (sym a_is) ∙ len_now in
    let key_now : bytes_at p4 (a + 1) l ≡ key =
    bytes_same (IsInSpan (span_of (a + 65) 8)) p3 p4 (a + 1) l o4 (omega (arith, a_is, fits, short, o3.size, o2.size, o1.size)) (λ k ge lt h. omega (arith, lt, short, h.0))
    ∙ bytes_same (IsInSpan (span_of (a + 1 + l) (64 - l))) p2 p3 (a + 1) l o3 (omega (arith, a_is, fits, short, o2.size, o1.size)) (λ k ge lt h. omega (arith, lt, h.0)) ∙ key_is in
    let key_here : bytes_at p4 (offset_of i + 1) (get_or p4 (offset_of i) 0) ≡ key = ap (bytes_at p4 (offset_of i + 1)) len_here ∙ ap (λ q. bytes_at p4 (q + 1) l) (sym a_is) ∙ key_now in
    let word_here : u64_at p4 (offset_of i + 65) ≡ word = ap (λ q. u64_at p4 (q + 65)) (sym a_is) ∙ word_is in
    let zeros = are_zeros p3 (a + 1 + l) (64 - l) zeros_are in
    record {
      item = λ t. record { key = key_here t; word = word_here t };
      sound = record {
        some = omega (arith, len_here, some);
        short = omega (arith, len_here, short);
        padding = λ k ge lt. o4.bytes k (λ h. omega (arith, lt, h.0, a_is)) ∙ zeros k (omega (arith, len_here, ge, a_is)) (omega (arith, lt, short, a_is));
      };
      outside = outside_then W W W p0 p2 p4 first second (λ k h. h) (λ k h. h);
    }
