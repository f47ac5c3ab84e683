-- Changes of a page: what one of them leaves, two in a row, and their patch.
use Rattle.std.proofs.Common.{◌≡◌, ℕ, ◌+◌, ◌-◌, ◌<◌, ◌≤◌, List, ◌++◌, length, take, drop, get_or, ap, ◌∙◌, inl, inr, arith}
use Rattle.std.proofs.lemmas.Bool.{cases_lt}
use Rattle.std.proofs.lemmas.List.{length-take-le, length-append, length-drop, get_or_append_left, get_or-append_right, get_or-take, get_or-drop}
use Rattle.pm_types.specs.Spans.{Coverage, Covers, AlsoCovers}
use Rattle.pm_types.specs.Pages.{SameOutside, IsNoted}

-- what is written over one range leaves the rest
pub outside_splice : (xs ys : List ℕ) (at n : ℕ) → length ys ≡ n → at + n ≤ length xs → SameOutside (λ k. (at ≤ k) × (k < at + n)) xs (take at xs ++ (ys ++ drop (at + n) xs))
outside_splice xs ys at n same fits =
    let front : length (take at xs) ≡ at = length-take-le at xs (omega arith) in
    record {
      size = omega (arith, length-append (take at xs) (ys ++ drop (at + n) xs), length-append ys (drop (at + n) xs), length-drop (at + n) xs);
      bytes = λ k away. elim (cases_lt k at) [
        | inl below ↦ get_or_append_left (take at xs) _ 0 k (omega arith) ∙ get_or-take at xs k 0 below
        | inr from ↦ elim (cases_lt k (at + n)) [
          | inl inside ↦ absurd (away (from, inside))
          | inr above ↦
              let e : at + n + (k - at - n) ≡ k = omega arith in
              get_or-append_right (take at xs) _ at k 0 front from ∙ get_or-append_right ys _ n (k - at) 0 same (omega arith) ∙ get_or-drop (at + n) xs (k - at - n) 0 ∙ ap (λ q. get_or xs q 0) e
        ]
      ];
    }

-- two changes in a row change what one of them changes
pub outside_then : (P Q R : ℕ → Type 0) (xs ys zs : List ℕ) → SameOutside P xs ys → SameOutside Q ys zs → ((k : ℕ) → P k → R k) → ((k : ℕ) → Q k → R k) → SameOutside R xs zs
outside_then P Q R xs ys zs first second p q = record {
  size = second.size ∙ first.size;
  bytes = λ k away. second.bytes k (λ h. away (q k h)) ∙ first.bytes k (λ h. away (p k h));
}

-- what is the same outside these places is so outside more
pub outside_wider : (P Q : ℕ → Type 0) (xs ys : List ℕ) → SameOutside P xs ys → ((k : ℕ) → P k → Q k) → SameOutside Q xs ys
outside_wider P Q xs ys same wider = record { size = same.size; bytes = λ k away. same.bytes k (λ h. away (wider k h)) }

-- a change that its patch then covers is noted
pub noted : (old new : Coverage) (set : ℕ → Type 0) (was now : List ℕ) → SameOutside set was now → AlsoCovers old new set → IsNoted old new was now
noted old new set was now outside covers = record { size = covers.size; keeps = covers.keeps; outside = outside_wider set (Covers new) was now outside covers.adds }

-- two changes in a row, each noted, are noted
pub noted_then : (old mid new : Coverage) (was then' now : List ℕ) → IsNoted old mid was then' → IsNoted mid new then' now → IsNoted old new was now
noted_then old mid new was then' now first second = record {
  size = second.size ∙ first.size;
  keeps = λ k h. second.keeps k (first.keeps k h);
  outside = outside_then (Covers mid) (Covers new) (Covers new) was then' now first.outside second.outside second.keeps (λ k h. h);
}
