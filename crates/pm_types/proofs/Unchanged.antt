-- Where a change left the bytes of a field, the field reads as before; where they are zero it is 0.
use Rattle.std.proofs.Common.{◌≡◌, ℕ, ◌+◌, ◌-◌, ◌<◌, ◌≤◌, List, length, take, drop, get_or, replicate, sym, ap, ◌∙◌, arith, w16, w32, w64}
use Rattle.std.specs.Int.{from_le_bytes}
use Rattle.std.proofs.lemmas.List.{length-take, length-drop, length-replicate, get_or-take, get_or-drop, get_or-replicate}
use Rattle.std.proofs.lemmas.Grind.{same_number_lists}
use Rattle.pm_types.specs.Pages.{SameOutside}
use Rattle.pm_types.specs.Fields.{bytes_at, u16_at, u32_at, u64_at, AreZero}

-- a place among bytes of a page
pub get_or-bytes_at : (page : List ℕ) (at len k : ℕ) → k < len → get_or (bytes_at page at len) k 0 ≡ get_or page (at + k) 0
get_or-bytes_at page at len k lt =
    let n : at + len - at ≡ len = omega arith in
    ap (λ m. get_or (take m (drop at page)) k 0) n ∙ get_or-take len (drop at page) k 0 lt ∙ get_or-drop at page k 0

pub length-bytes_at : (page : List ℕ) (at len : ℕ) → at + len ≤ length page → length (bytes_at page at len) ≡ len
length-bytes_at page at len le = omega (arith, length-take (at + len - at) (drop at page), length-drop at page)

-- bytes that agree with those of another page, from another offset on
pub bytes_agree : (was now : List ℕ) (at to len : ℕ) → length now ≡ length was → at + len ≤ length was → to + len ≤ length was → ((k : ℕ) → k < len → get_or now (to + k) 0 ≡ get_or was (at + k) 0) → bytes_at now to len ≡ bytes_at was at len
bytes_agree was now at to len size fits fits_to same =
    let l = length-bytes_at was at len fits in
    let l' = length-bytes_at now to len (omega arith) in
    same_number_lists (bytes_at now to len) (bytes_at was at len) (l' ∙ sym l)
    (λ k lt. get_or-bytes_at now to len k (omega (arith, l')) ∙ same k (omega (arith, l')) ∙ sym (get_or-bytes_at was at len k (omega (arith, l'))))

-- bytes that no change covered
pub bytes_same : (covered : ℕ → Type 0) (was now : List ℕ) (at len : ℕ) → SameOutside covered was now → at + len ≤ length was → ((k : ℕ) → at ≤ k → k < at + len → covered k → ⊥) → bytes_at now at len ≡ bytes_at was at len
bytes_same covered was now at len outside fits away = bytes_agree was now at at len outside.size fits fits (λ k lt. outside.bytes (at + k) (away (at + k) (omega arith) (omega arith)))

pub u16_same : (covered : ℕ → Type 0) (was now : List ℕ) (at : ℕ) → SameOutside covered was now → at + 2 ≤ length was → ((k : ℕ) → at ≤ k → k < at + 2 → covered k → ⊥) → u16_at now at ≡ u16_at was at
unfolding u16_at
u16_same covered was now at outside fits away = ap (from_le_bytes w16) (bytes_same covered was now at 2 outside fits away)

pub u32_same : (covered : ℕ → Type 0) (was now : List ℕ) (at : ℕ) → SameOutside covered was now → at + 4 ≤ length was → ((k : ℕ) → at ≤ k → k < at + 4 → covered k → ⊥) → u32_at now at ≡ u32_at was at
unfolding u32_at
u32_same covered was now at outside fits away = ap (from_le_bytes w32) (bytes_same covered was now at 4 outside fits away)

pub u64_same : (covered : ℕ → Type 0) (was now : List ℕ) (at : ℕ) → SameOutside covered was now → at + 8 ≤ length was → ((k : ℕ) → at ≤ k → k < at + 8 → covered k → ⊥) → u64_at now at ≡ u64_at was at
unfolding u64_at
u64_same covered was now at outside fits away = ap (from_le_bytes w64) (bytes_same covered was now at 8 outside fits away)

-- bytes that are all zero
pub zeros_at : (page : List ℕ) (at len : ℕ) → at + len ≤ length page → ((k : ℕ) → at ≤ k → k < at + len → get_or page k 0 ≡ 0) → bytes_at page at len ≡ replicate len 0
zeros_at page at len fits zeros =
    let l = length-bytes_at page at len fits in
    same_number_lists (bytes_at page at len) (replicate len 0) (l ∙ sym (length-replicate len 0))
    (λ k lt. get_or-bytes_at page at len k (omega (arith, l)) ∙ zeros (at + k) (omega arith) (omega (arith, l)) ∙ sym (get_or-replicate len k 0 0 (omega (arith, l))))

pub zero_u16 : (page : List ℕ) (at : ℕ) → at + 2 ≤ length page → ((k : ℕ) → at ≤ k → k < at + 2 → get_or page k 0 ≡ 0) → u16_at page at ≡ 0
unfolding u16_at
zero_u16 page at fits zeros = ap (from_le_bytes w16) (zeros_at page at 2 fits zeros)

pub zero_u32 : (page : List ℕ) (at : ℕ) → at + 4 ≤ length page → ((k : ℕ) → at ≤ k → k < at + 4 → get_or page k 0 ≡ 0) → u32_at page at ≡ 0
unfolding u32_at
zero_u32 page at fits zeros = ap (from_le_bytes w32) (zeros_at page at 4 fits zeros)

pub zero_u64 : (page : List ℕ) (at : ℕ) → at + 8 ≤ length page → ((k : ℕ) → at ≤ k → k < at + 8 → get_or page k 0 ≡ 0) → u64_at page at ≡ 0
unfolding u64_at
zero_u64 page at fits zeros = ap (from_le_bytes w64) (zeros_at page at 8 fits zeros)

-- each of bytes that were written over with zeros is zero
pub are_zeros : (page : List ℕ) (at len : ℕ) → bytes_at page at len ≡ replicate len 0 → AreZero page at (at + len)
are_zeros page at len zeros k ge lt =
    let e : at + (k - at) ≡ k = omega arith in
    ap (λ n. get_or page n 0) (sym e) ∙ sym (get_or-bytes_at page at len (k - at) (omega arith)) ∙ ap (λ (t : List ℕ). get_or t (k - at) 0) zeros ∙ get_or-replicate len (k - at) 0 0 (omega arith)

-- zeros that no change covered
pub zeros_same : (covered : ℕ → Type 0) (was now : List ℕ) (from end : ℕ) → SameOutside covered was now → ((k : ℕ) → from ≤ k → k < end → covered k → ⊥) → AreZero was from end → AreZero now from end
zeros_same covered was now from end outside away zeros k ge lt = outside.bytes k (away k ge lt) ∙ zeros k ge lt
