-- The bytes of a row that was written piece by piece.
use Rattle.std.proofs.Common.{◌≡◌, ℕ, ◌+◌, ◌-◌, ◌<◌, ◌≤◌, List, [], ◌∷◌, ◌++◌, length, take, drop, set, slice_index, refl, sym, ap, ◌∙◌, arith}
use Rattle.std.specs.Int.{w16, from_le_bytes, to_le_bytes}
use Rattle.std.proofs.lemmas.List.{length-append, length-take, take_more_set, length-set, append_assoc, append-nil}
use Rattle.std.proofs.lemmas.Nat.{from_le_bytes-to_le_bytes_2}
use borrow.Rule.Slice.PartMut.{put_mid}
use Rattle.std.proofs.lemmas.Slice.{take-put_mid}
use Rattle.std.proofs.Math.Seq.{take-append_seam, drop-append_seam}
use Rattle.pm_types.specs.Keys.{HasKeyLength}
use Rattle.pm_types.specs.Fields.{bytes_at, u16_at}
use Rattle.pm_part.specs.RowBytes.{IsRowOf}

-- the bytes between others
pub mid : (xs ys zs row : List ℕ) (at n : ℕ) → row ≡ xs ++ (ys ++ zs) → length xs ≡ at → length ys ≡ n → bytes_at row at n ≡ ys
mid xs ys zs row at n is front len =
    let cut : at + n - at ≡ length ys = omega (arith, len) in
    ap (λ l. take (at + n - at) (drop at l)) is
    ∙ (λ k. take (cut k) (drop (sym front k) (xs ++ (ys ++ zs))))
    ∙ ap (take (length ys)) (drop-append_seam xs (ys ++ zs)) ∙ take-append_seam ys zs

-- a row's head, its key and its value
pub is_row_of : (cache len : ℕ) (bytes key value row : List ℕ) → row ≡ (cache ∷ len ∷ bytes) ++ (key ++ value) → length bytes ≡ 2 → from_le_bytes w16 bytes ≡ length value → len ≡ length key → cache < 16 → HasKeyLength key → length value ≤ 900 → IsRowOf cache key value row
unfolding u16_at
is_row_of cache len bytes key value row is two long key_len few keyed short =
    let cache_is : get_cache row ≡ cache = ap get_cache is in
    let len_is : get_len row ≡ len = ap get_len is in
    let value_len : u16_at row 2 ≡ length value = ap (from_le_bytes w16) (mid (cache ∷ len ∷ []) bytes (key ++ value) row 2 2 is refl two) ∙ long in
    let four : length (cache ∷ len ∷ bytes) ≡ 4 = omega (arith, two) in
    let keys : bytes_at row 4 (get_len row) ≡ key = mid (cache ∷ len ∷ bytes) key value row 4 (get_len row) is four (sym key_len ∙ sym len_is) in
    let joined : row ≡ ((cache ∷ len ∷ bytes) ++ key) ++ (value ++ []) = is ∙ sym (append_assoc (cache ∷ len ∷ bytes) key value) ∙ ap (λ v. ((cache ∷ len ∷ bytes) ++ key) ++ v) (sym (append-nil value)) in
    let from : length ((cache ∷ len ∷ bytes) ++ key) ≡ 4 + get_len row = omega (arith, length-append (cache ∷ len ∷ bytes) key, two, key_len, len_is) in
    record {
      is_row = record {
        cache = omega (arith, cache_is, few);
        some_key = omega (arith, len_is, key_len, keyed.some);
        short_key = omega (arith, len_is, key_len, keyed.short);
        short_value = omega (arith, value_len, short);
        exact = omega (arith, ap length is, length-append (cache ∷ len ∷ bytes) (key ++ value), length-append key value, two, len_is, key_len, value_len);
      };
      cache_is = cache_is;
      key_is = keys;
      value_is = mid ((cache ∷ len ∷ bytes) ++ key) value [] row (4 + get_len row) (u16_at row 2) joined from (sym value_len);
    }
  where
    get_cache : List ℕ → ℕ
    get_cache l = slice_index l 0

    get_len : List ℕ → ℕ
    get_len l = slice_index l 1

-- the pieces, as they were written one after the other
pub written : (into : List ℕ) (cache : ℕ) (key value a b d : List ℕ) → length into ≡ 968 → a ≡ to_le_bytes w16 (length value) → b ≡ key → d ≡ value → cache < 16 → HasKeyLength key → length value ≤ 900
    → IsRowOf cache key value (take (4 + length key + length value) (put_mid (4 + length key) (4 + length key + length value - (4 + length key)) (put_mid 4 (4 + length key - 4) (put_mid 2 2 (set (set into 0 cache) 1 (length key)) a) b) d))
written into cache key value a b d long a_is b_is d_is few keyed short =
    let x = set (set into 0 cache) 1 (length key) in
    let two : length a ≡ 2 = ap length a_is in
    let x_long : length x ≡ 968 = omega (arith, length-set (set into 0 cache) 1 (length key), length-set into 0 cache, long) in
    let y = put_mid 2 2 x a in
    let z = put_mid 4 (4 + length key - 4) y b in
    let first : take 2 x ≡ cache ∷ length key ∷ [] = take_more_set (set into 0 cache) 1 (length key) (omega (arith, length-set into 0 cache, long)) ∙ ap (λ l. l ++ length key ∷ []) (take_more_set into 0 cache (omega (arith, long))) in
    let head : take 4 y ≡ take 2 x ++ a = take-put_mid 2 2 x a 4 (omega (arith, two)) (omega (arith, x_long)) in
    let y_long : 4 ≤ length y = omega (arith, length-take 4 y, ap length head, length-append (take 2 x) a, ap length first, two) in
    let keys : take (4 + length key) z ≡ take 4 y ++ b = take-put_mid 4 (4 + length key - 4) y b (4 + length key) (omega (arith, ap length b_is)) y_long in
    let z_long : 4 + length key ≤ length z = omega (arith, length-take (4 + length key) z, ap length keys, length-append (take 4 y) b, length-take 4 y, y_long, ap length b_is) in
    let all = take-put_mid (4 + length key) (4 + length key + length value - (4 + length key)) z d (4 + length key + length value) (omega (arith, ap length d_is)) z_long in
    is_row_of cache (length key) a key value _
    (all ∙ (λ k. (keys ∙ ap (λ l. l ++ b) (head ∙ ap (λ l. l ++ a) first)) k ++ d_is k) ∙ ap (λ l. (((cache ∷ length key ∷ []) ++ a) ++ l) ++ value) b_is ∙ append_assoc ((cache ∷ length key ∷ []) ++ a) key value)
    two (ap (from_le_bytes w16) a_is ∙ from_le_bytes-to_le_bytes_2 (length value) (omega (arith, short))) refl few keyed short
