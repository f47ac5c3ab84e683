-- What a change leaves of a file's bytes.
use Rattle.std.proofs.Common.{◌≡◌, ℕ, zero, suc, ◌+◌, ◌-◌, ◌<◌, ◌≤◌, max, min, List, [], ◌∷◌, ◌++◌, length, take, drop, Option, refl, ◌∙◌, ap, arith, length-append, length-take, length-drop}
use Rattle.std.specs.Prelude.{slice_get}
use Rattle.pm_disk.specs.Files.{Write, Cut, bytes_of, changed}

-- the front of a longer list, and its back
pub slice_get-append_left : (xs ys : List ℕ) (i : ℕ) → i < length xs → slice_get (xs ++ ys) i ≡ slice_get xs i
slice_get-append_left [] ys i lt = absurd (omega (arith, lt))
slice_get-append_left (x ∷ xs) ys zero lt = refl
slice_get-append_left (x ∷ xs) ys (suc i) lt = slice_get-append_left xs ys i (omega (arith, lt))

pub slice_get-append_right : (xs ys : List ℕ) (i : ℕ) → length xs ≤ i → slice_get (xs ++ ys) i ≡ slice_get ys (i - length xs)
slice_get-append_right [] ys i le = let e : i ≡ i - 0 = omega arith in ap (λ k. slice_get ys k) e
slice_get-append_right (x ∷ xs) ys zero le = absurd (omega (arith, le))
slice_get-append_right (x ∷ xs) ys (suc i) le = let e : i - length xs ≡ suc i - suc (length xs) = omega arith in slice_get-append_right xs ys i (omega (arith, le)) ∙ ap (λ k. slice_get ys k) e

pub slice_get-take : (n : ℕ) (xs : List ℕ) (i : ℕ) → i < n → slice_get (take n xs) i ≡ slice_get xs i
slice_get-take zero xs i lt = absurd (omega (arith, lt))
slice_get-take (suc n) [] i lt = refl
slice_get-take (suc n) (x ∷ xs) zero lt = refl
slice_get-take (suc n) (x ∷ xs) (suc i) lt = slice_get-take n xs i (omega (arith, lt))

pub slice_get-drop : (n : ℕ) (xs : List ℕ) (i : ℕ) → slice_get (drop n xs) i ≡ slice_get xs (n + i)
slice_get-drop zero xs i = let e : i ≡ 0 + i = omega arith in ap (λ k. slice_get xs k) e
slice_get-drop (suc n) [] i = refl
slice_get-drop (suc n) (x ∷ xs) i = let e : suc (n + i) ≡ suc n + i = omega arith in slice_get-drop n xs i ∙ ap (λ k. slice_get (x ∷ xs) k) e

-- A write that begins within the file.
module _ (at : ℕ) (bytes : List ℕ) (file : Option (List ℕ)) (within : at ≤ length (bytes_of file)) where
  abbrev old : List ℕ
  old = bytes_of file

  abbrev new : List ℕ
  new = bytes_of (changed (Write at bytes) file)

  long_front : length (take at old) ≡ at
  long_front = omega (arith, within, length-take at old)

  pub length-write : length new ≡ max (length old) (at + length bytes)
  length-write = omega (arith, within, length-append (take at old ++ bytes) (drop (at + length bytes) old), length-append (take at old) bytes, long_front, length-drop (at + length bytes) old)

  pub write_before : (i : ℕ) → i < at → slice_get new i ≡ slice_get old i
  write_before i lt =
      slice_get-append_left (take at old ++ bytes) (drop (at + length bytes) old) i (omega (arith, lt, length-append (take at old) bytes, long_front))
      ∙ slice_get-append_left (take at old) bytes i (omega (arith, lt, long_front))
      ∙ slice_get-take at old i lt

  pub write_after : (i : ℕ) → at + length bytes ≤ i → slice_get new i ≡ slice_get old i
  write_after i le =
      let front : length (take at old ++ bytes) ≡ at + length bytes = omega (arith, length-append (take at old) bytes, long_front) in
      let e : at + length bytes + (i - length (take at old ++ bytes)) ≡ i = omega (arith, le, front) in
      slice_get-append_right (take at old ++ bytes) (drop (at + length bytes) old) i (omega (arith, le, front))
      ∙ slice_get-drop (at + length bytes) old (i - length (take at old ++ bytes))
      ∙ ap (λ k. slice_get old k) e

  -- what was written
  pub write_there : (i : ℕ) → at ≤ i → i < at + length bytes → slice_get new i ≡ slice_get bytes (i - at)
  write_there i le lt =
      let e : i - length (take at old) ≡ i - at = ap (λ k. i - k) long_front in
      slice_get-append_left (take at old ++ bytes) (drop (at + length bytes) old) i (omega (arith, lt, length-append (take at old) bytes, long_front))
      ∙ slice_get-append_right (take at old) bytes i (omega (arith, le, long_front))
      ∙ ap (λ k. slice_get bytes k) e

pub length-cut : (len : ℕ) (file : Option (List ℕ)) → length (bytes_of (changed (Cut len) file)) ≡ min len (length (bytes_of file))
length-cut len file = length-take len (bytes_of file)

pub cut_before : (len : ℕ) (file : Option (List ℕ)) (i : ℕ) → i < len → slice_get (bytes_of (changed (Cut len) file)) i ≡ slice_get (bytes_of file) i
cut_before len file i lt = slice_get-take len (bytes_of file) i lt
