-- The bytes of records and of operations say one record and one operation each.
use Rattle.std.proofs.Common.{◌≡◌, ℕ, ◌+◌, ◌^◌, ◌<◌, ◌≤◌, List, [], ◌∷◌, ◌++◌, length, take, drop, get_or, refl, sym, ap, ◌∙◌, arith, length-append}
use Rattle.std.specs.Int.{w32, from_le_bytes}
use Rattle.std.specs.Prelude.{slice_range}
use Rattle.std.proofs.lemmas.Nat.{from_le_bytes-to_le_bytes_4}
use Rattle.std.proofs.lemmas.List.{append_assoc, take_at, drop_at}
use Rattle.pm_frame.specs.Frames.{Frame}
use Rattle.pm_frame.proofs.Bytes.{AreBytes, cells, written_out, four_back}
use Rattle.pm_records.specs.Operations.{frame_of, record_head, record_bytes, records_bytes, operation_head, IsLogged, AreLogged, AreRecords, BeginsWithNoRecord}

pub length-record_head : (kind len : ℕ) → length (record_head kind len) ≡ 5
unfolding record_head
length-record_head kind len = refl

pub length-operation_head : (line len : ℕ) → length (operation_head line len) ≡ 8
unfolding operation_head
length-operation_head line len = refl

-- the numbers that are read from a head are said by its bytes
pub record_head-said : (bytes : List ℕ) (len : ℕ) → length bytes ≡ 5 → AreBytes bytes → len ≡ from_le_bytes w32 (cells 1 4 bytes) → bytes ≡ record_head (get_or bytes 0 0) len
unfolding record_head
record_head-said bytes len long fits n =
    let back = four_back bytes 1 len fits n in
    written_out 5 bytes long ∙ sym (λ i. get_or bytes 0 0 ∷ back i)

pub operation_head-said : (bytes : List ℕ) (line len : ℕ) → length bytes ≡ 8 → AreBytes bytes → line ≡ from_le_bytes w32 (cells 0 4 bytes) → len ≡ from_le_bytes w32 (cells 4 4 bytes) → bytes ≡ operation_head line len
unfolding operation_head
operation_head-said bytes line len long fits l n =
    let line_back = four_back bytes 0 line fits l in
    let len_back = four_back bytes 4 len fits n in
    written_out 8 bytes long ∙ sym (λ i. line_back i ++ len_back i)

-- heads with the same bytes are the same
pub record_head-same : (a b m n : ℕ) → m < 2 ^ 32 → n < 2 ^ 32 → record_head a m ≡ record_head b n → (a ≡ b) × (m ≡ n)
unfolding record_head
record_head-same a b m n f g e =
    (ap (λ bs. get_or bs 0 0) e, sym (from_le_bytes-to_le_bytes_4 m f) ∙ ap (λ bs. from_le_bytes w32 (slice_range bs 1 5)) e ∙ from_le_bytes-to_le_bytes_4 n g)

pub operation_head-same : (k l m n : ℕ) → k < 2 ^ 32 → l < 2 ^ 32 → m < 2 ^ 32 → n < 2 ^ 32 → operation_head k m ≡ operation_head l n → (k ≡ l) × (m ≡ n)
unfolding operation_head
operation_head-same k l m n p q f g e = (
  sym (from_le_bytes-to_le_bytes_4 k p) ∙ ap (λ bs. from_le_bytes w32 (slice_range bs 0 4)) e ∙ from_le_bytes-to_le_bytes_4 l q,
  sym (from_le_bytes-to_le_bytes_4 m f) ∙ ap (λ bs. from_le_bytes w32 (slice_range bs 4 8)) e ∙ from_le_bytes-to_le_bytes_4 n g,
)

-- two lists with the same bytes in front, of one length, are the same in front and after it
pub same_front : (xs ys zs ws : List ℕ) → length xs ≡ length zs → xs ++ ys ≡ zs ++ ws → (xs ≡ zs) × (ys ≡ ws)
same_front xs ys zs ws long e =
    (sym (take_at xs ys (length xs) refl) ∙ ap (take (length xs)) e ∙ take_at zs ws (length xs) (sym long), sym (drop_at xs ys (length xs) refl) ∙ ap (drop (length xs)) e ∙ drop_at zs ws (length xs) (sym long))

-- bytes begin with one record at most
pub one_record : (f g : Frame) (r s : List ℕ) → IsLogged f → IsLogged g → record_bytes f ++ r ≡ record_bytes g ++ s → (f ≡ g) × (r ≡ s)
unfolding record_bytes
one_record f g r s is_f is_g e =
    let e2 : record_head f.kind (length f.payload) ++ (f.payload ++ r) ≡ record_head g.kind (length g.payload) ++ (g.payload ++ s) = sym (append_assoc _ f.payload r) ∙ e ∙ append_assoc _ g.payload s in
    let heads = same_front _ _ _ _ (length-record_head f.kind (length f.payload) ∙ sym (length-record_head g.kind (length g.payload))) e2 in
    let same = record_head-same f.kind g.kind (length f.payload) (length g.payload) (omega (arith, is_f.short)) (omega (arith, is_g.short)) heads.0 in
    let rests = same_front f.payload r g.payload s same.1 heads.1 in
    (λ i. frame_of (same.0 i) (rests.0 i), rests.1)

-- a record has at least its head
pub record_longer : (f : Frame) → length (record_bytes f) ≡ 5 + length f.payload
unfolding record_bytes
record_longer f = omega (arith, length-append (record_head f.kind (length f.payload)) f.payload, length-record_head f.kind (length f.payload))

-- what a record's bytes are, written from its parts
pub record_from : (kind len : ℕ) (bytes head after payload rest : List ℕ) → bytes ≡ head ++ after → head ≡ record_head kind len → after ≡ payload ++ rest → len ≡ length payload → bytes ≡ record_bytes (frame_of kind payload) ++ rest
unfolding record_bytes
record_from kind len bytes head after payload rest e h a l =
    e ∙ (λ i. h i ++ a i) ∙ ap (λ n. record_head kind n ++ (payload ++ rest)) l ∙ sym (append_assoc (record_head kind (length payload)) payload rest)

-- bytes that are shorter than a record's head begin with none
pub too_short : (bytes : List ℕ) → length bytes < 5 → BeginsWithNoRecord bytes
too_short bytes short f rest is_f e =
    omega (arith, short, ap length e, length-append (record_bytes f) rest, record_longer f)

-- nor do those whose head says what no record has, or more than there is
pub no_record : (kind len : ℕ) (bytes head after : List ℕ) → bytes ≡ head ++ after → head ≡ record_head kind len → len < 2 ^ 32 → ((frame : Frame) → IsLogged frame → kind ≡ frame.kind → len ≡ length frame.payload → len ≤ length after → ⊥) → BeginsWithNoRecord bytes
unfolding record_bytes
no_record kind len bytes head after e h small refuted f rest is_f e2 =
    let e3 : record_head f.kind (length f.payload) ++ (f.payload ++ rest) ≡ record_head kind len ++ after = sym (append_assoc _ f.payload rest) ∙ sym e2 ∙ e ∙ ap (λ x. x ++ after) h in
    let heads = same_front _ _ _ _ (length-record_head f.kind (length f.payload) ∙ sym (length-record_head kind len)) e3 in
    let same = record_head-same f.kind kind (length f.payload) len (omega (arith, is_f.short)) small heads.0 in
    refuted f is_f (sym same.0) (sym same.1) (omega (arith, same.1, ap length heads.1, length-append f.payload rest))

-- what is left after the record at the front is records and nothing else exactly where all is
pub records_after : (f : Frame) (bytes rest : List ℕ) → IsLogged f → bytes ≡ record_bytes f ++ rest → (AreRecords rest → AreRecords bytes) × (AreRecords bytes → AreRecords rest)
records_after f bytes rest is_f e = (λ h. (f ∷ h.0, ((is_f, h.1.0), e ∙ ap (λ r. record_bytes f ++ r) h.1.1)), λ h. back h.0 h.1.0 h.1.1)
  where
    back : (gs : List Frame) → AreLogged gs → bytes ≡ records_bytes gs → AreRecords rest
    back [] are is = absurd (omega (arith, ap length is, ap length e, length-append (record_bytes f) rest, record_longer f))
    back (g ∷ gs) are is = (gs, (are.1, (one_record f g rest (records_bytes gs) is_f are.0 (sym e ∙ is)).1))

-- bytes at whose front no record stands are records only where there are none
pub not_records : (bytes : List ℕ) → 0 < length bytes → BeginsWithNoRecord bytes → AreRecords bytes → ⊥
not_records bytes some none h = each h.0 h.1.0 h.1.1
  where
    each : (gs : List Frame) → AreLogged gs → bytes ≡ records_bytes gs → ⊥
    each [] are is = absurd (omega (arith, some, ap length is))
    each (g ∷ gs) are is = none g (records_bytes gs) are.0 is

pub records_none : (bytes : List ℕ) → length bytes ≡ 0 → AreRecords bytes
records_none [] none = ([], (tt, refl))
records_none (b ∷ bytes) none = absurd (omega (arith, none))
