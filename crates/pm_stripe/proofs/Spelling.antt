-- Records that are written one after the other.
use Rattle.std.proofs.Common.{◌≡◌, ℕ, ◌+◌, ◌-◌, ◌≤◌, List, [], ◌∷◌, ◌++◌, length, take, drop, refl, sym, ap, subst, ◌∙◌, arith, append_assoc, append-nil}
use Rattle.std.proofs.lemmas.List.{length-append, length-drop, length-take-le, take_at, take-append-le}
use Rattle.std.proofs.Math.Seq.{take-append-add}
use Rattle.std.specs.Int.{w64, to_le_bytes}
use Rattle.pm_types.specs.declared.page_id.PageId.{PageId}
use Rattle.pm_types.specs.declared.spans.Span.{Span}
use Rattle.pm_frame.specs.Frames.{Frame}
use Rattle.pm_frame.specs.declared.kinds.TheConstants.{DELTA}
use Rattle.pm_records.specs.Records.{Snapshot, Delta, payload_of}
use Rattle.pm_types.specs.PageSizes.{IsPageSize}
use Rattle.pm_types.proofs.PageSizeBounds.{page_size_bounds}
use Rattle.pm_pages.specs.Deltas.{delta_of}
use Rattle.pm_stripe.specs.ChangedPages.{frame_for}
use Rattle.pm_records.specs.Operations.{record_head, record_bytes, records_bytes, IsLogged, AreLogged, SpellRecords}

length-record_head : (kind len : ℕ) → length (record_head kind len) ≡ 5
unfolding record_head
length-record_head kind len = refl

-- a record has at least its head
pub record_longer : (f : Frame) → length (record_bytes f) ≡ 5 + length f.payload
unfolding record_bytes
record_longer f = omega (arith, length-append (record_head f.kind (length f.payload)) f.payload, length-record_head f.kind (length f.payload))

logged_append : (fs gs : List Frame) → AreLogged fs → AreLogged gs → AreLogged (fs ++ gs)
logged_append [] gs a b = b
logged_append (f ∷ fs) gs a b = (a.0, logged_append fs gs a.1 b)

bytes_append : (fs gs : List Frame) → records_bytes (fs ++ gs) ≡ records_bytes fs ++ records_bytes gs
bytes_append [] gs = refl
bytes_append (f ∷ fs) gs = ap (λ x. record_bytes f ++ x) (bytes_append fs gs) ∙ sym (append_assoc (record_bytes f) (records_bytes fs) (records_bytes gs))

-- the records of the one, and then those of the other
pub spell_append : (xs ys : List ℕ) (fs gs : List Frame) → SpellRecords xs fs → SpellRecords ys gs → SpellRecords (xs ++ ys) (fs ++ gs)
spell_append xs ys fs gs a b = (logged_append fs gs a.0 b.0, (λ i. a.1 i ++ b.1 i) ∙ sym (bytes_append fs gs))

-- one record
pub spell_one : (f : Frame) → IsLogged f → SpellRecords (record_bytes f) (f ∷ [])
spell_one f is = ((is, tt), sym (append-nil (record_bytes f)))

-- no bytes are no record
pub spell_none : (fs : List Frame) → SpellRecords [] fs → fs ≡ []
spell_none [] is = refl
spell_none (f ∷ fs) is = absurd (omega (arith, ap length is.1, length-append (record_bytes f) (records_bytes fs), record_longer f))

-- a record that was written to the front of bytes
pub record_written : (f : Frame) (len : ℕ) (head payload rest : List ℕ) → len ≡ length f.payload → head ≡ record_head f.kind len → payload ≡ f.payload → take (5 + len) ((head ++ payload) ++ rest) ≡ record_bytes f
unfolding record_bytes
record_written f len head payload rest long h p =
    let whole : head ++ payload ≡ record_head f.kind (length f.payload) ++ f.payload = (λ i. h i ++ p i) ∙ ap (λ n. record_head f.kind n ++ f.payload) long in
    let same : length (head ++ payload) ≡ 5 + len = omega (arith, length-append head payload, ap length h, length-record_head f.kind len, ap length p, long) in
    take_at (head ++ payload) rest (5 + len) same ∙ whole

-- the record of a page's ranges
pub delta_written : (page : PageId) (bytes : List ℕ) (spans : List Span) (len : ℕ) (head name ranges rest : List ℕ) → len ≡ length (delta_of bytes spans) → head ≡ record_head DELTA (8 + len) → name ≡ to_le_bytes w64 page.0 → ranges ≡ delta_of bytes spans
    → length name ≡ 8 → take (5 + (8 + len)) ((head ++ (name ++ ranges)) ++ rest) ≡ record_bytes (frame_for (Delta page (delta_of bytes spans)))
unfolding payload_of
delta_written page bytes spans len head name ranges rest long h n r eight =
    let p : name ++ ranges ≡ to_le_bytes w64 page.0 ++ delta_of bytes spans = (λ i. n i ++ r i) in
    record_written (frame_for (Delta page (delta_of bytes spans))) (8 + len) head (name ++ ranges) rest (omega (arith, ap length p, length-append name ranges, ap length r, eight, long)) h p

-- a page as a whole has its name before it
pub snapshot_long : (page : PageId) (bytes : List ℕ) → length (payload_of (Snapshot page bytes)) ≡ 8 + length bytes
unfolding payload_of
snapshot_long page bytes = omega (arith, length-append (to_le_bytes w64 page.0) bytes)

-- an operation may have it
pub snapshot_logged : (page : PageId) (bytes : List ℕ) → IsPageSize (length bytes) → IsLogged (frame_for (Snapshot page bytes))
snapshot_logged page bytes size = record { known_from = omega arith; known_to = omega arith; short = omega (arith, snapshot_long page bytes, (page_size_bounds (length bytes) size).1) }

-- and no more than the ranges of a page
pub delta_logged : (page : PageId) (ranges : List ℕ) → 13 + length ranges ≤ 16384 + 29 → IsLogged (frame_for (Delta page ranges))
unfolding payload_of
delta_logged page ranges short = record { known_from = omega arith; known_to = omega arith; short = omega (arith, length-append (to_le_bytes w64 page.0) ranges, short) }

-- what was written after the first bytes follows them
pub take_after : (front back : List ℕ) (end n : ℕ) → length front ≡ end → take (end + n) (front ++ back) ≡ front ++ take n back
take_after front back end n long = subst (λ (k : ℕ). take (k + n) (front ++ back) ≡ front ++ take n back) long (take-append-add front back n)

-- the same, where more follows that isn't of these
pub take_between : (items back post : List ℕ) (end n : ℕ) → end ≤ length items → n ≤ length back → take (end + n) (take end items ++ (back ++ post)) ≡ take end items ++ take n back
take_between items back post end n le within =
    take_after (take end items) (back ++ post) end n (length-take-le end items le) ∙ ap (λ x. take end items ++ x) (take-append-le n back post within)

-- a vector's items, with as many others in place of them
pub refilled : (xs ws : List ℕ) (n : ℕ) → length ws ≡ n → take n (ws ++ drop (length ws) xs) ≡ ws
refilled xs ws n same = take_at ws (drop (length ws) xs) n same

-- the back of bytes was written over
pub length-between : (items back : List ℕ) (end : ℕ) → end ≤ length items → length back ≡ length items - end → length (take end items ++ (back ++ drop (length items - end) (drop end items))) ≡ length items
length-between items back end le long =
    omega (arith, length-append (take end items) (back ++ drop (length items - end) (drop end items)), length-append back (drop (length items - end) (drop end items)), length-take-le end items le, length-drop (length items - end) (drop end items), length-drop end items, long, le)
