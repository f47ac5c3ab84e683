-- The bytes of an operation, put together of those of its records.
use Rattle.std.proofs.Common.{◌≡◌, ℕ, ◌+◌, ◌^◌, ◌<◌, ◌≤◌, List, [], ◌∷◌, ◌++◌, length, take, refl, sym, ap, subst, ◌∙◌, arith}
use Rattle.std.specs.Prelude.{Some, None, Option}
use Rattle.std.proofs.lemmas.List.{length-append, nil_from_length}
use Rattle.pm_types.specs.declared.limits.TheConstants.{OUTBOX, OP_EXTRA}
use Rattle.pm_frame.specs.Frames.{Frame}
use Rattle.pm_records.specs.declared.record.LogRecord.{LogRecord}
use Rattle.pm_records.specs.declared.record.LogRecord.TheVariants as log
use Rattle.pm_records.specs.Records.{Record, IsRecord, logical_head, payload_of}
use Rattle.pm_records.specs.Views.{record_view}
use Rattle.pm_records.specs.Operations.{operation_head, operation_bytes, record_bytes, IsLogged, SpellRecords, Operation}
use Rattle.pm_stripe.specs.declared.held.Held.{Held}
use Rattle.pm_stripe.specs.ChangedPages.{frame_for}
use Rattle.pm_stripe.specs.Listings.{MayBeLogical, after_logical, WritesPages, IsOperationOf, HandsOver, handed_bytes_by}
use Rattle.pm_stripe.proofs.Spelling.{spell_append, spell_one, spell_none, take_after}
use Rattle.pm_stripe.proofs.WrittenPages.{frames_of}

-- a logical record is a record
pub is_record : (rec : LogRecord) → MayBeLogical (Some (record_view rec)) → IsRecord (record_view rec)
is_record (log.Logical op cache key value) is = is
is_record (log.Snapshot page bytes) is = absurd is
is_record (log.Delta page ranges) is = absurd is
is_record (log.CpBegin number replay) is = absurd is
is_record (log.Restart shape) is = absurd is
is_record log.Seal is = absurd is

logical_len : (op cache : ℕ) (key value : List ℕ) → length (logical_head op cache (length key) (length value) ++ (key ++ value)) ≡ 7 + length key + length value
logical_len op cache key value = omega (arith, length-append (logical_head op cache (length key) (length value)) (key ++ value), length-append key value)

-- that an operation may have
pub is_logged : (rec : LogRecord) → MayBeLogical (Some (record_view rec)) → IsLogged (frame_for (record_view rec))
unfolding payload_of
is_logged (log.Logical op cache key value) is = record { known_from = omega arith; known_to = omega arith; short = omega (arith, logical_len op cache key.now value.now, is.keyed.short, is.valued) }
is_logged (log.Snapshot page bytes) is = absurd is
is_logged (log.Delta page ranges) is = absurd is
is_logged (log.CpBegin number replay) is = absurd is
is_logged (log.Restart shape) is = absurd is
is_logged log.Seal is = absurd is

-- and no longer than the room for it
pub is_short : (rec : LogRecord) → MayBeLogical (Some (record_view rec)) → 13 + length (payload_of (record_view rec)) ≤ OP_EXTRA
unfolding payload_of
is_short (log.Logical op cache key value) is = omega (arith, logical_len op cache key.now value.now, is.keyed.short, is.valued)
is_short (log.Snapshot page bytes) is = absurd is
is_short (log.Delta page ranges) is = absurd is
is_short (log.CpBegin number replay) is = absurd is
is_short (log.Restart shape) is = absurd is
is_short log.Seal is = absurd is

-- the records after the logical one
abbrev records_after : Option Record → List Frame → List Frame
records_after logical frames = after_logical logical [] ++ frames

after_is : (logical : Option Record) (frames : List Frame) → after_logical logical [] ++ frames ≡ after_logical logical frames
after_is None frames = refl
after_is (Some rec) frames = refl

some_bytes : (fs : List Frame) (bytes : List ℕ) → SpellRecords bytes fs → 0 < length bytes → (o : Operation) → handed_bytes_by fs o ≡ operation_bytes o
some_bytes [] bytes is some o = absurd (omega (arith, ap length is.1, some))
some_bytes (f ∷ fs) bytes is some o = refl

-- all records, the logical one and those of the pages
module _ (line : ℕ) (logical : Option Record) (held : List Held) (first pages : List ℕ) (spelled : SpellRecords first (after_logical logical [])) (writes : WritesPages held pages) (small : line < 2 ^ 32) (short : 8 + length (first ++ pages) ≤ OUTBOX) where
  abbrev frames : List Frame
  frames = after_logical logical (frames_of writes.listed)

  all_spelled : SpellRecords (first ++ pages) frames
  all_spelled = subst (λ (x : List Frame). SpellRecords (first ++ pages) x) (after_is logical (frames_of writes.listed)) (spell_append first pages (after_logical logical []) (frames_of writes.listed) spelled writes.spelled)

  abbrev operation : Operation
  operation = record { line = line; records = frames }

  is_of : IsOperationOf line logical held operation
  is_of = record {
    line_is = refl;
    listed = writes.listed;
    lists = writes.lists;
    fit = writes.fit;
    records_are = refl;
    is_operation = record { numbered = small; records_are = all_spelled.0; short = omega (arith, short, ap length all_spelled.1) };
  }

  -- with no byte there is no record
  pub hands_none : length (first ++ pages) ≡ 0 → HandsOver line logical held []
  hands_none none = record {
    operation = operation;
    is = is_of;
    bytes_are = sym (ap (λ (x : List Frame). handed_bytes_by x operation) (spell_none frames (subst (λ (x : List ℕ). SpellRecords x frames) (nil_from_length (first ++ pages) none) all_spelled)));
  }

  -- the head, and the records after it
  pub hands_some : 0 < length (first ++ pages) → HandsOver line logical held (operation_head line (length (first ++ pages)) ++ (first ++ pages))
  unfolding operation_bytes
  hands_some some = record {
    operation = operation;
    is = is_of;
    bytes_are = (λ i. operation_head line (length (all_spelled.1 i)) ++ all_spelled.1 i) ∙ sym (some_bytes frames (first ++ pages) all_spelled some operation);
  }

-- the bytes of a logical record
pub logical_spelled : (rec : LogRecord) (bytes : List ℕ) → MayBeLogical (Some (record_view rec)) → bytes ≡ record_bytes (frame_for (record_view rec)) → SpellRecords bytes (after_logical (Some (record_view rec)) [])
logical_spelled rec bytes is e = subst (λ (x : List ℕ). SpellRecords x (frame_for (record_view rec) ∷ [])) (sym e) (spell_one (frame_for (record_view rec)) (is_logged rec is))

-- no byte was written
pub handed_none : (line : ℕ) (logical : Option Record) (held : List Held) (front back : List ℕ) (first n : ℕ) → SpellRecords front (after_logical logical []) → WritesPages held (take n back) → line < 2 ^ 32 → length front ≡ first → length (take n back) ≡ n → first + n ≡ 0 → HandsOver line logical held []
handed_none line logical held front back first n spelled writes small f p none =
    let zero : length (front ++ take n back) ≡ 0 = omega (arith, length-append front (take n back), f, p, none) in
    hands_none line logical held front (take n back) spelled writes small (omega (arith, zero)) zero

-- the head and the records were written
pub handed_some : (line : ℕ) (logical : Option Record) (held : List Held) (head front back : List ℕ) (first n : ℕ) → SpellRecords front (after_logical logical []) → WritesPages held (take n back) → line < 2 ^ 32 → length front ≡ first → length (take n back) ≡ n
    → 8 + (first + n) ≤ OUTBOX → 0 < first + n → length head ≡ 8 → head ≡ operation_head line (first + n) → HandsOver line logical held (take (8 + (first + n)) (head ++ (front ++ back)))
handed_some line logical held head front back first n spelled writes small f p short some eight is =
    let long : length (front ++ take n back) ≡ first + n = omega (arith, length-append front (take n back), f, p) in
    let cut : take (8 + (first + n)) (head ++ (front ++ back)) ≡ head ++ (front ++ take n back) = take_after head (front ++ back) 8 (first + n) eight ∙ ap (λ x. head ++ x) (take_after front back first n f) in
    let whole : head ++ (front ++ take n back) ≡ operation_head line (length (front ++ take n back)) ++ (front ++ take n back) = ap (λ x. x ++ (front ++ take n back)) (is ∙ ap (operation_head line) (sym long)) in
    subst (HandsOver line logical held) (sym (cut ∙ whole)) (hands_some line logical held front (take n back) spelled writes small (omega (arith, long, short)) (omega (arith, long, some)))
