-- The frames of the pages that an operation changed: records of pages, which change no map.
use Rattle.std.proofs.Common.{◌≡◌, ◌⊎◌, inl, inr, ℕ, zero, suc, ◌<◌, ◌≤◌, ◌^◌, Bool, true, false, List, [], ◌∷◌, ◌++◌, length, Option, Some, None, refl, sym, ap, ◌∙◌, subst, arith, append_assoc, append-nil}
use Rattle.std.specs.Prelude.{◌&&◌, not, if◌then◌else◌, IsSome}
use Rattle.pm_types.specs.declared.page_id.PageId.{PageId}
use Rattle.pm_types.specs.declared.shape.Shape.{Shape}
use Rattle.pm_types.specs.Ids.{page_id, part_of_id, index_of_id}
use Rattle.pm_types.specs.Spans.{Coverage}
use Rattle.pm_frame.specs.declared.kinds.TheConstants.{SNAPSHOT, DELTA}
use Rattle.pm_frame.specs.Frames.{Frame}
use Rattle.pm_model.specs.Eval.{Pairs}
use Rattle.pm_records.specs.Logs.{record_in, record_frame}
use Rattle.pm_records.specs.Records.{Record, Logical, Snapshot, Delta, CpBegin, Restart, Seal, kind_of, payload_of}
use Rattle.pm_records.proofs.RecordOf.{record_of-some, payload_of-short}
use Rattle.pm_pages.specs.Asked.{has_bytes, is_changed}
use Rattle.pm_pages.specs.Deltas.{delta_of}
use Rattle.pm_pages.specs.Paged.{Paged}
use Rattle.pm_core.specs.PageSets.{AreOnce, has_index}
use Rattle.pm_core.specs.Replays.{replayed, all_replayed}
use Rattle.pm_core.specs.States.{AllInGrammar}
use Rattle.pm_engine.specs.PageLogs.{frames_with, frames_at, frames_below, names_at, names_below}
use Rattle.pm_engine.specs.RunningStores.{AreRecordFrames}
use Rattle.pm_engine.proofs.ChangedFrames.{logged_still}
use Rattle.pm_engine.proofs.PageNames.{part_named, index_named, once_more}
use Rattle.pm_engine.proofs.RunningLines.{ChangeNoMap}

-- ---- kinds

abbrev pub IsPhysical : Frame → Type 0
IsPhysical frame = (frame.kind ≡ SNAPSHOT) ⊎ (frame.kind ≡ DELTA)

abbrev pub AllPhysical : List Frame → Type 0
AllPhysical [] = Unit {0}
AllPhysical (frame ∷ frames) = IsPhysical frame × AllPhysical frames

physical_append : (xs ys : List Frame) → AllPhysical xs → AllPhysical ys → AllPhysical (xs ++ ys)
physical_append [] ys one two = two
physical_append (x ∷ xs) ys one two = (one.0, physical_append xs ys one.1 two)

with_physical : (o : Option Coverage) (page : PageId) (bytes : List ℕ) (is_logged : Bool) → AllPhysical (frames_with o page bytes is_logged)
with_physical None page bytes is_logged = tt
with_physical (Some patch) page bytes is_logged = by (has_bytes patch) (is_logged && not patch.whole)
  where
    by : (has part : Bool) → AllPhysical (if has then record_frame (if part then Delta page (delta_of bytes patch.spans) else Snapshot page bytes) ∷ [] else [])
    by false part = tt
    by true true = (inr refl, tt)
    by true false = (inl refl, tt)

pub below_physical : (seen : Paged) (logged : List PageId) (n : ℕ) → AllPhysical (frames_below seen logged n)
unfolding frames_below
below_physical seen logged zero = tt
below_physical seen logged (suc n) = physical_append (frames_below seen logged n) (frames_at seen logged n) (below_physical seen logged n) (with_physical (seen.patch n) _ _ _)

some_record : (o : Option Record) → IsSome o → (r : Record) × (o ≡ Some r)
some_record None some = absurd cc
some_record (Some r) some = (r, refl)

no_map : (shape : Shape) (r : Record) (kind : ℕ) (pairs : Pairs) → (kind ≡ SNAPSHOT) ⊎ (kind ≡ DELTA) → kind ≡ kind_of r → replayed shape (Some r) pairs ≡ Some pairs
no_map shape (Logical op cache key value) kind pairs (inl is) e = absurd (omega (arith, is, e))
no_map shape (Logical op cache key value) kind pairs (inr is) e = absurd (omega (arith, is, e))
no_map shape (Snapshot page bytes) kind pairs is e = refl
no_map shape (Delta page ranges) kind pairs is e = refl
no_map shape (CpBegin number replay) kind pairs is e = refl
no_map shape (Restart told) kind pairs is e = refl
no_map shape Seal kind pairs is e = refl

-- they change no map
pub physical_replays : (shape : Shape) (fs : List Frame) (pairs : Pairs) → AllPhysical fs → AllInGrammar fs → all_replayed shape fs (Some pairs) ≡ Some pairs
physical_replays shape [] pairs are well = refl
physical_replays shape (f ∷ fs) pairs are well =
    let r = some_record (record_in f) well.0 in
    ap (λ o. all_replayed shape fs (replayed shape o pairs)) r.1
    ∙ ap (all_replayed shape fs) (no_map shape r.0 f.kind pairs are.0 (record_of-some f.kind f.payload r.0 r.1).1)
    ∙ physical_replays shape fs pairs are.1 well.1

-- none of them does
pub physical_no_map : (shape : Shape) (fs : List Frame) → AllPhysical fs → AllInGrammar fs → ChangeNoMap shape fs
physical_no_map shape [] are well = tt
physical_no_map shape (f ∷ fs) are well =
    let r = some_record (record_in f) well.0 in (
      λ pairs. ap (λ o. replayed shape o pairs) r.1 ∙ no_map shape r.0 f.kind pairs are.0 (record_of-some f.kind f.payload r.0 r.1).1,
      physical_no_map shape fs are.1 well.1,
    )

kind_within : (kind : ℕ) → (kind ≡ SNAPSHOT) ⊎ (kind ≡ DELTA) → (1 ≤ kind) × (kind < 6)
kind_within kind (inl is) = (omega (arith, is), omega (arith, is))
kind_within kind (inr is) = (omega (arith, is), omega (arith, is))

-- and the log takes each
pub physical_frames : (fs : List Frame) → AllPhysical fs → AllInGrammar fs → AreRecordFrames fs
physical_frames [] are well = tt
physical_frames (f ∷ fs) are well =
    let r = some_record (record_in f) well.0 in
    let is = record_of-some f.kind f.payload r.0 r.1 in
    let kind = kind_within f.kind are.0 in
    let short : length f.payload ≤ length (payload_of r.0) = omega (arith, ap length is.2) in
    (record { known_from = omega (arith, kind.0); known_to = omega (arith, kind.1); short = omega (arith, short, payload_of-short r.0 is.0) }, physical_frames fs are.1 well.1)

-- ---- names

pub names_once : (seen : Paged) (logged : List PageId) (n : ℕ) → seen.part < 2 ^ 16 → n ≤ 2 ^ 32 → AreOnce logged → AreOnce (logged ++ names_below seen logged n)
unfolding names_below
names_once seen logged zero small few once = subst AreOnce (sym (append-nil logged)) once
names_once seen logged (suc n) small few once =
    subst AreOnce (append_assoc logged (names_below seen logged n) (names_at seen logged n))
    (by (names_once seen logged n small (omega (arith, few)) once) (is_changed (seen.patch n)) (has_index seen.part n logged) refl)
  where
    still : has_index seen.part n (logged ++ names_below seen logged n) ≡ has_index seen.part n logged
    still = logged_still seen logged n (omega (arith, few))

    by : AreOnce (logged ++ names_below seen logged n) → (changed has : Bool) → has_index seen.part n logged ≡ has → AreOnce ((logged ++ names_below seen logged n) ++ (if changed && not has then page_id seen.part n ∷ [] else []))
    by earlier false has e = subst AreOnce (sym (append-nil (logged ++ names_below seen logged n))) earlier
    by earlier true true e = subst AreOnce (sym (append-nil (logged ++ names_below seen logged n))) earlier
    by earlier true false e =
        let page = page_id seen.part n in
        let at : has_index (part_of_id page) (index_of_id page) (logged ++ names_below seen logged n) ≡ false =
        ap (λ (q : ℕ × ℕ). has_index q.0 q.1 (logged ++ names_below seen logged n)) (λ j. (part_named seen.part n small (omega (arith, few)) j, index_named seen.part n (omega (arith, few)) j)) ∙ still ∙ e in
        once_more page (logged ++ names_below seen logged n) at earlier
