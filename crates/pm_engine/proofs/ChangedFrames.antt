-- The frames of the pages of a partition that were changed, one page after the other.
use Rattle.std.proofs.Common.{◌≡◌, ◌≢◌, ℕ, zero, suc, ◌+◌, ◌^◌, ◌<◌, ◌≤◌, Bool, true, false, List, [], ◌∷◌, ◌++◌, length, Option, Some, None, refl, ap, ◌∙◌, inl, inr, arith, append-nil, length-append}
use Rattle.std.specs.Prelude.{◌&&◌, not, if◌then◌else◌}
use Rattle.std.proofs.lemmas.Bool.{cases_eq}
use Rattle.pm_types.specs.declared.page_id.PageId.{PageId}
use Rattle.pm_types.specs.Ids.{page_id}
use Rattle.pm_types.specs.Spans.{Coverage}
use Rattle.pm_frame.specs.Frames.{Frame}
use Rattle.pm_records.specs.Logs.{record_frame}
use Rattle.pm_pages.specs.Asked.{has_bytes, is_changed}
use Rattle.pm_pages.specs.Paged.{Paged}
use Rattle.pm_pages.specs.Rows.{bytes_of}
use Rattle.pm_core.specs.PageSets.{has_index}
use Rattle.pm_engine.specs.PageLogs.{page_record, frames_with, frames_at, frames_below, names_at, names_below}
use Rattle.pm_engine.proofs.PageNames.{other_name, has_index-others}

-- ---- one page

-- it wasn't changed
pub frames_none : (patch : Option Coverage) (page : PageId) (bytes : List ℕ) (is_logged : Bool) → is_changed patch ≡ false → frames_with patch page bytes is_logged ≡ []
frames_none None page bytes is_logged is = refl
frames_none (Some patch) page bytes is_logged is = ap (λ (b : Bool). let fs : List Frame = if b then record_frame (page_record page bytes patch is_logged) ∷ [] else [] in fs) is

pub names_none : (seen : Paged) (logged : List PageId) (index : ℕ) → is_changed (seen.patch index) ≡ false → names_at seen logged index ≡ []
names_none seen logged index is = ap (λ (b : Bool). let ns : List PageId = if b && not (has_index seen.part index logged) then page_id seen.part index ∷ [] else [] in ns) is

-- it was
pub frames_one : (found : Option Coverage) (cover : Coverage) (page : PageId) (bytes : List ℕ) (is_logged : Bool) → found ≡ Some cover → has_bytes cover ≡ true
    → frames_with found page bytes is_logged ≡ record_frame (page_record page bytes cover is_logged) ∷ []
frames_one found cover page bytes is_logged is has =
    ap (λ o. frames_with o page bytes is_logged) is
    ∙ ap (λ (b : Bool). let fs : List Frame = if b then record_frame (page_record page bytes cover is_logged) ∷ [] else [] in fs) has

pub names_one : (seen : Paged) (logged : List PageId) (index : ℕ) → is_changed (seen.patch index) ≡ true
    → names_at seen logged index ≡ (if has_index seen.part index logged then [] else page_id seen.part index ∷ [])
names_one seen logged index is =
    ap (λ (b : Bool). let ns : List PageId = if b && not (has_index seen.part index logged) then page_id seen.part index ∷ [] else [] in ns) is
    ∙ turned (has_index seen.part index logged)
  where
    turned : (b : Bool) → (let ns : List PageId = if not b then page_id seen.part index ∷ [] else [] in ns) ≡ (let ns : List PageId = if b then [] else page_id seen.part index ∷ [] in ns)
    turned true = refl
    turned false = refl

-- ---- the pages below an index

pub below_zero : (seen : Paged) (logged : List PageId) → frames_below seen logged 0 ≡ []
unfolding frames_below
below_zero seen logged = refl

pub names_zero : (seen : Paged) (logged : List PageId) → names_below seen logged 0 ≡ []
unfolding names_below
names_zero seen logged = refl

pub below_next : (seen : Paged) (logged : List PageId) (n m : ℕ) → m ≡ n + 1 → frames_below seen logged m ≡ frames_below seen logged n ++ frames_at seen logged n
unfolding frames_below
below_next seen logged n m is = let e : m ≡ suc n = omega arith in ap (frames_below seen logged) e

pub names_next : (seen : Paged) (logged : List PageId) (n m : ℕ) → m ≡ n + 1 → names_below seen logged m ≡ names_below seen logged n ++ names_at seen logged n
unfolding names_below
names_next seen logged n m is = let e : m ≡ suc n = omega arith in ap (names_below seen logged) e

-- no page from an index on up to another one was changed
abbrev pub NoneBetween : Paged → ℕ → ℕ → Type 0
NoneBetween seen from to = (i : ℕ) → from ≤ i → i < to → is_changed (seen.patch i) ≡ false

pub below_same : (seen : Paged) (logged : List PageId) (from k to : ℕ) → to ≡ from + k → NoneBetween seen from to → frames_below seen logged to ≡ frames_below seen logged from
below_same seen logged from zero to is none = ap (frames_below seen logged) (omega arith)
below_same seen logged from (suc k) to is none =
    below_next seen logged (from + k) to (omega arith)
    ∙ ap (λ fs. frames_below seen logged (from + k) ++ fs) (frames_none (seen.patch (from + k)) _ _ _ (none (from + k) (omega arith) (omega arith)))
    ∙ append-nil (frames_below seen logged (from + k))
    ∙ below_same seen logged from k (from + k) refl (λ i low high. none i low (omega (arith, high)))

pub names_same : (seen : Paged) (logged : List PageId) (from k to : ℕ) → to ≡ from + k → NoneBetween seen from to → names_below seen logged to ≡ names_below seen logged from
names_same seen logged from zero to is none = ap (names_below seen logged) (omega arith)
names_same seen logged from (suc k) to is none =
    names_next seen logged (from + k) to (omega arith)
    ∙ ap (λ ns. names_below seen logged (from + k) ++ ns) (names_none seen logged (from + k) (none (from + k) (omega arith) (omega arith)))
    ∙ append-nil (names_below seen logged (from + k))
    ∙ names_same seen logged from k (from + k) refl (λ i low high. none i low (omega (arith, high)))

-- ---- names that came meanwhile are those of other pages

names_apart_one : (seen : Paged) (logged : List PageId) (n index : ℕ) → n < 2 ^ 32 → n ≢ index → has_index seen.part index (names_at seen logged n) ≡ false
names_apart_one seen logged n index low ne = by (is_changed (seen.patch n) && not (has_index seen.part n logged))
  where
    by : (b : Bool) → has_index seen.part index (let ns : List PageId = if b then page_id seen.part n ∷ [] else [] in ns) ≡ false
    by true = ap (λ (b : Bool). if b then true else false) (other_name seen.part n index low ne)
    by false = refl

pub names_apart : (seen : Paged) (logged : List PageId) (n index : ℕ) → n ≤ index → n ≤ 2 ^ 32 → has_index seen.part index (names_below seen logged n) ≡ false
names_apart seen logged zero index le few = ap (has_index seen.part index) (names_zero seen logged)
names_apart seen logged (suc n) index le few =
    ap (has_index seen.part index) (names_next seen logged n (suc n) (omega arith))
    ∙ has_index-others seen.part index (names_below seen logged n) (names_at seen logged n) (names_apart_one seen logged n index (omega (arith, few)) (λ e. absurd (omega (arith, e, le))))
    ∙ names_apart seen logged n index (omega (arith, le)) (omega (arith, few))

-- so that the page at hand is logged as it was at first
pub logged_still : (seen : Paged) (logged : List PageId) (n : ℕ) → n ≤ 2 ^ 32 → has_index seen.part n (logged ++ names_below seen logged n) ≡ has_index seen.part n logged
logged_still seen logged n few = has_index-others seen.part n logged (names_below seen logged n) (names_apart seen logged n n (omega arith) few)

-- ---- how many pages were changed

-- how many pages below an index were
abbrev pub changed_count : (ℕ → Option Coverage) → ℕ → ℕ
changed_count patch zero = 0
changed_count patch (suc n) = changed_count patch n + (if is_changed (patch n) then 1 else 0)

few_frames : (patch : Option Coverage) (page : PageId) (bytes : List ℕ) (is_logged : Bool) → length (frames_with patch page bytes is_logged) ≤ (if is_changed patch then 1 else 0)
few_frames None page bytes is_logged = omega arith
few_frames (Some patch) page bytes is_logged = by (record_frame (page_record page bytes patch is_logged)) (has_bytes patch)
  where
    by : (f : Frame) (b : Bool) → length (let fs : List Frame = if b then f ∷ [] else [] in fs) ≤ (if b then 1 else 0)
    by f true = omega arith
    by f false = omega arith

pub frames_few : (seen : Paged) (logged : List PageId) (n : ℕ) → length (frames_below seen logged n) ≤ changed_count seen.patch n
frames_few seen logged zero = omega (arith, ap length (below_zero seen logged))
frames_few seen logged (suc n) =
    omega (arith, ap length (below_next seen logged n (suc n) (omega arith)), length-append (frames_below seen logged n) (frames_at seen logged n), few_frames (seen.patch n) (page_id seen.part n) (bytes_of (seen.pages n)) (has_index seen.part n logged), frames_few seen logged n)

-- the same, but at one index
count_below : (f g : ℕ → Option Coverage) (k n : ℕ) → ((i : ℕ) → i ≢ k → f i ≡ g i) → n ≤ k → changed_count f n ≡ changed_count g n
count_below f g k zero same le = refl
count_below f g k (suc n) same le =
    omega (arith, count_below f g k n same (omega (arith, le)), ap {B = ℕ} (λ o. if is_changed o then 1 else 0) (same n (λ e. absurd (omega (arith, e, le)))))

bit : (b : Bool) → (if b then 1 else 0) ≤ 1
bit true = omega arith
bit false = omega arith

pub count_one : (f g : ℕ → Option Coverage) (k n : ℕ) → ((i : ℕ) → i ≢ k → f i ≡ g i) → changed_count f n ≤ changed_count g n + 1
count_one f g k zero same = omega arith
count_one f g k (suc n) same = elim (cases_eq n k) [
  | inl e ↦ omega (arith, count_below f g k n same (omega (arith, e)), bit (is_changed (f n)))
  | inr ne ↦ omega (arith, count_one f g k n same, ap {B = ℕ} (λ o. if is_changed o then 1 else 0) (same n ne))
]
