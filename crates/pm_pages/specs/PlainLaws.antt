-- The laws of plain pages.
use Rattle.std.proofs.Common.{◌≡◌, ℕ, ◌<◌, List, length, set, take, drop, ◌++◌, refl, sym, ap, subst}
use Rattle.std.proofs.Common.{◌∙◌, inl, inr, arith}
use Rattle.std.specs.Prelude.{Vec, Option, None, Some, IsSome, IsTrue, All, slice_get}
use Rattle.std.specs.Global.{Global}
use Rattle.std.specs.Option.{option_map}
use Rattle.std.specs.Vec.{vec_capacity, with_items}
use Rattle.std.proofs.lemmas.Bool.{cases_eq, cases_lt, eq-eqb, ne_eqb}
use Rattle.std.proofs.lemmas.List.{length-set, get_or-set_same, get_or-set_other}
use Rattle.std.proofs.lemmas.List.Elements.{All-set}
use Rattle.std.proofs.lemmas.Option.{slice_get-get_or, slice_get_past, slice_get_cases, get_or_from_slice_get}
use Rattle.std.proofs.Math.Seq.{take-append_seam}
use Rattle.pm_types.specs.declared.page.Page.{Page}
use Rattle.pm_pages.specs.declared.asked.Asked.{Asked}
use Rattle.pm_pages.specs.declared.plain.PlainPages.{PlainPages}
use Rattle.pm_pages.specs.Asked.{entry_of, is_lent_in}
use Rattle.pm_pages.specs.PageLists.{pages_in}
use Rattle.pm_pages.specs.Paged.{with_page, WritesPage}
use Rattle.pm_pages.specs.PlainRooms.{IsOfSize, AreReady}
use Rattle.pm_pages.specs.Plain.{refilled, pages_with, plain_seen, plain_written, plain_count}
use Rattle.pm_pages.specs.Plain.{ArePlainReady, KeepsPlain}

pub kept_refl : (p : PlainPages) → KeepsPlain p p
kept_refl p = record {
  shape = refl;
  part = refl;
  ready = λ is. is;
  stay = omega arith;
  come = λ i past below. absurd (omega (arith, past, below));
  made = λ i is. is;
}

pub kept_then : (p q r : PlainPages) → KeepsPlain p q → KeepsPlain q r → KeepsPlain p r
kept_then p q r x y = record {
  shape = y.shape ∙ x.shape;
  part = y.part
      ∙ x.part;
  ready = λ is. y.ready (x.ready is);
  stay = omega (arith, x.stay, y.stay);
  come = λ i past below. elim (cases_lt i (plain_count q)) [
    | inl lt ↦ y.made i (x.come i past lt)
    | inr le ↦ y.come i le below
  ];
  made = λ i is. y.made i (x.made i is);
}

-- the pages, with one of them replaced
pub pages_in-set : (pages : List Page) (i j : ℕ) (page : Page) → i < length pages
    → pages_in (set pages i page) j ≡ with_page (pages_in pages) i page.bytes.items j
pages_in-set pages i j page lt = elim (cases_eq j i) [
  | inl same ↦
      let here : slice_get (set pages i page) i ≡ Some page =
      slice_get-get_or (set pages i page) i page (omega (arith, length-set pages i page))
      ∙ ap Some (get_or-set_same pages i page page lt) in
      simp (eq-eqb j i same)
      (ap (λ k. pages_in (set pages i page) k) same ∙ ap (option_map (λ (p : Page). p.bytes.items)) here)
  | inr away ↦ simp (ne_eqb j i away)
      (ap (option_map (λ (p : Page). p.bytes.items)) (elim (cases_lt j (length pages)) [
        | inl lt' ↦ slice_get-get_or (set pages i page) j page (omega (arith, length-set pages i page))
            ∙ ap Some (get_or-set_other pages i j page page away) ∙ sym (slice_get-get_or pages j page lt')
        | inr le ↦ slice_get_past (set pages i page) j (omega (arith, length-set pages i page))
            ∙ sym (slice_get_past pages j le)
      ]))
]

-- the bytes of a page that was filled anew
filled : (v : Vec ℕ Global) (w : List ℕ) → length w ≡ length v.items → (with_items v w).items ≡ w
filled v w same = ap (λ n. take n (w ++ drop (length w) v.items)) (v.ok.0 ∙ sym same)
    ∙ take-append_seam w (drop (length w) v.items)

-- a page of the list has the size of each
pub size_of : (pages : List Page) (i size : ℕ) (page : Page) → slice_get pages i ≡ Some page
    → i < length pages → All (IsOfSize size) pages → length page.bytes.items ≡ size
size_of pages i size page is lt sized =
    subst (IsOfSize size) (get_or_from_slice_get pages i page page is) (sized i page lt)

-- a page that was lent was asked for
pub lent_asked : (o : Option Asked) → IsTrue (is_lent_in o) → IsSome o
lent_asked None lent = absurd (cc lent)
lent_asked (Some entry) lent = refl

-- one page is another of the same size
pub ready_set : (size : ℕ) (pages rooms : List Page) (asked : List Asked) (pages_room asked_room i : ℕ)
    (page : Page) → AreReady size pages rooms asked pages_room asked_room → IsOfSize size page
    → AreReady size (set pages i page) rooms asked pages_room asked_room
ready_set size pages rooms asked pages_room asked_room i page is fits =
    let long : length (set pages i page) ≡ length pages = length-set pages i page in
    record {
      ordered = record {
        is_size = is.ordered.is_size;
        sized = All-set (IsOfSize size) pages i page fits is.ordered.sized;
        indexed = omega (arith, long, is.ordered.indexed);
        zeros = is.ordered.zeros;
        there = λ j some. omega (arith, long, is.ordered.there j some);
        few = is.ordered.few;
        room = is.ordered.room;
        patches = is.ordered.patches;
      };
      enough = record { zeros = is.enough.zeros; space = omega (arith, long, is.enough.space) };
      idle = λ none. record { zeros = (is.idle none).zeros; space = omega (arith, long, (is.idle none).space) };
    }

-- there is an element below the length of a list
pub not_none : (pages : List Page) (i : ℕ) → i < length pages → slice_get pages i ≡ None → ⊥
not_none pages i lt none = elim (slice_get_cases pages i).1 [
  | inl found ↦ (let no = sym none ∙ found.2 in cc no)
  | inr past ↦ omega (arith, past.0, lt)
]

-- what holds of the pages where the page that is written is named
writes_found : (p : PlainPages) (i : ℕ) (bytes : List ℕ) (o : Option Page) → slice_get p.pages.items i ≡ o
    → i < length p.pages.items → All (IsOfSize p.shape.page_size) p.pages.items
    → length bytes ≡ p.shape.page_size
    → WritesPage (plain_seen p) (plain_seen (record p { pages = pages_with p.pages i o bytes })) i bytes
writes_found p i bytes None is lt sized long = absurd (not_none p.pages.items i lt is)
writes_found p i bytes (Some page) is lt sized long =
    let same = filled page.bytes bytes
    (long ∙ sym (size_of p.pages.items i p.shape.page_size page is lt sized)) in
    record {
      pages = λ j. pages_in-set p.pages.items i j (refilled page bytes) lt
          ∙ ap (λ (w : List ℕ). with_page (pages_in p.pages.items) i w j) same;
      known = λ j. refl;
      asked = λ j. refl;
      lent = λ j. refl;
      patches = λ j. refl;
      spare = refl;
      same = record { page_size = refl; max_rows = refl; part = refl; faults = omega arith };
    }

pub writes : (p : PlainPages) (i : ℕ) (bytes : List ℕ) → ArePlainReady p → IsTrue ((plain_seen p).lent i)
    → length bytes ≡ (plain_seen p).page_size
    → WritesPage (plain_seen p) (plain_seen (plain_written p i bytes)) i bytes
writes p i bytes ready lent long =
    writes_found p i bytes (slice_get p.pages.items i) refl
    (ready.ordered.there i (lent_asked (entry_of p.asked.items i) lent)) ready.ordered.sized long

ready_found : (size : ℕ) (v : Vec Page Global) (i : ℕ) (o : Option Page) (bytes : List ℕ)
    (rooms : List Page) (asked : List Asked) (asked_room : ℕ) → slice_get v.items i ≡ o
    → i < length v.items → length bytes ≡ size
    → AreReady size v.items rooms asked (vec_capacity v) asked_room
    → AreReady size (pages_with v i o bytes).items rooms asked
    (vec_capacity (pages_with v i o bytes)) asked_room
ready_found size v i None bytes rooms asked asked_room is lt long ready = ready
ready_found size v i (Some page) bytes rooms asked asked_room is lt long ready =
    let same = filled page.bytes bytes (long ∙ sym (size_of v.items i size page is lt ready.ordered.sized)) in
    ready_set size v.items rooms asked (vec_capacity v) asked_room i (refilled page bytes) ready
    (ap length same ∙ long)

-- as many pages as before
count_found : (v : Vec Page Global) (i : ℕ) (o : Option Page) (bytes : List ℕ)
    → length (pages_with v i o bytes).items ≡ length v.items
count_found v i None bytes = refl
count_found v i (Some page) bytes = length-set v.items i (refilled page bytes)

pub kept_written : (p : PlainPages) (i : ℕ) (bytes : List ℕ) → ArePlainReady p
    → IsTrue ((plain_seen p).lent i) → length bytes ≡ (plain_seen p).page_size
    → KeepsPlain p (plain_written p i bytes)
kept_written p i bytes ready lent long = record {
  shape = refl;
  part = refl;
  ready = λ is. ready_found p.shape.page_size p.pages i
      (slice_get p.pages.items i) bytes p.rooms.items p.asked.items (vec_capacity p.asked) refl
      (is.ordered.there i (lent_asked (entry_of p.asked.items i) lent)) long is;
  stay = omega (arith, count_found p.pages i (slice_get p.pages.items i) bytes);
  come = λ j past below. absurd
      (omega (arith, past, below, count_found p.pages i (slice_get p.pages.items i) bytes));
  made = λ j is. is;
}

-- a page below the number of pages is there
pub is_there : (pages : List Page) (i : ℕ) → i < length pages → IsSome (pages_in pages i)
is_there pages i lt = elim (slice_get_cases pages i).1 [
  | inl found ↦ subst (λ o. IsSome (option_map (λ (p : Page). p.bytes.items) o)) (sym found.2) refl
  | inr past ↦ absurd (omega (arith, past.0, lt))
]
