-- Pages that are read, and those that were loaded.
use Rattle.std.proofs.Common.{◌≡◌, ◌∙◌, ◌<◌, ◌≤◌, ◌⊎◌, Bool, true, false, ℕ, zero, suc, List, [], ◌∷◌, ◌++◌, length, refl, sym, ap, subst, inl, inr, arith}
use Rattle.std.specs.Prelude.{Option, Some, None, IsErrOf, IfSome, IsSome, IsSomeAnd, is_some, IsTrue, nat_lt, ◌==◌, ◌||◌, if◌then◌else◌, Result, Ok, Err, ◌↔◌}
use Rattle.pm_types.specs.declared.fault.StoreFault.{StoreFault}
use Rattle.pm_types.specs.declared.fault.StoreFault.TheVariants.{Failed, Memory, BadPage, BadRecord}
use Rattle.pm_types.specs.declared.page.Page.{Page}
use Rattle.pm_types.specs.declared.page_id.PageId.{PageId}
use Rattle.pm_types.specs.declared.shape.Shape.{Shape}
use Rattle.pm_types.specs.Ids.{page_id}
use Rattle.pm_pages.specs.PageLists.{pages_in}
use Rattle.pm_pages.specs.Passes.{Passes, PassesAsMeta, PassesAt}
use Rattle.pm_pages.specs.WellFormed.{IsWellFormed}
use Rattle.pm_meta.specs.MetaPages.{field_of}
use Rattle.pm_meta.specs.declared.slots.MetaSlot.TheVariants.{Pages}
use Rattle.pm_pages.specs.Rows.{Partition, number_of, page_count}
use Rattle.pm_core.specs.BasePages.{Partitions, counted}
use Rattle.pm_core.specs.Held.{AllWellFormed}
use Rattle.pm_redo.specs.Loading.{EachPasses, AreCounted, FailsCheck, FailsThere, IsBadPage}
use Rattle.std.proofs.lemmas.Bool.{cases_lt, lt-ltb, le-ltb, ne_eqb, false≢true}
use Rattle.std.proofs.lemmas.List.{length-append}
use Rattle.std.proofs.lemmas.Option.{same_Some}
use Rattle.pm_redo.specs.Pictures.{ReadsPage}

pub absent : (page : Option (List ℕ)) (bytes : List ℕ) (is : Bool) → ReadsPage page bytes is → is ≡ false → page ≡ None
absent page bytes true reads eq = absurd (false≢true (sym eq))
absent page bytes false reads eq = reads

pub there : (page : Option (List ℕ)) (bytes : List ℕ) (is : Bool) → ReadsPage page bytes is → is ≡ true → page ≡ Some bytes
there page bytes true reads eq = reads
there page bytes false reads eq = absurd (false≢true eq)

abbrev pub fault_in : {T : Type 0} → Result T StoreFault → StoreFault → StoreFault
fault_in (Ok x) other = other
fault_in (Err fault) other = fault

abbrev name_in : StoreFault → PageId → PageId
name_in Failed other = other
name_in (Memory lack) other = other
name_in (BadPage id) other = id
name_in (BadRecord at) other = other

pub same_page : {T : Type 0} (id made : PageId) → IsErrOf {T = T} {E = StoreFault} (Err (BadPage made)) (BadPage id) → id ≡ made
same_page {T} id made err = sym (ap (λ (r : Result T StoreFault). name_in (fault_in r (BadPage id)) id) err)

-- a page that is there and fails its check is named
pub fails_there : (shape : Shape) (part index : ℕ) (bytes : List ℕ) (id made : PageId) (page : Option (List ℕ)) → page ≡ Some bytes
    → IsErrOf {T = Option Page} {E = StoreFault} (Err (BadPage made)) (BadPage id) → made ≡ page_id part index
    → (passes : Bool) → passes ≡ false → (IsTrue passes ↔ PassesAt shape.page_size shape.max_rows part index bytes)
    → FailsThere shape part index page id
fails_there shape part index bytes id made page there err named passes fails tells = (
  ap (λ (p : Option (List ℕ)). is_some p) there,
  (
    same_page id made err ∙ named,
    λ other is passed.
        false≢true (sym fails ∙ tells.1 (subst (λ b. PassesAt shape.page_size shape.max_rows part index b) (same_Some other bytes (sym is ∙ there)) passed)),
  ),
)

-- ---- the pages of a partition, one after the other

pub at_front : (pages : List Page) (page : Page) (i : ℕ) → i < length pages → pages_in (pages ++ page ∷ []) i ≡ pages_in pages i
at_front [] page i below = absurd (omega (arith, below))
at_front (first ∷ pages) page zero below = refl
at_front (first ∷ pages) page (suc i) below = at_front pages page i (omega (arith, below))

pub at_back : (pages : List Page) (page : Page) → pages_in (pages ++ page ∷ []) (length pages) ≡ Some page.bytes.items
at_back [] page = refl
at_back (first ∷ pages) page = at_back pages page

pub past_end : (pages : List Page) (i : ℕ) → length pages ≤ i → pages_in pages i ≡ None
past_end [] i le = refl
past_end (first ∷ pages) zero le = absurd (omega (arith, le))
past_end (first ∷ pages) (suc i) le = past_end pages i (omega (arith, le))

-- each page passes still when one more comes that passes
pub more_pass : (shape : Shape) (part : ℕ) (pages : List Page) (page : Page) → EachPasses shape part (pages_in pages)
    → PassesAt shape.page_size shape.max_rows part (length pages) page.bytes.items → EachPasses shape part (pages_in (pages ++ page ∷ []))
more_pass shape part pages page each passes i =
    let P : Option (List ℕ) → Type 0 = λ found. IfSome found (PassesAt shape.page_size shape.max_rows part i) in
    elim (cases_lt i (length pages)) [
      | inl below ↦ subst P (sym (at_front pages page i below)) (each i)
      | inr from ↦ elim (cases_lt (length pages) i) [
        | inl past ↦ subst P (sym (past_end (pages ++ page ∷ []) i (omega (arith, past, length-append pages (page ∷ []))))) tt
        | inr upto ↦
            let same : i ≡ length pages = omega (arith, from, upto) in
            subst (λ k. IfSome (pages_in (pages ++ page ∷ []) k) (PassesAt shape.page_size shape.max_rows part k)) (sym same)
            (subst (λ found. IfSome found (PassesAt shape.page_size shape.max_rows part (length pages))) (sym (at_back pages page)) passes)
      ]
    ]

-- the pages so far are the first of these
abbrev pub AreFirst : Partition → List Page → Type 0
AreFirst base pages = (i : ℕ) → i < length pages → pages_in pages i ≡ base i

pub more_first : (base : Partition) (pages : List Page) (page : Page) → AreFirst base pages → base (length pages) ≡ Some page.bytes.items
    → AreFirst base (pages ++ page ∷ [])
more_first base pages page first next i below = elim (cases_lt i (length pages)) [
  | inl before ↦ at_front pages page i before ∙ first i before
  | inr from ↦
      let at : i ≡ length pages = omega (arith, below, from, length-append pages (page ∷ [])) in
      ap (pages_in (pages ++ page ∷ [])) at ∙ at_back pages page ∙ sym next ∙ sym (ap base at)
]

no_first : (i : ℕ) → (suc i == 0) ≡ false
no_first i = ne_eqb (suc i) 0 (λ e. absurd (omega (arith, e)))

is_counted : (i count : ℕ) → (i ≡ 0) ⊎ (i < count) → (i == 0 || nat_lt i count) ≡ true
is_counted i count (inl first) = subst (λ k. (k == 0 || nat_lt k count) ≡ true) (sym first) refl
is_counted zero count (inr below) = refl
is_counted (suc i) count (inr below) = ap (λ (b : Bool). b || nat_lt (suc i) count) (no_first i) ∙ lt-ltb (suc i) count below

not_counted : (i count : ℕ) → 1 ≤ i → count ≤ i → (i == 0 || nat_lt i count) ≡ false
not_counted zero count some from = absurd (omega (arith, some))
not_counted (suc i) count some from = ap (λ (b : Bool). b || nat_lt (suc i) count) (no_first i) ∙ le-ltb (suc i) count from

counted_at : (base : Partition) (i : ℕ) (is : Bool) → (i == 0 || nat_lt i (page_count base)) ≡ is → counted base i ≡ (if is then base i else None)
counted_at base i is eq = ap (λ (b : Bool). let found : Option (List ℕ) = if b then base i else None in found) eq

-- all that count are there
pub all_counted : (base : Partition) (pages : List Page) (count : ℕ) → AreFirst base pages → page_count base ≡ count → length pages ≡ count → 1 ≤ count
    → AreCounted base (pages_in pages)
all_counted base pages count first says long some i = elim (cases_lt i (length pages)) [
  | inl below ↦ first i below ∙ sym (counted_at base i true (is_counted i (page_count base) (inr (omega (arith, below, says, long)))))
  | inr from ↦ past_end pages i from ∙ sym (counted_at base i false (not_counted i (page_count base) (omega (arith, from, long, some)) (omega (arith, from, says, long))))
]

-- ---- pages that can't be

pub bad_first : (shape : Shape) (base : Partitions) (part : ℕ) (id : PageId) → part < shape.partitions → FailsThere shape part 0 (base part 0) id
    → IsBadPage shape base id
bad_first shape base part id inside fails = record {
  part = part;
  index = 0;
  inside = inside;
  named = fails.1.0;
  counts = inl refl;
  there = λ first. fails.0;
  fails = fails.1.1;
}

pub bad_counted : (shape : Shape) (base : Partitions) (part index : ℕ) (id : PageId) → part < shape.partitions → 1 ≤ index
    → index < page_count (base part) → FailsCheck shape part index (base part index) id → IsBadPage shape base id
bad_counted shape base part index id inside some below fails = record {
  part = part;
  index = index;
  inside = inside;
  named = fails.0;
  counts = inr below;
  there = λ first. absurd (omega (arith, first, some));
  fails = fails.1;
}

-- without a first page none counts
pub none_counted : (base : Partition) → base 0 ≡ None → AreCounted base (pages_in [])
none_counted base none zero = sym none
none_counted base none (suc i) =
    sym (counted_at base (suc i) false (not_counted (suc i) (page_count base) (omega arith)
    (omega (arith, ap (λ (found : Option (List ℕ)). number_of found Pages) none))))

-- the first page says how many count
pub says_count : (base : Partition) (meta : Page) → base 0 ≡ Some meta.bytes.items → page_count base ≡ field_of meta.bytes.items Pages
says_count base meta is = ap (λ (found : Option (List ℕ)). number_of found Pages) is

-- a page that was found passes
pub passes_found : (shape : Shape) (part index : ℕ) (found : Option Page) (page : Page) → found ≡ Some page
    → IfSome found (λ (p : Page). PassesAt shape.page_size shape.max_rows part index p.bytes.items)
    → PassesAt shape.page_size shape.max_rows part index page.bytes.items
passes_found shape part index found page is passes =
    subst (λ (f : Option Page). IfSome f (λ (p : Page). PassesAt shape.page_size shape.max_rows part index p.bytes.items)) is passes

-- ---- well-formed pages

some_and : (found : Option (List ℕ)) (P : List ℕ → Type 0) → IsSomeAnd found P → ((bytes : List ℕ) → found ≡ Some bytes → P bytes → ⊥) → ⊥
some_and None P is refutes = absurd is
some_and (Some bytes) P is refutes = refutes bytes refl is

if_some : (found : Option (List ℕ)) (P : List ℕ → Type 0) → IsSome found → IfSome found P → ((bytes : List ℕ) → found ≡ Some bytes → P bytes → ⊥) → ⊥
if_some None P is holds refutes = absurd (false≢true is)
if_some (Some bytes) P is holds refutes = refutes bytes refl holds

none_bad : (shape : Shape) (part index : ℕ) (base : Partition) → IsWellFormed shape part (counted base) → (index ≡ 0) ⊎ (index < page_count base)
    → (index ≡ 0 → IsSome (base 0))
    → ((bytes : List ℕ) → base index ≡ Some bytes → PassesAt shape.page_size shape.max_rows part index bytes → ⊥) → ⊥
none_bad shape part zero base well counts there refutes =
    if_some (base 0) (PassesAsMeta shape.page_size shape.max_rows (page_id part 0)) (there refl) well.all_pass.meta refutes
none_bad shape part (suc i) base well (inl first) there refutes = absurd (omega (arith, first))
none_bad shape part (suc i) base well (inr below) there refutes =
    some_and (counted base (suc i)) (Passes shape.page_size shape.max_rows (page_id part (suc i))) (well.all_pass.each (suc i) below)
    (λ bytes is passes. refutes bytes (sym (counted_at base (suc i) true (is_counted (suc i) (page_count base) (inr below))) ∙ is) passes)

-- where they are well formed none is bad
pub no_bad_page : (shape : Shape) (base : Partitions) (id : PageId) → AllWellFormed shape base → IsBadPage shape base id → ⊥
no_bad_page shape base id well bad =
    none_bad shape bad.part bad.index (base bad.part) (well bad.part bad.inside) bad.counts bad.there bad.fails
