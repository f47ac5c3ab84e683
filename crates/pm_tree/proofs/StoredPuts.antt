-- Pages that pass their checks do so still after a put into an index.
use Rattle.std.proofs.Common.{◌≡◌, ℕ, ◌+◌, ◌*◌, ◌%◌, ◌^◌, ◌<◌, ◌≤◌, List, sym, ap, subst, ◌∙◌, arith}
use Rattle.std.specs.Prelude.{IfSome, IsSomeAnd, Result, Ok, Err, OnOk}
use Rattle.pm_types.specs.Ids.{page_id, index_of_id, link, page_of_link}
use Rattle.pm_pages.specs.Passes.{Passes, PassesAsMeta}
use Rattle.pm_types.specs.declared.shape.Shape.{Shape}
use Rattle.pm_btpage.specs.Stored.{IsLink}
use Rattle.pm_pages.specs.Rows.{Partition}
use Rattle.pm_pages.specs.Trees.{root_of}
use Rattle.pm_pages.specs.Paged.{Paged}
use Rattle.pm_pages.specs.Edits.{HasMeta}
use Rattle.pm_pages.specs.WellFormed.{AllPass}
use Rattle.pm_tree.specs.Indexes.{IsIndex}
use Rattle.pm_tree.specs.Roots.{PutsRootPages}
use Rattle.pm_pages.specs.SoundPages.{PassesAll}
use Rattle.pm_tree.specs.SoundPuts.{HasSparePages}
use Rattle.pm_tree.specs.StoredPuts.{HasKey}
use Rattle.pm_tree.proofs.GrownTrees.{can_take_spare}
use Rattle.pm_tree.proofs.SoundPuts.{none_held}

-- two facts of a value
pub on_ok_both : {R E P Q S : Type 0} (r : Result R E) → OnOk r P → OnOk r Q → (P → Q → S) → OnOk r S
on_ok_both (Ok x) p q f = f p q
on_ok_both (Err e) p q f = tt

-- where pages can be taken
pub passes_room : (T : Type 0) (a d : Paged) (cache word : ℕ) → T → a.part < 2 ^ 16 → HasMeta a → PutsRootPages T a d cache 17 (IsLink a.part word) → IsLink a.part word → HasSparePages a 17 → PassesAll d
passes_room T a d cache word t part meta changes link spare =
    (changes.passes t link (2 * a.max_rows + 256) (omega arith) (can_take_spare a 17 meta spare) (record { all = spare.all; rows = spare.rows; part = part })).all

-- an index without a root has no key, and one with a root has it where it was looked at
pub no_key : (pages : Partition) (cache : ℕ) (key : List ℕ) → root_of pages cache ≡ 0 → HasKey pages cache key → ⊥
no_key pages cache key root has = none_held pages has.height has.nodes has.items key has.held (subst (λ n. IsIndex pages n has.height has.nodes has.items) root has.index) has.is

-- pages that pass for one shape pass for another of the same numbers
pub passes_for : (p : Paged) (shape : Shape) → shape.page_size ≡ p.page_size → shape.max_rows ≡ p.max_rows → PassesAll p → AllPass shape p.part p.pages
passes_for p shape size rows all = record {
  meta = subst (λ (q : ℕ × ℕ). IfSome (p.pages 0) (PassesAsMeta q.0 q.1 (page_id p.part 0))) {x = (all.shape.page_size, all.shape.max_rows)} {y = (shape.page_size, shape.max_rows)} same all.pass.meta;
  each = λ i lt. subst (λ (q : ℕ × ℕ). IsSomeAnd (p.pages i) (Passes q.0 q.1 (page_id p.part i))) {x = (all.shape.page_size, all.shape.max_rows)} {y = (shape.page_size, shape.max_rows)} same (all.pass.each i lt);
}
  where
    same : ◌≡◌ {A = ℕ × ℕ} (all.shape.page_size, all.shape.max_rows) (shape.page_size, shape.max_rows)
    same k = ((all.page_size ∙ sym size) k, (all.max_rows ∙ sym rows) k)

pub passes_all : (p : Paged) (shape : Shape) → shape.page_size ≡ p.page_size → shape.max_rows ≡ p.max_rows → AllPass shape p.part p.pages → PassesAll p
passes_all p shape size rows pass = record { shape = shape; page_size = size; max_rows = rows; pass = pass }

-- the name of a row in a page of the partition is a link
pub row_link : (part i item : ℕ) → part < 2 ^ 16 → 1 ≤ i → i < 2 ^ 32 → IsLink part (link (page_id part i) item).0
row_link part i item small some lt =
    let page : (item * 2 ^ 56 + (2 ^ 48 + part * 2 ^ 32 + i) % 2 ^ 56) % 2 ^ 56 ≡ 2 ^ 48 + part * 2 ^ 32 + i = omega (arith, small, lt) in
    let index : index_of_id (page_of_link (link (page_id part i) item)) ≡ i = omega (arith, page, lt) in
    record { name = λ k. record { 0 = (page ∙ ap (λ n. 2 ^ 48 + part * 2 ^ 32 + n) (sym index)) k }; index = omega (arith, some, index) }
