-- A look-up in a tree of pages that pass their checks meets no bad page.
use Rattle.std.proofs.Common.{◌≡◌, ◌≢◌, ℕ, zero, suc, ◌<◌, ◌⊎◌, List, refl, sym, ap, subst, ◌∙◌, inl, inr, arith}
use Rattle.std.specs.Prelude.{Option}
use Rattle.std.proofs.lemmas.Bool.{cases_lt, le-ltb}
use Rattle.pm_types.specs.declared.page_id.PageId.{PageId}
use Rattle.pm_btpage.specs.declared.layout.TheConstants.{LEAF_KIND, INNER_KIND}
use Rattle.pm_meta.specs.declared.slots.MetaSlot.TheVariants.{Pages}
use Rattle.pm_pages.specs.Rows.{Partition, bytes_of, page_at, page_count, kind_of}
use Rattle.pm_pages.specs.Paged.{Paged, IsBadPage}
use Rattle.pm_pages.specs.Edits.{LooksAtPages, IsNumberIn}
use Rattle.pm_pages.specs.Trees.{IsTree}
use Rattle.pm_pages.proofs.PageReads.{page_at-below}
use Rattle.pm_tree.specs.Steps.{IsLook}
use Rattle.pm_tree.specs.Indexes.{AnswersFrom}
use Rattle.pm_pages.specs.SoundPages.{PassesAll}
use Rattle.pm_tree.specs.declared.steps.Step.TheVariants.{Other}
use Rattle.pm_pages.proofs.ToldPages.{pages_told, number_told, page_told}
use Rattle.pm_pages.proofs.PassingLooks.{meta_passes, page_there, passes_looked, not_bad}

-- the kind of a tree's page, which lies below the page count and isn't the first
tree_kind : (pages : Partition) (levels least at : ℕ) → IsTree pages levels least at → (kind_of (page_at pages at) ≡ LEAF_KIND) ⊎ (kind_of (page_at pages at) ≡ INNER_KIND)
tree_kind pages zero least at tree = inl tree.kind_is
tree_kind pages (suc levels) least at tree = inr tree.0.kind_is

pub tree_below : (pages : Partition) (levels least at : ℕ) → IsTree pages levels least at → at < page_count pages
tree_below pages levels least at tree = elim (cases_lt at (page_count pages)) [
  | inl lt ↦ lt
  | inr le ↦ (let none : kind_of (page_at pages at) ≡ 0 = simp (le-ltb at (page_count pages) le) refl in elim (tree_kind pages levels least at tree) [ inl k ↦ absurd (omega (arith, k, none)) | inr k ↦ absurd (omega (arith, k, none)) ])
]

pub tree_some : (a : Paged) (levels least at : ℕ) → PassesAll a → IsTree a.pages levels least at → at ≢ 0
tree_some a levels least at all tree e =
    let tree0 : IsTree a.pages levels least 0 = subst (IsTree a.pages levels least) e tree in
    let lt = tree_below a.pages levels least 0 tree0 in
    let page = page_there a 0 all lt in
    let kind : kind_of (page_at a.pages 0) ≡ 1 = ap kind_of (page_at-below a.pages 0 lt ∙ ap bytes_of page.1) ∙ (meta_passes a all page.0 page.1).stored.well_made.form.kind in
    elim (tree_kind a.pages levels least 0 tree0) [ inl k ↦ omega (arith, k, kind) | inr k ↦ omega (arith, k, kind) ]

-- the page that a descent is at
pub answers_not_bad : (T : Type 0) (a b : Paged) (m limit at : ℕ) (key : List ℕ) (word : Option ℕ) (id : PageId) → T → PassesAll a → LooksAtPages T a b m → AnswersFrom a.pages key limit at word → IsBadPage T b at id → ⊥
answers_not_bad T a b m limit at key word id t all looks answers bad =
    not_bad T b at id t (passes_looked T a b m t looks all)
    (subst (λ (q : Partition). at < page_count q) (sym (pages_told T a b m t looks)) (tree_below a.pages answers.levels answers.least at answers.tree)) bad

pub answers_are_nodes : (T : Type 0) (a b : Paged) (m count limit at : ℕ) (key : List ℕ) (word : Option ℕ) → T → PassesAll a → LooksAtPages T a b m → IsNumberIn b Pages count → AnswersFrom a.pages key limit at word → IsLook b count at key Other → ⊥
answers_are_nodes T a b m count limit at key word t all looks number answers look =
    let same = pages_told T a b m t looks in
    let tree : IsTree b.pages answers.levels answers.least at = subst (λ (q : Partition). IsTree q answers.levels answers.least at) (sym same) answers.tree in
    let below = tree_below b.pages answers.levels answers.least at tree in
    elim look [
      | inl beside ↦ elim beside.where_at [
        | inl e ↦ tree_some b answers.levels answers.least at (passes_looked T a b m t looks all) tree e
        | inr le ↦ omega (arith, le, below, number_told b Pages count number)
      ]
      | inr r ↦ (let page = page_told b count at r.1.page number r.0 r.1.in_hand.page in elim (tree_kind b.pages answers.levels answers.least at tree) [
        | inl k ↦ r.1.is.leaf (ap kind_of (sym page) ∙ k)
        | inr k ↦ r.1.is.inner (ap kind_of (sym page) ∙ k)
      ])
    ]

pub answers_end : (pages : Paged) (limit at : ℕ) (key : List ℕ) (word : Option ℕ) → limit ≡ 0 → AnswersFrom pages.pages key limit at word → ⊥
answers_end pages limit at key word none answers = omega (arith, none, answers.few)
