use Rattle.std.proofs.Common.{◌≡◌, ℕ, ◌-◌, Bool, false, List, length, subst, refl, sym, ap, ◌∙◌, arith}
use Rattle.std.specs.Prelude.{◌↔◌, IsTrue, All}
use Rattle.pm_btpage.specs.IndexPages.{Item, items_of}
use Rattle.pm_pages.specs.PageLists.{pages_in}
use Rattle.pm_pages.specs.Rows.{page_at, kind_of}
use Rattle.pm_pages.specs.Trees.{child_of, items_below, IsWithin, IsSomeTree}
use Rattle.pm_pages.proofs.BelowTrees.{as_inner, inner_kind, some_child, below_leaf, below_inner}
use Rattle.pm_pages.proofs.well_formed.trees.+is_within.Goals as goal

not_true : (b : Bool) → b ≡ false → IsTrue b → ⊥
not_true b is_false is_true = absurd (cc)

pub returns-then-levels-eq0 : goal.returns-then-levels-eq0
returns-then-levels-eq0 t c =
    let pages = pages_in c.args.pages.now in
    let P : Item → Type 0 = IsWithin (items_of c.args.inner.now) c.args.i in
    let leaf = below_leaf P pages c.args.levels c.args.at c.if-levels-eq0.true in
    let own : IsTrue c.items_are_within.result ↔ All P (items_of (page_at pages c.args.at)) = subst (λ (page : List ℕ). IsTrue c.items_are_within.result ↔ All P (items_of page)) c.page-root.ensures.bytes c.items_are_within.ensures in
    (λ h. leaf.1 (own.0 h), λ all. own.1 (leaf.0 all))

pub children-k-end-requires : goal.children-k-end-requires
children-k-end-requires t c = (as_inner c.page-root.result.now c.page-root.ensures.may_read (ap kind_of c.page-root.ensures.bytes ∙ inner_kind (pages_in c.args.pages.now) c.args.levels c.args.at (omega (arith, c.if-levels-eq0.false)) c.requires.tree)).0

pub child-requires-clause-page : goal.child-requires-clause-page
child-requires-clause-page t c = (as_inner c.page-root.result.now c.page-root.ensures.may_read (ap kind_of c.page-root.ensures.bytes ∙ inner_kind (pages_in c.args.pages.now) c.args.levels c.args.at (omega (arith, c.if-levels-eq0.false)) c.requires.tree)).0

pub is_within-requires : goal.is_within-requires
is_within-requires t c =
    let pages = pages_in c.args.pages.now in
    let long : length (items_of c.page-root.result.now) ≡ length (items_of (page_at pages c.args.at)) = ap (λ (page : List ℕ). length (items_of page)) c.page-root.ensures.bytes in
    let child = some_child pages c.args.levels c.args.at c.children.k (omega (arith, c.if-levels-eq0.false)) c.requires.tree (omega (arith, long, c.children-test.true, c.children-k-end.ensures)) in
    let is = c.child.ensures ∙ ap (λ (page : List ℕ). child_of page c.children.k) c.page-root.ensures.bytes in
    (omega (arith, c.decreases, c.if-levels-eq0.false), (c.requires.readable, (c.requires.page, (c.requires.child, subst (λ at. IsSomeTree pages (c.args.levels - 1) at) (sym is) child))))

pub returns-then-not-is_within : goal.returns-then-not-is_within
returns-then-not-is_within t c =
    let pages = pages_in c.args.pages.now in
    let P : Item → Type 0 = IsWithin (items_of c.args.inner.now) c.args.i in
    let long : length (items_of c.page-root.result.now) ≡ length (items_of (page_at pages c.args.at)) = ap (λ (page : List ℕ). length (items_of page)) c.page-root.ensures.bytes in
    let is = c.child.ensures ∙ ap (λ (page : List ℕ). child_of page c.children.k) c.page-root.ensures.bytes in
    let inner = below_inner P pages c.args.levels c.args.at (omega (arith, c.if-levels-eq0.false)) in (
      λ h. absurd (not_true false refl h),
      λ all. absurd (not_true c.is_within.result c.if-not-is_within.true (c.is_within.ensures.1
          (subst (λ at. All P (items_below pages (c.args.levels - 1) at)) (sym is) (inner.0 all c.children.k (omega (arith, long, c.children-test.true, c.children-k-end.ensures)))))),
    )

pub returns : goal.returns
returns t c =
    let pages = pages_in c.args.pages.now in
    let P : Item → Type 0 = IsWithin (items_of c.args.inner.now) c.args.i in
    let long : length (items_of c.page-root.result.now) ≡ length (items_of (page_at pages c.args.at)) = ap (λ (page : List ℕ). length (items_of page)) c.page-root.ensures.bytes in
    let inner = below_inner P pages c.args.levels c.args.at (omega (arith, c.if-levels-eq0.false)) in
    (λ h. inner.1 (λ k lt. subst (λ (page : List ℕ). All P (items_below pages (c.args.levels - 1) (child_of page k))) c.page-root.ensures.bytes (c.children.invariant k (omega (arith, long, lt, c.children-test.false, c.children-k-end.ensures)))), λ all. refl)
