use Rattle.std.proofs.Common.{◌≡◌, ◌≢◌, ℕ, zero, suc, ◌<◌, ◌⊎◌, List, [], ◌∷◌, length, get_or, subst, refl, ◌∙◌, inl, inr, arith}
use Rattle.std.specs.Prelude.{All, Any}
use Rattle.std.proofs.lemmas.Bool.{cases_eq}
use Rattle.std.proofs.lemmas.Result.{IfOk-weaker}
use Rattle.pm_pages.specs.declared.row.Row.{Row}
use Rattle.pm_pages.specs.PageLists.{pages_in}
use Rattle.pm_pages.specs.Rows.{Partition, rows_of}
use Rattle.pm_pages.specs.Trees.{root_of, levels_of, IsSomeTree, HasTree}
use Rattle.pm_pages.proofs.well_formed.deciding.is_well_formed.Goals as goal

-- a cache has rows, or it has none
any_or_none : (rows : List Row) (cache : ℕ) → Any (λ row. row.cache ≡ cache) rows ⊎ All (λ row. row.cache ≢ cache) rows
any_or_none [] cache = inr (λ k d lt. absurd (omega arith))
any_or_none (row ∷ rows) cache = elim (cases_eq row.cache cache) [
  | inl here ↦ inl (0, row, omega arith, refl, here)
  | inr away ↦ elim (any_or_none rows cache) [
    | inl any ↦ inl (suc any.0, any.1, omega (arith, any.2), any.3, any.4)
    | inr none ↦ inr (all_more away none)
  ]
]
  where
    all_more : row.cache ≢ cache → All (λ row. row.cache ≢ cache) rows → (k : ℕ) (d : Row) → k < length {A = Row} (row ∷ rows) → (get_or (row ∷ rows) k d).cache ≢ cache
    all_more away none zero d lt = away
    all_more away none (suc k) d lt = none k d (omega (arith, lt))

-- a root is that of a tree
some_tree : (pages : Partition) (rows : List Row) (cache : ℕ) → HasTree pages rows cache → root_of pages cache ≢ 0 → IsSomeTree pages (levels_of pages cache) (root_of pages cache)
some_tree pages rows cache has some = elim (any_or_none rows cache) [
  | inl any ↦ (1, (has.some any).tree)
  | inr none ↦ absurd (some (has.none none))
]

pub each_once-requires-clause-trees : goal.each_once-requires-clause-trees
each_once-requires-clause-trees c cache lt some =
    some_tree (pages_in c.args.pages.now) c.deref.result.now cache (c.in_ok-has_forest.ensures.0 c.if-not-branch.false cache lt) some

pub returns : goal.returns
returns c =
    let pages = pages_in c.args.pages.now in
    let rows : c.deref.result.now ≡ rows_of c.args.part pages = c.deref.ensures.value ∙ c.in_ok-rows.ensures.rows in
    IfOk-weaker c.each_once.result _ _ (λ is once. (
      λ h. record {
        all_pass = c.all_pass.ensures.pass.0 c.if-not-all_pass.false;
        keys_once = c.has_keys_once.ensures.0 c.if-not-has_keys_once.false;
        trees = λ cache lt. subst (λ (rows : List Row). HasTree pages rows cache) rows (c.in_ok-has_forest.ensures.0 c.if-not-branch.false cache lt);
        chains = c.in_ok-has_chains.ensures.0 c.if-not-branch-2.false;
        reuse = c.has_reuse_chain.ensures.0 c.if-not-has_reuse_chain.false;
        each_once = once.0 h;
      },
      λ formed. once.1 formed.each_once,
    )) c.each_once.ensures
