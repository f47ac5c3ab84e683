-- What is at hand reads as what it says, also after a page was asked for or made.
use Rattle.std.proofs.Common.{◌≡◌, ℕ, zero, suc, ◌≤◌, List, length, replicate, sym, subst, ◌∙◌, inl, inr, arith}
use Rattle.std.specs.Prelude.{Option, None, Some, IfSome, IsSomeAnd, Result, Ok, Err, OnOk, OnErr}
use Rattle.std.proofs.lemmas.Bool.{cases_eq, eq-eqb, ne_eqb}
use Rattle.std.proofs.lemmas.List.{length-replicate, get_or-replicate}
use Rattle.pm_types.specs.PageSizes.{IsPageSize}
use Rattle.pm_data.specs.DataPages.{IsDataPage}
use Rattle.pm_data.specs.declared.layout.TheConstants.{DATA_KIND}
use Rattle.pm_btpage.specs.declared.layout.TheConstants.{LEAF_KIND, INNER_KIND}
use Rattle.pm_btpage.specs.IndexPages.{IsIndexPage}
use Rattle.pm_meta.specs.declared.layout.TheConstants.{REUSE_KIND}
use Rattle.pm_meta.specs.MetaPages.{IsReusePage}
use Rattle.pm_pages.specs.Rows.{kind_of}
use Rattle.pm_pages.specs.Passes.{PassesAt}
use Rattle.pm_pages.specs.PageLists.{IsReadable, ReadsAt}
use Rattle.pm_pages.specs.Paged.{Paged, AllReadable, AsksPage, MakesPage, WritesPage, with_page}

zeros_kind : (size : ℕ) → IsPageSize size → kind_of (replicate size 0) ≡ 0
zeros_kind size is = get_or-replicate size 8 0 0 (elim is [ inl e ↦ omega (arith, e) | inr r ↦ elim r [ inl e ↦ omega (arith, e) | inr r2 ↦ elim r2 [ inl e ↦ omega (arith, e) | inr r3 ↦ elim r3 [ inl e ↦ omega (arith, e) | inr e ↦ omega (arith, e) ] ] ] ])

zeros_read : (size : ℕ) → IsPageSize size → IsReadable (replicate size 0)
zeros_read size is =
    let kind = zeros_kind size is in
    record {
      size = subst IsPageSize (sym (length-replicate size 0)) is;
      data_page = λ e. absurd (omega (arith, e, kind));
      leaf = λ e. absurd (omega (arith, e, kind));
      inner = λ e. absurd (omega (arith, e, kind));
      reuse = λ e. absurd (omega (arith, e, kind));
    }

pub passes_read : (page_size max_rows part i : ℕ) (page : List ℕ) → PassesAt page_size max_rows part i page → ReadsAt i page
passes_read page_size max_rows part zero page passes = passes.stored.well_made
passes_read page_size max_rows part (suc i) page passes = elim passes.kind [
  | inl meta ↦ of_kind meta.well_made.size (λ e. absurd (omega (arith, e, meta.well_made.form.kind))) (λ e. absurd (omega (arith, e, meta.well_made.form.kind))) (λ e. absurd (omega (arith, e, meta.well_made.form.kind))) (λ e. absurd (omega (arith, e, meta.well_made.form.kind)))
  | inr r ↦ elim r [
    | inl index ↦ of_kind index.well_made.size (λ e. absurd (elim index.well_made.head.kind [ inl k ↦ omega (arith, e, k) | inr k ↦ omega (arith, e, k) ])) (λ e. index.well_made) (λ e. index.well_made) (λ e. absurd (elim index.well_made.head.kind [ inl k ↦ omega (arith, e, k) | inr k ↦ omega (arith, e, k) ]))
    | inr r2 ↦ elim r2 [
      | inl data_page ↦ of_kind data_page.well_made.size (λ e. data_page.well_made) (λ e. absurd (omega (arith, e, data_page.well_made.head.kind))) (λ e. absurd (omega (arith, e, data_page.well_made.head.kind))) (λ e. absurd (omega (arith, e, data_page.well_made.head.kind)))
      | inr reuse ↦ of_kind reuse.well_made.size (λ e. absurd (omega (arith, e, reuse.well_made.kind))) (λ e. absurd (omega (arith, e, reuse.well_made.kind))) (λ e. absurd (omega (arith, e, reuse.well_made.kind))) (λ e. reuse.well_made)
    ]
  ]
]
  where
    of_kind : IsPageSize (length page) → (kind_of page ≡ DATA_KIND → IsDataPage page) → (kind_of page ≡ LEAF_KIND → IsIndexPage page) → (kind_of page ≡ INNER_KIND → IsIndexPage page) → (kind_of page ≡ REUSE_KIND → IsReusePage page) → IsReadable page
    of_kind size data_page leaf inner reuse = record { size = size; data_page = data_page; leaf = leaf; inner = inner; reuse = reuse }

read_same : (i : ℕ) (o o' : Option (List ℕ)) → o' ≡ o → IfSome o (ReadsAt i) → IfSome o' (ReadsAt i)
read_same i o o' e h = subst (λ x. IfSome x (ReadsAt i)) (sym e) h

-- a page was asked for
pub readable_asked : (T : Type 0) (a b : Paged) (i : ℕ) → AllReadable a → AsksPage T a b i → AllReadable b
readable_asked T a b i readable asks = record {
  each = λ j known. elim (asks.reads j known) [
    | inl before ↦ read_same j (a.pages j) (b.pages j) (asks.pages j (inr before)) (readable.each j before)
    | inr reads ↦ if_there j (b.pages j) reads
  ];
}
  where
    if_there : (j : ℕ) (o : Option (List ℕ)) → IsSomeAnd o (ReadsAt j) → IfSome o (ReadsAt j)
    if_there j None h = absurd h
    if_there j (Some page) h = h

-- bytes were written that read as what they say
pub readable_written : (a b : Paged) (i : ℕ) (now : List ℕ) → AllReadable a → WritesPage a b i now → ReadsAt i now → AllReadable b
readable_written a b i now readable writes reads = record {
  each = λ j known. read_same j (with_page a.pages i now j) (b.pages j) (writes.pages j) (elim (cases_eq j i) [
    | inl e ↦ simp (eq-eqb j i e) (subst (λ n. ReadsAt n now) (sym e) reads)
    | inr ne ↦ simp (ne_eqb j i ne) (readable.each j (sym (writes.known j) ∙ known))
  ]);
}

reads_other : (i : ℕ) (page : List ℕ) → 1 ≤ i → IsReadable page → ReadsAt i page
reads_other zero page some reads = absurd (omega (arith, some))
reads_other (suc i) page some reads = reads

-- a page of zeros was made
pub readable_made : (T : Type 0) (a b : Paged) (i : ℕ) → 1 ≤ i → IsPageSize a.page_size → AllReadable a → MakesPage T a b i → AllReadable b
readable_made T a b i some size readable makes = record {
  each = λ j known. elim (cases_eq j i) [
    | inl e ↦ subst (λ n. IfSome (b.pages n) (ReadsAt n)) (sym e) (subst (λ o. IfSome o (ReadsAt i)) (sym makes.here) (reads_other i (replicate a.page_size 0) some (zeros_read a.page_size size)))
    | inr ne ↦ (let before = makes.only j ne known in read_same j (a.pages j) (b.pages j) (makes.pages j ne (inr before)) (readable.each j before))
  ];
}

-- what follows from each answer follows
pub from_result : {A E : Type 0} (r : Result A E) (P Q X : Type 0) → OnOk r P → OnErr r Q → (P → X) → (Q → X) → X
from_result (Ok x) P Q X p q f g = f p
from_result (Err e) P Q X p q f g = g q
