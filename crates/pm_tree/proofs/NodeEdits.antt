-- Changes of one page of a tree.
use Rattle.std.proofs.Common.{ℕ, zero, suc, ◌≤◌, List, sym, subst, ◌∙◌, inl, inr, arith}
use Rattle.std.specs.Prelude.{IfSome, IsTrue}
use Rattle.pm_types.specs.Spans.{Coverage}
use Rattle.pm_btpage.specs.IndexPages.{IndexPage, IsIndexPage}
use Rattle.pm_pages.specs.PageLists.{ReadsAt}
use Rattle.pm_pages.specs.Paged.{Paged, AllReadable, NotesPatch}
use Rattle.pm_pages.specs.Edits.{EditsPages, RewritesPage}
use Rattle.pm_pages.proofs.ReadablePages.{readable_written}
use Rattle.pm_tree.specs.Edits.{IsNode}

pub index_reads : (i : ℕ) (page : List ℕ) → 1 ≤ i → IsIndexPage page → ReadsAt i page
index_reads zero page some index = absurd (omega (arith, some))
index_reads (suc i) page some index = record {
  size = index.size;
  data_page = λ e. absurd (elim index.head.kind [ inl k ↦ omega (arith, e, k) | inr k ↦ omega (arith, e, k) ]);
  leaf = λ e. index;
  inner = λ e. index;
  reuse = λ e. absurd (elim index.head.kind [ inl k ↦ omega (arith, e, k) | inr k ↦ omega (arith, e, k) ]);
}

readable_noted : (T : Type 0) (b c : Paged) (i : ℕ) (patch : Coverage) → AllReadable b → NotesPatch T b c i patch → AllReadable c
readable_noted T b c i patch readable notes = record {
  each = λ j known. (let before : IsTrue (b.known j) = sym (notes.known j) ∙ known in subst (λ o. IfSome o (ReadsAt j)) (sym (notes.pages j (inr before))) (readable.each j before));
}

-- an index page was written, and its patch noted
pub readable_rewritten : (T : Type 0) (a b c : Paged) (i : ℕ) (before patch : Coverage) (change : List ℕ → List ℕ → Type 0) → 1 ≤ i → AllReadable a → (w : RewritesPage a b i before patch change) → IsIndexPage w.now → NotesPatch T b c i patch → AllReadable c
readable_rewritten T a b c i before patch change some readable w index notes = readable_noted T b c i patch (readable_written a b i w.now readable w.writes (index_reads i w.now some index)) notes

-- a page that wasn't touched is as it was
pub node_stays : (T : Type 0) (a b : Paged) (touched : ℕ → Type 0) (m i : ℕ) (says : IndexPage) → EditsPages T a b touched m → (touched i → ⊥) → IsNode a i says → IsNode b i says
node_stays T a b touched m i says edits out node = record {
  page = node.page;
  in_hand = record { known = edits.known i node.in_hand.known; asked = edits.asked i node.in_hand.asked; page = edits.others i (inr node.in_hand.known) out ∙ node.in_hand.page };
  well_made = node.well_made;
  size = node.size ∙ sym edits.same.page_size;
  is = node.is;
}
