-- Changes of one data page.
use Rattle.std.proofs.Common.{ℕ, zero, suc, ◌≤◌, List, sym, subst, ◌∙◌, inr, arith}
use Rattle.std.specs.Prelude.{IfSome, IsTrue}
use Rattle.pm_types.specs.Spans.{Coverage}
use Rattle.pm_data.specs.DataPages.{IsDataPage}
use Rattle.pm_pages.specs.PageLists.{ReadsAt}
use Rattle.pm_pages.specs.Paged.{Paged, AllReadable, NotesPatch}
use Rattle.pm_pages.specs.Edits.{RewritesPage}
use Rattle.pm_pages.proofs.ReadablePages.{readable_written}

pub data_reads : (i : ℕ) (page : List ℕ) → 1 ≤ i → IsDataPage page → ReadsAt i page
data_reads zero page some is = absurd (omega (arith, some))
data_reads (suc i) page some is = record {
  size = is.size;
  data_page = λ e. is;
  leaf = λ e. absurd (omega (arith, e, is.head.kind));
  inner = λ e. absurd (omega (arith, e, is.head.kind));
  reuse = λ e. absurd (omega (arith, e, is.head.kind));
}

readable_noted : (T : Type 0) (b c : Paged) (i : ℕ) (patch : Coverage) → AllReadable b → NotesPatch T b c i patch → AllReadable c
readable_noted T b c i patch readable notes = record {
  each = λ j known. (let before : IsTrue (b.known j) = sym (notes.known j) ∙ known in subst (λ o. IfSome o (ReadsAt j)) (sym (notes.pages j (inr before))) (readable.each j before));
}

-- a data page was written, and its patch noted
pub readable_rewritten : (T : Type 0) (a b c : Paged) (i : ℕ) (before patch : Coverage) (change : List ℕ → List ℕ → Type 0) → 1 ≤ i → AllReadable a → (w : RewritesPage a b i before patch change) → IsDataPage w.now → NotesPatch T b c i patch → AllReadable c
readable_rewritten T a b c i before patch change some readable w is notes = readable_noted T b c i patch (readable_written a b i w.now readable w.writes (data_reads i w.now some is)) notes
