-- The pairs of the items of a leaf.
use Rattle.std.proofs.Common.{◌≡◌, ℕ, zero, suc, ◌+◌, ◌<◌, ◌≤◌, List, [], ◌∷◌, ◌++◌, take, length, sym, ap, subst, ◌∙◌, arith}
use Rattle.std.proofs.lemmas.List.{take_all, append_assoc, append-nil}
use Rattle.pm_types.specs.declared.page_id.PageId.{PageId}
use Rattle.pm_types.specs.declared.page_id.Link.{Link}
use Rattle.pm_btpage.specs.IndexPages.{Item, key_in, word_in, items_of}
use Rattle.pm_pages.specs.Paged.{Paged}
use Rattle.pm_tree.specs.Indexes.{as_link}
use Rattle.pm_part.specs.PairReads.{PairsList, HadPair, HadPairs, AppendsPairs}
use Rattle.pm_part.specs.PairFaults.{IsPairFault, IsItemFault}

-- the pair of the next item
pub next_pair : (T : Type 0) (start : Paged) (count cache : ℕ) (items : List Item) (i : ℕ) (pairs : PairsList) (pair : List ℕ × List ℕ) → i < length items → HadPairs T start count cache (take i items) pairs → HadPair T start count cache (as_link (word_in items i)) (key_in items i) pair → HadPairs T start count cache (take (suc i) items) (pairs ++ pair ∷ [])
next_pair T start count cache [] i pairs pair lt had is = absurd (omega (arith, lt))
next_pair T start count cache (item ∷ items) zero [] pair lt had is = (is, tt)
next_pair T start count cache (item ∷ items) zero (p ∷ pairs) pair lt had is = absurd had
next_pair T start count cache (item ∷ items) (suc i) [] pair lt had is = absurd had
next_pair T start count cache (item ∷ items) (suc i) (p ∷ pairs) pair lt had is = (had.0, next_pair T start count cache items i pairs pair (omega (arith, lt)) had.1 is)

pub next_appended : (T : Type 0) (start : Paged) (count cache : ℕ) (items : List Item) (i : ℕ) (was now later : PairsList) (link : Link) (key : List ℕ) (pair : List ℕ × List ℕ) → i < length items → link ≡ as_link (word_in items i) → key ≡ key_in items i → later ≡ now ++ pair ∷ [] → AppendsPairs was now (HadPairs T start count cache (take i items)) → HadPair T start count cache link key pair → AppendsPairs was later (HadPairs T start count cache (take (i + 1) items))
next_appended T start count cache items i was now later link key pair lt link_is key_is pushed appends is =
    let here = subst (λ (q : Link × List ℕ). HadPair T start count cache q.0 q.1 pair) {x = (link, key)} {y = (as_link (word_in items i), key_in items i)} (λ k. (link_is k, key_is k)) is in
    let e : suc i ≡ i + 1 = omega arith in
    record {
      more = appends.more ++ pair ∷ [];
      appended = pushed ∙ ap (λ (l : PairsList). l ++ pair ∷ []) appends.appended ∙ append_assoc was appends.more (pair ∷ []);
      are = subst (λ n. HadPairs T start count cache (take n items) (appends.more ++ pair ∷ [])) e (next_pair T start count cache items i appends.more pair lt appends.are here);
    }

-- nothing was appended yet
pub none_appended : (T : Type 0) (start : Paged) (count cache : ℕ) (items : List Item) (was : PairsList) → AppendsPairs was was (HadPairs T start count cache (take 0 items))
none_appended T start count cache items was = record { more = []; appended = sym (append-nil was); are = tt }

-- the pairs of all items
pub all_appended : (T : Type 0) (start : Paged) (count cache : ℕ) (items : List Item) (i : ℕ) (was now : PairsList) → length items ≤ i → AppendsPairs was now (HadPairs T start count cache (take i items)) → AppendsPairs was now (HadPairs T start count cache items)
all_appended T start count cache items i was now all appends = record { more = appends.more; appended = appends.appended; are = subst (λ l. HadPairs T start count cache l appends.more) (take_all i items all) appends.are }

-- the fault of one item
pub item_fault : (T : Type 0) (start : Paged) (count cache leaf i : ℕ) (page : List ℕ) (link : Link) (key : List ℕ) (id : PageId) → i < length (items_of page) → link ≡ as_link (word_in (items_of page) i) → key ≡ key_in (items_of page) i → IsPairFault T start count cache leaf link key id → IsItemFault T start count cache leaf page id
item_fault T start count cache leaf i page link key id lt link_is key_is fault =
    let here = subst (λ (q : Link × List ℕ). IsPairFault T start count cache leaf q.0 q.1 id) {x = (link, key)} {y = (as_link (word_in (items_of page) i), key_in (items_of page) i)} (λ k. (link_is k, key_is k)) fault in
    record { name = here.name; wrong = record { item = i; in_range = lt; wrong = here.wrong } }
