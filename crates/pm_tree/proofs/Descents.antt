-- One step of a descent.
use Rattle.std.proofs.Common.{◌≡◌, ◌≢◌, ℕ, zero, suc, ◌+◌, ◌-◌, ◌<◌, List, ◌∷◌, ◌++◌, sym, ap, subst, ◌∙◌, inl, inr, arith}
use Rattle.std.specs.Prelude.{Option, Result}
use Rattle.pm_types.specs.Ids.{page_id}
use Rattle.pm_types.specs.declared.page_id.PageId.{PageId}
use Rattle.pm_types.specs.declared.fault.PageFault.{PageFault}
use Rattle.pm_pages.specs.declared.limits.TheConstants.{LEVELS_MAX}
use Rattle.pm_pages.proofs.TakenPages.{bad_before}
use Rattle.pm_tree.specs.declared.steps.Step.TheVariants.{Word, Child, Other}
use Rattle.std.proofs.lemmas.List.{append-nil}
use Rattle.pm_btpage.specs.declared.layout.TheConstants.{LEAF_KIND, INNER_KIND}
use Rattle.pm_btpage.specs.IndexPages.{Item, items_of, index_of}
use Rattle.pm_meta.specs.declared.slots.MetaSlot.TheVariants.{Pages}
use Rattle.pm_pages.specs.Rows.{Partition, page_at, kind_of}
use Rattle.pm_pages.specs.Trees.{child_of, items_below, index_in, IsTree}
use Rattle.pm_pages.specs.Paged.{Paged, IsInHand}
use Rattle.pm_pages.specs.Edits.{LooksAtPages, IsNumberIn}
use Rattle.pm_tree.specs.Maps.{get_in}
use Rattle.pm_tree.specs.Steps.{IsChildFor, IsPath, IsLook, NamesNoNode, HasLookCause}
use Rattle.pm_tree.specs.Indexes.{AnswersFrom, IsIndex}
use Rattle.pm_tree.specs.Nodes.{first_entry, nodes_in, items_under, Each, IsTreeIn}
use Rattle.pm_tree.proofs.Decoded.{kid, kid_is, tree_to, tree_from, items_same}
use Rattle.pm_tree.proofs.Seams.{Seam, seam, get_seam, each_right}
use Rattle.pm_pages.proofs.ToldPages.{page_told, pages_told}

pub child_tree_in : (pages : Partition) (levels least at : ℕ) (key : List ℕ) (i : ℕ) → IsTree pages (suc levels) least at → IsChildFor (items_of (page_at pages at)) key i
    → Seam (items_under (nodes_in pages) levels) (first_entry (index_of (page_at pages at)).link) (items_of (page_at pages at)) key i
child_tree_in pages levels least at key i tree child =
    let t = tree_to pages (suc levels) least at tree in
    seam (items_under (nodes_in pages) levels) (first_entry (index_of (page_at pages at)).link) (items_of (page_at pages at)) key i tt child t.2

child_is : (page : List ℕ) (i : ℕ) → child_of page i ≡ kid (index_in (index_of page).link) (items_of page) i
child_is page i = kid_is (index_in (index_of page).link) (items_of page) i

-- an inner page answers as its child for the key does
pub answers_child : (pages : Partition) (key : List ℕ) (limit at : ℕ) (word : Option ℕ) (i : ℕ) → AnswersFrom pages key limit at word → kind_of (page_at pages at) ≡ INNER_KIND → IsChildFor (items_of (page_at pages at)) key i → AnswersFrom pages key (limit - 1) (child_of (page_at pages at) i) word
answers_child pages key limit at word i answers kind child = step answers.levels answers.few answers.tree answers.is
  where
    step : (levels : ℕ) → levels < limit → IsTree pages levels answers.least at → get_in (items_below pages levels at) key ≡ word → AnswersFrom pages key (limit - 1) (child_of (page_at pages at) i) word
    step zero few tree is = absurd (omega (arith, kind, tree.kind_is))
    step (suc levels) few tree is =
        let page = page_at pages at in
        let s = child_tree_in pages levels answers.least at key i tree child in
        let t = tree_to pages (suc levels) answers.least at tree in
        let here : s.here.child ≡ child_of page i = s.child ∙ sym (child_is page i) in
        let each : Each (IsTreeIn (nodes_in pages) levels (nodes_in pages at).half) (s.before ++ (s.here ∷ s.after)) = subst (Each (IsTreeIn (nodes_in pages) levels (nodes_in pages at).half)) s.is t.1 in
        let sub = each_right (IsTreeIn (nodes_in pages) levels (nodes_in pages at).half) s.before (s.here ∷ s.after) each in
        record {
          levels = levels;
          few = omega (arith, few);
          least = (nodes_in pages at).half;
          tree = subst (IsTree pages levels (nodes_in pages at).half) here (tree_from pages levels (nodes_in pages at).half s.here.child sub.0);
          is = ap (λ n. get_in (items_below pages levels n) key) (sym here)
              ∙ ap (λ (t : List Item). get_in t key) (sym (items_same pages levels s.here.child))
              ∙ sym (get_seam (items_under (nodes_in pages) levels) (first_entry (index_of page).link) (items_of page) key i s)
              ∙ ap (λ (t : List Item). get_in t key) (items_same pages (suc levels) at)
              ∙ is;
        }

-- a leaf answers by its own items
pub answers_leaf : (pages : Partition) (key : List ℕ) (limit at : ℕ) (word : Option ℕ) → AnswersFrom pages key limit at word → kind_of (page_at pages at) ≡ LEAF_KIND → get_in (items_of (page_at pages at)) key ≡ word
answers_leaf pages key limit at word answers kind = step answers.levels answers.tree answers.is
  where
    step : (levels : ℕ) → IsTree pages levels answers.least at → get_in (items_below pages levels at) key ≡ word → get_in (items_of (page_at pages at)) key ≡ word
    step zero tree is = ap (λ (t : List Item). get_in t key) (sym (append-nil (items_of (page_at pages at)))) ∙ is
    step (suc levels) tree is = absurd (omega (arith, kind, tree.0.kind_is))

-- a page at hand stays so
pub in_hand_looked : (T : Type 0) (a b : Paged) (m i : ℕ) (page : List ℕ) → LooksAtPages T a b m → IsInHand a i page → IsInHand b i page
in_hand_looked T a b m i page looks is = record { known = looks.known i is.known; asked = looks.asked i is.asked; page = looks.pages i (inr is.known) ∙ is.page }

pub path_looked : (T : Type 0) (a b : Paged) (m cache levels from at : ℕ) → LooksAtPages T a b m → IsPath a cache levels from at → IsPath b cache levels from at
path_looked T a b m cache zero from at looks path = (path.0, record { meta = path.1.meta; in_hand = in_hand_looked T a b m 0 path.1.meta looks path.1.in_hand; is = path.1.is })
path_looked T a b m cache (suc levels) from at looks path = (
  record { page = path.0.page; in_hand = in_hand_looked T a b m from path.0.page looks path.0.in_hand; kind = path.0.kind; number = path.0.number; in_range = path.0.in_range; is = path.0.is },
  path.1,
  path_looked T a b m cache levels path.1 from looks path.2,
)

-- the bytes that a page has below the page count
pub at_page : (T : Type 0) (a d : Paged) (m count at : ℕ) (page : List ℕ) → T → LooksAtPages T a d m → IsNumberIn d Pages count → at < count → IsInHand d at page → page_at a.pages at ≡ page
at_page T a d m count at page t looks number lt in_hand = ap (λ (q : Partition). page_at q at) (sym (pages_told T a d m t looks)) ∙ page_told d count at page number lt in_hand.page

pub word_answers : (T : Type 0) (a d : Paged) (m count at limit : ℕ) (key : List ℕ) (w word : Option ℕ) → T → LooksAtPages T a d m → IsNumberIn d Pages count → IsLook d count at key (Word w) → AnswersFrom a.pages key limit at word → w ≡ word
word_answers T a d m count at limit key w word t looks number look answers = elim look [
  | inl beside ↦ absurd (cc beside.other)
  | inr r ↦ (let same = at_page T a d m count at r.1.page t looks number r.0 r.1.in_hand in
      r.1.is.is ∙ ap (λ (q : List ℕ). get_in (items_of q) key) (sym same) ∙ answers_leaf a.pages key limit at word answers (ap kind_of same ∙ r.1.is.kind))
]

pub child_answers : (T : Type 0) (a d : Paged) (m count at limit child : ℕ) (key : List ℕ) (word : Option ℕ) → T → LooksAtPages T a d m → IsNumberIn d Pages count → IsLook d count at key (Child child) → AnswersFrom a.pages key limit at word → AnswersFrom a.pages key (limit - 1) child word
child_answers T a d m count at limit child key word t looks number look answers = elim look [
  | inl beside ↦ absurd (cc beside.other)
  | inr r ↦ (let same = at_page T a d m count at r.1.page t looks number r.0 r.1.in_hand in
      subst (λ n. AnswersFrom a.pages key (limit - 1) n word) (ap (λ (q : List ℕ). child_of q r.1.is.number) same ∙ sym r.1.is.is)
      (answers_child a.pages key limit at word r.1.is.number answers (ap kind_of same ∙ r.1.is.kind) (subst (λ (q : List ℕ). IsChildFor (items_of q) key r.1.is.number) (sym same) r.1.is.for_key)))
]

pub path_child : (p : Paged) (cache levels from at count child : ℕ) (key : List ℕ) → IsPath p cache levels from at → IsLook p count at key (Child child) → IsPath p cache (levels + 1) at child
path_child p cache levels from at count child key path look = elim look [
  | inl beside ↦ absurd (cc beside.other)
  | inr r ↦ (let e : suc levels ≡ levels + 1 = omega arith in subst (λ n. IsPath p cache n at child) e
      (record { page = r.1.page; in_hand = r.1.in_hand; kind = r.1.is.kind; number = r.1.is.number; in_range = r.1.is.for_key.in_range; is = r.1.is.is }, from, path))
]

pub names_no_node : (p : Paged) (cache levels from at count : ℕ) (key : List ℕ) (id : PageId) → id ≡ page_id p.part from → IsPath p cache levels from at → IsNumberIn p Pages count → IsLook p count at key Other → NamesNoNode p cache id
names_no_node p cache levels from at count key id name path number look = record {
  levels = levels;
  from = from;
  at = at;
  name = name;
  path = path;
  wrong = elim look [
    | inl beside ↦ elim beside.where_at [ inl e ↦ inl e | inr le ↦ inr (inl (count, number, le)) ]
    | inr r ↦ inr (inr (record { page = r.1.page; in_hand = r.1.in_hand; kind = r.1.is }))
  ];
}

pub look_cause_before : {R : Type 0} (T : Type 0) (a b c : Paged) (m cache : ℕ) (result : Result R PageFault) → LooksAtPages T a b m → HasLookCause T b c cache result → HasLookCause T a c cache result
look_cause_before T a b c m cache result looks cause = record {
  failed = λ e. omega (arith, cause.failed e, looks.same.faults);
  bad = λ id e. elim (cause.bad id e) [
    | inl bad ↦ inl (bad.0, bad_before T a b m bad.0 id looks bad.1)
    | inr r ↦ inr r
  ];
}

-- the index of a cache answers from its root
pub index_answers : (pages pages' : Partition) (root height : ℕ) (nodes : List ℕ) (items : List Item) (key : List ℕ) → pages' ≡ pages → root ≢ 0 → IsIndex pages root height nodes items → AnswersFrom pages' key LEVELS_MAX root (get_in items key)
index_answers pages pages' root zero nodes items key same some index = absurd (some index.0)
index_answers pages pages' root (suc levels) nodes items key same some index = subst (λ (q : Partition). AnswersFrom q key LEVELS_MAX root (get_in items key)) (sym same) (record {
  levels = levels;
  few = index.few;
  least = 1;
  tree = index.tree;
  is = ap (λ (t : List Item). get_in t key) (sym index.items_are);
})
