-- Pages of a tree that pass their checks, before and after they were changed.
use Rattle.std.proofs.Common.{◌≡◌, ◌≢◌, ℕ, zero, suc, ◌+◌, ◌*◌, ◌^◌, ◌<◌, ◌≤◌, ◌⊎◌, true, false, List, [], ◌∷◌, ◌++◌, length, take, drop, refl, sym, ap, subst, ◌∙◌, inl, inr, arith}
use Rattle.std.specs.Prelude.{All, Bool, None, Some}
use Rattle.std.proofs.lemmas.Bool.{cases_eq}
use Rattle.std.proofs.lemmas.List.{length-append}
use Rattle.std.proofs.lemmas.List.Elements.{All-nil, All-cons, All-head, All-tail, All-append, All-take, All-drop, All-get_or, All-from_get_or}
use Rattle.pm_types.specs.PageSizes.{IsPageSize}
use Rattle.pm_types.specs.Ids.{page_id, part_of_id, index_of_id}
use Rattle.pm_types.specs.declared.page_id.PageId.{PageId}
use Rattle.pm_btpage.specs.IndexPages.{Item, IndexPage, items_of, index_of, key_in, with_item, with_items, with_word, IsIndexPage}
use Rattle.pm_btpage.specs.Stored.{IsChild, IsLink, IsWord, NamesPagesOf, IsStoredIndex}
use Rattle.pm_meta.specs.declared.layout.TheConstants.{EXTRA_PAGES}
use Rattle.pm_meta.specs.declared.slots.MetaSlot.TheVariants.{Pages}
use Rattle.pm_pages.specs.Rows.{page_count, number_of, kind_of}
use Rattle.pm_pages.specs.Paged.{Paged, PassesIn}
use Rattle.pm_pages.specs.Edits.{EditsPages}
use Rattle.pm_pages.proofs.PassingPages.{there_still}
use Rattle.pm_pages.specs.Trees.{index_in}
use Rattle.pm_tree.specs.declared.put.Part.{Part}
use Rattle.pm_tree.specs.Puts.{half_of}
use Rattle.pm_tree.specs.Grown.{child_item, Forks}
use Rattle.pm_tree.specs.Roots.{MakesTop}
use Rattle.pm_tree.specs.Edits.{blank, IsNode}
use Rattle.pm_pages.specs.SoundPages.{CanTake}
use Rattle.pm_pages.specs.StoredPages.{IsStored, IsStoredPage, KeepsMeta}
use Rattle.pm_pages.proofs.PassingLooks.{page_passes}
use Rattle.pm_pages.proofs.StoredPages.{meta_there, count_small, all_stored}

-- what a page of a tree says as it may stand in its file
pub record IsStoredNode (part at : ℕ) (says : IndexPage) : Type 0 where
  pub own : says.id ≡ page_id part at
  pub some : 1 ≤ length says.items
  pub first : says.leaf ≡ false → IsChild part says.link
  pub words : All (λ (item : Item). IsWord says.leaf part item.word) says.items

-- the number of a partition in a name
pub part_in : (part i : ℕ) → part < 2 ^ 16 → i < 2 ^ 32 → part_of_id (page_id part i) ≡ part
part_in part i small lt = omega (arith, small, lt)

-- the name of a page of the partition that isn't the first is that of a child
pub child_name : (part i : ℕ) → part < 2 ^ 16 → 1 ≤ i → i < 2 ^ 32 → IsChild part (page_id part i).0
child_name part i small some lt =
    let index : index_of_id (page_id part i) ≡ i = omega (arith, lt) in
    record { name = ap (page_id part) (sym index); index = omega (arith, some, index) }

-- an index page is of no other kind
not_of : (page : List ℕ) (k : ℕ) → IsIndexPage page → kind_of page ≡ k → (k ≡ 2 → ⊥) → (k ≡ 3 → ⊥) → ⊥
not_of page k index is leaf inner = elim index.head.kind [ inl e ↦ leaf (sym is ∙ e) | inr e ↦ inner (sym is ∙ e) ]

-- a page of a tree that passes is stored
pub node_of_page : (p : Paged) (at : ℕ) (says : IndexPage) → p.part < 2 ^ 16 → 1 ≤ at → at < 2 ^ 32 → (node : IsNode p at says) → PassesIn p at node.page → IsStoredNode p.part at says
node_of_page p zero says small some lt node passes = absurd (omega (arith, some))
node_of_page p (suc i) says small some lt node passes = elim passes.kind [
  | inl meta ↦ absurd (not_of node.page 1 node.well_made meta.well_made.form.kind (λ e. omega (arith, e)) (λ e. omega (arith, e)))
  | inr r ↦ elim r [
    | inl index ↦ subst (IsStoredNode p.part (suc i)) node.is (as_stored index)
    | inr r2 ↦ elim r2 [
      | inl rows ↦ absurd (not_of node.page 4 node.well_made rows.well_made.head.kind (λ e. omega (arith, e)) (λ e. omega (arith, e)))
      | inr reuse ↦ absurd (not_of node.page 5 node.well_made reuse.well_made.kind (λ e. omega (arith, e)) (λ e. omega (arith, e)))
    ]
  ]
]
  where
    as_stored : IsStoredIndex (page_id p.part (suc i)) node.page → IsStoredNode p.part (suc i) (index_of node.page)
    as_stored index =
        let part = part_in p.part (suc i) small lt in
        let names : NamesPagesOf p.part (index_of node.page) = subst (λ n. NamesPagesOf n (index_of node.page)) part index.names in
        record {
          own = index.own;
          some = index.some;
          first = names.first;
          words = All-from_get_or (λ (item : Item). IsWord (index_of node.page).leaf p.part item.word) (items_of node.page) (record { key = []; word = 0 }) names.words;
        }

-- and the other way round
pub page_of_node : (p : Paged) (at : ℕ) (says : IndexPage) → p.part < 2 ^ 16 → 1 ≤ at → at < 2 ^ 32 → IsNode p at says → IsStoredNode p.part at says → IsStoredPage p at
page_of_node p zero says small some lt node stored = absurd (omega (arith, some))
page_of_node p (suc i) says small some lt node stored =
    let here : IsStoredNode p.part (suc i) (index_of node.page) = subst (IsStoredNode p.part (suc i)) (sym node.is) stored in
    let names : NamesPagesOf p.part (index_of node.page) = record { first = here.first; words = λ k in_range. All-get_or (λ (item : Item). IsWord (index_of node.page).leaf p.part item.word) (items_of node.page) k (record { key = []; word = 0 }) in_range here.words } in (
      node.page,
      node.in_hand.page,
      record {
        size = node.size;
        kind = inr (inl (record { own = here.own; some = here.some; well_made = node.well_made; names = subst (λ n. NamesPagesOf n (index_of node.page)) (sym (part_in p.part (suc i) small lt)) names }));
      },
    )

-- a page of a tree in a partition whose pages pass
pub stored_node : (p : Paged) (at : ℕ) (says : IndexPage) → IsStored p → 1 ≤ at → at < page_count p.pages → IsNode p at says → IsStoredNode p.part at says
stored_node p at says stored some lt node =
    let meta = meta_there p stored.all (omega (arith, lt)) in
    node_of_page p at says stored.part some (omega (arith, lt, count_small p stored.rows meta)) node (page_passes p at node.page stored.all lt node.in_hand.page)

-- the words of items with another one, and of items in two parts
pub words_with : (part i : ℕ) (leaf : Bool) (items : List Item) (x : Item) → IsWord leaf part x.word → All (λ (item : Item). IsWord leaf part item.word) items → All (λ (item : Item). IsWord leaf part item.word) (with_item items i x)
words_with part i leaf items x word words =
    let P : Item → Type 0 = λ item. IsWord leaf part item.word in
    All-append P (take i items) (x ∷ drop i items) (All-take P i items words) (All-cons P x (drop i items) word (All-drop P i items words))

pub all_left : {X : Type 0} (P : X → Type 0) (xs ys : List X) → All P (xs ++ ys) → All P xs
all_left P [] ys all = All-nil P
all_left P (x ∷ xs) ys all = All-cons P x xs (All-head P x (xs ++ ys) all) (all_left P xs ys (All-tail P x (xs ++ ys) all))

pub all_right : {X : Type 0} (P : X → Type 0) (xs ys : List X) → All P (xs ++ ys) → All P ys
all_right P [] ys all = all
all_right P (x ∷ xs) ys all = all_right P xs ys (All-tail P x (xs ++ ys) all)

-- one page of a tree was changed
pub stored_one : (T : Type 0) (a c : Paged) (at m : ℕ) (says now : IndexPage) → T → 1 ≤ at → at < page_count a.pages → IsNode a at says → IsNode c at now → EditsPages T a c (λ j. j ≡ at) m → (IsStoredNode a.part at says → IsStoredNode a.part at now) → IsStored a → IsStored c
stored_one T a c at m says now t some below node node' edits step stored =
    let out : 0 ≡ at → ⊥ = λ e. omega (arith, e, some) in
    let zero : c.pages 0 ≡ a.pages 0 = edits.others 0 (inl t) out in
    let count : page_count c.pages ≡ page_count a.pages = ap (λ o. number_of o Pages) zero in
    let meta = meta_there a stored.all (omega (arith, below)) in
    all_stored T a c (λ j. j ≡ at) m t edits (λ j. cases_eq j at) (there_still a c edits.same 0 zero meta)
    (λ part j some_j lt e. subst (IsStoredPage c) (sym e) (page_of_node c at now part some (omega (arith, lt, e)) node' (subst (λ n. IsStoredNode n at now) (sym edits.same.part) (step (stored_node a at says stored some below node)))))
    (λ j lt. inl (omega (arith, lt, count))) stored

-- a page was divided, and so the meta page was changed
pub stored_two : (T : Type 0) (a c : Paged) (at right m limit : ℕ) (says left_now right_now : IndexPage) → T → 1 ≤ at → at < page_count a.pages → 1 ≤ right → IsNode a at says → IsNode c at left_now → IsNode c right right_now → EditsPages T a c (λ j. (j ≡ 0) ⊎ (j ≡ right) ⊎ (j ≡ at)) m
    → KeepsMeta a c → ((j : ℕ) → j < page_count c.pages → (j < page_count a.pages) ⊎ (j ≡ right)) → (IsStoredNode a.part at says → IsStoredNode a.part at left_now × IsStoredNode a.part right right_now)
    → limit ≤ 2 * a.max_rows + EXTRA_PAGES → CanTake limit a 1 → IsStored a → IsStored c
stored_two T a c at right m limit says left_now right_now t some below right_some node left_is right_is edits keeps added step small can stored =
    let meta = meta_there a stored.all (omega (arith, below)) in
    let both = step (stored_node a at says stored some below node) in
    all_stored T a c (λ j. (j ≡ 0) ⊎ (j ≡ right) ⊎ (j ≡ at)) m t edits
    (λ j. elim (cases_eq j 0) [
      | inl e ↦ inl (inl e)
      | inr not_zero ↦ elim (cases_eq j right) [
        | inl e ↦ inl (inr (inl e))
        | inr not_right ↦ elim (cases_eq j at) [ inl e ↦ inl (inr (inr e)) | inr not_at ↦ inr (λ h. elim h [ inl e ↦ not_zero e | inr h2 ↦ elim h2 [ inl e ↦ not_right e | inr e ↦ not_at e ] ]) ]
      ]
    ]) (keeps limit small can meta)
    (λ part j some_j lt h. elim h [
      | inl e ↦ absurd (omega (arith, e, some_j))
      | inr h2 ↦ elim h2 [
        | inl e ↦ subst (IsStoredPage c) (sym e) (page_of_node c right right_now part right_some (omega (arith, lt, e)) right_is (subst (λ n. IsStoredNode n right right_now) (sym edits.same.part) both.1))
        | inr e ↦ subst (IsStoredPage c) (sym e) (page_of_node c at left_now part some (omega (arith, lt, e)) left_is (subst (λ n. IsStoredNode n at left_now) (sym edits.same.part) both.0))
      ]
    ])
    (λ j lt. elim (added j lt) [ inl old ↦ inl old | inr e ↦ inr (inr (inl e)) ]) stored

-- what a page says with another item, and with another word in an item
pub insert_stored : (part at i : ℕ) (says : IndexPage) (x : Item) → IsWord says.leaf part x.word → IsStoredNode part at says → IsStoredNode part at (with_items says (with_item says.items i x))
insert_stored part at i says x word stored = record {
  own = stored.own;
  some = omega (arith, length-append (take i says.items) (x ∷ drop i says.items));
  first = stored.first;
  words = words_with part i says.leaf says.items x word stored.words;
}

pub word_stored : (part at i word : ℕ) (says : IndexPage) → IsWord says.leaf part word → IsStoredNode part at says → IsStoredNode part at (with_items says (with_word says.items i word))
word_stored part at i word says is stored =
    let x : Item = record { key = key_in says.items i; word = word } in
    let P : Item → Type 0 = λ item. IsWord says.leaf part item.word in
    record {
      own = stored.own;
      some = omega (arith, length-append (take i says.items) (x ∷ drop (i + 1) says.items));
      first = stored.first;
      words = All-append P (take i says.items) (x ∷ drop (i + 1) says.items) (All-take P i says.items stored.words) (All-cons P x (drop (i + 1) says.items) is (All-drop P (i + 1) says.items stored.words));
    }

-- a child's word
pub child_word : (part : ℕ) (leaf : Bool) (child : Part) → part < 2 ^ 16 → 1 ≤ child.right → leaf ≡ false → index_in (child_item part child).word ≡ child.right → IsWord leaf part (child_item part child).word
child_word part leaf child small some inner index = subst (λ b. IsWord b part (child_item part child).word) (sym inner) (child_name part child.right small some (omega (arith, index)))

-- a link's word
pub link_word : (part : ℕ) (leaf : Bool) (word : ℕ) → leaf ≡ true → IsLink part word → IsWord leaf part word
link_word part leaf word is link = subst (λ b. IsWord b part word) (sym is) link

-- the halves of a leaf that was divided, one of which took an item
pub halves_stored : (part at right i : ℕ) (says left_now right_now : IndexPage) (x : Item) → says.leaf ≡ true → left_now.id ≡ says.id → left_now.leaf ≡ true → right_now.id ≡ page_id part right → right_now.leaf ≡ true → left_now.items ++ right_now.items ≡ with_item says.items i x
    → 1 ≤ length left_now.items → 1 ≤ length right_now.items → IsLink part x.word → IsStoredNode part at says → IsStoredNode part at left_now × IsStoredNode part right right_now
halves_stored part at right i says left_now right_now x leaf left_id left_leaf right_id right_leaf whole left_some right_some link stored =
    let P : Item → Type 0 = λ item. IsLink part item.word in
    let was : All P says.items = subst (λ b. All (λ (item : Item). IsWord b part item.word) says.items) leaf stored.words in
    let all : All P (left_now.items ++ right_now.items) = subst (All P) (sym whole) (words_with part i true says.items x link was) in (
      record { own = left_id ∙ stored.own; some = left_some; first = λ e. absurd (let z : true ≡ false = sym left_leaf ∙ e in cc z); words = subst (λ b. All (λ (item : Item). IsWord b part item.word) left_now.items) (sym left_leaf) (all_left P left_now.items right_now.items all) },
      record { own = right_id; some = right_some; first = λ e. absurd (let z : true ≡ false = sym right_leaf ∙ e in cc z); words = subst (λ b. All (λ (item : Item). IsWord b part item.word) right_now.items) (sym right_leaf) (all_right P left_now.items right_now.items all) },
    )

half_some : (size : ℕ) → IsPageSize size → 6 ≤ half_of size
half_some size is = elim is [ inl e ↦ omega (arith, e) | inr r ↦ elim r [ inl e ↦ omega (arith, e) | inr r2 ↦ elim r2 [ inl e ↦ omega (arith, e) | inr r3 ↦ elim r3 [ inl e ↦ omega (arith, e) | inr e ↦ omega (arith, e) ] ] ] ]

-- the halves of an inner page that was divided
pub forks_stored : (T : Type 0) (a c : Paged) (at i : ℕ) (part forked : Part) → a.part < 2 ^ 16 → 1 ≤ part.right → (forks : Forks T a c at i part forked) → IsStoredNode a.part at forks.says → IsStoredNode a.part at (with_items forks.says forks.low) × IsStoredNode a.part forked.right (record { id = page_id a.part forked.right; leaf = false; link = forks.middle.word; items = forks.high })
forks_stored T a c at i part forked small right forks stored =
    let P : Item → Type 0 = λ item. IsWord false a.part item.word in
    let was : All P forks.says.items = subst (λ b. All (λ (item : Item). IsWord b a.part item.word) forks.says.items) forks.inner stored.words in
    let all : All P (forks.low ++ (forks.middle ∷ forks.high)) = subst (All P) forks.whole (words_with a.part i false forks.says.items (child_item a.part part) (child_word a.part false part small right refl forks.index) was) in
    let high : All P (forks.middle ∷ forks.high) = all_right P forks.low (forks.middle ∷ forks.high) all in
    let half : 1 ≤ half_of a.page_size = omega (arith, half_some a.page_size (subst IsPageSize forks.before.size forks.before.well_made.size)) in (
      record { own = stored.own; some = omega (arith, half, forks.full); first = stored.first; words = subst (λ b. All (λ (item : Item). IsWord b a.part item.word) forks.low) (sym forks.inner) (all_left P forks.low (forks.middle ∷ forks.high) all) },
      record { own = refl; some = omega (arith, half, forks.full_right); first = λ e. All-head P forks.middle forks.high high; words = All-tail P forks.middle forks.high high },
    )

-- a new root with one item
pub stored_root : (T : Type 0) (a c : Paged) (top m limit : ℕ) (says : IndexPage) → T → 1 ≤ top → IsNode c top says → EditsPages T a c (λ j. (j ≡ 0) ⊎ (j ≡ top)) m → KeepsMeta a c → ((j : ℕ) → j < page_count c.pages → (j < page_count a.pages) ⊎ (j ≡ top)) → IsStoredNode a.part top says
    → limit ≤ 2 * a.max_rows + EXTRA_PAGES → CanTake limit a 1 → IsStored a → IsStored c
stored_root T a c top m limit says t some node edits keeps added says_stored small can stored =
    let meta = meta_there a stored.all can.some in
    all_stored T a c (λ j. (j ≡ 0) ⊎ (j ≡ top)) m t edits
    (λ j. elim (cases_eq j 0) [ inl e ↦ inl (inl e) | inr not_zero ↦ elim (cases_eq j top) [ inl e ↦ inl (inr e) | inr other ↦ inr (λ h. elim h [ inl e ↦ not_zero e | inr e ↦ other e ]) ] ])
    (keeps limit small can meta)
    (λ part j some_j lt h. elim h [
      | inl e ↦ absurd (omega (arith, e, some_j))
      | inr e ↦ subst (IsStoredPage c) (sym e) (page_of_node c top says part some (omega (arith, lt, e)) node (subst (λ n. IsStoredNode n top says) (sym edits.same.part) says_stored))
    ])
    (λ j lt. elim (added j lt) [ inl old ↦ inl old | inr e ↦ inr (inr e) ]) stored

-- the first item of an index, and the two children of a root above one that was divided
pub leaf_root : (part top : ℕ) (key : List ℕ) (word : ℕ) → IsLink part word → IsStoredNode part top (with_items (blank (page_id part top) None) (record { key = key; word = word } ∷ []))
leaf_root part top key word link = record {
  own = refl;
  some = omega arith;
  first = λ e. absurd (cc e);
  words = All-cons (λ (item : Item). IsLink part item.word) (record { key = key; word = word }) [] link (All-nil (λ (item : Item). IsLink part item.word));
}

pub inner_root : (part top : ℕ) (lower upper : PageId) (key : List ℕ) → IsChild part lower.0 → IsChild part upper.0
    → IsStoredNode part top (with_items (blank (page_id part top) (Some lower)) (record { key = key; word = upper.0 } ∷ []))
inner_root part top lower upper key is_lower is_upper = record {
  own = refl;
  some = omega arith;
  first = λ e. is_lower;
  words = All-cons (λ (item : Item). IsChild part item.word) (record { key = key; word = upper.0 }) [] is_upper (All-nil (λ (item : Item). IsChild part item.word));
}

pub top_root : (T : Type 0) (a c : Paged) (cache root : ℕ) (part : Part) → root ≢ 0 → 1 ≤ part.right → a.part < 2 ^ 16 → (makes : MakesTop T a c cache root part)
    → IsStoredNode a.part makes.makes.top (with_items (blank (page_id a.part makes.makes.top) (Some makes.lower)) (record { key = part.from; word = makes.upper.0 } ∷ []))
top_root T a c cache root part some right small makes =
    let first : index_in (page_id a.part root).0 ≡ root = ap (λ (id : PageId). index_in id.0) (sym makes.lower_name) ∙ makes.lower_is in
    let second : index_in (page_id a.part part.right).0 ≡ part.right = ap (λ (id : PageId). index_in id.0) (sym makes.upper_name) ∙ makes.upper_is in
    inner_root a.part makes.makes.top makes.lower makes.upper part.from
    (subst (λ (id : PageId). IsChild a.part id.0) (sym makes.lower_name) (child_name a.part root small (omega (arith, some)) (omega (arith, first))))
    (subst (λ (id : PageId). IsChild a.part id.0) (sym makes.upper_name) (child_name a.part part.right small right (omega (arith, second))))
