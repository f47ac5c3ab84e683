-- A root that is replaced, and the calls of a removal from an index.
use Rattle.std.proofs.Common.{◌≡◌, ℕ, zero, suc, ◌+◌, ◌<◌, ◌≤◌, ◌⊎◌, List, length, refl, sym, ap, subst, ◌∙◌, inl, inr, arith}
use Rattle.std.specs.Prelude.{Option, None, IsSome, IsTrue, Result, Err}
use Rattle.pm_types.specs.declared.limits.TheConstants.{CACHES}
use Rattle.pm_types.specs.Ids.{page_id}
use Rattle.pm_types.specs.declared.page_id.PageId.{PageId}
use Rattle.pm_types.specs.declared.page_id.Link.{Link}
use Rattle.pm_btpage.specs.IndexPages.{Item}
use Rattle.pm_types.specs.declared.fault.PageFault.{PageFault}
use Rattle.pm_types.specs.declared.fault.PageFault.TheVariants.{BadPage}
use Rattle.pm_meta.specs.declared.slots.MetaSlot.{MetaSlot}
use Rattle.pm_meta.specs.declared.slots.MetaSlot.TheVariants.{Root, Reuse, Pages}
use Rattle.pm_meta.specs.MetaPages.{field_of}
use Rattle.pm_pages.specs.Rows.{Partition, number_of, page_count}
use Rattle.pm_pages.specs.Trees.{root_of}
use Rattle.pm_pages.specs.Paged.{Paged, IsFirstAbsent}
use Rattle.pm_pages.specs.Edits.{LooksAtPages, EditsPages, HasMeta, IsNumberIn}
use Rattle.pm_pages.specs.SparePages.{IsMetaOr, SetsNumber, MetaBecomes, GivesPage}
use Rattle.pm_pages.proofs.EditedPages.{edits_then, edits_more, edits_looked, looks_at_none}
use Rattle.pm_pages.proofs.TakenPages.{number_looked}
use Rattle.pm_tree.specs.Steps.{NamesNoNode}
use Rattle.pm_meta.specs.MetaPages.{IsStoredMeta, IsStoredReuse}
use Rattle.pm_tree.specs.Indexes.{IsIndex}
use Rattle.pm_pages.proofs.PassingPages.{count_within}
use Rattle.pm_tree.proofs.Told.{count_there}
use Rattle.pm_pages.proofs.ToldPages.{number_told, pages_told}
use Rattle.pm_tree_del.proofs.NearlyStored.{nearly_looked}
use Rattle.pm_tree_del.proofs.NearlyMended.{root_nearly}
use Rattle.pm_tree.proofs.Divided.{number_is, number_now}
use Rattle.pm_tree.proofs.NewRoots.{meta_set}
use Rattle.pm_tree_del.specs.Causes.{RemovesPages, HasRemoveCause}
use Rattle.pm_tree_del.specs.Roots.{IsTopIn, RemovesRootPages, ReplacesRoot, Settles, RemovesIndex, HasGiveCause}
use Rattle.pm_tree_del.specs.declared.tops.Top.TheVariants.{Full, Empty, Only, Other}
use Rattle.pm_tree_del.proofs.WrittenPages.{gives_again}
use Rattle.pm_tree_del.proofs.RemovedIndexes.{empty_index}

pub replaces_root : (T : Type 0) (a b c : Paged) (cache root child : ℕ) → 1 ≤ root → IsTrue (a.known root) → IsTrue (a.asked root) → GivesPage T a b root → (IsTrue (a.asked root) → a.spare ≤ b.spare) → EditsPages T b c (λ j. j ≡ 0) 0 → MetaBecomes b c (λ was now. SetsNumber was now (Root cache) child) → ReplacesRoot T a c cache root child
replaces_root T a b c cache root child some known asked gives again edits sets =
    let e1 = gives_again T a b root asked gives again in
    let same : sets.was ≡ gives.numbers.now = cc (sets.before, gives.numbers.after) in
    let first = gives.numbers.change.1 in
    record {
      edits = edits_more T a c (λ j. IsMetaOr root j ⊎ (j ≡ 0)) (λ j. (j ≡ 0) ⊎ (j ≡ root)) (0 + 0) 0 (λ j h. elim h [ inl x ↦ x | inr e ↦ inl e ]) (omega arith) (edits_then T a b c (IsMetaOr root) (λ j. j ≡ 0) 0 0 e1 edits);
      page = gives.page;
      here = edits.others root (inr (e1.known root known)) (λ e. omega (arith, e, some)) ∙ gives.here;
      size = gives.size;
      stored = gives.stored;
      meta = meta_set T b c cache child edits gives.meta sets;
      numbers = record {
        was = gives.numbers.was;
        now = sets.now;
        before = gives.numbers.before;
        after = sets.after;
        change = record {
          next_is = gives.numbers.change.0;
          reuse = sets.change.others Reuse tt (λ e. cc e) ∙ ap (λ (q : List ℕ). field_of q Reuse) same ∙ first.here;
          root_is = sets.change.here;
          others = λ slot is_slot not_reuse not_root. sets.change.others slot is_slot not_root ∙ ap (λ (q : List ℕ). field_of q slot) same ∙ first.others slot is_slot not_reuse;
          size = sets.change.size ∙ ap length same ∙ first.size;
          stored = λ id max_rows was root_in child_in. sets.change.stored id max_rows (subst (IsStoredMeta id max_rows) (sym same) (first.stored id max_rows was root_in))
              (omega (arith, child_in, ap (λ (q : List ℕ). field_of q Pages) same, first.others Pages tt (λ e. cc e)));
        };
      };
    }

-- what was changed where a root was replaced
pub changes_replaced : (T : Type 0) (a b c : Paged) (cache root child : ℕ) → HasMeta a → IsTrue (a.asked root) → cache < CACHES → 1 ≤ root → IsNumberIn a (Root cache) root → ((n : ℕ) → IsNumberIn a Pages n → 1 ≤ n → child < n) → LooksAtPages T a b 0 → ReplacesRoot T b c cache root child → RemovesRootPages T a c cache 0
changes_replaced T a b c cache root child meta asked in_caches some is_root below looks rep =
    let asked_c : IsTrue (c.asked root) = rep.edits.asked root (looks.asked root asked) in
    record {
      edits = edits_more T a c (λ j. ((j ≡ 0) ⊎ (j ≡ root)) ⊎ ((j ≡ 0) ⊎ (j ≡ root))) (λ j. IsTrue (c.asked j)) (0 + 0) 0
          (λ j h. elim h [ inl x ↦ one j x asked_c | inr x ↦ one j x asked_c ]) (omega arith)
          (edits_then T a b c (λ j. (j ≡ 0) ⊎ (j ≡ root)) (λ j. (j ≡ 0) ⊎ (j ≡ root)) 0 0 (edits_looked T a b (λ j. (j ≡ 0) ⊎ (j ≡ root)) 0 looks) rep.edits);
      numbers = record {
        others = λ slot is_slot not_reuse not_root n is.
            (let is_b = number_looked T a b 0 slot n looks is in
            number_now c slot n rep.numbers.now rep.meta rep.numbers.after (number_is b slot n rep.numbers.was is_b rep.numbers.before ∙ sym (rep.numbers.change.others slot is_slot not_reuse not_root)));
      };
      passes = λ t near.
          let n = count_there a meta in
          let near_b = nearly_looked T a b 0 t looks near in
          let same = pages_told T a b 0 t looks in
          let count : page_count b.pages ≡ n.0 = ap (λ (q : Partition). page_count q) same ∙ number_told a Pages n.0 n.1 in
          root_nearly T b c cache root child t in_caches some (number_looked T a b 0 (Root cache) root looks is_root) (omega (arith, count, below n.0 n.1 (omega (arith, count, (count_within b near_b.meta).0)))) rep near_b;
    }
  where
    one : (j : ℕ) → (j ≡ 0) ⊎ (j ≡ root) → IsTrue (c.asked root) → IsTrue (c.asked j)
    one j h asked_c = elim h [ inl e ↦ subst (λ n. IsTrue (c.asked n)) (sym e) rep.meta.asked | inr e ↦ subst (λ n. IsTrue (c.asked n)) (sym e) asked_c ]

-- pages were only looked at
pub root_looked : (T : Type 0) (a b : Paged) (cache m : ℕ) → LooksAtPages T a b m → RemovesRootPages T a b cache m
root_looked T a b cache m looks = record { edits = edits_looked T a b (λ j. IsTrue (b.asked j)) m looks; numbers = record { others = λ slot is_slot not_reuse not_root n is. number_looked T a b m slot n looks is }; passes = λ t near. nearly_looked T a b m t looks near }

pub root_then : (T : Type 0) (a b c : Paged) (cache m n k : ℕ) → m + n ≤ k → RemovesRootPages T a b cache m → RemovesRootPages T b c cache n → RemovesRootPages T a c cache k
root_then T a b c cache m n k le x y = record {
  edits = edits_more T a c (λ j. IsTrue (b.asked j) ⊎ IsTrue (c.asked j)) (λ j. IsTrue (c.asked j)) (m + n) k (λ j h. elim h [ inl z ↦ y.edits.asked j z | inr z ↦ z ]) le
      (edits_then T a b c (λ j. IsTrue (b.asked j)) (λ j. IsTrue (c.asked j)) m n x.edits y.edits);
  numbers = record { others = λ slot is_slot not_reuse not_root n is. y.numbers.others slot is_slot not_reuse not_root n (x.numbers.others slot is_slot not_reuse not_root n is) };
  passes = λ t near. y.passes t (x.passes t near);
}

pub root_changed : (T : Type 0) (a b : Paged) (cache m : ℕ) → RemovesPages T a b m → RemovesRootPages T a b cache m
root_changed T a b cache m x = record { edits = x.edits; numbers = record { others = λ slot is_slot not_reuse not_root n is. x.numbers.others slot is_slot not_reuse n is }; passes = x.passes }

-- a root that was settled after it was looked at
pub settles_full : (T : Type 0) (a b : Paged) (cache root : ℕ) → IsTrue (a.known root) → LooksAtPages T a b 0 → IsTopIn b root Full → Settles T a b cache root
settles_full T a b cache root known looks top = inl (top.page, sym (looks.pages root (inr known)) ∙ top.in_hand.page, top.is, λ j told. looks.pages j (elim told [ inl k ↦ inr k | inr t ↦ inl t ]))

replaces_looked : (T : Type 0) (a b c : Paged) (cache root child : ℕ) → HasMeta a → LooksAtPages T a b 0 → ReplacesRoot T b c cache root child → ReplacesRoot T a c cache root child
replaces_looked T a b c cache root child meta looks rep = record {
  edits = edits_more T a c (λ j. ((j ≡ 0) ⊎ (j ≡ root)) ⊎ ((j ≡ 0) ⊎ (j ≡ root))) (λ j. (j ≡ 0) ⊎ (j ≡ root)) (0 + 0) 0 (λ j h. elim h [ inl x ↦ x | inr x ↦ x ]) (omega arith)
      (edits_then T a b c (λ j. (j ≡ 0) ⊎ (j ≡ root)) (λ j. (j ≡ 0) ⊎ (j ≡ root)) 0 0 (edits_looked T a b (λ j. (j ≡ 0) ⊎ (j ≡ root)) 0 looks) rep.edits);
  page = rep.page;
  here = rep.here;
  size = rep.size ∙ looks.same.page_size;
  stored = subst (λ n. IsStoredReuse (page_id n root) rep.page) looks.same.part rep.stored;
  meta = rep.meta;
  numbers = record { was = rep.numbers.was; now = rep.numbers.now; before = sym (looks.pages 0 (inr meta.known)) ∙ rep.numbers.before; after = rep.numbers.after; change = rep.numbers.change };
}

pub settles_empty : (T : Type 0) (a b c : Paged) (cache root : ℕ) → HasMeta a → IsTrue (a.known root) → LooksAtPages T a b 0 → IsTopIn b root Empty → ReplacesRoot T b c cache root 0 → Settles T a c cache root
settles_empty T a b c cache root meta known looks top rep = inr (inl (top.page, sym (looks.pages root (inr known)) ∙ top.in_hand.page, top.is, replaces_looked T a b c cache root 0 meta looks rep))

pub settles_only : (T : Type 0) (a b c : Paged) (cache root child count : ℕ) → HasMeta a → IsTrue (a.known root) → LooksAtPages T a b 0 → IsTopIn b root (Only child) → IsNumberIn a Pages count → 1 ≤ child → child < count → ReplacesRoot T b c cache root child → Settles T a c cache root
settles_only T a b c cache root child count meta known looks top number some lt rep =
    inr (inr (top.page, sym (looks.pages root (inr known)) ∙ top.in_hand.page, top.is.0, child, top.is.1, some, (λ n is. omega (arith, lt, number_told a Pages n is, number_told a Pages count number)), replaces_looked T a b c cache root child meta looks rep))

-- causes
pub cause_given : {R : Type 0} (T : Type 0) (a b c : Paged) (cache root : ℕ) (r : Result R PageFault) → LooksAtPages T a b 0 → HasGiveCause T b c root r → HasRemoveCause T a c cache r
cause_given T a b c cache root r looks cause = record {
  failed = λ h. omega (arith, looks.same.faults, cause.failed h);
  bad = λ id h. record { between = b; most = 0; edits = edits_looked T a b (λ j. IsTrue (b.asked j)) 0 looks; fault = inr (inl (root, cause.bad id h)) };
}

pub cause_named : {R : Type 0} (T : Type 0) (a b : Paged) (cache : ℕ) (id : PageId) (r : Result R PageFault) → r ≡ Err (BadPage id) → NamesNoNode b cache id → HasRemoveCause T a b cache r
cause_named T a b cache id r is names = record {
  failed = λ h. absurd (let e = sym is ∙ h in cc e);
  bad = λ other h. (let e : id ≡ other = cc (sym is ∙ h) in record {
    between = a;
    most = 0;
    edits = edits_looked T a a (λ j. IsTrue (a.asked j)) 0 (looks_at_none T a);
    fault = inr (inr (inr (inl (subst (NamesNoNode b cache) e names))));
  });
}

-- the root is of no tree, or its only child is no page of the partition
pub root_no_node : (b : Paged) (cache root : ℕ) (id : PageId) → id ≡ page_id b.part 0 → IsNumberIn b (Root cache) root → IsTopIn b root Other → NamesNoNode b cache id
root_no_node b cache root id name number top = record { levels = zero; from = 0; at = root; name = name; path = (refl, number); wrong = inr (inr (record { page = top.page; in_hand = top.in_hand; kind = top.is })) }

pub child_no_node : (b : Paged) (cache root child count : ℕ) (id : PageId) → id ≡ page_id b.part root → IsNumberIn b (Root cache) root → IsTopIn b root (Only child) → IsNumberIn b Pages count → (child ≡ 0) ⊎ (count ≤ child) → NamesNoNode b cache id
child_no_node b cache root child count id name number top pages wrong = record {
  levels = suc zero;
  from = root;
  at = child;
  name = name;
  path = (record { page = top.page; in_hand = top.in_hand; kind = top.is.0.kind_is; number = 0; in_range = omega arith; is = top.is.1 }, 0, (refl, number));
  wrong = elim wrong [ inl e ↦ inl e | inr le ↦ inr (inl (count, pages, le)) ];
}

-- an index after its root was looked up
pub index_looked : (T : Type 0) (a b d : Paged) (cache root m : ℕ) (key : List ℕ) (t : T) (was : Option Link) → LooksAtPages T a b m → IsNumberIn b (Root cache) root
    → ((height : ℕ) (nodes : List ℕ) (items : List Item) → IsIndex b.pages root height nodes items → RemovesIndex b.pages d.pages cache nodes items key was)
    → (height : ℕ) (nodes : List ℕ) (items : List Item) → IsIndex a.pages (root_of a.pages cache) height nodes items → RemovesIndex a.pages d.pages cache nodes items key was
index_looked T a b d cache root m key t was looks number removes height nodes items index =
    let same = pages_told T a b m t looks in
    let told : root_of a.pages cache ≡ root = ap (λ (q : Partition). root_of q cache) (sym same) ∙ number_told b (Root cache) root number in
    let index_b : IsIndex b.pages root height nodes items = subst (λ (q : Partition × ℕ). IsIndex q.0 q.1 height nodes items) {x = (a.pages, root_of a.pages cache)} {y = (b.pages, root)} (λ z. (sym same z, told z)) index in
    subst (λ (q : Partition). RemovesIndex q d.pages cache nodes items key was) same (removes height nodes items index_b)

-- a partition without a meta page, or an index without a root
pub none_looked : (T : Type 0) (a b : Paged) (cache m : ℕ) (key : List ℕ) (t : T) → LooksAtPages T a b m → IsFirstAbsent T a 0 → (height : ℕ) (nodes : List ℕ) (items : List Item) → IsIndex a.pages (root_of a.pages cache) height nodes items → RemovesIndex a.pages b.pages cache nodes items key None
none_looked T a b cache m key t looks absent height nodes items index =
    empty_index a.pages b.pages cache key (pages_told T a b m t looks) (ap (λ o. number_of o (Root cache)) (absent.absent (inl t))) height nodes items index

pub zero_looked : (T : Type 0) (a b : Paged) (cache root m : ℕ) (key : List ℕ) (t : T) → LooksAtPages T a b m → IsNumberIn b (Root cache) root → root ≡ 0 → (height : ℕ) (nodes : List ℕ) (items : List Item) → IsIndex a.pages (root_of a.pages cache) height nodes items → RemovesIndex a.pages b.pages cache nodes items key None
zero_looked T a b cache root m key t looks number is height nodes items index =
    let same = pages_told T a b m t looks in
    empty_index a.pages b.pages cache key same (ap (λ (q : Partition). root_of q cache) (sym same) ∙ number_told b (Root cache) root number ∙ is) height nodes items index

-- the meta page that has a number is at hand
pub meta_of : (b : Paged) (slot : MetaSlot) (n : ℕ) → IsNumberIn b slot n → HasMeta b
meta_of b slot n is = record { known = is.in_hand.known; asked = is.in_hand.asked; there = subst IsSome (sym is.in_hand.page) refl }
