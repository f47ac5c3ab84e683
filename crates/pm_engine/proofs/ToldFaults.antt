-- A page that a command met is met also where the content of pages is told only if it was told there.
use Rattle.std.proofs.Common.{◌≡◌, ◌⊎◌, inl, inr, Bool, ℕ, zero, suc, ◌-◌, List, [], ◌∷◌}
use Rattle.std.specs.Prelude.{IsTrue}
use Rattle.pm_types.specs.declared.page_id.Link.{Link}
use Rattle.pm_types.specs.declared.page_id.PageId.{PageId}
use Rattle.pm_types.specs.declared.shape.Shape.{Shape}
use Rattle.pm_types.specs.Ids.{page_id, page_of_link, index_of_id}
use Rattle.pm_btpage.specs.IndexPages.{Item, items_of, key_in, word_in}
use Rattle.pm_meta.specs.declared.slots.MetaSlot.{MetaSlot}
use Rattle.pm_meta.specs.declared.slots.MetaSlot.TheVariants.{Root, Pages}
use Rattle.pm_model.specs.declared.line.Cmd.{Cmd}
use Rattle.pm_model.specs.declared.line.Cmd.TheVariants.{Put, Get, Remove, Scan, Checkpoint}
use Rattle.pm_pages.specs.Edits.{EditsPages}
use Rattle.pm_pages.specs.Paged.{Paged, IsTold, IsBadPage, IsAfterGap}
use Rattle.pm_pages.specs.SparePages.{HasBadReuse, HasGapBelow}
use Rattle.pm_tree.specs.Indexes.{as_link}
use Rattle.pm_tree.specs.PutCauses.{IsPutFault, IsPutFaultAfter}
use Rattle.pm_tree.specs.Roots.{IsTooTall}
use Rattle.pm_tree_del.specs.Causes.{IsRemoveFault, IsRemoveFaultAfter}
use Rattle.pm_tree_del.specs.Mending.{HasNoPair}
use Rattle.pm_free.specs.Causes.{HasBadNamed, IsChainFault, IsChainFaultAfter}
use Rattle.pm_part.specs.Faults.{HasBadRowPage, IsFaultOfGet, IsFaultOfPut, IsFaultOfRemove, IsFaultOf, IsFaultAfter}
use Rattle.pm_part.specs.PairFaults.{WasBad, NamedNoRow, HadWrongItem, WasNoLeaf, IsLeafFault, IsLeavesFault, IsDownFault, IsPairsFault}
use Rattle.pm_part.specs.PairReads.{PairsList, WasRead, HadNumber, LeadsDown, HadPair, HadPairs, WasLeaf, HadLeaf, HadLeaves, WasFirstLeaf}
use Rattle.pm_part.specs.Reads.{ReadsPages}
use Rattle.pm_part.specs.Ways.{IsWayFault}
use Rattle.pm_core.specs.BasePages.{Partitions}
use Rattle.pm_engine.specs.MetPages.{IsMetBy, MeetsBadPage}

module _ (T U : Type 0) (told : U → T) where
  told_page : (p : Paged) (i : ℕ) → IsTold U p i → IsTold T p i
  told_page p i (inl u) = inl (told u)
  told_page p i (inr known) = inr known

  -- ---- pages

  edits_told : (old new : Paged) (touched : ℕ → Type 0) (most : ℕ) → EditsPages T old new touched most → EditsPages U old new touched most
  edits_told old new touched most x = record {
    others = λ j is. x.others j (told_page old j is);
    known = x.known;
    asked = x.asked;
    lent = x.lent;
    covers = x.covers;
    covered = λ j k low is. x.covered j k low (told_page old j is);
    spare = x.spare;
    same = x.same;
  }

  bad_told : (p : Paged) (i : ℕ) (id : PageId) → IsBadPage T p i id → IsBadPage U p i id
  bad_told p i id x = record {
    name = x.name;
    known = x.known;
    told = λ u. x.told (told u);
    first = λ is told_is. x.first is (told_page p i told_is);
  }

  gap_told : (p : Paged) (i : ℕ) (id : PageId) → IsAfterGap T p i id → IsAfterGap U p i id
  gap_told p i id x = record { later = x.later; name = x.name; absent = λ is. x.absent (told_page p (i - 1) is) }

  bad_reuse_told : (p : Paged) (id : PageId) → HasBadReuse T p id → HasBadReuse U p id
  bad_reuse_told p id x = record { index = x.index; is_first = x.is_first; bad = bad_told p x.index id x.bad }

  gap_below_told : (p : Paged) (id : PageId) → HasGapBelow T p id → HasGapBelow U p id
  gap_below_told p id x = record { index = x.index; is_next = x.is_next; gap = gap_told p x.index id x.gap }

  -- ---- chains and trees

  bad_named_told : (p : Paged) (id : PageId) → HasBadNamed T p id → HasBadNamed U p id
  bad_named_told p id x = record { from = x.from; at = x.at; names = x.names; bad = bad_told p x.at id x.bad }

  chain_fault_told : (p : Paged) (id : PageId) → IsChainFault T p id → IsChainFault U p id
  chain_fault_told p id (inl x) = inl x
  chain_fault_told p id (inr (inl x)) = inr (inl (bad_named_told p id x))
  chain_fault_told p id (inr (inr (inl x))) = inr (inr (inl x))
  chain_fault_told p id (inr (inr (inr (inl x)))) = inr (inr (inr (inl x)))
  chain_fault_told p id (inr (inr (inr (inr (inl x))))) = inr (inr (inr (inr (inl (bad_reuse_told p id x)))))
  chain_fault_told p id (inr (inr (inr (inr (inr (inl x)))))) = inr (inr (inr (inr (inr (inl (gap_below_told p id x))))))
  chain_fault_told p id (inr (inr (inr (inr (inr (inr x)))))) = inr (inr (inr (inr (inr (inr (x.0, gap_told p x.0 id x.1))))))

  chain_told : (p : Paged) (id : PageId) → IsChainFaultAfter T p id → IsChainFaultAfter U p id
  chain_told p id x = record {
    between = x.between;
    most = x.most;
    edits = edits_told p x.between (λ j. IsTrue (x.between.asked j)) x.most x.edits;
    fault = chain_fault_told x.between id x.fault;
  }

  put_fault_told : (moment now : Paged) (cache : ℕ) (id : PageId) → IsPutFault T moment now cache id → IsPutFault U moment now cache id
  put_fault_told moment now cache id (inl x) = inl (x.0, bad_told moment x.0 id x.1)
  put_fault_told moment now cache id (inr (inl x)) = inr (inl (gap_below_told moment id x))
  put_fault_told moment now cache id (inr (inr x)) = inr (inr x)

  put_told : (old now : Paged) (cache : ℕ) (id : PageId) → IsPutFaultAfter T old now cache id → IsPutFaultAfter U old now cache id
  put_told old now cache id x = record {
    between = x.between;
    most = x.most;
    edits = edits_told old x.between (λ j. IsTrue (x.between.asked j)) x.most x.edits;
    fault = put_fault_told x.between now cache id x.fault;
  }

  too_tall_told : (p : Paged) (cache : ℕ) (id : PageId) → IsTooTall T p cache id → IsTooTall U p cache id
  too_tall_told p cache id x = record { root = x.root; name = x.name; is_root = x.is_root; tall = λ u. x.tall (told u) }

  no_pair_told : (moment now : Paged) (id : PageId) → HasNoPair T moment now id → HasNoPair U moment now id
  no_pair_told moment now id x = record {
    at = x.at;
    name = x.name;
    page = x.page;
    in_hand = x.in_hand;
    i = x.i;
    child = x.child;
    wrong = x.wrong;
    same = λ j is. x.same j (told_page moment j is);
  }

  remove_fault_told : (moment now : Paged) (cache : ℕ) (id : PageId) → IsRemoveFault T moment now cache id → IsRemoveFault U moment now cache id
  remove_fault_told moment now cache id (inl x) = inl (x.0, bad_told moment x.0 id x.1)
  remove_fault_told moment now cache id (inr (inl x)) = inr (inl (x.0, gap_told moment x.0 id x.1))
  remove_fault_told moment now cache id (inr (inr (inl x))) = inr (inr (inl (no_pair_told moment now id x)))
  remove_fault_told moment now cache id (inr (inr (inr x))) = inr (inr (inr x))

  remove_told : (old now : Paged) (cache : ℕ) (id : PageId) → IsRemoveFaultAfter T old now cache id → IsRemoveFaultAfter U old now cache id
  remove_told old now cache id x = record {
    between = x.between;
    most = x.most;
    edits = edits_told old x.between (λ j. IsTrue (x.between.asked j)) x.most x.edits;
    fault = remove_fault_told x.between now cache id x.fault;
  }

  -- ---- commands of a key

  way_told : (now : Paged) (cache : ℕ) (key : List ℕ) (moment : Paged) (id : PageId) → IsWayFault T now cache key moment id → IsWayFault U now cache key moment id
  way_told now cache key moment id (inl x) = inl (record { at = x.at; on_way = x.on_way; bad = bad_told moment x.at id x.bad })
  way_told now cache key moment id (inr x) = inr x

  row_page_told : (moment now : Paged) (cache : ℕ) (key : List ℕ) (id : PageId) → HasBadRowPage T moment now cache key id → HasBadRowPage U moment now cache key id
  row_page_told moment now cache key id x = record { entry = x.entry; is = x.is; bad = bad_told moment (index_of_id (page_of_link (as_link x.entry.word))) id x.bad }

  get_told : (now : Paged) (cache : ℕ) (key : List ℕ) (moment : Paged) (id : PageId) → IsFaultOfGet T now cache key moment id → IsFaultOfGet U now cache key moment id
  get_told now cache key moment id (inl x) = inl (way_told now cache key moment id x)
  get_told now cache key moment id (inr (inl x)) = inr (inl (row_page_told moment now cache key id x))
  get_told now cache key moment id (inr (inr x)) = inr (inr x)

  put_of_told : (now : Paged) (cache : ℕ) (key : List ℕ) (moment : Paged) (id : PageId) → IsFaultOfPut T now cache key moment id → IsFaultOfPut U now cache key moment id
  put_of_told now cache key moment id (inl x) = inl (get_told now cache key moment id x)
  put_of_told now cache key moment id (inr (inl x)) = inr (inl x)
  put_of_told now cache key moment id (inr (inr (inl x))) = inr (inr (inl (chain_told moment id x)))
  put_of_told now cache key moment id (inr (inr (inr (inl x)))) = inr (inr (inr (inl (put_told moment now cache id x))))
  put_of_told now cache key moment id (inr (inr (inr (inr x)))) = inr (inr (inr (inr (too_tall_told moment cache id x))))

  remove_of_told : (now : Paged) (cache : ℕ) (key : List ℕ) (moment : Paged) (id : PageId) → IsFaultOfRemove T now cache key moment id → IsFaultOfRemove U now cache key moment id
  remove_of_told now cache key moment id (inl x) = inl (get_told now cache key moment id x)
  remove_of_told now cache key moment id (inr (inl x)) = inr (inl (chain_told moment id x))
  remove_of_told now cache key moment id (inr (inr x)) = inr (inr (remove_told moment now cache id x))

  command_told : (now : Paged) (cmd : Cmd) (moment : Paged) (id : PageId) → IsFaultOf T now cmd moment id → IsFaultOf U now cmd moment id
  command_told now (Put cache key value) moment id x = put_of_told now cache key moment id x
  command_told now (Get cache key) moment id x = get_told now cache key moment id x
  command_told now (Remove cache key) moment id x = remove_of_told now cache key moment id x
  command_told now (Scan cache) moment id x = x
  command_told now Checkpoint moment id x = x

  after_told : (old now : Paged) (cmd : Cmd) (id : PageId) → IsFaultAfter T old (IsFaultOf T now cmd) id → IsFaultAfter U old (IsFaultOf U now cmd) id
  after_told old now cmd id x = record {
    between = x.between;
    most = x.most;
    edits = edits_told old x.between (λ j. IsTrue (x.between.asked j)) x.most x.edits;
    is = command_told now cmd x.between id x.is;
  }

  -- ---- scans

  reads_told : (old new : Paged) → ReadsPages T old new → ReadsPages U old new
  reads_told old new x = record { pages = λ u. x.pages (told u); none_lent = x.none_lent; same = x.same }

  read_told : (start : Paged) (i : ℕ) (page : List ℕ) → WasRead T start i page → WasRead U start i page
  read_told start i page x = record { moment = x.moment; reads = reads_told start x.moment x.reads; in_hand = x.in_hand }

  was_bad_told : (start : Paged) (count : ℕ) (id : PageId) → WasBad T start count id → WasBad U start count id
  was_bad_told start count id x = record {
    i = x.i;
    below = x.below;
    is = record { moment = x.is.moment; reads = reads_told start x.is.moment x.is.reads; bad = bad_told x.is.moment x.i id x.is.bad };
  }

  number_told : (start : Paged) (slot : MetaSlot) (number : ℕ) → HadNumber T start slot number → HadNumber U start slot number
  number_told start slot number x = record { meta = x.meta; read = read_told start 0 x.meta x.read; is = x.is }

  leads_told : (start : Paged) (count root levels from at : ℕ) → LeadsDown T start count root levels from at → LeadsDown U start count root levels from at
  leads_told start count root zero from at x = x
  leads_told start count root (suc n) from at x = (
    record { some = x.0.some; below = x.0.below; page = x.0.page; read = read_told start from x.0.page x.0.read; is = x.0.is },
    x.1,
    leads_told start count root n x.1 from x.2,
  )

  down_told : (start : Paged) (count root : ℕ) (id : PageId) → IsDownFault T start count root id → IsDownFault U start count root id
  down_told start count root id x = record {
    levels = x.levels;
    from = x.from;
    at = x.at;
    read = leads_told start count root x.levels x.from x.at x.read;
    name = x.name;
    wrong = elim x.wrong [
      | inl (inl none) ↦ inl (inl none)
      | inl (inr was) ↦ inl (inr (record { some = was.some; below = was.below; page = was.page; read = read_told start x.at was.page was.read; is = was.is }))
      | inr most ↦ inr most
    ];
  }

  leaf_told : (start : Paged) (count at : ℕ) (page : List ℕ) → WasLeaf T start count at page → WasLeaf U start count at page
  leaf_told start count at page x = record { some = x.some; below = x.below; read = read_told start at page x.read; kind = x.kind }

  no_row_told : (start : Paged) (count cache : ℕ) (link : Link) (key : List ℕ) → NamedNoRow T start count cache link key → NamedNoRow U start count cache link key
  no_row_told start count cache link key (inl x) = inl x
  no_row_told start count cache link key (inr x) = inr (record { page = x.page; read = read_told start (index_of_id (page_of_link link)) x.page x.read; none = x.none })

  wrong_item_told : (start : Paged) (count cache : ℕ) (page : List ℕ) → HadWrongItem T start count cache page → HadWrongItem U start count cache page
  wrong_item_told start count cache page x = record {
    item = x.item;
    in_range = x.in_range;
    wrong = no_row_told start count cache (as_link (word_in (items_of page) x.item)) (key_in (items_of page) x.item) x.wrong;
  }

  no_leaf_told : (start : Paged) (count at : ℕ) → WasNoLeaf T start count at → WasNoLeaf U start count at
  no_leaf_told start count at (inl x) = inl x
  no_leaf_told start count at (inr (inl x)) = inr (inl x)
  no_leaf_told start count at (inr (inr x)) = inr (inr (x.0, read_told start at x.0 x.1, x.2))

  leaf_fault_told : (start : Paged) (count cache from at : ℕ) (id : PageId) → IsLeafFault T start count cache from at id → IsLeafFault U start count cache from at id
  leaf_fault_told start count cache from at id (inl x) = inl (record { name = x.name; none = no_leaf_told start count at x.none })
  leaf_fault_told start count cache from at id (inr x) = inr (record {
    name = x.name;
    page = x.page;
    was = leaf_told start count at x.page x.was;
    wrong = wrong_item_told start count cache x.page x.wrong;
  })

  pair_told : (start : Paged) (count cache : ℕ) (link : Link) (key : List ℕ) (pair : List ℕ × List ℕ) → HadPair T start count cache link key pair → HadPair U start count cache link key pair
  pair_told start count cache link key pair x = record {
    spot = x.spot;
    leads = x.leads;
    is = record { page = x.is.page; read = read_told start x.spot.at x.is.page x.is.read; row = x.is.row; is = x.is.is; key_is = x.is.key_is; value_is = x.is.value_is };
  }

  pairs_told : (start : Paged) (count cache : ℕ) (items : List Item) (pairs : PairsList) → HadPairs T start count cache items pairs → HadPairs U start count cache items pairs
  pairs_told start count cache [] [] x = x
  pairs_told start count cache [] (pair ∷ pairs) x = x
  pairs_told start count cache (item ∷ items) [] x = x
  pairs_told start count cache (item ∷ items) (pair ∷ pairs) x = (pair_told start count cache (as_link item.word) item.key pair x.0, pairs_told start count cache items pairs x.1)

  had_leaf_told : (start : Paged) (count cache leaf next : ℕ) (pairs : PairsList) → HadLeaf T start count cache leaf next pairs → HadLeaf U start count cache leaf next pairs
  had_leaf_told start count cache leaf next pairs x = record {
    page = x.page;
    was = leaf_told start count leaf x.page x.was;
    next_is = x.next_is;
    pairs_are = pairs_told start count cache (items_of x.page) pairs x.pairs_are;
  }

  leaves_told : (start : Paged) (count cache first leaves from at : ℕ) (pairs : PairsList) → HadLeaves T start count cache first leaves from at pairs → HadLeaves U start count cache first leaves from at pairs
  leaves_told start count cache first zero from at pairs x = x
  leaves_told start count cache first (suc n) from at pairs x =
      (x.0, x.1, had_leaf_told start count cache from at x.1 x.2, x.3, x.4, leaves_told start count cache first n x.4 from x.0 x.5)

  leaves_fault_told : (start : Paged) (count cache first : ℕ) (id : PageId) → IsLeavesFault T start count cache first id → IsLeavesFault U start count cache first id
  leaves_fault_told start count cache first id x = record {
    leaves = x.leaves;
    from = x.from;
    at = x.at;
    pairs = x.pairs;
    read = leaves_told start count cache first x.leaves x.from x.at x.pairs x.read;
    some = x.some;
    wrong = by x.wrong;
  }
    where
      by : IsLeafFault T start count cache x.from x.at id ⊎ ((x.leaves ≡ count) × (id ≡ page_id start.part x.from)) → IsLeafFault U start count cache x.from x.at id ⊎ ((x.leaves ≡ count) × (id ≡ page_id start.part x.from))
      by (inl fault) = inl (leaf_fault_told start count cache x.from x.at id fault)
      by (inr many) = inr many

  pairs_fault_told : (start : Paged) (cache : ℕ) (id : PageId) → IsPairsFault T start cache id → IsPairsFault U start cache id
  pairs_fault_told start cache id x = record {
    count = x.count;
    count_is = number_told start Pages x.count x.count_is;
    root = x.root;
    some = x.some;
    root_is = number_told start (Root cache) x.root x.root_is;
    fault = by x.fault;
  }
    where
      by : WasBad T start x.count id ⊎ IsDownFault T start x.count x.root id ⊎ ((first : ℕ) × WasFirstLeaf T start x.count x.root first × IsLeavesFault T start x.count cache first id)
          → WasBad U start x.count id ⊎ IsDownFault U start x.count x.root id ⊎ ((first : ℕ) × WasFirstLeaf U start x.count x.root first × IsLeavesFault U start x.count cache first id)
      by (inl bad) = inl (was_bad_told start x.count id bad)
      by (inr (inl down)) = inr (inl (down_told start x.count x.root id down))
      by (inr (inr (first, is_first, leaves))) = inr (inr (
        first,
        record {
          levels = is_first.levels;
          few = is_first.few;
          from = is_first.from;
          read = leads_told start x.count x.root is_first.levels is_first.from first is_first.read;
          was = record {
            some = is_first.was.some;
            below = is_first.was.below;
            page = is_first.was.page;
            read = read_told start first is_first.was.page is_first.was.read;
            is = is_first.was.is;
          };
        },
        leaves_fault_told start x.count cache first id leaves,
      ))

  -- ---- any command

  met_by_told : (cmd : Cmd) (before after : Paged) (id : PageId) → IsMetBy T cmd before after id → IsMetBy U cmd before after id
  met_by_told (Put cache key value) before after id x = after_told before after (Put cache key value) id x
  met_by_told (Get cache key) before after id x = after_told before after (Get cache key) id x
  met_by_told (Remove cache key) before after id x = after_told before after (Remove cache key) id x
  met_by_told (Scan cache) before after id (inl x) = inl (was_bad_told before 0 id x)
  met_by_told (Scan cache) before after id (inr x) = inr (pairs_fault_told before cache id x)
  met_by_told Checkpoint before after id x = x

  pub met_told : (may_change : ℕ → Bool) (shape : Shape) (start : Partitions) (id : PageId) → MeetsBadPage T may_change shape start id → MeetsBadPage U may_change shape start id
  met_told may_change shape start id x = record {
    cmd = x.cmd;
    before = x.before;
    after = x.after;
    began = x.began;
    ended = x.ended;
    same = x.same;
    met = met_by_told x.cmd x.before x.after id x.met;
  }
