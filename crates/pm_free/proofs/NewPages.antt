-- A new page with one row, and a page that is given back.
use Rattle.std.proofs.Common.{◌≡◌, ◌≢◌, ℕ, suc, ◌+◌, ◌<◌, ◌≤◌, ◌⊎◌, List, [], ◌∷◌, ◌==◌, length, refl, sym, ap, subst, ◌∙◌, inl, inr, arith}
use Rattle.std.specs.Prelude.{Option, None, Some, IsSome, IfSome, if◌then◌else◌}
use Rattle.std.specs.List.{flat_map, range_with_len}
use Rattle.std.proofs.lemmas.Bool.{cases_eq, cases_lt, ne_eqb, le-ltb}
use Rattle.pm_types.specs.Ids.{page_id, link}
use Rattle.pm_data.specs.declared.layout.TheConstants.{DATA_KIND}
use Rattle.pm_data.specs.DataPages.{DataPage, data_of, rows_of, row_at, with_rows, empty_page, IsDataPage}
use Rattle.pm_meta.specs.declared.layout.TheConstants.{BUCKETS, META_KIND}
use Rattle.pm_meta.specs.declared.slots.MetaSlot.{MetaSlot}
use Rattle.pm_meta.specs.declared.slots.MetaSlot.TheVariants.{Bucket, Reuse, Pages}
use Rattle.pm_meta.specs.MetaPages.{IsSlot, IsMetaPage, field_of}
use Rattle.pm_pages.specs.declared.row.Row.{Row}
use Rattle.pm_pages.specs.Rows as partition
use Rattle.pm_pages.specs.Rows.{Partition, bytes_of, page_at, page_count, number_in, kind_of, rows_from, rows_on, row_of}
use Rattle.pm_pages.specs.Chains.{times, next_of, before_of, reuse_next_of, bucket_chain}
use Rattle.pm_pages.specs.Paged.{Paged, AllReadable}
use Rattle.pm_pages.specs.Edits.{EditsPages, HasMeta}
use Rattle.pm_pages.specs.SparePages.{TakesPage, GivesPage}
use Rattle.pm_pages.proofs.PageReads.{page_at-below}
use Rattle.pm_pages.proofs.RowsFrom.{rows_on-data}
use Rattle.pm_free.specs.DataEdits.{IsDataAt}
use Rattle.pm_free.specs.Chained.{home_of, homes_in, with_home, AreChained, KeepsRows, MovesPage}
use Rattle.pm_pages.specs.SpareChains.{MovesSpare}
use Rattle.pm_free.specs.Placed.{HasOneMore, HasChains, HasNoneBelow, KeepsRoots, IsUnused, PlacesRow, DropsPage, IsFilledIn}
use Rattle.pm_free.proofs.RowLists.{rows_more, rows_end}
use Rattle.pm_free.proofs.Runs.{run_same}
use Rattle.pm_pages.proofs.ChainWalks.{times_other}
use Rattle.pm_free.proofs.Relinked.{one_if, run_of, chain_of, home_there}
use Rattle.pm_free.proofs.Views.{chain_next, chain_before, next_here, keeps_same, keeps_then, other_home, meta_keeps, meta_rows, same_page, no_reuse}
use Rattle.pm_free.proofs.Changed.{below_count}
use Rattle.pm_free.specs.Passing.{KeepsPassing}
use Rattle.pm_free.proofs.Passing.{keeps_passing_same, keeps_passing_then, meta_passes}
use Rattle.pm_free.proofs.Settled.{chained_as, home_here, home_other}
use Rattle.pm_pages.proofs.SpareMoves.{moves_none, moves_on}
use Rattle.pm_pages.proofs.SpareSteps.{number_by, moves_take, moves_give_other, zeros_kind}
use Rattle.pm_free.proofs.PlacedRows.{chains_in, chains_out, only_one, other_than, moves_on_then}

-- chains stay where only a page changed that is in none, and pages were added that are in none
pub chained_away : (x y : Partition) (home : ℕ → ℕ) (at : ℕ) → home at ≡ BUCKETS → 0 < page_count x → page_count x ≤ page_count y → ((i : ℕ) → page_count x ≤ i → i < page_count y → home i ≡ BUCKETS)
    → ((b : ℕ) → b < BUCKETS → number_in y (Bucket b) ≡ number_in x (Bucket b)) → ((j : ℕ) → j ≢ 0 → j ≢ at → (next_of (page_at y j) ≡ next_of (page_at x j)) × (before_of (page_at y j) ≡ before_of (page_at x j))) → AreChained x home → AreChained y home
chained_away x y home at home_at some le added heads same chained = record {
  each = λ b few.
      (let w = run_of x b (λ i. home i == b) some (chained.each b few) in
      let xs = bucket_chain x b in
      let none : (i : ℕ) → home i ≡ BUCKETS → one_if (home i == b) ≡ 0 = λ i e. simp (ne_eqb (home i) b (λ z. omega (arith, z, e, few))) refl in
      let away : (j : ℕ) → 1 ≤ times j xs → (j ≢ 0) × (j ≢ at) = λ j there. (
        (λ e. (let zero_there = subst (λ n. 1 ≤ times n xs) e there in omega (arith, zero_there, w.none))),
        (λ e. (let h = home_there (page_count x) b j home xs w.list there in omega (arith, h, ap home e, home_at, few))),
      ) in
      chain_of y b (λ i. home i == b) xs (omega (arith, some, le)) (record {
        run = run_same (chain_next x b) (chain_before x) (chain_next y b) (chain_before y) 0 xs
            (λ j there. elim (cases_eq j 0) [
              | inl e ↦ ap (λ n. chain_next y b n) e ∙ heads b few ∙ sym (ap (λ n. chain_next x b n) e)
              | inr nz ↦ (let far = away j (omega (arith, there, times_other j 0 xs (λ z. nz (sym z)))) in next_here y b j nz ∙ (same j nz far.1).0 ∙ sym (next_here x b j nz))
            ])
            (λ j there. (let far = away j there in (same j far.0 far.1).1))
            w.run;
        list = record {
          counts = λ i lt. elim (cases_lt i (page_count x)) [
            | inl below ↦ w.list.counts i below
            | inr past ↦ w.list.past i past ∙ sym (none i (added i past lt))
          ];
          past = λ i past. w.list.past i (omega (arith, le, past));
        };
        none = w.none;
      }));
}

-- the first page is a meta page before and after
first_keeps : (a b : Paged) → HasMeta a → HasMeta b → AllReadable a → AllReadable b → 0 < page_count a.pages → 0 < page_count b.pages
    → (KeepsRows (page_at a.pages 0) (page_at b.pages 0)) × (kind_of (page_at a.pages 0) ≡ META_KIND) × (kind_of (page_at b.pages 0) ≡ META_KIND)
first_keeps a b meta meta' readable readable' some some' = (
  meta_keeps (page_at a.pages 0) (page_at b.pages 0) (kind a meta readable some) (kind b meta' readable' some'),
  kind a meta readable some,
  kind b meta' readable' some',
)
  where
    of_found : (o : Option (List ℕ)) → IfSome o IsMetaPage → IsSome o → kind_of (bytes_of o) ≡ META_KIND
    of_found None h s = absurd (cc s)
    of_found (Some page) h s = h.form.kind

    kind : (p : Paged) → HasMeta p → AllReadable p → 0 < page_count p.pages → kind_of (page_at p.pages 0) ≡ META_KIND
    kind p m r lt = ap kind_of (page_at-below p.pages 0 lt) ∙ of_found (p.pages 0) (r.each 0 m.known) m.there

absent : (pages : Partition) (j : ℕ) → page_count pages ≤ j → page_at pages j ≡ []
absent pages j le = λ k. if le-ltb j (page_count pages) le k then bytes_of (pages j) else []

-- a page was taken and written as a data page with one row
pub record Filled (part at : ℕ) (row : List ℕ) (x w : Partition) : Type 0 where
  pub some : at ≢ 0
  pub some_pages : 0 < page_count x
  pub below : at < page_count w
  pub count : (page_count w ≡ page_count x) ⊎ ((page_count w ≡ page_count x + 1) × (at ≡ page_count x))
  pub unused : IsUnused x at
  pub raw : (j : ℕ) → j ≢ 0 → j ≢ at → w j ≡ x j
  pub first : KeepsRows (page_at x 0) (page_at w 0)
  pub heads : (b : ℕ) → b < BUCKETS → number_in w (Bucket b) ≡ number_in x (Bucket b)
  pub roots : KeepsRoots x w
  pub moves : MovesSpare x w (at ∷ []) []
  pub page : List ℕ
  pub there : w at ≡ Some page
  pub is : page_at w at ≡ page
  pub well_made : IsDataPage page
  pub says : data_of page ≡ with_rows (empty_page (page_id part at)) (Some row ∷ [])

pub filled : (T : Type 0) (a b d : Paged) (n at item : ℕ) (row : List ℕ) → T → HasMeta a → AllReadable a → AllReadable d → TakesPage T a b n at → EditsPages T b d (λ j. j ≡ at) 0 → IsFilledIn d at row item → Filled a.part at row a.pages d.pages
filled T a b d n at item row t meta readable readable' takes edits fills =
    let nz : at ≢ 0 = λ e. omega (arith, e, takes.some) in
    let was = takes.numbers.was in
    let now = takes.numbers.now in
    let meta_d : d.pages 0 ≡ b.pages 0 = edits.others 0 (inl t) (λ e. nz (sym e)) in
    let num : (slot : MetaSlot) → number_in d.pages slot ≡ number_in b.pages slot = λ slot. ap (λ (o : Option (List ℕ)). partition.number_of o slot) meta_d in
    let num_a : (slot : MetaSlot) → number_in a.pages slot ≡ field_of was slot = λ slot. number_by a.pages slot was takes.numbers.before in
    let num_b : (slot : MetaSlot) → number_in b.pages slot ≡ field_of now slot = λ slot. number_by b.pages slot now takes.numbers.after in
    let others : (slot : MetaSlot) → IsSlot slot → slot ≢ Reuse → slot ≢ Pages → field_of now slot ≡ field_of was slot = λ slot is nr np. elim takes.numbers.change [ inl r ↦ r.sets.others slot is nr | inr x ↦ x.sets.others slot is np ] in
    let same : (slot : MetaSlot) → IsSlot slot → slot ≢ Reuse → slot ≢ Pages → number_in d.pages slot ≡ number_in a.pages slot = λ slot is nr np. num slot ∙ num_b slot ∙ others slot is nr np ∙ sym (num_a slot) in
    let count : (page_count d.pages ≡ page_count a.pages) ⊎ ((page_count d.pages ≡ page_count a.pages + 1) × (at ≡ page_count a.pages)) = elim takes.numbers.change [
      | inl r ↦ inl (num Pages ∙ num_b Pages ∙ r.sets.others Pages tt (λ e. cc e) ∙ sym (num_a Pages))
      | inr x ↦ inr (omega (arith, num Pages, num_b Pages, x.sets.here, x.index, num_a Pages), omega (arith, x.index, num_a Pages))
    ] in
    let some_a : 0 < page_count a.pages = elim takes.numbers.change [ inl r ↦ omega (arith, r.below, num_a Pages) | inr x ↦ omega (arith, x.index, num_a Pages, takes.some) ] in
    let below : at < page_count d.pages = elim takes.numbers.change [
      | inl r ↦ omega (arith, r.below, num Pages, num_b Pages, r.sets.others Pages tt (λ e. cc e))
      | inr x ↦ omega (arith, num Pages, num_b Pages, x.sets.here)
    ] in
    let some_d : 0 < page_count d.pages = omega (arith, below) in
    let below_b : at < page_count b.pages = omega (arith, below, num Pages) in
    let meta' : HasMeta d = record { known = edits.known 0 takes.meta.known; asked = edits.asked 0 takes.meta.asked; there = subst IsSome (sym meta_d) takes.meta.there } in
    let page : page_at d.pages at ≡ fills.page = page_at-below d.pages at below ∙ ap bytes_of fills.is.in_hand.page in
    let kind_b : kind_of (page_at b.pages at) ≡ 0 = ap kind_of (page_at-below b.pages at below_b ∙ ap bytes_of takes.zeros) ∙ zeros_kind a.page_size in
    let kind_d : kind_of (page_at d.pages at) ≡ DATA_KIND = ap kind_of page ∙ fills.is.well_made.head.kind in
    record {
      some = nz;
      some_pages = some_a;
      below = below;
      count = count;
      unused = elim takes.numbers.change [
        | inl r ↦ inl (ap kind_of (page_at-below a.pages at (omega (arith, r.below, num_a Pages)) ∙ ap bytes_of (r.told (inl t))) ∙ r.kind)
        | inr x ↦ inr (omega (arith, x.index, num_a Pages))
      ];
      raw = λ j j_some ne. edits.others j (inl t) ne ∙ takes.edits.others j (inl t) (λ h. elim h [ inl e ↦ j_some e | inr e ↦ ne e ]);
      first = (first_keeps a d meta meta' readable readable' some_a some_d).0;
      heads = λ bucket few. same (Bucket bucket) few (λ e. cc e) (λ e. cc e);
      roots = λ slot is nr np other. same slot is nr np;
      moves = moves_on a.pages b.pages d.pages (at ∷ []) [] (moves_take T a b n at t takes)
          (moves_none b.pages d.pages (num Reuse) (num Pages)
          (λ j j_some. elim (cases_eq j at) [
            | inl e ↦ subst (λ i. reuse_next_of (page_at d.pages i) ≡ reuse_next_of (page_at b.pages i)) (sym e)
                (no_reuse (page_at d.pages at) (λ z. omega (arith, z, kind_d)) ∙ sym (no_reuse (page_at b.pages at) (λ z. omega (arith, z, kind_b))))
            | inr ne ↦ ap reuse_next_of (same_page b.pages d.pages j (num Pages) (edits.others j (inl t) ne))
          ])
          (λ j j_some kind. elim (cases_eq j at) [
            | inl e ↦ absurd (omega (arith, kind_b, sym (ap (λ i. kind_of (page_at b.pages i)) e) ∙ kind))
            | inr ne ↦ ap kind_of (same_page b.pages d.pages j (num Pages) (edits.others j (inl t) ne)) ∙ kind
          ]));
      page = fills.page;
      there = fills.is.in_hand.page;
      is = page;
      well_made = fills.is.well_made;
      says = fills.says ∙ ap (λ p. with_rows (empty_page (page_id p at)) (Some row ∷ [])) (edits.same.part ∙ takes.edits.same.part);
    }

module _ (part at : ℕ) (row : List ℕ) (x w : Partition) (f : Filled part at row x w) where
  grown : page_count x ≤ page_count w
  grown = elim f.count [ inl e ↦ omega (arith, e) | inr p ↦ omega (arith, p.0) ]

  other_page : (j : ℕ) → j ≢ 0 → j ≢ at → page_at w j ≡ page_at x j
  other_page j nz ne = elim (cases_lt j (page_count x)) [
    | inl lt ↦ page_at-below w j (omega (arith, lt, grown)) ∙ ap bytes_of (f.raw j nz ne) ∙ sym (page_at-below x j lt)
    | inr le ↦ absent w j (elim f.count [ inl e ↦ omega (arith, e, le) | inr p ↦ omega (arith, p.0, p.1, le, ne) ]) ∙ sym (absent x j le)
  ]

  unused_kind : kind_of (page_at x at) ≢ DATA_KIND
  unused_kind e = elim f.unused [
    | inl k ↦ omega (arith, k, e)
    | inr le ↦ (let none : kind_of (page_at x at) ≡ 0 = ap kind_of (absent x at le) in omega (arith, none, e))
  ]

  pub unused_home : homes_in x at ≡ BUCKETS
  unused_home = other_home (page_at x at) unused_kind

  pub filled_chains : HasChains x → AreChained w (homes_in x)
  filled_chains has = chained_away x w (homes_in x) at unused_home f.some_pages grown (λ i past lt. ap home_of (absent x i past)) f.heads
      (λ j nz ne. (ap next_of (other_page j nz ne), ap before_of (other_page j nz ne))) (chains_in x has)

  kind_now : kind_of (page_at w at) ≡ DATA_KIND
  kind_now = ap kind_of f.is ∙ f.well_made.head.kind

  pub keeps_other : (j : ℕ) → j ≢ at → KeepsRows (page_at x j) (page_at w j)
  keeps_other j ne = elim (cases_eq j 0) [
    | inl e ↦ subst (λ n. KeepsRows (page_at x n) (page_at w n)) (sym e) f.first
    | inr nz ↦ keeps_same (page_at x j) (page_at w j) (other_page j nz ne)
  ]

  -- the page of a row that is placed on a new page
  pub placed_new : (size bucket : ℕ) (z : Partition) → MovesPage w z at BUCKETS bucket → homes_in w at ≡ bucket → HasNoneBelow size x (length row) BUCKETS → PlacesRow size part x z row (link (page_id part at) 0)
  placed_new size bucket z m home_is none =
      let id = page_id part at in
      let ff : ℕ → List Row = λ i. rows_on (page_id part i) (page_at x i) in
      let gg : ℕ → List Row = λ i. rows_on (page_id part i) (page_at z i) in
      let r = row_of (link id 0) row in
      let count : page_count z ≡ page_count w = m.keeps.numbers Pages tt (λ b e. cc e) in
      let rows_are : rows_of f.page ≡ Some row ∷ [] = ap (λ (d : DataPage). d.rows) f.says in
      let items : rows_of (page_at z at) ≡ Some row ∷ [] = (m.keeps.pages at).items kind_now ∙ ap rows_of f.is ∙ rows_are in
      let kind_z : kind_of (page_at z at) ≡ DATA_KIND = (m.keeps.pages at).kind ∙ kind_now in
      let before : ff at ≡ [] = meta_rows id (page_at x at) unused_kind in
      let after : gg at ≡ r ∷ [] = rows_on-data id (page_at z at) kind_z ∙ ap (rows_from id 0) items in
      let page : HasOneMore (ff at) (gg at) r = record { before = []; after = []; fewer = before; more = after } in
      let others : (j : ℕ) → j ≢ at → gg j ≡ ff j = λ j ne. (m.keeps.pages j).rows (page_id part j) ∙ (keeps_other j ne).rows (page_id part j) in
      let all : HasOneMore (flat_map ff (range_with_len 0 (page_count w))) (flat_map gg (range_with_len 0 (page_count w))) r = rows_more ff gg 0 (page_count w) at r others (omega arith) (omega (arith, f.below)) page in
      let was : flat_map ff (range_with_len 0 (page_count w)) ≡ flat_map ff (range_with_len 0 (page_count x)) = elim f.count [
        | inl e ↦ ap (λ n. flat_map ff (range_with_len 0 n)) e
        | inr p ↦
            let one : page_count w ≡ suc (page_count x) = omega (arith, p.0) in
            ap (λ n. flat_map ff (range_with_len 0 n)) one ∙ rows_end ff 0 (page_count x) (page_count x) (omega arith) (ap ff (sym p.1) ∙ before)
      ] in
      record {
        at = at;
        item = 0;
        is = refl;
        some = omega (arith, f.below, pos at f.some);
        below = omega (arith, f.below, count);
        kind = kind_z;
        here = ap (λ (t : List (Option (List ℕ))). row_at t 0) items;
        rows = subst (λ (p : List Row × List Row). HasOneMore p.0 p.1 r) {x = (flat_map ff (range_with_len 0 (page_count w)), flat_map gg (range_with_len 0 (page_count w)))} {y = (partition.rows_of part x, partition.rows_of part z)}
            (λ k. (was k, flat_map gg (range_with_len 0 (sym count k)))) all;
        chains = λ has. chains_out z (chained_as z (with_home (homes_in x) at bucket) (homes_in z) (λ j. elim (cases_eq j at) [
          | inl e ↦ ap (homes_in z) e ∙ (m.keeps.pages at).home ∙ home_is ∙ sym (home_here (homes_in x) at bucket) ∙ sym (ap (with_home (homes_in x) at bucket) e)
          | inr ne ↦ (m.keeps.pages j).home ∙ (keeps_other j ne).home ∙ sym (home_other (homes_in x) at bucket j ne)
        ]) (m.chains (homes_in x) (filled_chains has) unused_home));
        made = at ∷ [];
        few = omega arith;
        only = λ j there. (let same = only_one j at there in (same, subst (IsUnused x) (sym same) f.unused));
        moves = moves_on x w z (at ∷ []) [] f.moves (moves_none w z (m.keeps.numbers Reuse tt (λ b e. cc e)) count (λ j nz. (m.keeps.pages j).reuse) (λ j nz kind. (m.keeps.pages j).kind ∙ kind));
        kinds = λ j away. (m.keeps.pages j).kind ∙ (keeps_other j (other_than j at away)).kind;
        others = λ j nz kind away. (let ne = other_than j at away in m.keeps.others j nz (λ k. kind (sym (keeps_other j ne).kind ∙ k)) ∙ f.raw j nz ne);
        numbers = λ slot is nr np other. m.keeps.numbers slot is other ∙ f.roots slot is nr np other;
        lowest = λ b few enough lowest b_some. absurd (b_some (none b few enough));
        none_fits = λ j there. none;
      }
    where
      pos : (n : ℕ) → n ≢ 0 → 1 ≤ n
      pos n ne = omega (arith, ne)

-- a page was taken out of its chain and given back
pub drops_page : (T : Type 0) (a b c : Paged) (at bucket : ℕ) → T → HasMeta b → AllReadable b → AllReadable c → IsDataAt b at → bucket < BUCKETS → MovesPage a.pages b.pages at bucket BUCKETS → GivesPage T b c at → DropsPage a.pages c.pages at bucket
drops_page T a b c at bucket t meta readable readable' is few m gives =
    let x = a.pages in
    let y = b.pages in
    let z = c.pages in
    let was = gives.numbers.was in
    let now = gives.numbers.now in
    let nz : at ≢ 0 = λ e. omega (arith, e, is.some) in
    let below : at < page_count y = below_count b at meta is in
    let same : (slot : MetaSlot) → IsSlot slot → slot ≢ Reuse → number_in z slot ≡ number_in y slot = λ slot s nr. number_by z slot now gives.numbers.after ∙ gives.numbers.change.1.others slot s nr ∙ sym (number_by y slot was gives.numbers.before) in
    let count : page_count z ≡ page_count y = same Pages tt (λ e. cc e) in
    let raw : (j : ℕ) → j ≢ 0 → j ≢ at → z j ≡ y j = λ j j_some ne. gives.edits.others j (inl t) (λ h. elim h [ inl e ↦ j_some e | inr e ↦ ne e ]) in
    let other : (j : ℕ) → j ≢ 0 → j ≢ at → page_at z j ≡ page_at y j = λ j j_some ne. same_page y z j count (raw j j_some ne) in
    let data_kind : kind_of (page_at y at) ≡ DATA_KIND = ap kind_of (page_at-below y at below ∙ ap bytes_of is.is.in_hand.page) ∙ is.is.well_made.head.kind in
    let first = (first_keeps b c meta gives.meta readable readable' (omega (arith, below)) (omega (arith, below, count))).0 in
    let keeps : (j : ℕ) → j ≢ at → KeepsRows (page_at y j) (page_at z j) = λ j ne. elim (cases_eq j 0) [
      | inl e ↦ subst (λ n. KeepsRows (page_at y n) (page_at z n)) (sym e) first
      | inr j_some ↦ keeps_same (page_at y j) (page_at z j) (other j j_some ne)
    ] in
    record {
      chains = λ home chained home_is. chained_away y z (with_home home at BUCKETS) at (home_here home at BUCKETS) (omega (arith, below)) (omega (arith, count)) (λ i past lt. absurd (omega (arith, past, lt, count)))
          (λ n n_few. same (Bucket n) n_few (λ e. cc e)) (λ j j_some ne. (ap next_of (other j j_some ne), ap before_of (other j j_some ne))) (m.chains home chained home_is);
      pages = λ j ne. keeps_then (page_at x j) (page_at y j) (page_at z j) (m.keeps.pages j) (keeps j ne);
      kind = ap kind_of (page_at-below z at (omega (arith, below, count)) ∙ ap bytes_of gives.here) ∙ gives.stored.well_made.kind;
      count = count ∙ m.keeps.numbers Pages tt (λ n e. cc e);
      others = λ j j_some ne kind. raw j j_some ne ∙ m.keeps.others j j_some kind;
      moves = moves_on_then x y z (at ∷ []) (moves_none x y (m.keeps.numbers Reuse tt (λ n e. cc e)) (m.keeps.numbers Pages tt (λ n e. cc e)) (λ j j_some. (m.keeps.pages j).reuse) (λ j j_some kind. (m.keeps.pages j).kind ∙ kind))
          (moves_give_other T b c at t is.some below (λ e. omega (arith, e, data_kind)) gives);
      numbers = λ slot s nr np no_bucket. same slot s nr ∙ m.keeps.numbers slot s no_bucket;
      passes = λ j ne. keeps_passing_then x y z j (m.keeps.passes j) (elim (cases_eq j 0) [
        | inl e ↦ subst (KeepsPassing y z) (sym e) (meta_passes y z was now Reuse at gives.numbers.before gives.numbers.after gives.numbers.change.1 (λ id max_rows stored. omega (arith, below, number_by y Pages was gives.numbers.before)))
        | inr j_some ↦ keeps_passing_same y z j (raw j j_some ne)
      ]);
    }
