-- A scan over a worker's page frames looks pages up, one partition after the other.
use Rattle.std.proofs.Common.{◌≡◌, ℕ, ◌+◌, ◌-◌, ◌%◌, ◌<◌, ◌≤◌, Option, List, [], ◌∷◌, ◌++◌, ◌⊎◌, ⊎_elim, inl, inr, length, length-append, map, sym, refl, ap, subst, ◌∙◌, arith}
use Rattle.std.specs.Prelude.{◌^◌, Err, IsErrOf, IsTrue, IfSome, Vec}
use Rattle.std.specs.Global.{Global}
use Rattle.std.specs.List.{range_with_len}
use Rattle.std.proofs.lemmas.List.{map-append}
use Rattle.std.proofs.lemmas.List.FromFn.{map-range_with_len_more}
use Rattle.pm_types.specs.declared.limits.TheConstants.{OP_PAGES, ROWS_MAX}
use Rattle.pm_types.specs.declared.page_id.PageId.{PageId}
use Rattle.pm_types.specs.declared.shape.Shape.{Shape}
use Rattle.pm_disk.specs.Moments.{History}
use Rattle.pm_disk.specs.States.{DeviceState}
use Rattle.pm_model.specs.Eval.{Pairs, pairs_of}
use Rattle.pm_pages.specs.PageLists.{ReadsAt}
use Rattle.pm_pages.specs.Paged.{Paged, AllReadable, GivesUpPages}
use Rattle.pm_pages.specs.RowMaps.{map_of}
use Rattle.pm_pages.specs.Rows.{rows_of}
use Rattle.pm_part.specs.declared.part.Part.{Part}
use Rattle.pm_core.specs.BasePages.{Partitions}
use Rattle.pm_core.specs.Held.{AllWellFormed}
use Rattle.pm_stripe.specs.declared.bound.Bound.{Bound}
use Rattle.pm_stripe.specs.declared.held.Held.{Held}
use Rattle.pm_stripe.specs.Bases.{base_by, base_bytes, IsAllCovered, KeepsBases}
use Rattle.pm_stripe.specs.Begins.{IsOwnPart, MayBegin, MakesReady}
use Rattle.pm_stripe.specs.Bounds.{SameButPart}
use Rattle.pm_stripe.specs.Kept.{Kept, held_at, place_of, bytes_by, page_bytes, is_known, IsStaying}
use Rattle.pm_stripe.specs.Shown.{kept_by, file_by, shown, KeepsOthers, IsReady, KeepsBound}
use Rattle.pm_stripe.specs.Stripes.{kept, file_of}
use Rattle.pm_engine.specs.declared.frame_scans.ScanStop.{ScanStop}
use Rattle.pm_engine.specs.FrameCommands.{frame_pages, part_seen, AreReadable, HasWellFormed, IsBetweenLines, IsPartOf}
use Rattle.pm_engine.specs.FrameScans.{LooksUp, OwnsAll}
use Rattle.pm_engine.specs.PagedStores.{part_map}
use Rattle.pm_engine.proofs.FrameAnswers.{worker_same_refl, worker_same_then, nothing_refl, nothing_then, ready_same, ready_between, ready_nothing, frames_same}
use Rattle.pm_engine.proofs.FrameChanges.{known_staying}
use Rattle.pm_engine.proofs.FrameReads.{readable_beside}
use Rattle.pm_engine.proofs.FrameRuns.{seen_well, frames_map}
use Rattle.pm_engine.proofs.FrameSteps.{seen_same, worker_same}

-- ---- why it stopped

-- the same stop in place of another answer
pub same_stop : {A B : Type 0} (stop other : ScanStop) → IsErrOf {T = A} (Err stop) other → IsErrOf {T = B} (Err stop) other
same_stop stop other is = let same : stop ≡ other = cc is in ap Err same

-- ---- pages that were looked up

-- where no page is in hand a page is as it came into hand
base_is : (file : PageId → Option (List ℕ)) (k : Kept) → k.held ≡ [] → (id : PageId) → base_bytes file k id ≡ page_bytes file k id
base_is file k none id =
    let away = ap (λ (hs : List Held). held_at hs id.0) none in
    ap (λ o. base_by o (place_of k id) k.seat.view.entries k.number (file id)) away
    ∙ sym (ap (λ o. bytes_by o (place_of k id) k.seat.view.entries k.number (file id)) away)

-- where none is in hand, neither before nor after, each is as it was
module _ (size : ℕ) (tells : Type 0) (file file' : PageId → Option (List ℕ)) (k k' : Kept) (none : k.held ≡ []) (none' : k'.held ≡ []) (bases : KeepsBases size tells file file' k k') where
  not_all : (id : PageId) → IsAllCovered size (held_at k'.held id.0) → ⊥
  not_all id all = subst (λ (hs : List Held). IsAllCovered size (held_at hs id.0)) none' all

  same_base : (id : PageId) → tells ⊎ IsTrue (is_known k' id) → base_bytes file' k' id ≡ base_bytes file k id
  same_base id (inl t) = ⊎_elim (λ all. absurd (not_all id all)) (λ e. e) (bases.told t id)
  same_base id (inr known) = ⊎_elim (λ all. absurd (not_all id all)) (λ e. e) (bases.stay id (known_staying k' id (ap (λ (hs : List Held). held_at hs id.0) none') known)).1

  pages_kept : (id : PageId) → tells ⊎ IsTrue (is_known k' id) → page_bytes file' k' id ≡ page_bytes file k id
  pages_kept id told = sym (base_is file' k' none' id) ∙ same_base id told ∙ base_is file k none id

-- no page was asked for since pages were given up
pub none_asked : (held : List Held) → OP_PAGES - length held ≡ OP_PAGES → held ≡ []
none_asked [] all = refl
none_asked (h ∷ hs) all = absurd (omega (arith, all))

-- what is at hand since pages were given up reads as what it says
pub given_readable : (T : Type 0) (old new : Paged) → GivesUpPages T old new → AllReadable old → AllReadable new
given_readable T old new gives readable = record {
  each = λ i known. subst (λ (o : Option (List ℕ)). IfSome o (ReadsAt i)) (sym (gives.pages i (inr known))) (readable.each i (gives.known i known));
}

module _ {Q R : Type 0} (tells : Type 0) (history : R → History) (state : R → DeviceState) where
  pub looks_refl : (b : Bound Q R) → IsBetweenLines tells history state b → LooksUp tells history state b b
  looks_refl b between = record { same = worker_same_refl tells history state b; between = between; nothing = nothing_refl tells history state b }

  pub looks_then : (b m c : Bound Q R) → LooksUp tells history state b m → LooksUp tells history state m c → LooksUp tells history state b c
  looks_then b m c x y = record {
    same = worker_same_then tells history state b m c x.same y.same;
    between = y.between;
    nothing = nothing_then tells history state b m c y.between.none_held x.nothing y.nothing;
  }

  -- pages were made ready
  pub looks_ready : (b m : Bound Q R) → IsBetweenLines tells history state b → MakesReady tells history state b m → LooksUp tells history state b m
  looks_ready b m between made = record {
    same = ready_same tells history state b m between made;
    between = ready_between tells history state b m between made;
    nothing = ready_nothing tells history state b m between made;
  }

  -- code over any pages looked pages of a partition up, and gave them up
  module _ (part : ℕ) (b n e : Bound Q R) (same : SameButPart b n) (at : n.part ≡ part) (keeps : KeepsBound tells history state n e) (begins : MayBegin tells history state b) (own : IsOwnPart b part) (ready : IsReady tells history state n) (none : e.stripe.held.items ≡ []) where
    kept_is : kept_by n ≡ kept_by b
    kept_is i = kept (same.stripe i) (same.seat i)

    file_is : file_by history n ≡ file_by history b
    file_is i = file_of (same.stripe i) (history (same.reader i))

    others : KeepsOthers tells (file_by history b) (file_by history e) part (kept_by b) (kept_by e)
    others = subst (λ (p : (PageId → Option (List ℕ)) × ℕ × Kept). KeepsOthers tells p.0 (file_by history e) p.1 p.2 (kept_by e)) (λ i. (file_is i, at i, kept_is i)) (keeps.leaves ready).others

    bases : KeepsBases b.stripe.shape.page_size tells (file_by history b) (file_by history e) (kept_by b) (kept_by e)
    bases = subst (λ (p : ℕ × (PageId → Option (List ℕ)) × Kept). KeepsBases p.0 tells p.1 (file_by history e) p.2 (kept_by e)) (λ i. ((same.stripe i).shape.page_size, file_is i, kept_is i)) (keeps.leaves ready).bases

    staying : (id : PageId) → IsStaying (kept_by b) id → IsStaying (kept_by e) id
    staying = subst (λ (k : Kept). (id : PageId) → IsStaying k id → IsStaying (kept_by e) id) kept_is (keeps.leaves ready).staying

    kept_pages : (id : PageId) → tells ⊎ IsTrue (is_known (kept_by e) id) → page_bytes (file_by history e) (kept_by e) id ≡ page_bytes (file_by history b) (kept_by b) id
    kept_pages = pages_kept b.stripe.shape.page_size tells (file_by history b) (file_by history e) (kept_by b) (kept_by e) begins.none_held none bases

    pub looked_up : AllReadable (part_seen history state e part) → AreReadable history b → LooksUp tells history state b e
    looked_up here readable =
        let worker = worker_same tells history state part b n e same at keeps in
        let few : b.stripe.shape.partitions ≤ 2 ^ 16 = omega (arith, begins.bound.holds.shaped.partitions_to) in
        record {
          same = worker;
          between = record {
            bound = (keeps.leaves ready).ready.bound;
            none_held = none;
            readable = readable_beside history state tells b e part worker.shape few others here readable;
          };
          nothing = record {
            seat = record { locks = worker.locks; shape = worker.shape; sight = worker.sight };
            outbox = keeps.same.outbox ∙ ap (λ s. s.outbox) same.stripe;
            staying = λ id stay. (bases.stay id stay).0;
            still = staying;
            pages = kept_pages;
            told = λ t. frames_same tells history state b e worker.shape (λ id. kept_pages id (inl t));
          };
        }

  -- the pairs that code over any pages reads are those of the partition's map
  pub pairs_seen : (shape : Shape) (part cache : ℕ) (b n : Bound Q R) (same : SameButPart b n) (at : n.part ≡ part) (was now : List (List ℕ × List ℕ)) → shape ≡ b.stripe.shape → part < b.stripe.shape.partitions → b.stripe.shape.max_rows ≤ ROWS_MAX
      → HasWellFormed shape (frame_pages history b) part → now ≡ was ++ pairs_of cache (map_of (rows_of (shown history state n).part (shown history state n).pages))
      → now ≡ was ++ pairs_of cache (part_map (frame_pages history b) part)
  pairs_seen shape part cache b n same at was now is_shape below rows well read =
      read ∙ ap (λ (p : Paged). was ++ pairs_of cache (map_of (rows_of p.part p.pages))) (seen_same tells history state part b n same at)
      ∙ ap (λ (m : Pairs). was ++ pairs_of cache m) (sym (frames_map tells history state shape part b is_shape below rows (seen_well tells history state shape part b is_shape below rows well)))

  -- each partition is the worker's still
  pub owns_still : (b m : Bound Q R) → LooksUp tells history state b m → OwnsAll b → OwnsAll m
  owns_still b m looks own = λ part below.
      let x = own part (subst (λ (s : Shape). part < s.partitions) looks.same.shape below) in
      record {
        there = below;
        own = ap (λ l. part % l.now.workers) looks.same.locks ∙ x.own ∙ sym looks.same.number;
      }

  -- so is one of them
  pub part_still : (b m : Bound Q R) → LooksUp tells history state b m → (part : Part) → IsPartOf b part → IsPartOf m part
  part_still b m looks part is = record {
    shape = is.shape ∙ sym looks.same.shape;
    own = record {
      there = subst (λ (s : Shape). part.part < s.partitions) (sym looks.same.shape) is.own.there;
      own = ap (λ l. part.part % l.now.workers) looks.same.locks ∙ is.own.own ∙ sym looks.same.number;
    };
  }

  pub part_of_all : (b : Bound Q R) (part : Part) → part.shape ≡ b.stripe.shape → part.part < b.stripe.shape.partitions → OwnsAll b → IsPartOf b part
  part_of_all b part shape below own = record { shape = shape; own = own part.part below }

  -- ---- one partition after the other

  -- the pairs of so many partitions were read
  pub record ReadSoFar (shape : Shape) (cache : ℕ) (b m : Bound Q R) (found : List (Vec (List ℕ × List ℕ) Global)) (room count : ℕ) : Type 0 where
    pub looks : LooksUp tells history state b m
    pub many : length found ≡ count
    pub room_for : shape.partitions ≤ room
    pub pairs : tells → AllWellFormed shape (frame_pages history b)
        → map (λ (list : Vec (List ℕ × List ℕ) Global). list.items) found ≡ map (λ part. pairs_of cache (part_map (frame_pages history b) part)) (range_with_len 0 count)

  pub reading_begins : (shape : Shape) (cache : ℕ) (b : Bound Q R) (found : List (Vec (List ℕ × List ℕ) Global)) (room : ℕ) → IsBetweenLines tells history state b → found ≡ [] → shape.partitions ≤ room → ReadSoFar shape cache b b found room 0
  reading_begins shape cache b found room between none room_for = record {
    looks = looks_refl b between;
    many = ap length none;
    room_for = room_for;
    pairs = λ t all. ap (map (λ (list : Vec (List ℕ × List ℕ) Global). list.items)) none;
  }

  module _ (shape : Shape) (cache : ℕ) (b m : Bound Q R) (found : List (Vec (List ℕ × List ℕ) Global)) (room count : ℕ) (so_far : ReadSoFar shape cache b m found room count) where
    -- a partition is well formed still
    pub well_still : tells → AllWellFormed shape (frame_pages history b) → (part : ℕ) → part < shape.partitions → HasWellFormed shape (frame_pages history m) part
    well_still t all part below = subst (λ (pages : Partitions). HasWellFormed shape pages part) (sym (so_far.looks.nothing.told t)) (all part below)

    pub reading_goes_on : (c : Bound Q R) (more : List (Vec (List ℕ × List ℕ) Global)) (list : Vec (List ℕ × List ℕ) Global) (room' : ℕ) → count < shape.partitions → LooksUp tells history state m c → room' ≡ room → more ≡ found ++ list ∷ []
        → (tells → HasWellFormed shape (frame_pages history m) count → list.items ≡ pairs_of cache (part_map (frame_pages history m) count)) → ReadSoFar shape cache b c more room' (count + 1)
    reading_goes_on c more list room' below looks same pushed read = record {
      looks = looks_then b m c so_far.looks looks;
      many = omega (arith, ap length pushed, length-append found (list ∷ []), so_far.many);
      room_for = omega (arith, same, so_far.room_for);
      pairs = λ t all.
          let items = λ (v : Vec (List ℕ × List ℕ) Global). v.items in
          let last : list.items ≡ pairs_of cache (part_map (frame_pages history b) count) =
          read t (well_still t all count below) ∙ ap (λ (pages : Partitions). pairs_of cache (part_map pages count)) (so_far.looks.nothing.told t) in
          ap (map items) pushed ∙ map-append items found (list ∷ []) ∙ (λ i. so_far.pairs t all i ++ last i ∷ [])
          ∙ sym (map-range_with_len_more (λ part. pairs_of cache (part_map (frame_pages history b) part)) 0 count count (omega arith));
    }
