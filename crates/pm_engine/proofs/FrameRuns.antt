-- A command over a worker's page frames does what it does over any pages.
use Rattle.std.proofs.Common.{◌≡◌, ℕ, ◌<◌, ◌≤◌, Bool, List, [], ◌∷◌, ◌++◌, inl, map, None, Some, sym, refl, ap, subst, ◌∙◌, arith}
use Rattle.std.specs.Prelude.{◌^◌, Err, IsErrOf}
use Rattle.std.specs.List.{Contains}
use Rattle.std.proofs.lemmas.List.{append-nil}
use Rattle.pm_types.specs.declared.limits.TheConstants.{ROWS_MAX}
use Rattle.pm_types.specs.declared.fault.PageFault.{PageFault}
use Rattle.pm_types.specs.declared.fault.PageFault.TheVariants.{Failed, BadPage}
use Rattle.pm_types.specs.declared.shape.Shape.{Shape}
use Rattle.pm_types.specs.Ids.{page_id, index_of_id}
use Rattle.pm_disk.specs.Moments.{History}
use Rattle.pm_disk.specs.States.{DeviceState}
use Rattle.pm_frame.specs.Frames.{Frame}
use Rattle.pm_model.specs.declared.line.Cmd.{Cmd}
use Rattle.pm_model.specs.declared.line.Line.TheVariants.{Good}
use Rattle.pm_model.specs.Eval.{Pairs, reply_to, after}
use Rattle.pm_model.specs.ReplyLists.{ReplyList, with_replies}
use Rattle.pm_pages.specs.Edits.{LooksAtPages}
use Rattle.pm_pages.specs.Paged.{Paged}
use Rattle.pm_pages.specs.RowMaps.{map_of}
use Rattle.pm_pages.specs.Rows.{Partition, rows_of}
use Rattle.pm_pages.specs.WellFormed.{IsWellFormed}
use Rattle.pm_part.specs.Faults.{HasPartCause, IsFaultOf}
use Rattle.pm_part.specs.Runs.{IsPartitionOf, RunsCmd}
use Rattle.pm_stripe.specs.declared.bound.Bound.{Bound}
use Rattle.pm_stripe.specs.declared.held.Held.{Held}
use Rattle.pm_stripe.specs.ChangedPages.{ChangedPage, frame_for, page_record}
use Rattle.pm_stripe.specs.Dones.{EndsOperation}
use Rattle.pm_stripe.specs.Kept.{held_at, page_bytes}
use Rattle.pm_stripe.specs.Listings.{GrowsByOperation, IsChangedPage, handed_bytes_by}
use Rattle.pm_stripe.specs.Shown.{kept_by, file_by, patch_of, shown}
use Rattle.pm_stripe.proofs.MarkedPages.{found}
use Rattle.pm_engine.specs.FrameCommands.{frame_pages, part_seen, RunsLineOn, HasWellFormed}
use Rattle.pm_engine.specs.PagedStores.{part_map}
use Rattle.pm_engine.proofs.FrameMaps.{well_seen, well_cut, rows_cut}
use Rattle.pm_engine.proofs.FrameSteps.{HasCalled, elsewhere}

-- ---- an operation that changed nothing

none_listed : (listed : List ChangedPage) → ((p : ChangedPage) → Contains listed p → ⊥) → listed ≡ []
none_listed [] none = refl
none_listed (p ∷ ps) none = absurd (none p (0, omega arith, refl))

-- where no page was changed, an operation without a record hands over nothing
pub nothing_handed : (line : ℕ) (held : List Held) (old new : List ℕ) → ((p : ChangedPage) → IsChangedPage held p → ⊥) → GrowsByOperation line None held old new → new ≡ old
nothing_handed line held old new none x =
    let op = x.hands.operation in
    let is = x.hands.is in
    let no_page : is.listed ≡ [] = none_listed is.listed (λ p there. none p (is.lists.only p there)) in
    let no_record : op.records ≡ [] = is.records_are ∙ ap (λ (ps : List ChangedPage). map (λ p. frame_for (page_record p)) ps) no_page in
    let no_byte : x.more ≡ [] = x.hands.bytes_are ∙ ap (λ (fs : List Frame). handed_bytes_by fs op) no_record in
    x.grows ∙ ap (λ (more : List ℕ). old ++ more) no_byte ∙ append-nil old

-- ---- faults

-- the same fault in place of another answer
pub as_err : {A B : Type 0} (fault other : PageFault) → IsErrOf {T = A} (Err fault) other → IsErrOf {T = B} (Err fault) other
as_err fault other is = let same : fault ≡ other = cc is in ap Err same

pub moved_cause : (T : Type 0) (old old' new new' : Paged) (cmd : Cmd) (fault : PageFault) → old ≡ old' → new ≡ new' → HasPartCause {R = Unit {0}} T old new (IsFaultOf T new cmd) (Err fault)
    → HasPartCause {R = Bool} T old' new' (IsFaultOf T new' cmd) (Err fault)
moved_cause T old old' new new' cmd fault before later x =
    let moved = subst (λ (p : Paged × Paged). HasPartCause {R = Unit {0}} T p.0 p.1 (IsFaultOf T p.1 cmd) (Err fault)) (λ i. (before i, later i)) x in
    record { failed = λ is. moved.failed (as_err fault Failed is); bad = λ id is. moved.bad id (as_err fault (BadPage id) is) }

module _ {Q R : Type 0} (tells : Type 0) (history : R → History) (state : R → DeviceState) where
  -- pages that were looked at were not changed
  pub none_noted : (part : ℕ) (b n m : Bound Q R) (most : ℕ) → HasCalled tells history state part b m → n.part ≡ part → n.stripe.held.items ≡ [] → LooksAtPages tells (shown history state n) (shown history state m) most
      → (p : ChangedPage) → IsChangedPage m.stripe.held.items p → ⊥
  none_noted part b n m most called at none looks p x =
      let h = x.page in
      let held = m.stripe.held.items in
      let j = index_of_id h.page in
      let alone = called.ready.operates.alone x.place h x.at in
      let name : h.page.0 ≡ (page_id m.part j).0 = omega (arith, alone, (called.ready.bound.holds.held x.place h x.at).own.name.flag) in
      let here : held_at held (page_id m.part j).0 ≡ Some h = ap (held_at held) (sym name) ∙ found m.locks.now (kept_by m) called.ready.bound.holds x.place h x.at in
      let noted : Some x.patch ≡ None = sym x.patched ∙ sym (ap patch_of here) ∙ looks.patches j ∙ ap (λ (hs : List Held). patch_of (held_at hs (page_id n.part j).0)) none in
      cc noted

  -- ---- the map

  abbrev pages_in : ℕ → Bound Q R → Partition
  pages_in part b index = page_bytes (file_by history b) (kept_by b) (page_id part index)

  module _ (shape : Shape) (part : ℕ) (b : Bound Q R) (is_shape : shape ≡ b.stripe.shape) (below : part < b.stripe.shape.partitions) (rows : b.stripe.shape.max_rows ≤ ROWS_MAX) where
    pub seen_well : HasWellFormed shape (frame_pages history b) part → IsWellFormed shape part (pages_in part b)
    seen_well well = subst (λ s. IsWellFormed s part (pages_in part b)) (sym is_shape)
        (well_seen b.stripe.shape part (pages_in part b) below rows (subst (λ s. HasWellFormed s (frame_pages history b) part) is_shape well))

    pub frames_well : IsWellFormed shape part (pages_in part b) → HasWellFormed shape (frame_pages history b) part
    frames_well well = subst (λ s. HasWellFormed s (frame_pages history b) part) (sym is_shape)
        (well_cut b.stripe.shape part (pages_in part b) below rows (subst (λ s. IsWellFormed s part (pages_in part b)) is_shape well))

    pub frames_map : IsWellFormed shape part (pages_in part b) → part_map (frame_pages history b) part ≡ map_of (rows_of part (pages_in part b))
    frames_map well = ap map_of (rows_cut b.stripe.shape part (pages_in part b) below rows (subst (λ s. IsWellFormed s part (pages_in part b)) is_shape well))

    pub partition_seen : part < 2 ^ 16 → HasWellFormed shape (frame_pages history b) part → IsPartitionOf shape (part_seen history state b part)
    partition_seen small well = record {
      page_size = ap (λ (s : Shape). s.page_size) is_shape;
      max_rows = ap (λ (s : Shape). s.max_rows) is_shape;
      rows = rows;
      part = small;
      well_formed = seen_well well;
    }

  -- a command that was run on the pages of a partition is run on the pages of the store
  pub runs_line : (shape : Shape) (part : ℕ) (cmd : Cmd) (b m c : Bound Q R) (was now : ReplyList) → tells → shape ≡ b.stripe.shape → part < b.stripe.shape.partitions → b.stripe.shape.max_rows ≤ ROWS_MAX
      → (called : HasCalled tells history state part b m) → (ends : EndsOperation tells history state m c) → HasWellFormed shape (frame_pages history b) part
      → IsPartitionOf shape (part_seen history state m part) → RunsCmd shape part cmd (part_seen history state b part).pages (part_seen history state m part).pages was now
      → RunsLineOn shape part (Good cmd) (frame_pages history b) (frame_pages history c) was now
  runs_line shape part cmd b m c was now t is_shape below rows called ends well after_is runs =
      let shape_c : c.stripe.shape ≡ b.stripe.shape = ends.same.shape ∙ called.same.shape in
      let is_shape_c : shape ≡ c.stripe.shape = is_shape ∙ sym shape_c in
      let below_c = subst (λ (s : Shape). part < s.partitions) (sym shape_c) below in
      let rows_c = subst (λ (s : Shape). s.max_rows ≤ ROWS_MAX) (sym shape_c) rows in
      let pages_same : (part_seen history state m part).pages ≡ pages_in part c = (λ i index. sym (ends.pages (page_id part index) (inl t)) i) in
      let well_c = subst (λ (pages : Partition). IsWellFormed shape part pages) pages_same after_is.well_formed in
      let map_b = frames_map shape part b is_shape below rows (seen_well shape part b is_shape below rows well) in
      record {
        replied = runs.replied ∙ ap (λ (m : Pairs). with_replies (reply_to shape (Good cmd) m ∷ []) was) (sym map_b);
        map = frames_map shape part c is_shape_c below_c rows_c well_c ∙ ap (λ (pages : Partition). map_of (rows_of part pages)) (sym pages_same) ∙ runs.map
            ∙ ap (λ (m : Pairs). after shape (Good cmd) m) (sym map_b);
        well_formed = frames_well shape part c is_shape_c below_c rows_c well_c;
        elsewhere = elsewhere tells history state part b m c called ends t;
      }
