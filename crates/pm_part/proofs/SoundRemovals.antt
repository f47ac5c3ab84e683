-- No bad page comes of a removal from a well-formed partition.
use Rattle.std.proofs.Common.{◌≡◌, ℕ, ◌<◌, List, subst}
use Rattle.std.specs.Prelude.{Result}
use Rattle.pm_types.specs.declared.limits.TheConstants.{CACHES}
use Rattle.pm_types.specs.declared.shape.Shape.{Shape}
use Rattle.pm_types.specs.declared.page_id.Link.{Link}
use Rattle.pm_types.specs.declared.fault.PageFault.{PageFault}
use Rattle.pm_btpage.specs.IndexPages.{Item}
use Rattle.pm_pages.specs.Trees.{root_of}
use Rattle.pm_pages.specs.Paged.{Paged, AllReadable}
use Rattle.pm_pages.specs.Edits.{HasMeta}
use Rattle.pm_pages.specs.SoundPages.{PassesAll, NoBadPage}
use Rattle.pm_pages.specs.StoredPages.{IsStored}
use Rattle.pm_tree.specs.Indexes.{IsIndex}
use Rattle.pm_free.specs.Placed.{TakesRow}
use Rattle.pm_part.specs.Runs.{IsPartitionOf}
use Rattle.pm_part.proofs.CacheIndexes.{index_of}
use Rattle.pm_part.proofs.KeptIndexes.{index_taken}
use Rattle.pm_part.proofs.SoundGets.{passes_all}

-- after a row was taken out, no bad page comes of the removal of an item from the index of a cache
pub tree_sound : {R : Type 0} (b d : Paged) (shape : Shape) (cache other : ℕ) (at_link : Link) (result : Result R PageFault) → cache < CACHES → IsPartitionOf shape b → HasMeta b → AllReadable b → TakesRow b.part b.pages d.pages at_link → (IsStored b → IsStored d) → other ≡ cache
    → (PassesAll d → (height : ℕ) (nodes : List ℕ) (items : List Item) → IsIndex d.pages (root_of d.pages other) height nodes items → NoBadPage result) → NoBadPage result
tree_sound b d shape cache other at_link result few is meta reads takes stores same sound_other =
    let sound = subst (λ n. PassesAll d → (height : ℕ) (nodes : List ℕ) (items : List Item) → IsIndex d.pages (root_of d.pages n) height nodes items → NoBadPage result) same sound_other in
    let ix = index_of shape b cache is.page_size is.max_rows is.well_formed few in
    let stored = stores (record { all = passes_all shape b is; rows = is.rows; part = is.part }) in
    sound stored.all ix.height ix.nodes ix.items (index_taken b d.pages cache ix.height ix.nodes ix.items reads meta few ix.index b.part at_link takes)
