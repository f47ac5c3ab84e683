-- A partition whose meta page was made is well formed, and takes a row.
use Rattle.std.proofs.Common.{◌≡◌, ◌≢◌, ℕ, zero, suc, ◌<◌, List, [], sym, ap, subst, ◌∙◌, arith}
use Rattle.std.specs.Prelude.{None}
use Rattle.pm_types.specs.declared.limits.TheConstants.{CACHES}
use Rattle.pm_types.specs.declared.shape.Shape.{Shape}
use Rattle.pm_types.specs.PageSizes.{IsPageSize}
use Rattle.pm_btpage.specs.IndexPages.{Item}
use Rattle.pm_meta.specs.declared.slots.MetaSlot.{MetaSlot}
use Rattle.pm_meta.specs.declared.slots.MetaSlot.TheVariants.{Root, Bucket, Reuse, Pages, Rows}
use Rattle.pm_meta.specs.MetaPages.{IsSlot}
use Rattle.pm_pages.specs.Rows.{Partition, number_of, number_in}
use Rattle.pm_pages.specs.Trees.{root_of}
use Rattle.pm_pages.specs.Paged.{Paged, AllReadable, SamePartition}
use Rattle.pm_pages.specs.Edits.{HasMeta}
use Rattle.pm_pages.specs.SoundPages.{PassesAll}
use Rattle.pm_pages.proofs.StoredPages.{all_there}
use Rattle.pm_tree.specs.Indexes.{IsIndex}
use Rattle.pm_tree.specs.Maps.{get_in}
use Rattle.pm_part.specs.NewMeta.{HasNewMeta}
use Rattle.pm_part.specs.Runs.{IsPartitionOf}
use Rattle.pm_part.specs.Puts.{IsPartFor, MayAddRow}
use Rattle.pm_part.proofs.DroppedRows.{meta_no_data}
use Rattle.pm_part.proofs.FirstPages.{IsFirstAlone, laid_first, keys_first, lists_first}
use Rattle.pm_part.proofs.LaidOutWell.{well_formed_of}

-- an index without a root has no item
no_item : (pages : Partition) (root : ℕ) (key : List ℕ) → root ≡ 0 → (height : ℕ) (nodes : List ℕ) (items : List Item) → IsIndex pages root height nodes items → get_in items key ≡ None
no_item pages root key none zero nodes items index = ap (λ (l : List Item). get_in l key) index.2
no_item pages root key none (suc levels) nodes items index = absurd (index.some none)

module _ (a b : Paged) (shape : Shape) (is : IsPartitionOf shape a) (same : SamePartition a b) (meta : HasMeta b) (reads : AllReadable b) (made : HasNewMeta b) where
  number_is : (slot : MetaSlot) → IsSlot slot → slot ≢ Pages → number_in b.pages slot ≡ 0
  number_is slot there other = ap (λ o. number_of o slot) made.here ∙ made.is.others slot there other

  alone : IsFirstAlone b.pages
  alone = record {
    count = ap (λ o. number_of o Pages) made.here ∙ made.is.pages;
    kind = meta_no_data b reads meta;
    roots = λ cache few. number_is (Root cache) few (λ e. absurd (cc e));
    buckets = λ bucket few. number_is (Bucket bucket) few (λ e. absurd (cc e));
    reuse = number_is Reuse tt (λ e. absurd (cc e));
    rows = number_is Rows tt (λ e. absurd (cc e));
  }

  size_is : shape.page_size ≡ b.page_size
  size_is = is.page_size ∙ sym same.page_size

  most_is : shape.max_rows ≡ b.max_rows
  most_is = is.max_rows ∙ sym same.max_rows

  passes : PassesAll b
  passes = record {
    shape = shape;
    page_size = size_is;
    max_rows = most_is;
    pass = all_there b shape size_is most_is (made.page, made.here, record { size = made.size; stored = made.is.stored b.max_rows }) (λ i some lt. absurd (omega (arith, some, lt, alone.count)));
  }

  pub first_partition : IsPartitionOf shape b
  first_partition = record {
    page_size = size_is;
    max_rows = most_is;
    rows = omega (arith, is.rows, same.max_rows);
    part = omega (arith, is.part, same.part);
    well_formed = well_formed_of shape b size_is most_is passes (subst IsPageSize made.size (made.is.stored 0).well_made.size) (λ cache. []) (laid_first b.pages alone)
        (λ cache few. lists_first b.pages alone b.part cache) (keys_first b.pages alone shape b.part);
  }

  pub takes_row : (most cache : ℕ) (key : List ℕ) → cache < CACHES → IsPartFor shape a most key → MayAddRow shape b 0 cache key
  takes_row most cache key low for = record {
    partition = first_partition;
    counted = alone.rows;
    few = omega (arith, for.some, for.most, most_is);
    mine = for.mine ∙ sym same.part;
    lacks = record { none = no_item b.pages (root_of b.pages cache) key (alone.roots cache low) };
  }
