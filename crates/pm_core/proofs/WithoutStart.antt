-- Without a valid slot and without whole pages, what a disk holds is what its log alone holds.
use Rattle.std.proofs.Common.{◌≡◌, ℕ, ◌<◌, List, [], ◌∷◌, ◌++◌, Option, Some, None, refl, sym, ap, subst, ◌∙◌, arith}
use Rattle.std.specs.Prelude.{◌↔◌, ◌||◌, ◌==◌, nat_lt, if◌then◌else◌, Bool, true, false, map, All}
use Rattle.std.specs.List.{flat_map, range_with_len}
use Rattle.std.specs.FinMap.{empty, from_entries}
use Rattle.pm_types.specs.declared.shape.Shape.{Shape}
use Rattle.pm_disk.specs.Files.{bytes_of}
use Rattle.pm_disk.specs.Images.{Image}
use Rattle.pm_model.specs.declared.cache_key.CacheKey.{CacheKey}
use Rattle.pm_model.specs.Eval.{Pairs, cache_key_cmp}
use Rattle.pm_pages.specs.Rows.{Partition, rows_of, page_count}
use Rattle.pm_pages.specs.WellFormed.{IsWellFormed, EachOnce, placed_pages}
use Rattle.pm_core.specs.Replays.{all_replayed}
use Rattle.pm_core.specs.LogAlone.{Holds}
use Rattle.pm_pages.specs.RowMaps.{entry_of}
use Rattle.pm_core.specs.Held.{in_force, pairs_in}
use Rattle.pm_core.specs.Sound.{LogIsAlone, SoundWith, SoundImage}
use Rattle.pm_marks.specs.Slots.{mark_at}
use Rattle.pm_marks.specs.InForce.{NoStart, higher, checkpoint_of}
use Rattle.pm_core.specs.BasePages.{no_pages, counted}

-- without a valid slot no checkpoint is in force
pub none_in_force : (page_size : ℕ) (image : Image) → LogIsAlone page_size image → in_force image ≡ NoStart
none_in_force page_size image none =
    let starts = bytes_of image.starts in
    let ends = bytes_of image.ends in
    ap (λ o. checkpoint_of (higher o (mark_at 1 starts)) ends) (none.starts 0) ∙ ap (λ o. checkpoint_of o ends) (none.starts 1)

-- nothing comes of items of which each gives nothing
pub flat_none : {X A : Type 0} (f : X → List A) (xs : List X) → ((x : X) → f x ≡ []) → flat_map f xs ≡ []
flat_none f [] none = refl
flat_none f (x ∷ xs) none = ap (λ front. front ++ flat_map f xs) (none x) ∙ flat_none f xs none

pub none_either : (b : Bool) → (let o : Option (List ℕ) = if b then None else None in o) ≡ None
none_either true = refl
none_either false = refl

-- of no pages none counts
pub none_counted : (part : ℕ) → counted (no_pages part) ≡ no_pages part
none_counted part = λ i index. none_either (index == 0 || nat_lt index (page_count (no_pages part))) i

-- no pages have no rows
pub no_rows : (partitions : ℕ) → pairs_in partitions no_pages ≡ empty
unfolding pairs_in
no_rows partitions =
    ap (λ (entries : List (CacheKey × List ℕ)). from_entries {R = cache_key_cmp} entries)
    (flat_none (λ part. map entry_of (rows_of part (counted (no_pages part)))) (range_with_len 0 partitions)
    (λ part. ap (λ (pages : Partition). map entry_of (rows_of part pages)) (none_counted part)))

no_place : placed_pages (λ i. None) ≡ []
unfolding placed_pages
no_place = refl

each_once : (part : ℕ) → EachOnce (no_pages part)
each_once part = record {
  below = subst (λ list. All (λ i. i < 0) list) (sym no_place) (λ k d lt. absurd (omega (arith, lt)));
  once = λ i lt. absurd (omega (arith, lt));
}

-- no pages are well formed
pub none_well_formed : (shape : Shape) (part : ℕ) → IsWellFormed shape part (no_pages part)
none_well_formed shape part = record {
  all_pass = record { meta = tt; each = λ i lt. absurd (omega (arith, lt)) };
  keys_once = record { once = λ i j d p q. absurd (omega (arith, q)); of_part = λ k d lt. absurd (omega (arith, lt)); counted = refl };
  trees = λ cache lt. record { none = λ all. refl; some = λ any. absurd (omega (arith, any)) };
  chains = λ bucket lt. record { exact = record { below = λ k d lt. absurd (omega (arith, lt)); once = λ i is. absurd (omega (arith, is)) }; before = tt };
  reuse = λ k d lt. absurd (omega (arith, lt));
  each_once = each_once part;
}

module _ (wanted : Shape) (image : Image) (shape : Shape) (pairs : Pairs) where
  -- the log alone says what the disk holds
  sound_alone : LogIsAlone shape.page_size image → Holds wanted image shape pairs → SoundWith wanted NoStart image shape pairs
  sound_alone alone holds = record {
    holds = record {
      rebuilt = no_pages;
      frames = holds.log.frames;
      rebuilt_are = refl;
      log = holds.log.log;
      reaches = omega arith;
      begins = holds.log.held.begins;
      told = holds.log.held.told;
      well_formed = λ part lt. subst (λ (pages : Partition). IsWellFormed shape part pages) (sym (none_counted part)) (none_well_formed shape part);
      map = ap (λ m. all_replayed shape holds.log.frames (Some m)) (no_rows shape.partitions) ∙ holds.log.held.map;
    };
    nothing_above = holds.nothing_above;
    begin_ends = tt;
    has_meta = λ part index some. absurd cc;
    ends_below = λ slot mark is. let no : None ≡ Some mark = sym (alone.ends slot) ∙ is in absurd cc;
    bare = alone.bare;
  }

  alone_sound : SoundWith wanted NoStart image shape pairs → Holds wanted image shape pairs
  alone_sound sound = record {
    log = record {
      frames = sound.holds.frames;
      log = sound.holds.log;
      held = record {
        begins = sound.holds.begins;
        told = sound.holds.told;
        map = ap (λ m. all_replayed shape sound.holds.frames (Some m)) (sym (no_rows shape.partitions)) ∙ sound.holds.map;
      };
    };
    nothing_above = sound.nothing_above;
  }

  pub alone_exactly : LogIsAlone shape.page_size image → SoundImage wanted image shape pairs ↔ Holds wanted image shape pairs
  alone_exactly alone =
      let none = none_in_force shape.page_size image alone in (
        λ sound. alone_sound (subst (λ c. SoundWith wanted c image shape pairs) none sound),
        λ holds. subst (λ c. SoundWith wanted c image shape pairs) (sym none) (sound_alone alone holds),
      )
