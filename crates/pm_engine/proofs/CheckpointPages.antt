-- The pages that the log rebuilds are those of a checkpoint.
use Rattle.std.proofs.Common.{◌≡◌, ℕ, ◌<◌, Bool, true, false, List, length, get_or, Option, Some, None, refl, sym, ap, ◌∙◌, subst}
use Rattle.std.specs.Prelude.{IsSome, All, if◌then◌else◌}
use Rattle.std.specs.Option.{option_or}
use Rattle.pm_types.specs.declared.page_id.PageId.{PageId}
use Rattle.pm_types.specs.declared.shape.Shape.{Shape}
use Rattle.pm_types.specs.Ids.{part_of_id, index_of_id}
use Rattle.pm_disk.specs.Files.{bytes_of}
use Rattle.pm_frame.specs.Frames.{Frame}
use Rattle.pm_core.specs.BasePages.{Partitions, laid_over}
use Rattle.pm_core.specs.Calls.{AreRebuilt}
use Rattle.pm_core.specs.PageSets.{has_index}
use Rattle.pm_core.proofs.Finishing.{rebuilt_inside}
use Rattle.pm_ckpt.specs.Writes.{IsHeld, page_of}
use Rattle.pm_ckpt.proofs.Home.{index_of_own}
use Rattle.pm_engine.specs.TrackedPages.{TracksPages, HaveFirstPages}

module _ (shape : Shape) (frames : List Frame) (files pages : Partitions) (logged : List PageId) (t : TracksPages shape frames files pages logged) where
  -- a page is logged, or the log doesn't rebuild it
  rebuilt_at : (part index : ℕ) (b : Bool) → has_index part index logged ≡ b → t.rebuilt part index ≡ (let o : Option (List ℕ) = if b then pages part index else None in o)
  rebuilt_at part index b e = t.each part index ∙ ap (λ (h : Bool). let o : Option (List ℕ) = if h then pages part index else None in o) e

  pub only_logged : AreRebuilt logged t.rebuilt
  only_logged part index some = by (has_index part index logged) refl
    where
      by : (b : Bool) → has_index part index logged ≡ b → b ≡ true
      by true e = refl
      by false e = let none : IsSome {T = List ℕ} None = subst IsSome (rebuilt_at part index false e) some in absurd cc

  pub base_is : (part index : ℕ) → part < shape.partitions → laid_over t.rebuilt files part index ≡ pages part index
  base_is part index inside = by (has_index part index logged) refl
    where
      by : (b : Bool) → has_index part index logged ≡ b → option_or (t.rebuilt part index) (files part index) ≡ pages part index
      by true e =
          let is = (t.there part index e).is in
          ap (λ o. option_or o (files part index)) (rebuilt_at part index true e ∙ is) ∙ sym is
      by false e = ap (λ o. option_or o (files part index)) (rebuilt_at part index false e) ∙ sym (t.clean part index inside e)

  pub has_first : HaveFirstPages shape pages → (part index : ℕ) → IsSome (t.rebuilt part index) → IsSome (laid_over t.rebuilt files part 0)
  has_first first part index some =
      let inside = rebuilt_inside shape frames t.rebuilt t.is part index some in
      let there : IsSome (pages part index) = subst IsSome (rebuilt_at part index true (only_logged part index some)) some in
      subst IsSome (sym (base_is part 0 inside)) (first part index inside there)

  pub all_held : All (IsHeld shape.page_size pages) logged
  all_held k d lt =
      let page : PageId = get_or logged k d in
      let is = t.there (part_of_id page) (index_of_id page) (index_of_own logged k d lt) in
      let same : page_of pages page ≡ is.bytes = ap bytes_of is.is in
      record { there = is.is ∙ ap (λ b. Some b) (sym same); sized = ap length same ∙ is.sized }
