-- Chains stay right, and pages sound, while a row is placed or taken out.
use Rattle.std.proofs.Common.{◌≡◌, ℕ, ◌<◌, List, sym, ap, subst, ◌∙◌, inl, inr, arith}
use Rattle.std.specs.Prelude.{Result}
use Rattle.std.proofs.lemmas.Bool.{cases_eq}
use Rattle.pm_types.specs.declared.fault.PageFault.{PageFault}
use Rattle.pm_meta.specs.declared.layout.TheConstants.{BUCKETS}
use Rattle.pm_meta.specs.declared.slots.MetaSlot.TheVariants.{Bucket, Pages}
use Rattle.pm_pages.specs.Rows.{Partition, page_at, page_count, number_in, kind_of}
use Rattle.pm_pages.specs.Paged.{Paged, HasGapCause}
use Rattle.pm_pages.specs.Edits.{LooksAtPages, HasMeta}
use Rattle.pm_pages.specs.SoundPages.{IsSound, NoBadPage}
use Rattle.pm_pages.proofs.SoundPages.{sound_no_gap}
use Rattle.pm_free.specs.declared.buckets.Head.{Head}
use Rattle.pm_free.specs.DataEdits.{IsDataAt}
use Rattle.pm_free.specs.Buckets.{HasEnough, IsHeadFor, HasNoHeadFor}
use Rattle.pm_free.specs.Chained.{homes_in, AreChained}
use Rattle.pm_free.specs.Sound.{HasSoundChains}
use Rattle.pm_free.specs.Placed.{HasChains, HasNoneBelow}
use Rattle.pm_free.proofs.Changed.{below_count, number_told, pages_told}
use Rattle.pm_free.proofs.PlacedRows.{chains_in, chained_same, ViewsRows}
use Rattle.pm_free.proofs.NewPages.{Filled, filled_chains, unused_home, keeps_other}
use Rattle.pm_free.proofs.SoundChains.{home_data, first_home}

-- the chains of a partition that is well formed
pub chains_start : (T : Type 0) (a : Paged) → T → IsSound a → HasChains a.pages → HasSoundChains T a (homes_in a.pages)
chains_start T a t sound has = record { told = t; sound = sound; chained = chains_in a.pages has; data_pages = λ j few. home_data (page_at a.pages j) few }

-- the rows of a data page changed
pub chains_rows : (T : Type 0) (a b : Paged) (at : ℕ) (home : ℕ → ℕ) → ViewsRows a.pages b.pages at → (IsSound a → IsSound b) → HasSoundChains T a home → HasSoundChains T b home
chains_rows T a b at home v sound s = record {
  told = s.told;
  sound = sound s.sound;
  chained = chained_same a.pages b.pages home (v.numbers Pages) (λ bucket. v.numbers (Bucket bucket)) v.nexts v.befores s.chained;
  data_pages = λ j few. elim (cases_eq j at) [
    | inl e ↦ ap (λ n. kind_of (page_at b.pages n)) e ∙ v.now
    | inr ne ↦ ap kind_of (v.others j ne) ∙ s.data_pages j few
  ];
}

-- a page was taken and filled, and is in no chain
pub chains_filled : (T : Type 0) (a d e : Paged) (at : ℕ) (row : List ℕ) → T → IsSound e → HasChains a.pages → Filled a.part at row a.pages d.pages → LooksAtPages T d e 0 → HasSoundChains T e (homes_in a.pages)
chains_filled T a d e at row t sound has f looks =
    let same = pages_told T d e 0 t looks in
    record {
      told = t;
      sound = sound;
      chained = subst (λ (p : Partition). AreChained p (homes_in a.pages)) (sym same) (filled_chains a.part at row a.pages d.pages f has);
      data_pages = λ j few. ap (λ (p : Partition). kind_of (page_at p j)) same ∙ elim (cases_eq j at) [
        | inl z ↦ absurd (omega (arith, few, ap (homes_in a.pages) z, unused_home a.part at row a.pages d.pages f))
        | inr ne ↦ (keeps_other a.part at row a.pages d.pages f j ne).kind ∙ home_data (page_at a.pages j) few
      ];
    }

-- the first page of a bucket has that bucket
pub head_home : (p : Paged) (len : ℕ) (head : Head) → 0 < page_count p.pages → HasChains p.pages → IsHeadFor p len head → homes_in p.pages head.at ≡ head.bucket
head_home p len head some has for_row =
    let is : number_in p.pages (Bucket head.bucket) ≡ head.at = number_told p (Bucket head.bucket) head.at for_row.is in
    ap (homes_in p.pages) (sym is) ∙ first_home p.pages (homes_in p.pages) (chains_in p.pages has) some head.bucket for_row.few (λ e. omega (arith, e, is, for_row.some))

-- no bucket below `BUCKETS` has a page with room
pub none_below : (T : Type 0) (a b : Paged) (m len : ℕ) → T → LooksAtPages T a b m → HasNoHeadFor b len → HasNoneBelow a.page_size a.pages len BUCKETS
none_below T a b m len t looks none bucket few enough =
    ap (λ (p : Partition). number_in p (Bucket bucket)) (sym (pages_told T a b m t looks)) ∙ number_told b (Bucket bucket) 0 (none bucket few (subst (λ n. HasEnough n len bucket) (sym looks.same.page_size) enough))

-- a data page that is given back stands after one that is there
pub give_not_bad : {R : Type 0} (T : Type 0) (b : Paged) (now at : ℕ) (r : Result R PageFault) → T → IsSound b → HasMeta b → IsDataAt b at → HasGapCause T b now at r → NoBadPage r
give_not_bad T b now at r t sound meta is cause id h = sound_no_gap T b at id t sound (below_count b at meta is) (cause.bad id h)
