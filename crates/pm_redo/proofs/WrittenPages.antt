-- A page that is written stands in its file, and so does each other one that stood there.
use Rattle.std.proofs.Common.{◌≡◌, inl, inr, ℕ, ◌+◌, ◌-◌, ◌*◌, List, length, take, drop, Option, Some, sym, ◌∙◌, ap, subst, arith}
use Rattle.std.specs.Prelude.{◌≢◌}
use Rattle.std.proofs.lemmas.Bool.{cases_eq}
use Rattle.std.proofs.lemmas.List.{length-take, length-drop}
use Rattle.pm_types.specs.declared.page_id.PageId.{PageId}
use Rattle.pm_types.specs.Ids.{part_of_id, index_of_id}
use Rattle.pm_disk.specs.Files.{File, bytes_of, content, changed, with_change, missing, gapped}
use Rattle.pm_disk.specs.Worlds.{World, pages_in, page_at, pages_changed}
use Rattle.pm_disk.proofs.Families.{file_here, file_there}
use Rattle.pm_disk.proofs.Files.{content_change, same_reads}
use Rattle.pm_disk.proofs.Gaps.{gapped_puts, page_alone}
use Rattle.pm_disk.proofs.Writes.{slice_get-take, slice_get-drop}
use Rattle.pm_core.specs.BasePages.{page_in_file}
use Rattle.pm_core.proofs.Ranges.{page_own, page_within, page_there}
use Rattle.pm_redo.specs.Ending.{StandsInFile}

-- ---- in a file

put_there : (file : Option (List ℕ)) (gap bytes : List ℕ) (index : ℕ) → length gap ≡ missing (index * length bytes) file
    → page_in_file (length bytes) (changed (gapped file (index * length bytes) gap bytes) file) index ≡ Some bytes
put_there file gap bytes index reaches =
    let at = index * length bytes in
    let new = changed (gapped file at gap bytes) file in
    let puts = gapped_puts file at gap bytes reaches in
    let size : at + length bytes - at ≡ length bytes = omega arith in
    let same : take (length bytes) (drop at (bytes_of new)) ≡ bytes =
    same_reads (take (length bytes) (drop at (bytes_of new))) bytes
    (omega (arith, length-take (length bytes) (drop at (bytes_of new)), length-drop at (bytes_of new), puts.long))
    (λ i lt. slice_get-take (length bytes) (drop at (bytes_of new)) i lt ∙ slice_get-drop at (bytes_of new) i ∙ puts.there i lt) in
    page_there (length bytes) index new puts.long ∙ ap (λ b. Some b) (ap (λ n. take n (drop at (bytes_of new))) size ∙ same)

put_here : (size : ℕ) (file : Option (List ℕ)) (gap bytes : List ℕ) (index : ℕ) → length bytes ≡ size → length gap ≡ missing (index * length bytes) file
    → page_in_file size (changed (gapped file (index * length bytes) gap bytes) file) index ≡ Some bytes
put_here size file gap bytes index sized reaches =
    subst (λ n. page_in_file n (changed (gapped file (index * length bytes) gap bytes) file) index ≡ Some bytes) sized (put_there file gap bytes index reaches)

put_apart : (file : Option (List ℕ)) (gap bytes : List ℕ) (index other : ℕ) (page : List ℕ) → length gap ≡ missing (index * length bytes) file → other ≢ index
    → page_in_file (length bytes) file other ≡ Some page → page_in_file (length bytes) (changed (gapped file (index * length bytes) gap bytes) file) other ≡ Some page
put_apart file gap bytes index other page reaches apart is =
    let size = length bytes in
    let keeps = page_alone file gap bytes index other reaches apart in
    let within = page_within size other file page is in
    page_own size other file (changed (gapped file (index * size) gap bytes) file) page is (omega (arith, within.0, keeps.no_shorter)) (λ i le lt. keeps.same i le lt (omega (arith, lt, within.0)))

put_elsewhere : (size : ℕ) (file : Option (List ℕ)) (gap bytes : List ℕ) (index other : ℕ) (page : List ℕ) → length bytes ≡ size → length gap ≡ missing (index * length bytes) file → other ≢ index
    → page_in_file size file other ≡ Some page → page_in_file size (changed (gapped file (index * length bytes) gap bytes) file) other ≡ Some page
put_elsewhere size file gap bytes index other page sized reaches apart is =
    subst (λ n. page_in_file n (changed (gapped file (index * length bytes) gap bytes) file) other ≡ Some page) sized
    (put_apart file gap bytes index other page reaches apart (subst (λ n. page_in_file n file other ≡ Some page) (sym sized) is))

-- ---- in the partitions' files

module _ (size : ℕ) (w : World) (page : PageId) (gap bytes : List ℕ) (sized : length bytes ≡ size) (reaches : length gap ≡ missing (page_at page (length bytes)) (pages_in w (part_of_id page))) where
  abbrev after : World
  after = pages_changed (part_of_id page) (gapped (pages_in w (part_of_id page)) (page_at page (length bytes)) gap bytes) w

  file_now : content (after.pages (part_of_id page)) ≡ changed (gapped (pages_in w (part_of_id page)) (page_at page (length bytes)) gap bytes) (pages_in w (part_of_id page))
  file_now =
      let part = part_of_id page in
      let change = gapped (pages_in w part) (page_at page (length bytes)) gap bytes in
      ap (λ (f : File). content f) (file_here w.pages part (with_change (w.pages part) change)) ∙ content_change (w.pages part) change

  pub stands_here : StandsInFile size after (part_of_id page) (index_of_id page) bytes
  stands_here =
      ap (λ (o : Option (List ℕ)). page_in_file size o (index_of_id page)) file_now ∙ put_here size (pages_in w (part_of_id page)) gap bytes (index_of_id page) sized reaches

  pub stands_still : (part index : ℕ) (other : List ℕ) → (part ≡ part_of_id page → index ≡ index_of_id page → other ≡ bytes) → StandsInFile size w part index other → StandsInFile size after part index other
  stands_still part index other same is = elim (cases_eq part (part_of_id page)) [
    | inl here ↦ elim (cases_eq index (index_of_id page)) [
      | inl it ↦
          let there : StandsInFile size after part index bytes = subst (λ p. StandsInFile size after p index bytes) (sym here) (subst (λ i. StandsInFile size after (part_of_id page) i bytes) (sym it) stands_here) in
          subst (StandsInFile size after part index) (sym (same here it)) there
      | inr apart ↦
          let was = subst (λ p. StandsInFile size w p index other) here is in
          let now : StandsInFile size after (part_of_id page) index other =
          ap (λ (o : Option (List ℕ)). page_in_file size o index) file_now ∙ put_elsewhere size (pages_in w (part_of_id page)) gap bytes (index_of_id page) index other sized reaches apart was in
          subst (λ p. StandsInFile size after p index other) (sym here) now
    ]
    | inr elsewhere ↦
        let part_now = file_there w.pages (part_of_id page) part (with_change (w.pages (part_of_id page)) (gapped (pages_in w (part_of_id page)) (page_at page (length bytes)) gap bytes)) elsewhere in
        ap (λ (f : File). page_in_file size (content f) index) part_now ∙ is
  ]
