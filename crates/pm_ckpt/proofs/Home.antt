-- Pages that are written are in their files, and stay there.
use Rattle.std.proofs.Common.{◌≡◌, ◌⊎◌, inl, inr, ℕ, zero, suc, ◌+◌, ◌-◌, ◌*◌, ◌<◌, List, [], ◌∷◌, map, length, take, drop, get_or, Bool, true, false, Option, Some, None, refl, sym, ◌∙◌, ap, subst, arith}
use Rattle.std.specs.Prelude.{◌≢◌, ◌==◌, ◌&&◌, if◌then◌else◌, All, IsSome}
use Rattle.std.proofs.lemmas.Bool.{cases_eq, eqb-true, eq-eqb}
use Rattle.std.proofs.lemmas.List.{length-take, length-drop}
use Rattle.std.proofs.lemmas.List.Elements.{All-head, All-tail}
use Rattle.pm_types.specs.declared.page_id.PageId.{PageId}
use Rattle.pm_types.specs.declared.shape.Mark.{Mark}
use Rattle.pm_types.specs.Ids.{part_of_id, index_of_id}
use Rattle.pm_disk.specs.Files.{File, bytes_of, content, changed, with_change, missing, gapped}
use Rattle.pm_disk.specs.Images.{KeepsRange, Puts}
use Rattle.pm_disk.specs.Worlds.{World, pages_in, page_at}
use Rattle.pm_disk.proofs.Families.{file_cases}
use Rattle.pm_disk.proofs.Files.{content_change, same_reads}
use Rattle.pm_disk.proofs.Gaps.{gapped_puts, page_alone}
use Rattle.pm_disk.proofs.Writes.{slice_get-take, slice_get-drop}
use Rattle.pm_marks.specs.InForce.{Started}
use Rattle.pm_core.specs.BasePages.{Partitions, page_in_file}
use Rattle.pm_core.specs.Machine.{CanAll}
use Rattle.pm_core.specs.PageSets.{has_index}
use Rattle.pm_core.specs.States.{State}
use Rattle.pm_core.proofs.Ranges.{page_own, page_within, page_there}
use Rattle.pm_ckpt.specs.Writes.{Writing, written_page, page_of, IsHeld, page_written, write_steps, HaveGaps}
use Rattle.pm_ckpt.proofs.Written.{after_writes}

-- ---- one page

module _ (size : ℕ) (file : Option (List ℕ)) (gap bytes : List ℕ) (index : ℕ) (sized : length bytes ≡ size) (reaches : length gap ≡ missing (index * length bytes) file) where
  abbrev new : Option (List ℕ)
  new = changed (gapped file (index * length bytes) gap bytes) file

  puts : Puts file (gapped file (index * length bytes) gap bytes) (index * length bytes) bytes
  puts = gapped_puts file (index * length bytes) gap bytes reaches

  range : take (length bytes) (drop (index * length bytes) (bytes_of new)) ≡ bytes
  range =
      let at = index * length bytes in
      same_reads (take (length bytes) (drop at (bytes_of new))) bytes (omega (arith, length-take (length bytes) (drop at (bytes_of new)), length-drop at (bytes_of new), puts.long))
      (λ i lt. slice_get-take (length bytes) (drop at (bytes_of new)) i lt ∙ slice_get-drop at (bytes_of new) i ∙ puts.there i lt)

  -- it stands in its file
  pub stands_written : page_in_file size new index ≡ Some bytes
  stands_written =
      let n = length bytes in
      let at = index * length bytes in
      let e : at + n - at ≡ n = omega arith in
      subst (λ k. page_in_file k new index ≡ Some bytes) sized
      (page_there n index new puts.long ∙ ap (λ k. let o : Option (List ℕ) = Some (take k (drop at (bytes_of new))) in o) e ∙ ap (λ b. Some b) range)

  -- and each other page stays
  pub stays_written : (other : ℕ) (page : List ℕ) → other ≢ index → page_in_file size file other ≡ Some page → page_in_file size new other ≡ Some page
  stays_written other page apart was =
      let keeps : KeepsRange file (gapped file (index * length bytes) gap bytes) (other * size) (other * size + size) =
      subst (λ n. KeepsRange file (gapped file (index * length bytes) gap bytes) (other * n) (other * n + n)) sized (page_alone file gap bytes index other reaches apart) in
      let within = page_within size other file page was in
      page_own size other file new page was (omega (arith, within.0, keeps.no_shorter)) (λ i le lt. keeps.same i le lt (omega (arith, lt, within.0)))

-- ---- one write

module _ (size : ℕ) (held : Partitions) (x : Writing) (w : World) (is : IsHeld size held x.page)
    (reaches : length x.gap ≡ missing (page_at x.page (length (page_of held x.page))) (pages_in w (part_of_id x.page))) where
  abbrev bytes : List ℕ
  bytes = page_of held x.page

  abbrev part : ℕ
  part = part_of_id x.page

  abbrev index : ℕ
  index = index_of_id x.page

  abbrev file : File
  file = with_change (w.pages part) (gapped (pages_in w part) (page_at x.page (length bytes)) x.gap bytes)

  abbrev Before : ℕ → ℕ → List ℕ → Type 0
  Before k i page = (page_in_file size (content (w.pages k)) i ≡ Some page) ⊎ ((part ≡ k) × (index ≡ i))

  here : (i : ℕ) (page : List ℕ) → held part i ≡ Some page → Before part i page → page_in_file size (content file) i ≡ Some page
  here i page there before =
      subst (λ o. page_in_file size o i ≡ Some page) (sym (content_change (w.pages part) (gapped (pages_in w part) (page_at x.page (length bytes)) x.gap bytes)))
      (elim (cases_eq i index) [
        | inl same ↦
            let own : Some bytes ≡ Some page = sym is.there ∙ ap (held part) (sym same) ∙ there in
            subst (λ k. page_in_file size (changed (gapped (pages_in w part) (page_at x.page (length bytes)) x.gap bytes) (pages_in w part)) k ≡ Some page) (sym same)
            (stands_written size (pages_in w part) x.gap bytes index is.sized reaches ∙ own)
        | inr apart ↦ elim before [
          | inl was ↦ stays_written size (pages_in w part) x.gap bytes index is.sized reaches i page apart was
          | inr it ↦ absurd (apart (sym it.1))
        ]
      ])

  -- a page that was there stays, and the one that is written is there
  pub one_write : (k i : ℕ) (page : List ℕ) → held k i ≡ Some page → Before k i page → page_in_file size (content ((page_written held x w).pages k)) i ≡ Some page
  one_write k i page there before =
      file_cases w.pages part file (λ n f. held n i ≡ Some page → Before n i page → page_in_file size (content f) i ≡ Some page)
      (here i page) (λ n apart there before. away n apart before) k there before
    where
      away : (n : ℕ) → n ≢ part → Before n i page → page_in_file size (content (w.pages n)) i ≡ Some page
      away n apart (inl was) = was
      away n apart (inr it) = absurd (apart (sym it.0))

-- ---- all of them

-- the first page, or one of the others
pub first_or : (part index : ℕ) (page : PageId) (pages : List PageId) → has_index part index (page ∷ pages) ≡ true → ((part_of_id page ≡ part) × (index_of_id page ≡ index)) ⊎ (has_index part index pages ≡ true)
first_or part index page pages is = by (part_of_id page == part) (index_of_id page == index) refl refl is
  where
    by : (a b : Bool) → (part_of_id page == part) ≡ a → (index_of_id page == index) ≡ b → (if a && b then true else has_index part index pages) ≡ true
        → ((part_of_id page ≡ part) × (index_of_id page ≡ index)) ⊎ (has_index part index pages ≡ true)
    by true true p i is = inl (eqb-true _ _ p, eqb-true _ _ i)
    by true false p i is = inr is
    by false b p i is = inr is

pub all_home : (size : ℕ) (held : Partitions) (xs : List Writing) (w : World) → All (IsHeld size held) (map written_page xs) → HaveGaps held xs w → (part index : ℕ) (page : List ℕ)
    → held part index ≡ Some page → (page_in_file size (content (w.pages part)) index ≡ Some page) ⊎ (has_index part index (map written_page xs) ≡ true)
    → page_in_file size (content ((after_writes held xs w).pages part)) index ≡ Some page
all_home size held [] w are gaps part index page there (inl was) = was
all_home size held [] w are gaps part index page there (inr has) = absurd cc
all_home size held (x ∷ xs) w are gaps part index page there before =
    let next = page_written held x w in
    let step = one_write size held x w (All-head (IsHeld size held) x.page (map written_page xs) are) gaps.0 part index page there in
    let rest = all_home size held xs next (All-tail (IsHeld size held) x.page (map written_page xs) are) gaps.1 part index page there in
    elim before [
      | inl was ↦ rest (inl (step (inl was)))
      | inr has ↦ elim (first_or part index x.page (map written_page xs) has) [
        | inl it ↦ rest (inl (step (inr it)))
        | inr later ↦ rest (inr later)
      ]
    ]

-- ---- their guards

abbrev pub IsDue : State → PageId → Type 0
IsDue s page = IsSome (s.now.rebuilt (part_of_id page) (index_of_id page))

pub writes_can : (told : List ℕ → ℕ) (s : State) (mark : Mark) (held : Partitions) (xs : List Writing) (w : World) → s.now.checkpoint ≡ Started mark → s.soon ≡ None
    → All (IsHeld s.shape.page_size held) (map written_page xs) → All (IsDue s) (map written_page xs) → HaveGaps held xs w → CanAll told (write_steps held xs) s w
writes_can told s mark held [] w runs alone are due gaps = tt
writes_can told s mark held (x ∷ xs) w runs alone are due gaps =
    let pages = map written_page xs in (
      record {
        mark = mark;
        runs = runs;
        alone = alone;
        sized = (All-head (IsHeld s.shape.page_size held) x.page pages are).sized;
        reaches = gaps.0;
        due = All-head (IsDue s) x.page pages due;
      },
      writes_can told s mark held xs (page_written held x w) runs alone (All-tail (IsHeld s.shape.page_size held) x.page pages are) (All-tail (IsDue s) x.page pages due) gaps.1,
    )

-- each page is among the pages
pub index_of_own : (pages : List PageId) → All (λ page. has_index (part_of_id page) (index_of_id page) pages ≡ true) pages
index_of_own pages k d lt = at pages k d lt
  where
    at : (xs : List PageId) (i : ℕ) (d : PageId) → i < length xs → has_index (part_of_id (get_or xs i d)) (index_of_id (get_or xs i d)) xs ≡ true
    at [] i d lt = absurd (omega (arith, lt))
    at (x ∷ xs) zero d lt =
        ap (λ (b : Bool). if b && (index_of_id x == index_of_id x) then true else has_index (part_of_id x) (index_of_id x) xs) (eq-eqb (part_of_id x) (part_of_id x) refl)
        ∙ ap (λ (b : Bool). if b then true else has_index (part_of_id x) (index_of_id x) xs) (eq-eqb (index_of_id x) (index_of_id x) refl)
    at (x ∷ xs) (suc i) d lt = by (part_of_id x == part_of_id (get_or xs i d) && index_of_id x == index_of_id (get_or xs i d)) (at xs i d (omega (arith, lt)))
      where
        by : (b : Bool) → has_index (part_of_id (get_or xs i d)) (index_of_id (get_or xs i d)) xs ≡ true → (if b then true else has_index (part_of_id (get_or xs i d)) (index_of_id (get_or xs i d)) xs) ≡ true
        by true rest = refl
        by false rest = rest
