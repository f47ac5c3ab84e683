-- A checkpoint leaves its pages in their files, and each other page as it was.
use Rattle.std.proofs.Common.{◌≡◌, inr, ℕ, zero, suc, ◌+◌, List, [], ◌∷◌, ◌++◌, map, length, Bool, true, false, Some, refl, sym, ◌∙◌, ap, subst}
use Rattle.std.specs.Prelude.{◌==◌, ◌&&◌, if◌then◌else◌, All}
use Rattle.std.proofs.lemmas.Bool.{eq-eqb}
use Rattle.std.proofs.lemmas.List.Elements.{All-head, All-tail}
use Rattle.pm_types.specs.declared.limits.TheConstants.{PARTITIONS_MAX}
use Rattle.pm_types.specs.declared.page_id.PageId.{PageId}
use Rattle.pm_types.specs.declared.shape.Mark.{Mark}
use Rattle.pm_types.specs.Ids.{part_of_id, index_of_id}
use Rattle.pm_disk.specs.Files.{File, content, all_forced, with_change, missing, gapped}
use Rattle.pm_disk.specs.Worlds.{World, pages_in, page_at}
use Rattle.pm_disk.proofs.Families.{file_cases}
use Rattle.pm_disk.proofs.Files.{content_change}
use Rattle.pm_records.proofs.QuietLog.{steps_change}
use Rattle.pm_segments.specs.Ends.{LogEnd}
use Rattle.pm_core.specs.BasePages.{Partitions, page_in_file}
use Rattle.pm_core.specs.Calls.{begin_steps, end_steps, force_steps, finish_steps}
use Rattle.pm_core.specs.Machine.{ForcePages, worlds, next_world}
use Rattle.pm_core.specs.PageSets.{has_index, has_part}
use Rattle.pm_core.specs.Rounds.{on_log}
use Rattle.pm_core.specs.States.{State}
use Rattle.pm_core.proofs.LogCalls.{log_worlds}
use Rattle.pm_core.proofs.Making.{worlds_join}
use Rattle.pm_ckpt.specs.Checkpoints.{opening_steps}
use Rattle.pm_ckpt.specs.Marked.{begin_log}
use Rattle.pm_ckpt.specs.Writes.{Writing, written_page, page_of, page_written, IsHeld, HaveGaps, LeavesFilesAlone, StoresPages}
use Rattle.pm_ckpt.proofs.Home.{all_home, stays_written}
use Rattle.pm_ckpt.proofs.Written.{after_writes}

-- ---- pages that aren't written

-- neither the first nor among the others
not_first : (part index : ℕ) (page : PageId) (pages : List PageId) → has_index part index (page ∷ pages) ≡ false → ((part_of_id page ≡ part) → (index_of_id page ≡ index) → ⊥) × (has_index part index pages ≡ false)
not_first part index page pages is = by (part_of_id page == part) (index_of_id page == index) refl refl is
  where
    by : (a b : Bool) → (part_of_id page == part) ≡ a → (index_of_id page == index) ≡ b → (if a && b then true else has_index part index pages) ≡ false
        → ((part_of_id page ≡ part) → (index_of_id page ≡ index) → ⊥) × (has_index part index pages ≡ false)
    by true true p i is = absurd cc
    by true false p i is = ((λ q r. let e = sym (eq-eqb (index_of_id page) index r) ∙ i in absurd cc), is)
    by false b p i is = ((λ q r. let e = sym (eq-eqb (part_of_id page) part q) ∙ p in absurd cc), is)

one_other : (size : ℕ) (held : Partitions) (x : Writing) (w : World) → IsHeld size held x.page → length x.gap ≡ missing (page_at x.page (length (page_of held x.page))) (pages_in w (part_of_id x.page))
    → (part index : ℕ) (bytes : List ℕ) → ((part_of_id x.page ≡ part) → (index_of_id x.page ≡ index) → ⊥) → page_in_file size (pages_in w part) index ≡ Some bytes → page_in_file size (pages_in (page_written held x w) part) index ≡ Some bytes
one_other size held x w is reaches part index bytes other was =
    let own = part_of_id x.page in
    let change = gapped (pages_in w own) (page_at x.page (length (page_of held x.page))) x.gap (page_of held x.page) in
    let P : ℕ → File → Type 0 = λ k file. ((own ≡ k) → (index_of_id x.page ≡ index) → ⊥) → page_in_file size (pages_in w k) index ≡ Some bytes → page_in_file size (content file) index ≡ Some bytes in
    file_cases w.pages own (with_change (w.pages own) change) P
    (λ apart there. subst (λ o. page_in_file size o index ≡ Some bytes) (sym (content_change (w.pages own) change))
    (stays_written size (pages_in w own) x.gap (page_of held x.page) (index_of_id x.page) is.sized reaches index bytes (λ e. apart refl (sym e)) there))
    (λ k away apart there. there) part other was

others_stay : (size : ℕ) (held : Partitions) (xs : List Writing) (w : World) → All (IsHeld size held) (map written_page xs) → HaveGaps held xs w → (part index : ℕ) (bytes : List ℕ) → has_index part index (map written_page xs) ≡ false
    → page_in_file size (pages_in w part) index ≡ Some bytes → page_in_file size (pages_in (after_writes held xs w) part) index ≡ Some bytes
others_stay size held [] w are gaps part index bytes none was = was
others_stay size held (x ∷ xs) w are gaps part index bytes none was =
    let pages = map written_page xs in
    let parts = not_first part index x.page pages none in
    others_stay size held xs (page_written held x w) (All-tail (IsHeld size held) x.page pages are) gaps.1 part index bytes parts.1
    (one_other size held x w (All-head (IsHeld size held) x.page pages are) gaps.0 part index bytes parts.0 was)

-- neither of the first one's partition nor of the others'
pub none_first : (part : ℕ) (page : PageId) (pages : List PageId) → has_part part (page ∷ pages) ≡ false → ((part_of_id page == part) ≡ false) × (has_part part pages ≡ false)
none_first part page pages is = by (part_of_id page == part) refl is
  where
    by : (b : Bool) → (part_of_id page == part) ≡ b → (if b then true else has_part part pages) ≡ false → ((part_of_id page == part) ≡ false) × (has_part part pages ≡ false)
    by true p is = absurd cc
    by false p is = (p, is)

one_alone : (held : Partitions) (x : Writing) (w : World) (part : ℕ) → (part_of_id x.page == part) ≡ false → pages_in (page_written held x w) part ≡ pages_in w part
one_alone held x w part apart =
    let own = part_of_id x.page in
    let change = gapped (pages_in w own) (page_at x.page (length (page_of held x.page))) x.gap (page_of held x.page) in
    let P : ℕ → File → Type 0 = λ k file. (own == k) ≡ false → content file ≡ pages_in w k in
    file_cases w.pages own (with_change (w.pages own) change) P
    (λ not_it. let e = sym (eq-eqb own own refl) ∙ not_it in absurd cc)
    (λ k away not_it. refl) part apart

files_alone : (held : Partitions) (xs : List Writing) (w : World) → LeavesFilesAlone (map written_page xs) w (after_writes held xs w)
files_alone held [] w part none = refl
files_alone held (x ∷ xs) w part none =
    let parts = none_first part x.page (map written_page xs) none in
    files_alone held xs (page_written held x w) part parts.1 ∙ one_alone held x w part parts.0

-- ---- and those that are

pub stored_writes : (size : ℕ) (held : Partitions) (xs : List Writing) (w : World) → All (IsHeld size held) (map written_page xs) → HaveGaps held xs w → StoresPages size held (map written_page xs) w (after_writes held xs w)
stored_writes size held xs w are gaps = record {
  there = λ part index bytes has is. all_home size held xs w are gaps part index bytes is (inr has);
  others = others_stay size held xs w are gaps;
  alone = files_alone held xs w;
}

-- ---- other steps keep what files have

-- the same in worlds with the same files
pub stored_as : (size : ℕ) (held : Partitions) (order : List PageId) (old new before after : World) → ((k : ℕ) → pages_in before k ≡ pages_in old k) → ((k : ℕ) → pages_in after k ≡ pages_in new k)
    → StoresPages size held order old new → StoresPages size held order before after
stored_as size held order old new before after first last stores = record {
  there = λ part index bytes has is. ap (λ o. page_in_file size o index) (last part) ∙ stores.there part index bytes has is;
  others = λ part index bytes none was.
      ap (λ o. page_in_file size o index) (last part)
      ∙ stores.others part index bytes none (ap (λ o. page_in_file size o index) (sym (first part)) ∙ was);
  alone = λ part none. last part ∙ stores.alone part none ∙ sym (first part);
}

forced_same : (part : ℕ) (s : State) (w : World) (k : ℕ) → pages_in (next_world (ForcePages part) s w) k ≡ pages_in w k
forced_same part s w k =
    let P : ℕ → File → Type 0 = λ m file. content file ≡ pages_in w m in
    file_cases w.pages part (all_forced (w.pages part)) P refl (λ m apart. refl) k

forces_same : (from n : ℕ) (pages : List PageId) (s : State) (w : World) (k : ℕ) → pages_in (worlds (force_steps from n pages) s w) k ≡ pages_in w k
unfolding force_steps
forces_same from zero pages s w k = refl
forces_same from (suc n) pages s w k =
    elim (has_part from pages) as (λ b. pages_in (worlds ((if b then ForcePages from ∷ [] else []) ++ force_steps (from + 1) n pages) s w) k ≡ pages_in w k) [
      | true ↦ forces_same (from + 1) n pages s (next_world (ForcePages from) s w) k ∙ forced_same from s w k
      | false ↦ forces_same (from + 1) n pages s w k
    ]

pub finish_same : (mark : Mark) (pages : List PageId) (s : State) (w : World) (k : ℕ) → pages_in (worlds (finish_steps mark pages) s w) k ≡ pages_in w k
finish_same mark pages s w k =
    ap (λ (v : World). pages_in v k) (worlds_join (force_steps 0 PARTITIONS_MAX pages) (end_steps mark) s w) ∙ forces_same 0 PARTITIONS_MAX pages s w k

pub opened_same : (log : LogEnd) (mark : Mark) (rebuilt : Partitions) (s : State) (w : World) (k : ℕ) → pages_in (worlds (opening_steps log mark rebuilt) s w) k ≡ pages_in w k
opened_same log mark rebuilt s w k =
    let steps = on_log (begin_log log mark) in
    ap (λ (v : World). pages_in v k) (worlds_join steps (begin_steps mark rebuilt) s w)
    ∙ ap (λ (v : World). pages_in v k) (log_worlds (begin_log log mark) s w)
    ∙ ap (λ (files : ℕ → File). content (files k)) (steps_change (begin_log log mark) s.end w).pages
