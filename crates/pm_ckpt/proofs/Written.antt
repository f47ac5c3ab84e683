-- How pages are written one after the other.
use Rattle.std.proofs.Common.{◌≡◌, ℕ, List, [], ◌∷◌, ◌++◌, map, length, refl, sym, ◌∙◌, ap, subst, Result, Ok, Err}
use Rattle.std.specs.Prelude.{OnOk, IsErr, replicate}
use Rattle.std.proofs.lemmas.List.{length-replicate, map-append}
use Rattle.pm_types.specs.declared.page_id.PageId.{PageId}
use Rattle.pm_types.specs.Ids.{part_of_id}
use Rattle.pm_disk.specs.Files.{missing}
use Rattle.pm_disk.specs.Moments.{History, IsHistory, WritesPage, AllMoments}
use Rattle.pm_disk.specs.Worlds.{World, pages_in, page_at}
use Rattle.pm_core.specs.BasePages.{Partitions}
use Rattle.pm_core.specs.Calls.{MakesPrefix}
use Rattle.pm_core.specs.Machine.{WritePage, states, worlds}
use Rattle.pm_core.specs.States.{State}
use Rattle.pm_core.proofs.Making.{makes_none, moments_one, moments_first, moments_joined, broke_off}
use Rattle.pm_ckpt.specs.Writes.{Writing, written_page, page_of, write_steps, page_written, HaveGaps, WritesPages}

-- ---- lists of writes

pub writes-append : (held : Partitions) (xs ys : List Writing) → write_steps held (xs ++ ys) ≡ write_steps held xs ++ write_steps held ys
writes-append held [] ys = refl
writes-append held (x ∷ xs) ys = ap (λ rest. WritePage x.page x.gap (page_of held x.page) ∷ rest) (writes-append held xs ys)

-- the state stays
pub writes_keep : (held : Partitions) (xs : List Writing) (s : State) (w : World) → states (write_steps held xs) s w ≡ s
writes_keep held [] s w = refl
writes_keep held (x ∷ xs) s w = writes_keep held xs s (page_written held x w)

-- the world after these writes
abbrev pub after_writes : Partitions → List Writing → World → World
after_writes held [] w = w
after_writes held (x ∷ xs) w = after_writes held xs (page_written held x w)

pub writes_world : (held : Partitions) (xs : List Writing) (s : State) (w : World) → worlds (write_steps held xs) s w ≡ after_writes held xs w
writes_world held [] s w = refl
writes_world held (x ∷ xs) s w = writes_world held xs s (page_written held x w)

pub gaps-append : (held : Partitions) (xs ys : List Writing) (w : World) → HaveGaps held xs w → HaveGaps held ys (after_writes held xs w) → HaveGaps held (xs ++ ys) w
gaps-append held [] ys w one two = two
gaps-append held (x ∷ xs) ys w one two = (one.0, gaps-append held xs ys (page_written held x w) one.1 two)

-- these pages were written, each once and in this order
pub record WroteSome (old now : History) (held : Partitions) (pages : List PageId) : Type 0 where
  pub writings : List Writing
  pub pages_are : map written_page writings ≡ pages
  pub gaps : HaveGaps held writings old.world
  pub moments : (s : State) → AllMoments old now (MakesPrefix (write_steps held writings) s old.world)
  pub world : now.world ≡ after_writes held writings old.world

-- ---- writes of which the gaps are zeros

pub zero_writes : Partitions → List PageId → World → List Writing
zero_writes held [] w = []
zero_writes held (page ∷ pages) w =
    let next : Writing = record { page = page; gap = replicate (missing (page_at page (length (page_of held page))) (pages_in w (part_of_id page))) 0 } in
    next ∷ zero_writes held pages (page_written held next w)

pub zero_pages : (held : Partitions) (pages : List PageId) (w : World) → map written_page (zero_writes held pages w) ≡ pages
unfolding zero_writes
zero_pages held [] w = refl
zero_pages held (page ∷ pages) w =
    let next : Writing = record { page = page; gap = replicate (missing (page_at page (length (page_of held page))) (pages_in w (part_of_id page))) 0 } in
    ap (λ rest. page ∷ rest) (zero_pages held pages (page_written held next w))

pub zero_gaps : (held : Partitions) (pages : List PageId) (w : World) → HaveGaps held (zero_writes held pages w) w
unfolding zero_writes
zero_gaps held [] w = tt
zero_gaps held (page ∷ pages) w =
    let n : ℕ = missing (page_at page (length (page_of held page))) (pages_in w (part_of_id page)) in
    let next : Writing = record { page = page; gap = replicate n 0 } in
    (length-replicate n 0, zero_gaps held pages (page_written held next w))

-- ---- one page more

pub wrote_none : (old : History) (held : Partitions) → IsHistory old → WroteSome old old held []
wrote_none old held sound = record { writings = []; pages_are = refl; gaps = tt; moments = λ s. makes_none old [] s sound; world = refl }

module _ {T E : Type 0} (old mid new : History) (result : Result T E) (held : Partitions) (pages : List PageId) (page : PageId) (wrote : WroteSome old mid held pages)
    (call : WritesPage {T = T} {E = E} mid new result page (page_of held page)) (sound : IsHistory mid) where
  abbrev next : Writing
  next = record { page = page; gap = call.gap }

  abbrev more : List Writing
  more = wrote.writings ++ next ∷ []

  gaps_more : HaveGaps held more old.world
  gaps_more =
      gaps-append held wrote.writings (next ∷ []) old.world wrote.gaps
      (subst (λ (w : World). length call.gap ≡ missing (page_at page (length (page_of held page))) (pages_in w (part_of_id page))) wrote.world call.reaches, tt)

  moments_more : (s : State) → AllMoments old new (MakesPrefix (write_steps held more) s old.world)
  moments_more s =
      let first = write_steps held wrote.writings in
      let one = WritePage page call.gap (page_of held page) in
      let is : mid.world ≡ worlds first s old.world = wrote.world ∙ sym (writes_world held wrote.writings s old.world) in
      subst (λ steps. AllMoments old new (MakesPrefix steps s old.world)) (sym (writes-append held wrote.writings (next ∷ [])))
      (moments_joined old mid new first (one ∷ []) s (wrote.moments s) is (moments_one mid new result one (states first s old.world) sound call.does))

  world_more : new.world ≡ page_written held next mid.world → new.world ≡ after_writes held more old.world
  world_more done = done ∙ ap (page_written held next) wrote.world ∙ sym (after-append wrote.writings old.world)
    where
      after-append : (xs : List Writing) (w : World) → after_writes held (xs ++ next ∷ []) w ≡ page_written held next (after_writes held xs w)
      after-append [] w = refl
      after-append (x ∷ xs) w = after-append xs (page_written held x w)

  pages_more : map written_page more ≡ pages ++ page ∷ []
  pages_more = map-append written_page wrote.writings (next ∷ []) ∙ ap (λ ps. ps ++ page ∷ []) wrote.pages_are

  pub wrote_more : new.world ≡ page_written held next mid.world → WroteSome old new held (pages ++ page ∷ [])
  wrote_more done = record { writings = more; pages_are = pages_more; gaps = gaps_more; moments = moments_more; world = world_more done }

  -- the call failed, and so the others aren't written
  pub wrote_to : (rest : List PageId) {V : Type 0} (left : Result V E) → IsErr left → WritesPages {T = V} {E = E} old new left held ((pages ++ page ∷ []) ++ rest)
  wrote_to rest left failed =
      let others = zero_writes held rest (after_writes held more old.world) in
      record {
        writings = more ++ others;
        pages_are = map-append written_page more others ∙ ap (λ ps. ps ++ map written_page others) pages_more ∙ ap (λ ps. (pages ++ page ∷ []) ++ ps) (zero_pages held rest (after_writes held more old.world));
        gaps = gaps-append held more others old.world gaps_more (zero_gaps held rest (after_writes held more old.world));
        makes = λ s. broke_off old new left (write_steps held (more ++ others)) s failed
            (subst (λ steps. AllMoments old new (MakesPrefix steps s old.world)) (sym (writes-append held more others))
            (moments_first old new (write_steps held more) (write_steps held others) s (moments_more s)));
      }

-- all of them are written
pub wrote_all : {T E : Type 0} (old new : History) (result : Result T E) (held : Partitions) (order : List PageId) → WroteSome old new held order → WritesPages {T = T} {E = E} old new result held order
wrote_all old new result held order wrote = record {
  writings = wrote.writings;
  pages_are = wrote.pages_are;
  gaps = wrote.gaps;
  makes = λ s. record { all = always result (wrote.world ∙ sym (writes_world held wrote.writings s old.world)); moments = wrote.moments s };
}
  where
    always : {T E P : Type 0} (result : Result T E) → P → OnOk result P
    always (Ok x) p = p
    always (Err e) p = tt
