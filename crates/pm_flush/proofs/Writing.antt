-- How pages are written one after another.
use Rattle.std.proofs.Common.{◌≡◌, ℕ, ◌+◌, ◌≤◌, List, [], ◌∷◌, ◌++◌, length, map, refl, sym, ap, ◌∙◌, subst, ⊎_elim, arith, Result, Ok, Err, Bool, true, false, cond}
use Rattle.std.specs.Prelude.{All, Contains, OnOk}
use Rattle.std.proofs.lemmas.List.{append-nil, map-append, length_push, take-append-le, take_all}
use Rattle.std.proofs.lemmas.Result.{on_ok_weaker}
use Rattle.std.proofs.lemmas.List.Elements.{All-nil, All-push, All-weaker, Contains-append_left, Contains-push}
use Rattle.pm_types.specs.declared.page_id.PageId.{PageId}
use Rattle.pm_types.specs.Ids.{part_of_id}
use Rattle.pm_disk.specs.Files.{missing}
use Rattle.pm_disk.specs.Moments.{History, IsHistory, WritesPage, AllMoments}
use Rattle.pm_disk.specs.Worlds.{World, pages_in, page_at}
use Rattle.pm_disk.proofs.Chain.{started, does, weaker}
use Rattle.pm_locks.specs.declared.view.View.{View}
use Rattle.pm_flush.specs.declared.due_page.DuePage.{DuePage}
use Rattle.pm_flush.specs.Copies.{CopiedPage}
use Rattle.pm_flush.specs.Frames.{bytes_due}
use Rattle.pm_flush.specs.Writes.{PageWrite, page_written, pages_written, HaveGaps, WritesFirst, WritesPages}

-- the write is of one of these pages, with the bytes that are due
abbrev pub IsDueWrite : List CopiedPage → View → List DuePage → PageWrite → Type 0
IsDueWrite copies view part w = (d : DuePage) × Contains part d × (d.page ≡ w.page) × (w.bytes ≡ bytes_due copies view d)

-- of a part of the job these pages were asked for, and written, the last one perhaps
pub record WroteDue {T E : Type 0} (old new : History) (result : Result T E) (copies : List CopiedPage) (view : View) (part : List DuePage) (pages : List PageId) : Type 0 where
  pub writes : List PageWrite
  pub pages_are : map (λ write. write.page) writes ≡ pages
  pub named : All (IsDueWrite copies view part) writes
  pub made : WritesPages {T = T} {E = E} old new result writes

-- the same, each of them written
pub record Wrote (old now : History) (copies : List CopiedPage) (view : View) (part : List DuePage) (pages : List PageId) : Type 0 where
  pub writes : List PageWrite
  pub pages_are : map (λ write. write.page) writes ≡ pages
  pub named : All (IsDueWrite copies view part) writes
  pub gaps : HaveGaps writes old.world
  pub world : now.world ≡ pages_written writes old.world
  pub moments : AllMoments old now (λ world. (count : ℕ) × WritesFirst writes old.world world count)

pub wrote_none : (old : History) (copies : List CopiedPage) (view : View) → IsHistory old → Wrote old old copies view [] []
wrote_none old copies view sound = record {
  writes = [];
  pages_are = refl;
  named = All-nil (IsDueWrite copies view []);
  gaps = tt;
  world = refl;
  moments = started old (λ world. (count : ℕ) × WritesFirst [] old.world world count) sound (0, (omega arith, refl));
}

-- a page that is left is of the job too
named_more : (copies : List CopiedPage) (view : View) (part : List DuePage) (d : DuePage) (ws : List PageWrite) → All (IsDueWrite copies view part) ws → All (IsDueWrite copies view (part ++ d ∷ [])) ws
named_more copies view part d ws all = All-weaker (IsDueWrite copies view part) (IsDueWrite copies view (part ++ d ∷ [])) (λ w x. (x.0, Contains-append_left part (d ∷ []) x.0 x.1, x.2, x.3)) ws all

pub wrote_left : (old now : History) (copies : List CopiedPage) (view : View) (part : List DuePage) (pages : List PageId) (d : DuePage) → Wrote old now copies view part pages → Wrote old now copies view (part ++ d ∷ []) pages
wrote_left old now copies view part pages d wrote = record {
  writes = wrote.writes;
  pages_are = wrote.pages_are;
  named = named_more copies view part d wrote.writes wrote.named;
  gaps = wrote.gaps;
  world = wrote.world;
  moments = wrote.moments;
}

-- ---- one page more

written-append : (ws : List PageWrite) (w : PageWrite) (world : World) → pages_written (ws ++ w ∷ []) world ≡ page_written w (pages_written ws world)
written-append [] w world = refl
written-append (x ∷ ws) w world = written-append ws w (page_written x world)

gaps-append : (ws : List PageWrite) (w : PageWrite) (world : World) → HaveGaps ws world
    → length w.gap ≡ missing (page_at w.page (length w.bytes)) (pages_in (pages_written ws world) (part_of_id w.page)) → HaveGaps (ws ++ w ∷ []) world
gaps-append [] w world gaps reaches = (reaches, tt)
gaps-append (x ∷ ws) w world gaps reaches = (gaps.0, gaps-append ws w (page_written x world) gaps.1 reaches)

first_more : (ws : List PageWrite) (w : PageWrite) (old now : World) (count : ℕ) → WritesFirst ws old now count → WritesFirst (ws ++ w ∷ []) old now count
first_more ws w old now count x =
    let n = length_push ws w in
    (omega (arith, x.0), x.1 ∙ ap (λ vs. pages_written vs old) (sym (take-append-le count ws (w ∷ []) x.0)))

module _ {T E : Type 0} (old mid new : History) (result : Result T E) (copies : List CopiedPage) (view : View) (part : List DuePage) (pages : List PageId) (d : DuePage)
    (wrote : Wrote old mid copies view part pages) (call : WritesPage {T = T} {E = E} mid new result d.page (bytes_due copies view d)) (sound : IsHistory mid) where
  abbrev next : PageWrite
  next = record { page = d.page; gap = call.gap; bytes = bytes_due copies view d }

  abbrev more : List PageWrite
  more = wrote.writes ++ next ∷ []

  gaps_more : HaveGaps more old.world
  gaps_more = gaps-append wrote.writes next old.world wrote.gaps
      (subst (λ (w : World). length call.gap ≡ missing (page_at d.page (length (bytes_due copies view d))) (pages_in w (part_of_id d.page))) wrote.world call.reaches)

  -- the world before the call, and the one after it
  before : WritesFirst more old.world mid.world (length wrote.writes)
  before =
      let n = length_push wrote.writes next in
      let le : length wrote.writes ≤ length wrote.writes = omega arith in
      (omega arith, wrote.world ∙ ap (λ vs. pages_written vs old.world) (sym (take-append-le (length wrote.writes) wrote.writes (next ∷ []) le ∙ take_all (length wrote.writes) wrote.writes le)))

  after_world : page_written next mid.world ≡ pages_written more old.world
  after_world = ap (page_written next) wrote.world ∙ sym (written-append wrote.writes next old.world)

  after : WritesFirst more old.world (page_written next mid.world) (length more)
  after =
      let le : length more ≤ length more = omega arith in
      (le, after_world ∙ ap (λ vs. pages_written vs old.world) (sym (take_all (length more) more le)))

  abbrev P : World → Type 0
  P = λ world. (count : ℕ) × WritesFirst more old.world world count

  moments_more : AllMoments old new P
  moments_more = does old mid new result (page_written next mid.world) P
      (weaker old mid (λ world. (count : ℕ) × WritesFirst wrote.writes old.world world count) P (λ w x. (x.0, first_more wrote.writes next old.world w x.0 x.1)) wrote.moments)
      call.does (length wrote.writes, before) (length more, after)

  either_more : (count : ℕ) × (length more ≤ count + 1) × WritesFirst more old.world new.world count
  either_more =
      let n = length_push wrote.writes next in
      ⊎_elim
      (λ same. (length wrote.writes, omega arith, subst (λ w. WritesFirst more old.world w (length wrote.writes)) (sym same) before))
      (λ is. (length more, omega arith, subst (λ w. WritesFirst more old.world w (length more)) (sym is) after)) call.does.either

  pages_more : map (λ write. write.page) more ≡ pages ++ d.page ∷ []
  pages_more = map-append (λ (write : PageWrite). write.page) wrote.writes (next ∷ []) ∙ ap (λ ps. ps ++ d.page ∷ []) wrote.pages_are

  named_all : All (IsDueWrite copies view (part ++ d ∷ [])) more
  named_all = All-push (IsDueWrite copies view (part ++ d ∷ [])) wrote.writes next (named_more copies view part d wrote.writes wrote.named) (d, Contains-push part d, refl, refl)

  pub wrote_asked : {V : Type 0} (left : Result V E) → OnOk left (new.world ≡ page_written next mid.world) → WroteDue {T = V} {E = E} old new left copies view (part ++ d ∷ []) (pages ++ d.page ∷ [])
  wrote_asked left ok = record {
    writes = more;
    pages_are = pages_more;
    named = named_all;
    made = record { gaps = gaps_more; ok = on_ok_weaker left (λ is. is ∙ after_world) ok; either = either_more; moments = moments_more };
  }

  pub wrote_more : new.world ≡ page_written next mid.world → Wrote old new copies view (part ++ d ∷ []) (pages ++ d.page ∷ [])
  wrote_more done = record { writes = more; pages_are = pages_more; named = named_all; gaps = gaps_more; world = done ∙ after_world; moments = moments_more }

-- all of them are written
pub wrote_all : {T E : Type 0} (old new : History) (result : Result T E) (copies : List CopiedPage) (view : View) (part : List DuePage) (pages : List PageId) → Wrote old new copies view part pages → WroteDue {T = T} {E = E} old new result copies view part pages
wrote_all old new result copies view part pages wrote =
    let le : length wrote.writes ≤ length wrote.writes = omega arith in
    let one : length wrote.writes ≤ length wrote.writes + 1 = omega arith in
    let whole = wrote.world ∙ ap (λ vs. pages_written vs old.world) (sym (take_all (length wrote.writes) wrote.writes le)) in record {
      writes = wrote.writes;
      pages_are = wrote.pages_are;
      named = wrote.named;
      made = record {
        gaps = wrote.gaps;
        ok = always result wrote.world;
        either = (length wrote.writes, one, (le, whole));
        moments = wrote.moments;
      };
    }
  where
    always : {T E P : Type 0} (result : Result T E) → P → OnOk result P
    always (Ok x) p = p
    always (Err e) p = tt

-- a page was written, or the writer is as it was
pub wrote_step : {S E : Type 0} (history : S → History) (written : Bool) (old : History) (mid new : S) (copies : List CopiedPage) (view now : View) (part : List DuePage) (pages : List PageId) (d : DuePage)
    → Wrote old (history mid) copies view part pages → IsHistory (history mid) → (written ≡ true → bytes_due copies now d ≡ bytes_due copies view d)
    → (written ≡ true → WritesPage {T = Bool} {E = E} (history mid) (history new) (Ok written) d.page (bytes_due copies now d)) → (written ≡ false → new ≡ mid)
    → Wrote old (history new) copies view (part ++ d ∷ []) (pages ++ cond written (d.page ∷ []) [])
wrote_step {S} {E} history true old mid new copies view now part pages d wrote sound bytes call same =
    let call' = subst (λ bs. WritesPage {T = Bool} {E = E} (history mid) (history new) (Ok true) d.page bs) (bytes refl) (call refl) in
    wrote_more {T = Bool} {E = E} old (history mid) (history new) (Ok true) copies view part pages d wrote call' sound call'.does.ok
wrote_step {S} {E} history false old mid new copies view now part pages d wrote sound bytes call same =
    subst (λ ps. Wrote old (history new) copies view (part ++ d ∷ []) ps) (sym (append-nil pages))
    (subst (λ (s : S). Wrote old (history s) copies view (part ++ d ∷ []) pages) (sym (same refl)) (wrote_left old (history mid) copies view part pages d wrote))
