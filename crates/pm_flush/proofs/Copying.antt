-- What is copied, and what a list of copies has after a change.
use Rattle.std.proofs.Common.{◌≡◌, ◌≢◌, ℕ, suc, ◌<◌, cond, eqb, eq-eqb, List, [], ◌∷◌, ◌++◌, length, map, take, drop, Some, None, refl, sym, ap, ◌∙◌, subst, arith}
use Rattle.std.proofs.lemmas.Bool.{ne_eqb}
use Rattle.std.specs.Prelude.{slice_get, ◌≤◌}
use Rattle.std.proofs.Common.{get_or}
use Rattle.std.proofs.lemmas.Option.{slice_get_past, slice_get_read}
use Rattle.std.specs.Option.{option_map}
use Rattle.std.proofs.lemmas.List.{map-append, length_push}
use mathlib.Core.Logic.{dite}
use native.Mathlib.Decide.{ℕ_discrete}
use Rattle.pm_types.specs.declared.page_id.PageId.{PageId}
use Rattle.pm_flush.specs.declared.copies.PageCopy.{PageCopy}
use Rattle.pm_flush.specs.Copies.{CopiedPage, Copies, copied, copy_of, place_of, AreOnce, AddsCopy, RemovesCopy}

-- names with one number are one
pub same_id : (a b : PageId) → a.0 ≡ b.0 → a ≡ b
same_id a b e = let f : ℕ → PageId = λ n. record { 0 = n } in ap f e

other_id : (a b : PageId) → a ≢ b → a.0 ≢ b.0
other_id a b ne e = ne (same_id a b e)

-- the first copy is its page's, and another page's copy is among the others
copy_here : (c : CopiedPage) (cs : List CopiedPage) (page : PageId) → c.page.0 ≡ page.0 → copy_of (c ∷ cs) page ≡ Some c.bytes
copy_here c cs page e = ap (λ b. cond b (Some c.bytes) (copy_of cs page)) (eq-eqb c.page.0 page.0 e)

copy_else : (c : CopiedPage) (cs : List CopiedPage) (page : PageId) → c.page.0 ≢ page.0 → copy_of (c ∷ cs) page ≡ copy_of cs page
copy_else c cs page ne = ap (λ b. cond b (Some c.bytes) (copy_of cs page)) (ne_eqb c.page.0 page.0 ne)

place_here : (c : PageCopy) (cs : List PageCopy) (page : PageId) → c.page.0 ≡ page.0 → place_of (c ∷ cs) page ≡ 0
place_here c cs page e = ap (λ b. cond b 0 (suc (place_of cs page))) (eq-eqb c.page.0 page.0 e)

place_else : (c : PageCopy) (cs : List PageCopy) (page : PageId) → c.page.0 ≢ page.0 → place_of (c ∷ cs) page ≡ suc (place_of cs page)
place_else c cs page ne = ap (λ b. cond b 0 (suc (place_of cs page))) (ne_eqb c.page.0 page.0 ne)

-- what stands at its place is the page's copy
pub copy_at : (cs : List PageCopy) (page : PageId) → copy_of (map copied cs) page ≡ option_map (λ (c : PageCopy). c.bytes.items) (slice_get cs (place_of cs page))
copy_at [] page = refl
copy_at (c ∷ cs) page = dite (ℕ_discrete c.page.0 page.0)
    (λ e. copy_here (copied c) (map copied cs) page e ∙ sym (ap (λ k. option_map (λ (d : PageCopy). d.bytes.items) (slice_get (c ∷ cs) k)) (place_here c cs page e)))
    (λ ne. copy_else (copied c) (map copied cs) page ne ∙ copy_at cs page ∙ sym (ap (λ k. option_map (λ (d : PageCopy). d.bytes.items) (slice_get (c ∷ cs) k)) (place_else c cs page ne)))

pub copy_is : (cs : List PageCopy) (page : PageId) (c : PageCopy) → slice_get cs (place_of cs page) ≡ Some c → copy_of (map copied cs) page ≡ Some c.bytes.items
copy_is cs page c at = copy_at cs page ∙ ap (option_map (λ (d : PageCopy). d.bytes.items)) at

pub no_copy : (cs : List PageCopy) (page : PageId) → slice_get cs (place_of cs page) ≡ None → copy_of (map copied cs) page ≡ None
no_copy cs page at = copy_at cs page ∙ ap (option_map (λ (d : PageCopy). d.bytes.items)) at

-- ---- one copy more

some_none : (bytes : List ℕ) → Some bytes ≡ None → ⊥
some_none bytes e = cc e

copy_last : (cs : List CopiedPage) (c : CopiedPage) (page : PageId) → c.page.0 ≡ page.0 → copy_of cs page ≡ None → copy_of (cs ++ c ∷ []) page ≡ Some c.bytes
copy_last [] c page e none = copy_here c [] page e
copy_last (d ∷ cs) c page e none = dite (ℕ_discrete d.page.0 page.0)
    (λ is. absurd (some_none d.bytes (sym (copy_here d cs page is) ∙ none)))
    (λ ne. copy_else d (cs ++ c ∷ []) page ne ∙ copy_last cs c page e (sym (copy_else d cs page ne) ∙ none))

copy_others : (cs : List CopiedPage) (c : CopiedPage) (page : PageId) → c.page.0 ≢ page.0 → copy_of (cs ++ c ∷ []) page ≡ copy_of cs page
copy_others [] c page ne = copy_else c [] page ne
copy_others (d ∷ cs) c page ne = ap (λ o. cond (eqb d.page.0 page.0) (Some d.bytes) o) (copy_others cs c page ne)

once_more : (cs : List CopiedPage) (c : CopiedPage) → AreOnce cs → copy_of cs c.page ≡ None → AreOnce (cs ++ c ∷ [])
once_more [] c once none = (refl, tt)
once_more (d ∷ cs) c once none = dite (ℕ_discrete d.page.0 c.page.0)
    (λ is. absurd (some_none d.bytes (sym (copy_here d cs c.page is) ∙ none)))
    (λ ne. (copy_others cs c d.page (λ e. ne (sym e)) ∙ once.0, once_more cs c once.1 (sym (copy_else d cs c.page ne) ∙ none)))

pub once_added : (cs : List PageCopy) (c : PageCopy) → AreOnce (map copied cs) → copy_of (map copied cs) c.page ≡ None → AreOnce (map copied (cs ++ c ∷ []))
once_added cs c once none = subst AreOnce (sym (map-append copied cs (c ∷ []))) (once_more (map copied cs) (copied c) once none)

pub copy_added : (old new : Copies) (cs : List PageCopy) (c : PageCopy) → old.pages ≡ map copied cs → new.pages ≡ map copied (cs ++ c ∷ []) → new.room ≡ old.room → copy_of old.pages c.page ≡ None → AddsCopy old new c.page c.bytes.items
copy_added old new cs c was is room none =
    let e : new.pages ≡ old.pages ++ copied c ∷ [] = is ∙ map-append copied cs (c ∷ []) ∙ ap (λ ps. ps ++ copied c ∷ []) (sym was) in
    record {
      here = ap (λ ps. copy_of ps c.page) e ∙ copy_last old.pages (copied c) c.page refl none;
      others = λ other ne. ap (λ ps. copy_of ps other) e ∙ copy_others old.pages (copied c) other (λ q. ne (sym (same_id c.page other q)));
      count = ap length e ∙ length_push old.pages (copied c);
      room = room;
    }

-- ---- one copy less

-- the copies without the page's
without : List PageCopy → PageId → List PageCopy
without [] page = []
without (c ∷ cs) page = cond (eqb c.page.0 page.0) cs (c ∷ without cs page)

without_is : (cs : List PageCopy) (page : PageId) → take (place_of cs page) cs ++ drop (suc (place_of cs page)) cs ≡ without cs page
unfolding without
without_is [] page = refl
without_is (c ∷ cs) page = dite (ℕ_discrete c.page.0 page.0)
    (λ e. ap (λ k. take k (c ∷ cs) ++ drop (suc k) (c ∷ cs)) (place_here c cs page e) ∙ sym (ap (λ b. cond b cs (c ∷ without cs page)) (eq-eqb c.page.0 page.0 e)))
    (λ ne. ap (λ k. take k (c ∷ cs) ++ drop (suc k) (c ∷ cs)) (place_else c cs page ne) ∙ ap (λ (ds : List PageCopy). c ∷ ds) (without_is cs page)
    ∙ sym (ap (λ b. cond b cs (c ∷ without cs page)) (ne_eqb c.page.0 page.0 ne)))

without_here : (c : PageCopy) (cs : List PageCopy) (page : PageId) → c.page.0 ≡ page.0 → without (c ∷ cs) page ≡ cs
unfolding without
without_here c cs page e = ap (λ b. cond b cs (c ∷ without cs page)) (eq-eqb c.page.0 page.0 e)

without_else : (c : PageCopy) (cs : List PageCopy) (page : PageId) → c.page.0 ≢ page.0 → without (c ∷ cs) page ≡ c ∷ without cs page
unfolding without
without_else c cs page ne = ap (λ b. cond b cs (c ∷ without cs page)) (ne_eqb c.page.0 page.0 ne)

without_others : (cs : List PageCopy) (page other : PageId) → other ≢ page → copy_of (map copied (without cs page)) other ≡ copy_of (map copied cs) other
unfolding without
without_others [] page other differs = refl
without_others (c ∷ cs) page other differs = dite (ℕ_discrete c.page.0 page.0)
    (λ e. ap (λ ds. copy_of (map copied ds) other) (without_here c cs page e)
    ∙ sym (copy_else (copied c) (map copied cs) other (λ q. differs (same_id other page (sym q ∙ e)))))
    (λ ne. ap (λ ds. copy_of (map copied ds) other) (without_else c cs page ne)
    ∙ ap (λ o. cond (eqb c.page.0 other.0) (Some c.bytes.items) o) (without_others cs page other differs))

without_gone : (cs : List PageCopy) (page : PageId) → AreOnce (map copied cs) → copy_of (map copied (without cs page)) page ≡ None
unfolding without
without_gone [] page once = refl
without_gone (c ∷ cs) page once = dite (ℕ_discrete c.page.0 page.0)
    (λ e. ap (λ ds. copy_of (map copied ds) page) (without_here c cs page e) ∙ ap (copy_of (map copied cs)) (sym (same_id c.page page e)) ∙ once.0)
    (λ ne. ap (λ ds. copy_of (map copied ds) page) (without_else c cs page ne) ∙ copy_else (copied c) (map copied (without cs page)) page ne ∙ without_gone cs page once.1)

without_once : (cs : List PageCopy) (page : PageId) → AreOnce (map copied cs) → AreOnce (map copied (without cs page))
unfolding without
without_once [] page once = tt
without_once (c ∷ cs) page once = dite (ℕ_discrete c.page.0 page.0)
    (λ e. subst (λ ds. AreOnce (map copied ds)) (sym (without_here c cs page e)) once.1)
    (λ ne. subst (λ ds. AreOnce (map copied ds)) (sym (without_else c cs page ne))
    (without_others cs page c.page (λ q. ne (ap (λ (p : PageId). p.0) q)) ∙ once.0, without_once cs page once.1))

-- after the copy at the page's place was taken out
pub once_removed : (cs ds : List PageCopy) (page : PageId) → ds ≡ take (place_of cs page) cs ++ drop (suc (place_of cs page)) cs → AreOnce (map copied cs) → AreOnce (map copied ds)
once_removed cs ds page is once = subst (λ es. AreOnce (map copied es)) (sym (is ∙ without_is cs page)) (without_once cs page once)

pub copy_removed : (old new : Copies) (cs ds : List PageCopy) (page : PageId) → old.pages ≡ map copied cs → new.pages ≡ map copied ds → ds ≡ take (place_of cs page) cs ++ drop (suc (place_of cs page)) cs → AreOnce (map copied cs)
    → new.room ≡ old.room → RemovesCopy old new page
copy_removed old new cs ds page was is gone once room =
    let e : new.pages ≡ map copied (without cs page) = is ∙ ap (map copied) (gone ∙ without_is cs page) in
    record {
      gone = ap (λ ps. copy_of ps page) e ∙ without_gone cs page once;
      others = λ other ne. ap (λ ps. copy_of ps other) e ∙ without_others cs page other ne ∙ ap (λ ps. copy_of ps other) (sym was);
      room = room;
    }

-- a page that isn't copied isn't copied after nothing changed
pub none_removed : (old new : Copies) (page : PageId) → new ≡ old → copy_of old.pages page ≡ None → RemovesCopy old new page
none_removed old new page same none = record {
  gone = ap (λ (c : Copies). copy_of c.pages page) same ∙ none;
  others = λ other ne. ap (λ (c : Copies). copy_of c.pages other) same;
  room = ap (λ (c : Copies). c.room) same;
}

-- ---- where a copy stands

pub place_at_most : (cs : List PageCopy) (page : PageId) → place_of cs page ≤ length cs
place_at_most [] page = omega arith
place_at_most (c ∷ cs) page = dite (ℕ_discrete c.page.0 page.0)
    (λ e. let p = place_here c cs page e in omega arith)
    (λ ne. let p = place_else c cs page ne in let q = place_at_most cs page in omega arith)

pub none_at_end : (cs : List PageCopy) (page : PageId) → length cs ≤ place_of cs page → copy_of (map copied cs) page ≡ None
none_at_end cs page past = no_copy cs page (slice_get_past cs (place_of cs page) past)

pub copy_read : (cs : List PageCopy) (page : PageId) (c : PageCopy) → place_of cs page < length cs → c ≡ get_or cs (place_of cs page) c → copy_of (map copied cs) page ≡ Some c.bytes.items
copy_read cs page c within read = copy_is cs page c (slice_get_read cs (length cs) (place_of cs page) c refl within read)
