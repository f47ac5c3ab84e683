-- A page is given a frame, or a frame gives its page up.
use Rattle.std.proofs.Common.{◌≡◌, ◌≢◌, ℕ, zero, suc, ◌+◌, ◌<◌, ◌≤◌, List, [], ◌∷◌, length, set, get_or, cond, replicate, true, Option, Some, None, refl, sym, ap, subst, ◌∙◌, ⊎_elim, arith, eq-eqb, ne_eqb}
use Rattle.std.specs.Prelude.{slice_get}
use Rattle.std.proofs.lemmas.Bool.{cases_eq}
use Rattle.std.proofs.lemmas.Option.{slice_get_within, slice_get-get_or}
use Rattle.std.specs.Cmp.{nat_cmp_total, unsigned_tied}
use Rattle.std.specs.FinMap as map
use Rattle.std.specs.Option.{option_map, is_some}
use Rattle.std.specs.FinMap.{FinMap}
use Rattle.std.specs.Ordering.{nat_cmp}
use Rattle.pm_types.specs.declared.page_id.PageId.{PageId}
use Rattle.pm_stripe.specs.PlacedPages.{AgreeOnPages, kept_count}
use Rattle.pm_stripe.specs.HandLaws.{set_here, set_else}

-- what a frame has
pub at_frame : (pages : List (Option PageId)) (f : ℕ) (o : Option PageId) → o ≡ get_or pages f o → f < length pages → slice_get pages f ≡ Some o
at_frame pages f o is lt = slice_get-get_or pages f o lt ∙ ap Some (sym is)

pub get_put : (m : FinMap nat_cmp (ℕ × ℕ)) (k : ℕ) (v : ℕ × ℕ) → map.get (map.insert m k v) k ≡ Some v
get_put m k v = map.get-insert nat_cmp_total m k v k ∙ ap (λ b. cond b (Some v) (map.get m k)) (unsigned_tied k k ∙ eq-eqb k k refl)

pub get_other : (m : FinMap nat_cmp (ℕ × ℕ)) (k : ℕ) (v : ℕ × ℕ) (q : ℕ) → q ≢ k → map.get (map.insert m k v) q ≡ map.get m q
get_other m k v q ne = map.get-insert nat_cmp_total m k v q ∙ ap (λ b. cond b (Some v) (map.get m q)) (unsigned_tied q k ∙ ne_eqb q k ne)

pub get_removed : (m : FinMap nat_cmp (ℕ × ℕ)) (k : ℕ) → map.get (map.remove m k) k ≡ None
get_removed m k = map.get-remove nat_cmp_total m k k ∙ ap (λ b. cond b None (map.get m k)) (unsigned_tied k k ∙ eq-eqb k k refl)

pub get_rest : (m : FinMap nat_cmp (ℕ × ℕ)) (k q : ℕ) → q ≢ k → map.get (map.remove m k) q ≡ map.get m q
get_rest m k q ne = map.get-remove nat_cmp_total m k q ∙ ap (λ b. cond b None (map.get m q)) (unsigned_tied q k ∙ ne_eqb q k ne)

pub same_page : (a b : PageId) → a.0 ≡ b.0 → a ≡ b
same_page a b e = λ i. record { 0 = e i }

count_most : (pages : List (Option PageId)) → kept_count pages ≤ length pages
count_most [] = omega arith
count_most (None ∷ pages) = omega (arith, count_most pages)
count_most (Some p ∷ pages) = omega (arith, count_most pages)

-- a frame without a page leaves room for one
pub count_less : (pages : List (Option PageId)) (f : ℕ) → slice_get pages f ≡ Some None → kept_count pages < length pages
count_less [] f is = absurd (cc is)
count_less (None ∷ pages) zero is = omega (arith, count_most pages)
count_less (Some p ∷ pages) zero is = absurd (cc is)
count_less (None ∷ pages) (suc f) is = omega (arith, count_less pages f is)
count_less (Some p ∷ pages) (suc f) is = omega (arith, count_less pages f is)

pub count_put : (pages : List (Option PageId)) (f : ℕ) (page : PageId) → slice_get pages f ≡ Some None → kept_count (set pages f (Some page)) ≡ kept_count pages + 1
count_put [] f page is = absurd (cc is)
count_put (None ∷ pages) zero page is = refl
count_put (Some p ∷ pages) zero page is = absurd (cc is)
count_put (None ∷ pages) (suc f) page is = count_put pages f page is
count_put (Some p ∷ pages) (suc f) page is = omega (arith, count_put pages f page is)

pub count_forget : (pages : List (Option PageId)) (f : ℕ) (page : PageId) → slice_get pages f ≡ Some (Some page) → kept_count (set pages f None) + 1 ≡ kept_count pages
count_forget [] f page is = absurd (cc is)
count_forget (None ∷ pages) zero page is = absurd (cc is)
count_forget (Some p ∷ pages) zero page is = refl
count_forget (None ∷ pages) (suc f) page is = count_forget pages f page is
count_forget (Some p ∷ pages) (suc f) page is = omega (arith, count_forget pages f page is)

none_in : (n f : ℕ) (page : PageId) → slice_get (replicate n None) f ≡ Some (Some page) → ⊥
none_in zero f page is = cc is
none_in (suc n) zero page is = let e : ◌≡◌ {A = Option (Option PageId)} (Some None) (Some (Some page)) = is in cc e
none_in (suc n) (suc f) page is = none_in n f page is

pub count_none : (n : ℕ) → kept_count (replicate n None) ≡ 0
count_none zero = refl
count_none (suc n) = count_none n

-- a page that a frame has is named with some tag
pub named_tag : (o : Option (ℕ × ℕ)) (f : ℕ) → option_map (λ place. place.0) o ≡ Some f → (tag : ℕ) × (o ≡ Some (f, tag))
named_tag None f e = absurd (cc e)
named_tag (Some place) f e = let is : place.0 ≡ f = cc e in (place.1, λ i. Some (is i, place.1))

some_none : (pages : List (Option PageId)) (f : ℕ) (page : PageId) → slice_get pages f ≡ Some None → slice_get pages f ≡ Some (Some page) → ⊥
some_none pages f page a b = let e : ◌≡◌ {A = Option (Option PageId)} (Some None) (Some (Some page)) = sym a ∙ b in cc e

module _ (table : FinMap nat_cmp (ℕ × ℕ)) (pages : List (Option PageId)) (agree : AgreeOnPages table pages) where
  -- no two pages have one frame
  pub one_page : (a b : PageId) (f s t : ℕ) → map.get table a.0 ≡ Some (f, s) → map.get table b.0 ≡ Some (f, t) → a ≡ b
  one_page a b f s t x y = let e : Some (Some a) ≡ Some (Some b) = sym (agree.kept a f s x) ∙ agree.kept b f t y in cc e

  pub agree_put : (page : PageId) (f tag : ℕ) → slice_get pages f ≡ Some None → map.get table page.0 ≡ None → AgreeOnPages (map.insert table page.0 (f, tag)) (set pages f (Some page))
  agree_put page f tag empty unnamed = record {
    kept = λ q g t is. ⊎_elim
        (λ same. let e : Some (f, tag) ≡ Some (g, t) = sym (get_put table page.0 (f, tag)) ∙ ap (map.get (map.insert table page.0 (f, tag))) (sym same) ∙ is in
        let p : ◌≡◌ {A = ℕ × ℕ} (f, tag) (g, t) = cc e in
        subst (λ (n : ℕ). slice_get (set pages f (Some page)) n ≡ Some (Some q)) (ap (λ (z : ℕ × ℕ). z.0) p)
        (set_here pages f (Some page) (slice_get_within pages f None empty) ∙ ap (λ (z : PageId). Some (Some z)) (sym (same_page q page same))))
        (λ ne. let was = agree.kept q g t (sym (get_other table page.0 (f, tag) q.0 ne) ∙ is) in
        set_else pages f g (Some page) (λ e. some_none pages f q empty (ap (slice_get pages) (sym e) ∙ was)) ∙ was)
        (cases_eq q.0 page.0);
    named = λ q g is. ⊎_elim
        (λ same. let e : Some (Some page) ≡ Some (Some q) = sym (set_here pages f (Some page) (slice_get_within pages f None empty)) ∙ ap (slice_get (set pages f (Some page))) (sym same) ∙ is in
        let p : page ≡ q = cc e in
        subst (λ (z : PageId × ℕ). option_map (λ (w : ℕ × ℕ). w.0) (map.get (map.insert table page.0 (f, tag)) z.0.0) ≡ Some z.1) (λ i. (p i, sym same i)) (ap (option_map (λ (w : ℕ × ℕ). w.0)) (get_put table page.0 (f, tag))))
        (λ ne. let was = agree.named q g (sym (set_else pages f g (Some page) ne) ∙ is) in
        ap (option_map (λ (w : ℕ × ℕ). w.0)) (get_other table page.0 (f, tag) q.0 (λ e. let bad : None ≡ Some g = ap (option_map (λ (w : ℕ × ℕ). w.0)) (sym unnamed ∙ ap (map.get table) (sym e)) ∙ was in cc bad)) ∙ was)
        (cases_eq g f);
  }

  pub agree_forget : (page : PageId) (f : ℕ) → slice_get pages f ≡ Some (Some page) → AgreeOnPages (map.remove table page.0) (set pages f None)
  agree_forget page f here = record {
    kept = λ q g t is. ⊎_elim
        (λ same. let bad : None ≡ Some (g, t) = sym (get_removed table page.0) ∙ ap (map.get (map.remove table page.0)) (sym same) ∙ is in absurd (cc bad))
        (λ ne. let was = agree.kept q g t (sym (get_rest table page.0 q.0 ne) ∙ is) in
        set_else pages f g None (λ e. let bad : Some (Some page) ≡ Some (Some q) = sym here ∙ ap (slice_get pages) (sym e) ∙ was in let p : page ≡ q = cc bad in ne (ap (λ (z : PageId). z.0) (sym p))) ∙ was)
        (cases_eq q.0 page.0);
    named = λ q g is. ⊎_elim
        (λ same. let bad : ◌≡◌ {A = Option (Option PageId)} (Some None) (Some (Some q)) = sym (set_here pages f None (slice_get_within pages f (Some page) here)) ∙ ap (slice_get (set pages f None)) (sym same) ∙ is in absurd (cc bad))
        (λ ne. let was = agree.named q g (sym (set_else pages f g None ne) ∙ is) in
        let away : q.0 ≢ page.0 = λ e. (let two : Some f ≡ Some g = sym (agree.named page f here) ∙ ap (λ n. option_map (λ (w : ℕ × ℕ). w.0) (map.get table n)) (sym e) ∙ was in let p : f ≡ g = cc two in ne (sym p)) in
        ap (option_map (λ (w : ℕ × ℕ). w.0)) (get_rest table page.0 q.0 away) ∙ was)
        (cases_eq g f);
  }

-- what a table without a page says of the room
pub room_forget : (table : FinMap nat_cmp (ℕ × ℕ)) (page : PageId) (f : ℕ) → option_map (λ place. place.0) (map.get table page.0) ≡ Some f → map.contains_key table page.0 ≡ true
room_forget table page f is = let x = named_tag (map.get table page.0) f is in ap is_some x.1

-- what a new table and frames without a page say of each other
pub agree_none : (table : FinMap nat_cmp (ℕ × ℕ)) (pages : List (Option PageId)) (n : ℕ) → table ≡ map.empty → pages ≡ replicate n None → AgreeOnPages table pages
agree_none table pages n empty none = record {
  kept = λ q f t is. absurd (let e : None ≡ Some (f, t) = sym (map.get-empty nat_cmp q.0) ∙ ap (λ m. map.get m q.0) (sym empty) ∙ is in cc e);
  named = λ q f is. absurd (none_in n f q (ap (λ ps. slice_get ps f) (sym none) ∙ is));
}

-- the page of a frame is named with the frame
pub named_at : (table : FinMap nat_cmp (ℕ × ℕ)) (pages : List (Option PageId)) → AgreeOnPages table pages → (page : PageId) (f g tag : ℕ) → slice_get pages f ≡ Some (Some page) → map.get table page.0 ≡ Some (g, tag) → map.get table page.0 ≡ Some (f, tag)
named_at table pages agree page f g tag here is =
    let same : Some g ≡ Some f = ap (option_map (λ (w : ℕ × ℕ). w.0)) (sym is) ∙ agree.named page f here in
    let e : g ≡ f = cc same in is ∙ (λ i. Some (e i, tag))
