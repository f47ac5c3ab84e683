-- What a look-up finds among slots of which no two hold one page.
use Rattle.std.proofs.Common.{◌≡◌, ◌≢◌, ℕ, zero, suc, ◌<◌, ◌⊎◌, inl, inr, ⊎_elim, true, false, cond, List, [], ◌∷◌, length, set, Option, Some, None, refl, sym, ap, ◌∙◌, subst, arith}
use Rattle.std.proofs.lemmas.Bool.{cases_eq, eq-eqb, ne_eqb}
use Rattle.std.proofs.lemmas.List.{get_or-set_same, get_or-set_other}
use Rattle.std.specs.Cmp.{nat_cmp_total, unsigned_tied}
use Rattle.std.specs.FinMap.{get, insert, remove, find, get-from_entries, get-insert, get-remove, same_map, nat_cmp-IsAntisymmetric}
use Rattle.std.specs.Ordering.{nat_cmp, eq_by_cmp}
use Rattle.pm_ptable.specs.declared.slots.Entry.{Entry}
use Rattle.pm_ptable.specs.Slots.{slot_at, entries_of, map_of, IsSingle}

-- what the map has for a page with this entry
abbrev pub value_of : Entry → ℕ × ℕ
value_of e = (e.frame, e.tag)

-- the first entry of this page
abbrev pub found : ℕ → List (Option Entry) → Option (ℕ × ℕ)
found q slots = find nat_cmp q (entries_of slots)

pub get-map_of : (slots : List (Option Entry)) (q : ℕ) → get (map_of slots) q ≡ found q slots
get-map_of slots q = get-from_entries nat_cmp_total (entries_of slots) q

pub tied : (q k : ℕ) → q ≡ k → eq_by_cmp nat_cmp q k ≡ true
tied q k e = unsigned_tied q k ∙ eq-eqb q k e

pub untied : (q k : ℕ) → q ≢ k → eq_by_cmp nat_cmp q k ≡ false
untied q k e = unsigned_tied q k ∙ ne_eqb q k e

-- no slot holds the page
pub found-none : (q : ℕ) (slots : List (Option Entry)) → ((i : ℕ) (e : Entry) → slot_at slots i ≡ Some e → e.page.0 ≢ q) → found q slots ≡ None
found-none q [] others = refl
found-none q (None ∷ slots) others = found-none q slots (λ i. others (suc i))
found-none q (Some f ∷ slots) others =
    ap (λ b. cond b (Some (value_of f)) (found q slots)) (untied q f.page.0 (λ e. others 0 f refl (sym e))) ∙ found-none q slots (λ i. others (suc i))

-- the first slot that holds the page
found-first : (e : Entry) (slots : List (Option Entry)) (i : ℕ) → slot_at slots i ≡ Some e → ((j : ℕ) (f : Entry) → j < i → slot_at slots j ≡ Some f → f.page.0 ≢ e.page.0)
    → found e.page.0 slots ≡ Some (value_of e)
found-first e [] i at first = absurd (cc)
found-first e (None ∷ slots) zero at first = absurd (cc)
found-first e (None ∷ slots) (suc i) at first = found-first e slots i at (λ j f h. first (suc j) f (omega arith))
found-first e (Some f ∷ slots) zero at first =
    let same : f ≡ e = cc in
    ap (λ b. cond b (Some (value_of f)) (found e.page.0 slots)) (tied e.page.0 f.page.0 (ap (λ x. x.page.0) (sym same))) ∙ ap (λ x. Some (value_of x)) same
found-first e (Some f ∷ slots) (suc i) at first =
    ap (λ b. cond b (Some (value_of f)) (found e.page.0 slots)) (untied e.page.0 f.page.0 (λ s. first 0 f (omega arith) refl (sym s)))
    ∙ found-first e slots i at (λ j g h. first (suc j) g (omega arith))

-- where no two hold one page, each holds what is found
pub found-single : (slots : List (Option Entry)) (i : ℕ) (e : Entry) → IsSingle slots → slot_at slots i ≡ Some e → found e.page.0 slots ≡ Some (value_of e)
found-single slots i e single at =
    found-first e slots i at (λ j f h there same. let one : j ≡ i = single j i f e there at same in absurd (omega arith))

-- what is found stands somewhere
abbrev Holds : ℕ → List (Option Entry) → ℕ × ℕ → Type 0
Holds q slots v = (i : ℕ) × (e : Entry) × (slot_at slots i ≡ Some e) × (e.page.0 ≡ q) × (value_of e ≡ v)

pub found-Some : (q : ℕ) (slots : List (Option Entry)) (v : ℕ × ℕ) → found q slots ≡ Some v → Holds q slots v
found-Some q [] v is = absurd (cc)
found-Some q (None ∷ slots) v is = let h = found-Some q slots v is in (suc h.0, h.1, h.2, h.3, h.4)
found-Some q (Some f ∷ slots) v is =
    ⊎_elim
    (λ (e : q ≡ f.page.0).
    let here : Some (value_of f) ≡ Some v = sym (ap (λ b. cond b (Some (value_of f)) (found q slots)) (tied q f.page.0 e)) ∙ is in
    (0, f, refl, sym e, cc))
    (λ (e : q ≢ f.page.0).
    let h = found-Some q slots v (sym (ap (λ b. cond b (Some (value_of f)) (found q slots)) (untied q f.page.0 e)) ∙ is) in
    (suc h.0, h.1, h.2, h.3, h.4))
    (cases_eq q f.page.0)

-- maps in which all is found alike are one
pub same_maps : (ss ts : List (Option Entry)) → ((q : ℕ) → found q ss ≡ found q ts) → map_of ss ≡ map_of ts
same_maps ss ts alike = same_map nat_cmp_total nat_cmp-IsAntisymmetric (map_of ss) (map_of ts) (λ q. get-map_of ss q ∙ alike q ∙ sym (get-map_of ts q))

-- what a write leaves at each index
pub set_here : (slots : List (Option Entry)) (at j : ℕ) (x : Option Entry) → at < length slots → j ≡ at → slot_at (set slots at x) j ≡ x
set_here slots at j x h e = ap (slot_at (set slots at x)) e ∙ get_or-set_same slots at x None h

pub set_there : (slots : List (Option Entry)) (at j : ℕ) (x : Option Entry) → j ≢ at → slot_at (set slots at x) j ≡ slot_at slots j
set_there slots at j x e = get_or-set_other slots at j x None e

-- a write changes nothing for a page that neither the old nor the new slot holds
found-set : (q : ℕ) (slots : List (Option Entry)) (at : ℕ) (x : Option Entry)
    → ((f : Entry) → slot_at slots at ≡ Some f → f.page.0 ≢ q) → ((f : Entry) → x ≡ Some f → f.page.0 ≢ q) → found q (set slots at x) ≡ found q slots
found-set q [] at x old new = refl
found-set q (y ∷ slots) zero x old new = skip q x slots new ∙ sym (skip q y slots old)
  where
    skip : (q : ℕ) (x : Option Entry) (slots : List (Option Entry)) → ((f : Entry) → x ≡ Some f → f.page.0 ≢ q) → found q (x ∷ slots) ≡ found q slots
    skip q None slots other = refl
    skip q (Some f) slots other = ap (λ b. cond b (Some (value_of f)) (found q slots)) (untied q f.page.0 (λ e. other f refl (sym e)))
found-set q (None ∷ slots) (suc at) x old new = found-set q slots at x old new
found-set q (Some f ∷ slots) (suc at) x old new = ap (cond (eq_by_cmp nat_cmp q f.page.0) (Some (value_of f))) (found-set q slots at x old new)

-- an entry after a write is the one that was written, or stood there before
pub after_set : (slots : List (Option Entry)) (at i : ℕ) (x : Option Entry) (f : Entry) → at < length slots → slot_at (set slots at x) i ≡ Some f
    → ((i ≡ at) × (x ≡ Some f)) ⊎ ((i ≢ at) × (slot_at slots i ≡ Some f))
after_set slots at i x f h is =
    ⊎_elim
    (λ (e : i ≡ at). inl (e, sym (set_here slots at i x h e) ∙ is))
    (λ (e : i ≢ at). inr (e, sym (set_there slots at i x e) ∙ is))
    (cases_eq i at)

-- the page has no entry but at this index
abbrev pub NoOther : List (Option Entry) → ℕ → ℕ → Type 0
NoOther slots at q = (j : ℕ) (f : Entry) → j ≢ at → slot_at slots j ≡ Some f → f.page.0 ≢ q

pub IsSingle-set : (slots : List (Option Entry)) (at : ℕ) (x : Option Entry) → at < length slots → IsSingle slots → ((e : Entry) → x ≡ Some e → NoOther slots at e.page.0)
    → IsSingle (set slots at x)
IsSingle-set slots at x h single other i j f g fi gj same =
    ⊎_elim
    (λ (a : (i ≡ at) × (x ≡ Some f)). ⊎_elim
    (λ (b : (j ≡ at) × (x ≡ Some g)). a.0 ∙ sym b.0)
    (λ (b : (j ≢ at) × (slot_at slots j ≡ Some g)). absurd (other f a.1 j g b.0 b.1 (sym same)))
    (after_set slots at j x g h gj))
    (λ (a : (i ≢ at) × (slot_at slots i ≡ Some f)). ⊎_elim
    (λ (b : (j ≡ at) × (x ≡ Some g)). absurd (other g b.1 i f a.0 a.1 same))
    (λ (b : (j ≢ at) × (slot_at slots j ≡ Some g)). single i j f g a.1 b.1 same)
    (after_set slots at j x g h gj))
    (after_set slots at i x f h fi)

-- a page that has an entry has no other
pub no_other : (slots : List (Option Entry)) (at : ℕ) (e : Entry) → IsSingle slots → slot_at slots at ≡ Some e → NoOther slots at e.page.0
no_other slots at e single here j f apart there same = apart (single j at f e there here same)

-- a page that isn't found has no entry
pub not_found : (slots : List (Option Entry)) (q : ℕ) (i : ℕ) (e : Entry) → IsSingle slots → found q slots ≡ None → slot_at slots i ≡ Some e → e.page.0 ≢ q
not_found slots q i e single none at same = let there = found-single slots i e single at in absurd (let clash : Some (value_of e) ≡ None = sym there ∙ ap (λ k. found k slots) same ∙ none in cc)

-- an entry is written in the slot that it has: the map has it, and what it had of other pages
pub map_of-set : (slots : List (Option Entry)) (at : ℕ) (e : Entry) → at < length slots → IsSingle slots
    → ((f : Entry) → slot_at slots at ≡ Some f → f.page.0 ≡ e.page.0) → NoOther slots at e.page.0
    → map_of (set slots at (Some e)) ≡ insert (map_of slots) e.page.0 (value_of e)
map_of-set slots at e h single old other =
    let new = set slots at (Some e) in let k = e.page.0 in let v = value_of e in
    let single' = IsSingle-set slots at (Some e) h single (λ f is. subst (λ (g : Entry). NoOther slots at g.page.0) {x = e} {y = f} (cc) other) in
    same_map nat_cmp_total nat_cmp-IsAntisymmetric (map_of new) (insert (map_of slots) k v) (λ q.
    let rhs = get-insert nat_cmp_total (map_of slots) k v q in
    get-map_of new q ∙
    ⊎_elim
    (λ (is : q ≡ k). ap (λ p. found p new) is ∙ found-single new at e single' (set_here slots at at (Some e) h refl) ∙ sym (rhs ∙ ap (λ b. cond b (Some v) (get (map_of slots) q)) (tied q k is)))
    (λ (not : q ≢ k).
    found-set q slots at (Some e) (λ f there same. not (sym same ∙ old f there)) (λ f is same. not (sym same ∙ ap (λ (x : Entry). x.page.0) (sym (let g : e ≡ f = cc in g))))
    ∙ sym (rhs ∙ ap (λ b. cond b (Some v) (get (map_of slots) q)) (untied q k not) ∙ get-map_of slots q))
    (cases_eq q k))

-- an entry is taken out: the map has what it had of other pages
pub map_of-clear : (slots : List (Option Entry)) (at : ℕ) (e : Entry) → at < length slots → IsSingle slots → slot_at slots at ≡ Some e
    → map_of (set slots at None) ≡ remove (map_of slots) e.page.0
map_of-clear slots at e h single here =
    let new = set slots at None in let k = e.page.0 in
    same_map nat_cmp_total nat_cmp-IsAntisymmetric (map_of new) (remove (map_of slots) k) (λ q.
    let rhs = get-remove nat_cmp_total (map_of slots) k q in
    get-map_of new q ∙
    ⊎_elim
    (λ (is : q ≡ k).
    found-none q new (λ i f there same. ⊎_elim
    (λ (a : (i ≡ at) × (None ≡ Some f)). absurd (let clash = a.1 in cc))
    (λ (a : (i ≢ at) × (slot_at slots i ≡ Some f)). no_other slots at e single here i f a.0 a.1 (same ∙ is))
    (after_set slots at i None f h there))
    ∙ sym (rhs ∙ ap (λ b. cond b None (get (map_of slots) q)) (tied q k is)))
    (λ (not : q ≢ k).
    found-set q slots at None (λ f there same. not (sym same ∙ ap (λ (x : Entry). x.page.0) (let g : f ≡ e = cc in g))) (λ f is same. absurd (cc))
    ∙ sym (rhs ∙ ap (λ b. cond b None (get (map_of slots) q)) (untied q k not) ∙ get-map_of slots q))
    (cases_eq q k))

-- each entry of the one stands somewhere in the other
abbrev pub AllIn : List (Option Entry) → List (Option Entry) → Type 0
AllIn ss ts = (i : ℕ) (e : Entry) → slot_at ss i ≡ Some e → (j : ℕ) × (slot_at ts j ≡ Some e)

-- slots with the same entries are the same map
pub map_of-moved : (ss ts : List (Option Entry)) → IsSingle ss → IsSingle ts → AllIn ss ts → AllIn ts ss → map_of ss ≡ map_of ts
map_of-moved ss ts single single' to from = same_maps ss ts (λ q. by_cases q (found q ss) refl)
  where
    by_cases : (q : ℕ) (r : Option (ℕ × ℕ)) → found q ss ≡ r → found q ss ≡ found q ts
    by_cases q None is = is ∙ sym (found-none q ts (λ i e at. let there = from i e at in not_found ss q there.0 e single is there.1))
    by_cases q (Some v) is =
        let h = found-Some q ss v is in let there = to h.0 h.1 h.2 in
        is ∙ sym (ap (λ k. found k ts) (sym h.3) ∙ found-single ts there.0 h.1 single' there.1 ∙ ap Some h.4)
