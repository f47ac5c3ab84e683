-- A row after one entry is put in or taken out.
use Rattle.std.proofs.Common.{◌≡◌, ◌≢◌, ℕ, zero, suc, ◌+◌, ◌<◌, ◌≤◌, ◌⊎◌, ⊎_elim, cond, false, IsTrue, List, [], ◌++◌, length, take, replicate, set, Option, Some, None, refl, sym, ap, ◌∙◌, subst, arith, length-set}
use Rattle.std.proofs.lemmas.Bool.{cases_eq}
use Rattle.std.proofs.Math.Seq.{take-nil}
use Rattle.std.proofs.lemmas.List.Sums.{sum_by-set}
use Rattle.std.specs.Cmp.{nat_cmp_total}
use Rattle.std.specs.FinMap.{empty, from_entries, get, insert, remove, get-remove, same_map, nat_cmp-IsAntisymmetric}
use Rattle.std.specs.Option.{IsSome, MatchOption, is_some, option_map}
use Rattle.pm_types.specs.declared.page_id.PageId.{PageId}
use Rattle.pm_ptable.specs.declared.slots.Entry.{Entry}
use Rattle.pm_ptable.specs.Slots.{slot_at, filled, count_in, map_of, entries_of, IsReachable, IsSingle, IsRow, HasNone, IsSlotFor}
use Rattle.pm_ptable.proofs.Lookups.{value_of, set_here, set_there, after_set, IsSingle-set, NoOther, no_other, tied, untied, map_of-set, map_of-clear}

module _ (homes : ℕ) (slots : List (Option Entry)) (e : Entry) (at : ℕ) (row : IsRow homes slots) (index : IsSlotFor homes slots e.page at) where
  abbrev put_in : List (Option Entry)
  put_in = set slots at (Some e)

  alone : (x : Option Entry) → slot_at slots at ≡ x → MatchOption x (HasNone slots e.page) (λ f. f.page.0 ≡ e.page.0) → NoOther slots at e.page.0
  alone None is none = λ j f away there. none j f there
  alone (Some f) is same = subst (NoOther slots at) same (no_other slots at f row.single is)

  old_holds : (x : Option Entry) → slot_at slots at ≡ x → MatchOption x (HasNone slots e.page) (λ f. f.page.0 ≡ e.page.0) → (f : Entry) → slot_at slots at ≡ Some f → f.page.0 ≡ e.page.0
  old_holds None is none = λ f there. absurd (let clash : None ≡ Some f = sym is ∙ there in cc)
  old_holds (Some g) is same = λ f there. ap (λ (x : Entry). x.page.0) (let both : f ≡ g = (let h : Some f ≡ Some g = sym there ∙ is in cc) in both) ∙ same

  no_other_there : NoOther slots at e.page.0
  no_other_there = alone (slot_at slots at) refl index.holds

  still : (j : ℕ) → IsSome (slot_at slots j) → IsSome (slot_at put_in j)
  still j h =
      ⊎_elim
      (λ (s : j ≡ at). subst IsSome (sym (set_here slots at j (Some e) index.within s)) refl)
      (λ (s : j ≢ at). subst IsSome (sym (set_there slots at j (Some e) s)) h)
      (cases_eq j at)

  pub map_of-put : map_of put_in ≡ insert (map_of slots) e.page.0 (value_of e)
  map_of-put = map_of-set slots at e index.within row.single (old_holds (slot_at slots at) refl index.holds) no_other_there

  pub IsRow-put : (slot_at slots at ≡ None → homes + filled slots < length slots) → IsRow homes put_in
  IsRow-put room = record {
    some = row.some;
    small = omega (arith, row.small, length-set slots at (Some e));
    room = enough (slot_at slots at) refl;
    settled = λ i f there. ⊎_elim
        (λ (w : (i ≡ at) × (Some e ≡ Some f)).
        let here : IsReachable homes put_in at e.page = record { after = index.reachable.after; full = λ j a b. still j (index.reachable.full j a b) } in
        let both : e ≡ f = (let h = w.1 in cc) in
        subst (λ n. IsReachable homes put_in n f.page) (sym w.0) (subst (λ (x : Entry). IsReachable homes put_in at x.page) both here))
        (λ (w : (i ≢ at) × (slot_at slots i ≡ Some f)).
        let old = row.settled i f w.1 in record { after = old.after; full = λ j a b. still j (old.full j a b) })
        (after_set slots at i (Some e) f index.within there);
    single = IsSingle-set slots at (Some e) index.within row.single (λ f is. subst (λ (x : Entry). NoOther slots at x.page.0) {x = e} {y = f} (cc) no_other_there);
  }
    where
      enough : (x : Option Entry) → slot_at slots at ≡ x → homes + filled put_in ≤ length put_in
      enough None is =
          let sum = sum_by-set count_in slots at (Some e) None index.within in let none = ap count_in is in
          omega (arith, room is, length-set slots at (Some e))
      enough (Some f) is =
          let sum = sum_by-set count_in slots at (Some e) None index.within in let one = ap count_in is in
          omega (arith, row.room, length-set slots at (Some e))

-- where an entry has to take an empty slot, there is room for it
pub room_left : {x : Option (ℕ × ℕ)} {old : Option Entry} {P : Type 0} → x ≡ option_map value_of old → IsTrue (is_some x) ⊎ P → old ≡ None → P
room_left {x} {old} {P} is room none =
    ⊎_elim
    (λ (h : IsTrue (is_some x)). absurd (let clash = subst (λ o. IsTrue (is_some o)) (is ∙ ap (option_map value_of) none) h in cc))
    (λ (p : P). p)
    room

no_value : (x : Option Entry) → is_some x ≡ false → option_map value_of x ≡ None
no_value None is = refl
no_value (Some e) is = absurd (cc)

-- nothing is there to be taken out
pub remove-absent : (slots : List (Option Entry)) (at q : ℕ) → get (map_of slots) q ≡ option_map value_of (slot_at slots at) → is_some (slot_at slots at) ≡ false
    → map_of slots ≡ remove (map_of slots) q
remove-absent slots at q found is =
    let none = found ∙ no_value (slot_at slots at) is in
    same_map nat_cmp_total nat_cmp-IsAntisymmetric (map_of slots) (remove (map_of slots) q) (λ k.
    let after = get-remove nat_cmp_total (map_of slots) q k in
    ⊎_elim
    (λ (e : k ≡ q). ap (get (map_of slots)) e ∙ none ∙ sym (after ∙ ap (λ b. cond b None (get (map_of slots) k)) (tied k q e)))
    (λ (e : k ≢ q). sym (after ∙ ap (λ b. cond b None (get (map_of slots) k)) (untied k q e)))
    (cases_eq k q))

-- what is there is taken out
pub remove-there : (homes : ℕ) (slots : List (Option Entry)) (page : PageId) (at : ℕ) → IsSingle slots → IsSlotFor homes slots page at → IsSome (slot_at slots at)
    → map_of (set slots at None) ≡ remove (map_of slots) page.0
remove-there homes slots page at single index = by_cases (slot_at slots at) refl index.holds
  where
    by_cases : (x : Option Entry) → slot_at slots at ≡ x → MatchOption x (HasNone slots page) (λ e. e.page.0 ≡ page.0) → IsSome x → map_of (set slots at None) ≡ remove (map_of slots) page.0
    by_cases None is none some = absurd (cc)
    by_cases (Some e) is same some = map_of-clear slots at e index.within single is ∙ ap (remove (map_of slots)) same

-- what is filled up with empty slots is the empty map
pub map_of-resized : (slots old : List (Option Entry)) (n m : ℕ) → old ≡ [] → slots ≡ take n old ++ replicate m None → map_of slots ≡ empty
map_of-resized slots old n m start is = ap map_of (is ∙ ap (λ xs. take n xs ++ replicate m None) start ∙ ap (λ xs. xs ++ replicate m None) (take-nil n)) ∙ ap from_entries (none m)
  where
    none : (m : ℕ) → entries_of ([] ++ replicate m None) ≡ []
    none zero = refl
    none (suc m) = none m
