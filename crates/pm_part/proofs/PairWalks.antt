-- The way to the first leaf of a tree, and along its leaves.
use Rattle.std.proofs.Common.{◌≡◌, ◌≢◌, ℕ, suc, ◌+◌, [], ◌++◌, refl, sym, ap, subst, ◌∙◌, inl, inr, arith}
use Rattle.std.specs.Prelude.{Result, OnOk}
use Rattle.pm_types.specs.declared.fault.StoreFault.{StoreFault}
use Rattle.pm_meta.specs.declared.slots.MetaSlot.TheVariants.{Root, Pages}
use Rattle.std.proofs.lemmas.Result.{on_ok_weaker}
use Rattle.std.proofs.lemmas.List.{append_assoc, append-nil}
use Rattle.pm_meta.specs.declared.slots.MetaSlot.{MetaSlot}
use Rattle.pm_pages.specs.Paged.{Paged}
use Rattle.pm_pages.specs.Edits.{IsNumberIn}
use Rattle.pm_part.specs.declared.pairs.Down.TheVariants.{Leaf, Child}
use Rattle.pm_part.specs.Reads.{ReadsPages}
use Rattle.pm_part.specs.PairReads.{PairsList, AppendsPairs, HadNumber, WasPage, IsDown, LeadsDown, HadLeaf, HadLeaves, HadAllLeaves, WasFirstLeaf, HadTreePairs, HadTree}

-- a number that is at hand at a moment
pub had_number : (T : Type 0) (start d : Paged) (slot : MetaSlot) (number : ℕ) → ReadsPages T start d → IsNumberIn d slot number → HadNumber T start slot number
had_number T start d slot number since is = record { meta = is.meta; read = record { moment = d; reads = since; in_hand = is.in_hand }; is = is.is }

pub was_child : (T : Type 0) (start : Paged) (count at child : ℕ) → IsDown T start count at (Child child) → WasPage T start count at (Child child)
was_child T start count at child down = elim down [ inl none ↦ absurd (cc none.other) | inr was ↦ was ]

pub was_leaf : (T : Type 0) (start : Paged) (count at : ℕ) → IsDown T start count at Leaf → WasPage T start count at Leaf
was_leaf T start count at down = elim down [ inl none ↦ absurd (cc none.other) | inr was ↦ was ]

-- one page further down
pub leads_on : (T : Type 0) (start : Paged) (count root levels from at child : ℕ) → LeadsDown T start count root levels from at → IsDown T start count at (Child child) → LeadsDown T start count root (levels + 1) at child
leads_on T start count root levels from at child leads down =
    let e : suc levels ≡ levels + 1 = omega arith in
    subst (λ n. LeadsDown T start count root n at child) e (was_child T start count at child down, from, leads)

-- no leaf was read yet
pub no_leaves : (T : Type 0) (start : Paged) (count cache first : ℕ) (was : PairsList) → AppendsPairs was was (HadLeaves T start count cache first 0 first first)
no_leaves T start count cache first was = record { more = []; appended = sym (append-nil was); are = (refl, refl, refl) }

-- one leaf more
pub leaves_more : (T : Type 0) (start : Paged) (count cache first leaves from at next : ℕ) (was now later : PairsList) → AppendsPairs was now (HadLeaves T start count cache first leaves from at) → AppendsPairs now later (HadLeaf T start count cache at next) → AppendsPairs was later (HadLeaves T start count cache first (leaves + 1) at next)
leaves_more T start count cache first leaves from at next was now later earlier leaf =
    let e : suc leaves ≡ leaves + 1 = omega arith in
    record {
      more = earlier.more ++ leaf.more;
      appended = leaf.appended ∙ ap (λ (l : PairsList). l ++ leaf.more) earlier.appended ∙ append_assoc was earlier.more leaf.more;
      are = subst (λ n. HadLeaves T start count cache first n at next (earlier.more ++ leaf.more)) e (earlier.more, leaf.more, leaf.are, refl, from, earlier.are);
    }

-- the last leaf has no next one
pub all_leaves : (T : Type 0) (start : Paged) (count cache first leaves last next : ℕ) (was now : PairsList) → next ≡ 0 → AppendsPairs was now (HadLeaves T start count cache first leaves last next) → AppendsPairs was now (HadAllLeaves T start count cache first)
all_leaves T start count cache first leaves last next was now none appends = record {
  more = appends.more;
  appended = appends.appended;
  are = record { leaves = leaves; last = last; read = subst (λ n. HadLeaves T start count cache first leaves last n appends.more) none appends.are };
}

-- the pairs of a tree
pub had_tree : (T : Type 0) (start : Paged) (cache count root first : ℕ) (was now : PairsList) (r : Result (Unit {0}) StoreFault) → HadNumber T start Pages count → root ≢ 0 → HadNumber T start (Root cache) root → WasFirstLeaf T start count root first → OnOk r (AppendsPairs was now (HadAllLeaves T start count cache first)) → OnOk r (AppendsPairs was now (HadTreePairs T start cache))
had_tree T start cache count root first was now r count_is some root_is first_is all = on_ok_weaker r
    (λ appends. record { more = appends.more; appended = appends.appended; are = record { count = count; count_is = count_is; root = root; some = some; root_is = root_is; first = first; first_is = first_is; are = appends.are } }) all

pub tree_or_none : (T : Type 0) (start : Paged) (cache : ℕ) (was now : PairsList) (r : Result (Unit {0}) StoreFault) → OnOk r (AppendsPairs was now (HadTreePairs T start cache)) → OnOk r (AppendsPairs was now (HadTree T start cache))
tree_or_none T start cache was now r some = on_ok_weaker r (λ appends. record { more = appends.more; appended = appends.appended; are = inr appends.are }) some
