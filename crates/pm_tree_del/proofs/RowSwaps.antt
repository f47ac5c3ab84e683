-- A row of trees in place of another, among the entries of an inner page.
use Rattle.std.proofs.Common.{◌≡◌, ℕ, ◌+◌, ◌≤◌, List, ◌∷◌, ◌++◌, sym, ap, subst, ◌∙◌, arith}
use Rattle.std.specs.Prelude.{Option}
use Rattle.pm_pages.specs.Chains.{times}
use Rattle.pm_tree.specs.Nodes.{Node, Entry, items_under, leaves_under, nodes_under, end_before, AreBounded, first_or, AreLinkedTo}
use Rattle.pm_tree.specs.Puts.{flat}
use Rattle.pm_tree.proofs.Seams.{flat_joined}
use Rattle.pm_tree.proofs.RowPuts.{bounds_apart, bounds_joined}
use Rattle.pm_pages.proofs.ChainWalks.{times-append}
use Rattle.pm_tree.proofs.Frames.{flat_leaves_stay, flat_nodes_stay, bounds_stay, links_stay, flat_leaves_few, first_joined, linked_apart, linked_joined}

-- The entries E' of the pages M in place of the entries E of the pages N, up to a key. The pages `given` are in the
-- row no more.
pub record RowSwap (N M : ℕ → Node) (h : ℕ) (E E' : List Entry) (end : Option (List ℕ)) (given : List ℕ) : Type 0 where
  pub bounds : AreBounded (items_under N h) E end → AreBounded (items_under M h) E' end
  pub linked : (after : ℕ) → AreLinkedTo N (flat (leaves_under N h) E) after → AreLinkedTo M (flat (leaves_under M h) E') after
  pub first : (after : ℕ) → first_or (flat (leaves_under M h) E') after ≡ first_or (flat (leaves_under N h) E) after
  pub nodes : (j : ℕ) → times j (flat (nodes_under M h) E') + times j given ≡ times j (flat (nodes_under N h) E)

pub swap_then : (N M L : ℕ → Node) (h : ℕ) (E E' E'' : List Entry) (end : Option (List ℕ)) (given given' : List ℕ) → RowSwap N M h E E' end given → RowSwap M L h E' E'' end given' → RowSwap N L h E E'' end (given' ++ given)
swap_then N M L h E E' E'' end given given' x y = record {
  bounds = λ b. y.bounds (x.bounds b);
  linked = λ after l. y.linked after (x.linked after l);
  first = λ after. y.first after ∙ x.first after;
  nodes = λ j. omega (arith, x.nodes j, y.nodes j, times-append j given' given);
}

-- a row that begins with the same entry, within others that stay
module _ (N M : ℕ → Node) (h : ℕ) (A : List Entry) (e : Entry) (rest rest' C : List Entry) (end : Option (List ℕ)) (given : List ℕ)
    (swap : RowSwap N M h (e ∷ rest) (e ∷ rest') (end_before C end) given)
    (same_A : (j : ℕ) → 1 ≤ times j (flat (nodes_under N h) A) → M j ≡ N j) (same_C : (j : ℕ) → 1 ≤ times j (flat (nodes_under N h) C) → M j ≡ N j) where
  abbrev S : List Entry
  S = e ∷ rest

  abbrev S' : List Entry
  S' = e ∷ rest'

  flat3 : {X : Type 0} (f : ℕ → List X) (R : List Entry) → flat f (A ++ (R ++ C)) ≡ flat f A ++ (flat f R ++ flat f C)
  flat3 f R = flat_joined f A (R ++ C) ∙ ap (λ t. flat f A ++ t) (flat_joined f R C)

  leaves_A : (j : ℕ) → 1 ≤ times j (flat (leaves_under N h) A) → M j ≡ N j
  leaves_A j some = same_A j (omega (arith, some, flat_leaves_few N h A j))

  leaves_C : (j : ℕ) → 1 ≤ times j (flat (leaves_under N h) C) → M j ≡ N j
  leaves_C j some = same_C j (omega (arith, some, flat_leaves_few N h C j))

  leaves_new : flat (leaves_under M h) (A ++ ((e ∷ rest') ++ C)) ≡ flat (leaves_under N h) A ++ (flat (leaves_under M h) (e ∷ rest') ++ flat (leaves_under N h) C)
  leaves_new = flat3 (leaves_under M h) (e ∷ rest')
      ∙ ap (λ t. t ++ (flat (leaves_under M h) (e ∷ rest') ++ flat (leaves_under M h) C)) (flat_leaves_stay N M h A same_A)
      ∙ ap (λ t. flat (leaves_under N h) A ++ (flat (leaves_under M h) (e ∷ rest') ++ t)) (flat_leaves_stay N M h C same_C)

  pub swap_within : RowSwap N M h (A ++ ((e ∷ rest) ++ C)) (A ++ ((e ∷ rest') ++ C)) end given
  swap_within = record {
    bounds = λ b.
        let one = bounds_apart (items_under N h) A (S ++ C) end b in
        let two = bounds_apart (items_under N h) S C end one.1 in
        bounds_joined (items_under M h) A (S' ++ C) end (bounds_stay N M h A e.from same_A one.0)
        (bounds_joined (items_under M h) S' C end (swap.bounds two.0) (bounds_stay N M h C end same_C two.1));
    linked = λ after linked.
        let La = flat (leaves_under N h) A in
        let Ls = flat (leaves_under N h) (e ∷ rest) in
        let Lz = flat (leaves_under N h) C in
        let Lr = flat (leaves_under M h) (e ∷ rest') in
        let whole : AreLinkedTo N (La ++ (Ls ++ Lz)) after = subst (λ t. AreLinkedTo N t after) (flat3 (leaves_under N h) (e ∷ rest)) linked in
        let one = linked_apart N La (Ls ++ Lz) after whole in
        let two = linked_apart N Ls Lz after one.1 in
        let same_first : first_or (Ls ++ Lz) after ≡ first_or (Lr ++ Lz) after = first_joined Ls Lz after ∙ sym (swap.first (first_or Lz after)) ∙ sym (first_joined Lr Lz after) in
        subst (λ t. AreLinkedTo M t after) (sym leaves_new)
        (linked_joined M La (Lr ++ Lz) after (subst (AreLinkedTo M La) same_first (links_stay N M La (first_or (Ls ++ Lz) after) leaves_A one.0))
        (linked_joined M Lr Lz after (swap.linked (first_or Lz after) two.0) (links_stay N M Lz after leaves_C two.1)));
    first = λ after.
        let La = flat (leaves_under N h) A in
        let Ls = flat (leaves_under N h) (e ∷ rest) in
        let Lz = flat (leaves_under N h) C in
        let Lr = flat (leaves_under M h) (e ∷ rest') in
        ap (λ t. first_or t after) leaves_new ∙ first_joined La (Lr ++ Lz) after
        ∙ ap (λ n. first_or La n) (first_joined Lr Lz after ∙ swap.first (first_or Lz after) ∙ sym (first_joined Ls Lz after))
        ∙ sym (first_joined La (Ls ++ Lz) after) ∙ ap (λ t. first_or t after) (sym (flat3 (leaves_under N h) (e ∷ rest)));
    nodes = λ j.
        let a = times-append j (flat (nodes_under M h) A) (flat (nodes_under M h) (e ∷ rest') ++ flat (nodes_under M h) C) in
        let b = times-append j (flat (nodes_under M h) (e ∷ rest')) (flat (nodes_under M h) C) in
        let a' = times-append j (flat (nodes_under N h) A) (flat (nodes_under N h) (e ∷ rest) ++ flat (nodes_under N h) C) in
        let b' = times-append j (flat (nodes_under N h) (e ∷ rest)) (flat (nodes_under N h) C) in
        let z = ap (λ t. times j t) (flat3 (nodes_under M h) (e ∷ rest')) in
        let z' = ap (λ t. times j t) (flat3 (nodes_under N h) (e ∷ rest)) in
        let x = ap (λ t. times j t) (flat_nodes_stay N M h A same_A) in
        let y = ap (λ t. times j t) (flat_nodes_stay N M h C same_C) in
        omega (arith, a, b, a', b', z, z', x, y, swap.nodes j);
  }
