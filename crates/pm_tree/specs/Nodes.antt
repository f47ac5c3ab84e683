-- Trees over what their pages say, without a byte.
use Rattle.std.specs.Prelude.{◌≡◌, ℕ, zero, suc, ◌/◌, ◌≤◌, List, [], ◌∷◌, map, length, Option, None, Some}
use Rattle.std.specs.List.{flat_map}
use Rattle.pm_btpage.specs.declared.layout.TheConstants.{LEAF_KIND, INNER_KIND}
use Rattle.pm_btpage.specs.IndexPages.{Item, items_of, index_of, capacity_of, IsBelow}
use Rattle.pm_pages.specs.Rows.{Partition, page_at, kind_of}
use Rattle.pm_pages.specs.Trees.{index_in}

-- what holds of each key
abbrev pub Keys : (List ℕ → Type 0) → List Item → Type 0
Keys P [] = Unit {0}
Keys P (item ∷ items) = P item.key × Keys P items

-- what a page says, and half of what it has room for
pub record Node : Type 0 where
  pub kind : ℕ
  pub link : ℕ
  pub items : List Item
  pub half : ℕ

abbrev pub node_of : List ℕ → Node
node_of page = record {
  kind = kind_of page;
  link = (index_of page).link;
  items = items_of page;
  half = capacity_of (length page) / 2;
}

abbrev pub nodes_in : Partition → (ℕ → Node)
nodes_in pages i = node_of (page_at pages i)

-- a child, and the key that no key below it is below
pub record Entry : Type 0 where
  pub from : Option (List ℕ)
  pub child : ℕ

abbrev pub entry : Item → Entry
entry item = record { from = Some item.key; child = index_in item.word }

abbrev pub first_entry : ℕ → Entry
first_entry link = record { from = None; child = index_in link }

abbrev pub entries : Node → List Entry
entries node = first_entry node.link ∷ map entry node.items

abbrev pub items_under : (ℕ → Node) → ℕ → ℕ → List Item
items_under N zero at = (N at).items
items_under N (suc levels) at = flat_map (λ e. items_under N levels e.child) (entries (N at))

abbrev pub leaves_under : (ℕ → Node) → ℕ → ℕ → List ℕ
leaves_under N zero at = at ∷ []
leaves_under N (suc levels) at = flat_map (λ e. leaves_under N levels e.child) (entries (N at))

abbrev pub nodes_under : (ℕ → Node) → ℕ → ℕ → List ℕ
nodes_under N zero at = at ∷ []
nodes_under N (suc levels) at = at ∷ flat_map (λ e. nodes_under N levels e.child) (entries (N at))

-- the key isn't below this one, if there is one
abbrev pub IsFrom : Option (List ℕ) → List ℕ → Type 0
IsFrom None key = Unit {0}
IsFrom (Some from) key = IsBelow key from → ⊥

-- the key is below this one, if there is one
abbrev pub IsUpTo : Option (List ℕ) → List ℕ → Type 0
IsUpTo None key = Unit {0}
IsUpTo (Some end) key = IsBelow key end

-- where the keys end that stand before these entries
abbrev pub end_before : List Entry → Option (List ℕ) → Option (List ℕ)
end_before [] end = end
end_before (e ∷ es) end = e.from

-- the keys below each child lie within its bounds
abbrev pub AreBounded : (ℕ → List Item) → List Entry → Option (List ℕ) → Type 0
AreBounded f [] end = Unit {0}
AreBounded f (e ∷ es) end = Keys (IsFrom e.from) (f e.child)
    × Keys (IsUpTo (end_before es end)) (f e.child) × AreBounded f es end

abbrev pub Each : (ℕ → Type 0) → List Entry → Type 0
Each P [] = Unit {0}
Each P (e ∷ es) = P e.child × Each P es

pub record IsPlain (N : ℕ → Node) (kind least at : ℕ) : Type 0 where
  pub kind_is : (N at).kind ≡ kind
  pub full : least ≤ length (N at).items

-- a tree
abbrev pub IsTreeIn : (ℕ → Node) → ℕ → ℕ → ℕ → Type 0
IsTreeIn N zero least at = IsPlain N LEAF_KIND least at
IsTreeIn N (suc levels) least at =
    IsPlain N INNER_KIND least at
    × Each (IsTreeIn N levels (N at).half) (entries (N at))
    × AreBounded (items_under N levels) (entries (N at)) None

-- the first of these, or what follows
abbrev pub first_or : List ℕ → ℕ → ℕ
first_or [] after = after
first_or (i ∷ is) after = i

-- each leaf names the next, and the last one names what follows
abbrev pub AreLinkedTo : (ℕ → Node) → List ℕ → ℕ → Type 0
AreLinkedTo N [] after = Unit {0}
AreLinkedTo N (leaf ∷ leaves) after = ((N leaf).link ≡ first_or leaves after) × AreLinkedTo N leaves after
