-- Where a key stands among items.
use Rattle.std.specs.Prelude.{◌≡◌, ℕ, ◌<◌, List, length}
use Rattle.pm_btpage.specs.IndexPages.{Item, key_in, IsBetween}
use Rattle.pm_btpage.specs.declared.search.Found.{Found}
use Rattle.pm_btpage.specs.declared.search.Found.TheVariants.{At, Before}

-- the key stands at i
pub record IsAt (items : List Item) (key : List ℕ) (i : ℕ) : Type 0 where
  pub in_range : i < length items
  pub has_key : key_in items i ≡ key

abbrev pub FindsIn : List Item → List ℕ → Found → Type 0
FindsIn items key (At i) = IsAt items key i
FindsIn items key (Before i) = IsBetween items key i
