-- What calls keep of what a seat knows holds over several.
use Rattle.std.proofs.Common.{refl, sym, ◌∙◌, ◌≡◌, subst}
use Rattle.pm_locks.specs.declared.view.View.{View}
use Rattle.pm_locks.specs.Sight.{LockTable}
use Rattle.pm_stripe.specs.Sights.{KeepsSight}

pub sight_refl : (locks : LockTable) (v : View) → KeepsSight locks v v
sight_refl locks v = record { numbers = refl; knows = λ is. is; settled = λ is. is }

pub sight_then : (locks : LockTable) (u v w : View) → KeepsSight locks u v → KeepsSight locks v w
    → KeepsSight locks u w
sight_then locks u v w a b = record {
  numbers = b.numbers ∙ a.numbers;
  knows = λ is. b.knows (a.knows is);
  settled = λ is. b.settled (a.settled is);
}

-- a seat that knows the same as before
pub sight_same : (locks : LockTable) (u v w : View) → w ≡ v → KeepsSight locks u v → KeepsSight locks u w
sight_same locks u v w same = subst (KeepsSight locks u) (sym same)
