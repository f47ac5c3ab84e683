-- Lists that are merged give all their pairs, by rising key.
use Rattle.std.proofs.Common.{◌≡◌, ℕ, ◌<◌, ◌^◌, List, [], ◌∷◌, map, true, sym, subst, ◌∙◌}
use Rattle.std.specs.Prelude.{Vec, All, Option, Result, IfOk}
use Rattle.std.specs.Global.{Global}
use Rattle.std.specs.Vec.{vec_len}
use Rattle.std.specs.Vec.Iter.{into_iter_items, into_iter_len, into_iter_steps}
use Rattle.std.specs.declared.vec.IntoIter.{IntoIter}
use Rattle.std.specs.Iterator.{DrainsIf}
use Rattle.std.specs.Iterator.Runs.{Run, YieldsRun, EveryRun, ItemsAre}
use Rattle.std.proofs.lemmas.Iterator.Adapters.{YieldsList-from_vec}
use Rattle.std.proofs.lemmas.Result.{IfOk-weaker}
use Rattle.std.proofs.lemmas.List.Elements.{All-map}
use Rattle.itertools.specs.KMerge.{SourcesGive}
use Rattle.pm_engine.specs.Merges.{HasRisingKeys}

-- the iterator over a list
abbrev pub Gives : Vec (List ℕ × List ℕ) Global → IntoIter (List ℕ × List ℕ) Global → Type 0
Gives v r = (into_iter_items r ≡ v.items) × (into_iter_len r ≡ vec_len v) × (into_iter_len r < 2 ^ 64) × EveryRun (into_iter_steps {X = List ℕ × List ℕ} {Z = Global}) (λ p. ItemsAre p (into_iter_items p.from))

-- it gives the pairs of each list
pub sources : (lists : List (Vec (List ℕ × List ℕ) Global)) → SourcesGive Gives (into_iter_steps {X = List ℕ × List ℕ} {Z = Global}) lists (map (λ list. list.items) lists)
sources [] = tt
sources (list ∷ lists) = (
  λ j given. (YieldsList-from_vec list.items given.0 (given.1 ∙ list.ok.0)).runs,
  sources lists,
)

-- also where the lists are these
pub sources_of : (us lists : List (Vec (List ℕ × List ℕ) Global)) → us ≡ lists → SourcesGive Gives (into_iter_steps {X = List ℕ × List ℕ} {Z = Global}) us (map (λ list. list.items) lists)
sources_of us lists same = subst (λ (ls : List (Vec (List ℕ × List ℕ) Global)). SourcesGive Gives (into_iter_steps {X = List ℕ × List ℕ} {Z = Global}) ls (map (λ list. list.items) lists)) (sym same) (sources lists)

-- the calls that a run stands for
pub run_drains : {S A : Type 0} (steps : S → Option A → S → Type 0) (s : S) (p : Run steps) → p.from ≡ s → DrainsIf steps (p.whole ≡ true) s p.items
unfolding YieldsRun
run_drains {S} {A} steps s p from = subst (λ (t : S). DrainsIf steps (p.whole ≡ true) t p.items) from p.gave.0

pub all_rising : (lists : List (Vec (List ℕ × List ℕ) Global)) → All (λ (list : Vec (List ℕ × List ℕ) Global). HasRisingKeys list.items) lists → All HasRisingKeys (map (λ list. list.items) lists)
all_rising lists all = All-map HasRisingKeys (λ (list : Vec (List ℕ × List ℕ) Global). list.items) lists all

-- what follows where a call succeeded
pub ok_then : {X Y : Type 0} (r : Result X Y) (P Q : X → Type 0) → IfOk r P → ((x : X) → P x → Q x) → IfOk r Q
ok_then r P Q is follows = IfOk-weaker r P Q follows is
