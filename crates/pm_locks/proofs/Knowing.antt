-- A seat that stands for all numbers and knows each frame's word still does after each step.
use Rattle.std.proofs.Common.{◌≡◌, ℕ, ◌+◌, ◌<◌, List, ◌∷◌, length, map, get_or, cond, eq-eqb, sym, refl, ap, ◌∙◌, subst, arith, Option, Some, None}
use Rattle.std.specs.List.{slice_get}
use Rattle.std.proofs.lemmas.List.{length-map}
use Rattle.std.proofs.lemmas.Option.{slice_get-get_or}
use mathlib.Core.Logic.{dite}
use native.Mathlib.Decide.{ℕ_discrete}
use Rattle.pm_region.specs.Lease.{Leased}
use Rattle.pm_locks.specs.Words.{LockWord}
use Rattle.pm_locks.specs.declared.view.View.{View}
use Rattle.pm_locks.specs.declared.view.Met.{Met}
use Rattle.pm_locks.specs.Views.{IsWhole, all_numbers, word_at, word_or, known_at}
use Rattle.pm_locks.specs.Sight.{LockTable, KnowsAll}
use Rattle.pm_locks.specs.Opening.{first_word, first_words, first_view}
use Rattle.pm_locks.specs.Rounds.{HasReread}
use Rattle.pm_locks.proofs.Looks.{word_past}
use Rattle.pm_locks.proofs.Facts.{first_known}

-- a word that is there is the one that is known
pub known_is : (view : View) (f : ℕ) (w : LockWord) → word_at view.words f ≡ Some w → word_at view.words f ≡ Some (known_at view f)
known_is view f w at = at ∙ ap (λ (o : Option LockWord). Some (word_or o)) (sym at)

-- a step leaves a word at one frame, and the seat its numbers
pub knows_after : (locks : LockTable) (v v' : View) (f : ℕ) (w : LockWord) → v'.numbers ≡ v.numbers → v'.workers ≡ v.workers → v'.words ≡ (f, w) ∷ v.words → KnowsAll locks v → KnowsAll locks v'
knows_after locks v v' f w numbers workers words k = record {
  whole = numbers ∙ k.whole ∙ ap all_numbers (sym workers);
  each = λ g lt. dite (ℕ_discrete g f)
      (λ e. known_is v' g w (ap (λ l. word_at l g) words ∙ ap (λ z. word_at ((f, w) ∷ v.words) z) e ∙ ap (λ b. cond b (Some w) (word_at v.words f)) (eq-eqb f f refl)))
      (λ ne. known_is v' g (known_at v g) (ap (λ l. word_at l g) words ∙ word_past v.words f w g ne ∙ k.each g lt));
}

known_first : (workers f : ℕ) (leases : List Leased) → f < length leases → word_at (first_words workers 0 leases) f ≡ Some (first_word workers f)
known_first workers f leases lt = let e : 0 + f ≡ f = omega arith in
    subst (λ g. word_at (first_words workers 0 leases) g ≡ Some (first_word workers g)) e (first_known workers 0 f leases lt)

-- the first seat knows them
pub knows_first : (locks : LockTable) (view : View) (workers : ℕ) (leases : List Leased) → locks.ranges ≡ map (λ y. y.range) leases → view ≡ first_view workers leases → KnowsAll locks view
knows_first locks view workers leases ranges is = record {
  whole = ap (λ (v : View). v.numbers) is ∙ ap all_numbers (sym (ap (λ (v : View). v.workers) is));
  each = λ f lt. known_is view f (first_word workers f) (ap (λ (v : View). word_at v.words f) is ∙ known_first workers f leases (subst (λ n. f < n) (ap length ranges ∙ length-map leases (λ y. y.range)) lt));
}

-- and the seat that was put together
pub knows_gathered : (locks : LockTable) (met : List Met) (view : View) → IsWhole view → HasReread (length locks.ranges) met view → KnowsAll locks view
knows_gathered locks met view whole x = record {
  whole = whole;
  each = λ f lt.
      let w = get_or x.words f (word_or None) in
      let at : slice_get x.words f ≡ Some w = slice_get-get_or x.words f (word_or None) (let c = x.count in omega arith) in
      known_is view f w (x.known f w at).at;
}
