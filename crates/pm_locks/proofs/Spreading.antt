-- A seat is split, a worker's number after the other.
use Rattle.std.proofs.Common.{◌≡◌, ℕ, ◌+◌, ◌<◌, List, [], ◌∷◌, ◌++◌, true, ap, sym, refl, ◌∙◌, subst, ⊎_elim}
use Rattle.std.proofs.lemmas.List.{length-append}
use Rattle.pm_locks.specs.declared.view.Numbers.{Numbers}
use Rattle.pm_locks.specs.declared.view.Met.{Met}
use Rattle.pm_locks.specs.declared.view.View.{View}
use Rattle.pm_locks.specs.Sight.{Sight, LockTable, IsSeatOf}
use Rattle.pm_locks.specs.Views.{is_among, IsWhole, IsStill, worker_alone}
use Rattle.pm_locks.specs.Shares.{least_of, others_of, share_of, what_stays, what_goes, IsShare}
use Rattle.pm_locks.specs.Rounds.{AreWorkers, IsWorkers}
use Rattle.pm_locks.proofs.Sharing.{own_entries, own_dues, least_in, others_in}
use Rattle.pm_locks.proofs.Pushing.{slice_get-pushed}

-- the workers' numbers from n on, and the flusher's
abbrev pub numbers_from : ℕ → ℕ → Numbers
numbers_from n workers = record { from = n; upto = workers; flusher = true }

-- n workers have their seats, and the others' numbers are left
pub record HasSpread (locks : LockTable) (old : Sight) (n : ℕ) (seat : Sight) (given : List Sight) : Type 0 where
  pub of : IsSeatOf locks seat
  pub share : IsShare old.view (numbers_from n locks.workers) seat.view
  pub met : seat.view.met ≡ old.view.met
  pub workers : AreWorkers locks old.view n given

-- a share of a share
share_again : (old v : View) (l m : Numbers) (met : List Met) → IsShare old l v → ((n : ℕ) → is_among m n ≡ true → is_among l n ≡ true) → IsShare old m (share_of m v met)
share_again old v l m met x sub = record {
  has = refl;
  staff = x.staff;
  still = λ f. refl;
  entries = λ n f h. own_entries m v.entries n f h ∙ x.entries n f (sub n h);
  dues = λ f h. own_dues m v.dues f h ∙ x.dues f (sub 8 h);
}

share_at : (old v w : View) (l m : Numbers) (met : List Met) → IsShare old l v → ((n : ℕ) → is_among m n ≡ true → is_among l n ≡ true) → w ≡ share_of m v met → IsShare old m w
share_at old v w l m met x sub is = subst (IsShare old m) (sym is) (share_again old v l m met x sub)

pub spreads_first : (locks : LockTable) (old : Sight) → IsSeatOf locks old → IsWhole old.view → IsStill old.view → HasSpread locks old 0 old []
spreads_first locks old of whole still = record {
  of = of;
  share = record { has = whole ∙ ap (numbers_from 0) of.staff; staff = refl; still = still; entries = λ n f h. refl; dues = λ f h. refl };
  met = refl;
  workers = record { many = refl; each = λ n seat e. absurd (cc e) };
}

pub spreads_next : (locks : LockTable) (old : Sight) (n : ℕ) (seat seat' new : Sight) (given : List Sight) → HasSpread locks old n seat given → n < locks.workers
    → IsSeatOf locks seat' → seat'.view ≡ what_stays seat.view → IsSeatOf locks new → new.view ≡ what_goes seat.view
    → HasSpread locks old (n + 1) seat' (given ++ new ∷ [])
spreads_next locks old n seat seat' new given s lt of stays of' goes =
    let l = numbers_from n locks.workers in
    let stays' : seat'.view ≡ share_of (others_of l) seat.view seat.view.met = stays ∙ ap (λ m. share_of (others_of m) seat.view seat.view.met) s.share.has in
    let goes' : new.view ≡ share_of (least_of l) seat.view [] = goes ∙ ap (λ m. share_of (least_of m) seat.view []) s.share.has in
    let share' : IsShare old.view (worker_alone n) new.view = share_at old.view seat.view new.view l (least_of l) [] s.share (least_in l lt) goes' in record {
      of = of;
      share = share_at old.view seat.view seat'.view l (others_of l) seat.view.met s.share (others_in l) stays';
      met = ap (λ (v : View). v.met) stays ∙ s.met;
      workers = record {
        many = length-append given (new ∷ []) ∙ ap (λ k. k + 1) s.workers.many;
        each = λ k w e. ⊎_elim (s.workers.each k w)
            (λ t. let at : n ≡ k = sym (t.0 ∙ s.workers.many) in subst (λ (p : ℕ × Sight). IsWorkers locks p.0 p.1 × IsShare old.view (worker_alone p.0) p.1.view × (p.1.view.met ≡ [])) (λ i. (at i, t.1 i))
            (record { of = of'; alone = share'.has; still = share'.still }, share', ap (λ (v : View). v.met) goes))
            (slice_get-pushed given new w k e);
      };
    }
