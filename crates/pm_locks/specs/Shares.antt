-- How numbers, with what is known of them, go from one seat to another.
use Rattle.std.specs.Prelude.{◌≡◌, ℕ, ◌+◌, ◌<◌, ◌≤◌, ◌++◌, List, [], ◌∷◌, if◌then◌else◌, true, false, None}
use Rattle.pm_locks.specs.Words.{FLUSHER}
use Rattle.pm_locks.specs.declared.view.Numbers.{Numbers}
use Rattle.pm_locks.specs.declared.view.Entry.{Entry}
use Rattle.pm_locks.specs.declared.view.Due.{Due}
use Rattle.pm_locks.specs.declared.view.Met.{Met}
use Rattle.pm_locks.specs.declared.view.View.{View}
use Rattle.pm_locks.specs.Views.{entry_at, due_at, is_among, Has, IsStill}

-- the entries of these numbers
abbrev pub entries_of : Numbers → List Entry → List Entry
entries_of numbers [] = []
entries_of numbers (e ∷ es) =
    if is_among numbers e.number then e ∷ entries_of numbers es else entries_of numbers es

-- the images, where the flusher is one of these numbers
abbrev pub dues_of : Numbers → List (ℕ × Due) → List (ℕ × Due)
dues_of numbers dues = if is_among numbers FLUSHER then dues else []

-- what a seat with these numbers is given of a seat with nothing out
abbrev pub share_of : Numbers → View → List Met → View
share_of numbers v met = record {
  workers = v.workers;
  leases = v.leases;
  numbers = numbers;
  entries = entries_of numbers v.entries;
  outs = [];
  dues = dues_of numbers v.dues;
  words = [];
  hand = None;
  met = met;
}

-- the least worker's number, and the others
abbrev pub least_of : Numbers → Numbers
least_of numbers = record { from = numbers.from; upto = numbers.from + 1; flusher = false }

abbrev pub others_of : Numbers → Numbers
others_of numbers = record { from = numbers.from + 1; upto = numbers.upto; flusher = numbers.flusher }

-- a split: what stays, and what the new seat is given
abbrev pub what_stays : View → View
what_stays v = share_of (others_of v.numbers) v v.met

abbrev pub what_goes : View → View
what_goes v = share_of (least_of v.numbers) v []

-- a join of a seat of workers' numbers into the one whose workers' numbers follow
abbrev pub joined : View → View → View
joined v w = record {
  workers = v.workers;
  leases = w.leases;
  numbers = record { from = w.numbers.from; upto = v.numbers.upto; flusher = v.numbers.flusher };
  entries = v.entries ++ w.entries;
  outs = [];
  dues = v.dues;
  words = [];
  hand = None;
  met = v.met;
}

-- a seat that is spent
abbrev pub nobody : View
nobody = record {
  workers = 0;
  leases = [];
  numbers = record { from = 0; upto = 0; flusher = false };
  entries = [];
  outs = [];
  dues = [];
  words = [];
  hand = None;
  met = [];
}

-- the numbers of the second follow those of the first, which hasn't the flusher's
pub record AreAdjacent (first second : Numbers) : Type 0 where
  pub some : first.from < first.upto
  pub meets : first.upto ≡ second.from
  pub rest : second.from ≤ second.upto
  pub few : second.upto ≤ FLUSHER
  pub alone : first.flusher ≡ false

-- a view has the entries that two others had of their numbers
pub record HasBoth (v w both : View) : Type 0 where
  pub firsts : (n f : ℕ) → Has v n → entry_at both.entries n f ≡ entry_at v.entries n f
  pub seconds : (n f : ℕ) → Has w n → entry_at both.entries n f ≡ entry_at w.entries n f

-- a view has what another one had of these numbers, and nothing out
pub record IsShare (old : View) (numbers : Numbers) (share : View) : Type 0 where
  pub has : share.numbers ≡ numbers
  pub staff : share.workers ≡ old.workers
  pub still : IsStill share
  pub entries : (n f : ℕ) → is_among numbers n ≡ true
      → entry_at share.entries n f ≡ entry_at old.entries n f
  pub dues : (f : ℕ) → is_among numbers FLUSHER ≡ true
      → due_at share.dues f ≡ due_at old.dues f
