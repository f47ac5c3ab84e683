-- A host counts the failures of its readers, one after the other.
use Rattle.std.proofs.Common.{◌≡◌, ◌<◌, ◌≤◌, ◌+◌, ℕ, List, [], ◌∷◌, ◌++◌, map, inl, inr, refl, sym, ◌∙◌, ap, subst, arith}
use Rattle.std.specs.Prelude.{Option, IsSome}
use Rattle.std.proofs.lemmas.List.{map-append}
use Rattle.std.proofs.lemmas.Bool.{cases_lt}
use Rattle.pm_types.specs.Counts.{HasRisen}
use Rattle.pm_disk.specs.Lending.{faults_among}
use Rattle.pm_disk.specs.States.{DeviceState}
use Rattle.pm_disk_fs.specs.Faults.{FaultsView, JoinsFaults}
use Rattle.pm_disk_fs.specs.Parts.{ReaderView, state_of_reader}
use Rattle.pm_disk_fs.specs.declared.failure.Failure.{Failure}

-- how often calls of these readers failed
abbrev pub faults_of_readers : List ReaderView → ℕ
faults_of_readers readers = faults_among (map (λ reader. state_of_reader reader) readers)

-- The failures of these readers were counted.
pub record AreJoined (old : FaultsView) (readers : List ReaderView) (new : FaultsView) : Type 0 where
  pub later : old.count ≤ new.count
  pub same : faults_of_readers readers ≡ 0 → new.count ≡ old.count
  pub rose : 0 < faults_of_readers readers → HasRisen old.count new.count
  pub kept : IsSome old.first → new.first ≡ old.first

faults-append : (parts : List DeviceState) (part : DeviceState) → faults_among (parts ++ part ∷ []) ≡ faults_among parts + part.faults
faults-append [] part = omega arith
faults-append (first ∷ parts) part = omega (arith, faults-append parts part)

faults-push : (readers : List ReaderView) (reader : ReaderView) → faults_of_readers (readers ++ reader ∷ []) ≡ faults_of_readers readers + reader.faults.count
faults-push readers reader = ap faults_among (map-append (λ (r : ReaderView). state_of_reader r) readers (reader ∷ [])) ∙ faults-append (map (λ r. state_of_reader r) readers) (state_of_reader reader)

-- after none
pub none_joined : (faults : FaultsView) → AreJoined faults [] faults
none_joined faults = record { later = omega arith; same = λ none. refl; rose = λ some. absurd (omega (arith, some)); kept = λ is. refl }

-- after one more
pub one_joined : (old mid new : FaultsView) (readers : List ReaderView) (reader : ReaderView) → AreJoined old readers mid → JoinsFaults mid reader.faults new → AreJoined old (readers ++ reader ∷ []) new
one_joined old mid new readers reader so_far joined =
    let count = faults-push readers reader in
    record {
      later = omega (arith, so_far.later, joined.later);
      same = λ none. ap (λ (f : FaultsView). f.count) (joined.same (omega (arith, none, count))) ∙ so_far.same (omega (arith, none, count));
      rose = λ some. elim (cases_lt 0 (faults_of_readers readers)) [
        | inl before ↦ omega (arith, so_far.rose before, joined.later)
        | inr none ↦ omega (arith, so_far.later, joined.rose (omega (arith, some, none, count)))
      ];
      kept = λ is. joined.kept (subst (λ (o : Option Failure). IsSome o) (sym (so_far.kept is)) is) ∙ so_far.kept is;
    }
