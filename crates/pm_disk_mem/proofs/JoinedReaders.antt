-- A host counts on after its readers, one after the other.
use Rattle.std.proofs.Common.{◌≡◌, ◌<◌, ◌≤◌, ◌+◌, ℕ, List, [], ◌∷◌, ◌++◌, map, inl, inr, refl, ◌∙◌, ap, arith}
use Rattle.std.proofs.lemmas.List.{map-append}
use Rattle.std.proofs.lemmas.Bool.{cases_lt}
use Rattle.pm_types.specs.Counts.{HasRisen}
use Rattle.pm_disk.specs.Lending.{faults_among}
use Rattle.pm_disk.specs.States.{DeviceState}
use Rattle.pm_disk_mem.specs.Plans.{KeepsPlan, IsJoined}
use Rattle.pm_disk_mem.specs.Lent.{state_of_reader}
use Rattle.pm_disk_mem.specs.declared.failures.Failures.{Failures}
use Rattle.pm_disk_mem.specs.declared.reader.MemReader.{MemReader}

-- how often calls of these readers failed
abbrev pub faults_of_readers : List MemReader → ℕ
faults_of_readers readers = faults_among (map (λ reader. state_of_reader reader) readers)

-- The host has counted on after these readers.
pub record AreJoined (old : Failures) (readers : List MemReader) (new : Failures) : Type 0 where
  pub calls : old.calls ≤ new.calls
  pub later : old.count ≤ new.count
  pub same : faults_of_readers readers ≡ 0 → new.count ≡ old.count
  pub rose : 0 < faults_of_readers readers → HasRisen old.count new.count
  pub plan : KeepsPlan old new

faults-append : (parts : List DeviceState) (part : DeviceState) → faults_among (parts ++ part ∷ []) ≡ faults_among parts + part.faults
faults-append [] part = omega arith
faults-append (first ∷ parts) part = omega (arith, faults-append parts part)

faults-push : (readers : List MemReader) (reader : MemReader) → faults_of_readers (readers ++ reader ∷ []) ≡ faults_of_readers readers + reader.failures.count
faults-push readers reader = ap faults_among (map-append (λ (r : MemReader). state_of_reader r) readers (reader ∷ [])) ∙ faults-append (map (λ r. state_of_reader r) readers) (state_of_reader reader)

-- after none
pub none_joined : (failures : Failures) → AreJoined failures [] failures
none_joined failures = record { calls = omega arith; later = omega arith; same = λ none. refl; rose = λ some. absurd (omega (arith, some)); plan = record { failing = refl; stop = refl } }

-- after one more
pub one_joined : (old mid new : Failures) (readers : List MemReader) (reader : MemReader) → AreJoined old readers mid → IsJoined mid reader.failures new → AreJoined old (readers ++ reader ∷ []) new
one_joined old mid new readers reader so_far joined =
    let count = faults-push readers reader in
    record {
      calls = omega (arith, so_far.calls, joined.calls);
      later = omega (arith, so_far.later, joined.later);
      same = λ none. omega (arith, so_far.same (omega (arith, none, count)), joined.same (omega (arith, none, count)));
      rose = λ some. elim (cases_lt 0 (faults_of_readers readers)) [
        | inl before ↦ omega (arith, so_far.rose before, joined.later)
        | inr none ↦ omega (arith, so_far.later, joined.rose (omega (arith, some, none, count)))
      ];
      plan = record { failing = joined.plan.failing ∙ so_far.plan.failing; stop = joined.plan.stop ∙ so_far.plan.stop };
    }
