-- The failures of the log part, of the writer and of the readers are counted, one after the other.
use Rattle.std.proofs.Common.{◌≡◌, ◌<◌, ◌≤◌, List, ◌∷◌, map, inl, inr, ap, arith}
use Rattle.std.specs.Prelude.{false}
use Rattle.std.proofs.lemmas.Bool.{cases_lt}
use Rattle.pm_types.specs.Counts.{HasRisen}
use Rattle.pm_disk.specs.Lending.{TakesBack}
use Rattle.pm_disk.specs.States.{DeviceState}
use Rattle.pm_disk_fs.specs.Faults.{FaultsView, JoinsFaults}
use Rattle.pm_disk_fs.specs.Parts.{PartView, ReaderView, state_of_part, state_of_reader}
use Rattle.pm_disk_fs.proofs.JoinedReaders.{faults_of_readers}

count_same : (old part new : FaultsView) → JoinsFaults old part new → part.count ≡ 0 → new.count ≡ old.count
count_same old part new joined none = ap (λ (f : FaultsView). f.count) (joined.same none)

pub takes_back : (before now : DeviceState) (log writer : PartView) (readers : List ReaderView) (was mid next last : FaultsView) → was.count ≡ before.faults → last.count ≡ now.faults → now.access ≡ record before.access { is_lent = false }
    → JoinsFaults was log.faults mid → JoinsFaults mid writer.faults next → next.count ≤ last.count → (faults_of_readers readers ≡ 0 → last.count ≡ next.count) → (0 < faults_of_readers readers → HasRisen next.count last.count)
    → TakesBack before now (state_of_part log ∷ state_of_part writer ∷ map (λ reader. state_of_reader reader) readers)
takes_back before now log writer readers was mid next last first_is last_is access log_joined writer_joined later same rose = record {
  access = access;
  later = omega (arith, first_is, last_is, log_joined.later, writer_joined.later, later);
  same = λ none. omega (arith, first_is, last_is, count_same was log.faults mid log_joined (omega (arith, none)), count_same mid writer.faults next writer_joined (omega (arith, none)), same (omega (arith, none)));
  rose = λ some. elim (cases_lt 0 log.faults.count) [
    | inl by_log ↦ omega (arith, first_is, last_is, log_joined.rose by_log, writer_joined.later, later)
    | inr no_log ↦ elim (cases_lt 0 writer.faults.count) [
      | inl by_writer ↦ omega (arith, first_is, last_is, log_joined.later, writer_joined.rose by_writer, later)
      | inr no_writer ↦ omega (arith, first_is, last_is, log_joined.later, writer_joined.later, rose (omega (arith, some, no_log, no_writer)))
    ]
  ];
}
