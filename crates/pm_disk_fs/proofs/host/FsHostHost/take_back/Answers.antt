-- The failures of all parts were counted.
use Rattle.std.proofs.Common.{◌≡◌, ◌<◌, refl, subst, true, ◌∷◌, List, map}
use Rattle.std.specs.Prelude.{false, option_map}
use Rattle.std.specs.String.{string_bytes}
use Rattle.pm_disk.specs.Lending.{TakesBack}
use Rattle.pm_disk.specs.States.{DeviceState}
use Rattle.pm_disk_fs.specs.Faults.{JoinsFaults}
use Rattle.pm_disk_fs.specs.Host.{HostView, state_of}
use Rattle.pm_disk_fs.specs.Parts.{PartView, ReaderView, state_of_part, state_of_reader}
use Rattle.pm_types.specs.Counts.{HasRisen}
use Rattle.pm_disk_fs.proofs.JoinedReaders.{faults_of_readers}
use Rattle.pm_disk_fs.proofs.TakingBack.{takes_back}
use Rattle.pm_disk_fs.proofs.host.FsHostHost.take_back.Goals as goal

pub returns-clause-returns : goal.returns-clause-returns
returns-clause-returns g c =
    let inside = c.self.inside in
    let lent = c.args.lent in
    let now : DeviceState = record {
      faults = c.join_readers.new.faults.count;
      access = record { folder = option_map string_bytes inside.folder.dir; is_lent = false; reads = λ _. true; writes = λ _. true; made = inside.folder.made };
    } in
    let was : DeviceState = record {
      faults = inside.faults.count;
      access = record { folder = option_map string_bytes inside.folder.dir; is_lent = inside.is_lent; reads = λ _. true; writes = λ _. true; made = inside.folder.made };
    } in
    subst (λ (h : HostView). TakesBack (state_of h) now (state_of_part lent.log ∷ state_of_part lent.writer ∷ map (λ reader. state_of_reader reader) lent.readers.items)) c.self.view_is
    (takes_back was now lent.log lent.writer lent.readers.items inside.faults c.join.new.self c.join-2.new.self c.join_readers.new.faults refl refl refl
    (subst (λ (p : PartView). JoinsFaults inside.faults p.faults c.join.new.self) c.log.view_is c.join.ensures)
    (subst (λ (p : PartView). JoinsFaults c.join.new.self p.faults c.join-2.new.self) c.writer.view_is c.join-2.ensures)
    c.join_readers.ensures.later
    (subst (λ (l : List ReaderView). faults_of_readers l ≡ 0 → c.join_readers.new.faults.count ≡ c.join-2.new.self.count) c.deref.ensures.value c.join_readers.ensures.same)
    (subst (λ (l : List ReaderView). 0 < faults_of_readers l → HasRisen c.join-2.new.self.count c.join_readers.new.faults.count) c.deref.ensures.value c.join_readers.ensures.rose))
