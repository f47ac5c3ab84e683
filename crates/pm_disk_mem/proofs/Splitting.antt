-- Parts that were lent just now have what the host has.
use Rattle.std.proofs.Common.{◌≡◌, ℕ, List, [], length, refl, ◌∙◌, ap}
use Rattle.std.specs.Prelude.{false, not}
use Rattle.std.specs.Arc.{arc_value}
use Rattle.pm_types.specs.declared.page_id.PageId.{PageId}
use Rattle.pm_disk.specs.Files.{File}
use Rattle.pm_disk.specs.Lending.{is_among, reader_lent, writer_lent, log_lent, BeginsLog, BeginsPages}
use Rattle.pm_disk.specs.Worlds.{World}
use Rattle.pm_disk_mem.specs.Events.{lent_world, told_by}
use Rattle.pm_disk_mem.specs.Families.{file_at, track_at, SameTracks}
use Rattle.pm_disk_mem.specs.Hosts.{world_of, history_of, state_of}
use Rattle.pm_disk_mem.specs.Lent.{IsReader, IsPart, state_of_reader, state_of_part, history_of_reader, history_of_part}
use Rattle.pm_disk_mem.specs.Steps.{replay}
use Rattle.pm_disk_mem.specs.Tracks.{Track}
use Rattle.pm_disk_mem.specs.declared.family.Family.{Family}
use Rattle.pm_disk_mem.specs.declared.host.MemHost.{MemHost}
use Rattle.pm_disk_mem.specs.declared.part.MemPart.{MemPart}
use Rattle.pm_disk_mem.specs.declared.reader.MemReader.{MemReader}
use Rattle.pm_disk_mem.specs.declared.step.Step.{Step}

-- copies of files that these are
files_same : (old new : Family) (files : ℕ → File) → SameTracks old new → ((n : ℕ) → (track_at old n).file ≡ files n) → file_at new ≡ files
files_same old new files same are = λ i. λ n. (each n) i
  where
    each : (n : ℕ) → file_at new n ≡ files n
    each n = ap (λ (t : Track). t.file) (same n) ∙ are n

pub reader_state : (host : MemHost) (due : List PageId) (reader : MemReader) → IsReader host due reader → state_of_reader reader ≡ reader_lent due (state_of host)
reader_state host due reader is =
    λ i. record { faults = is.counts.count i; access = record { folder = is.folder i; is_lent = false; reads = λ page. not (is_among (is.due_is i) page); writes = λ _. false; made = 0 } }

pub reader_begins : (host : MemHost) (due : List PageId) (reader : MemReader) → IsReader host due reader → BeginsPages (history_of host) (history_of_reader reader)
reader_begins host due reader is = record {
  pages = files_same host.files.pages (arc_value reader.files).pages (world_of host).pages is.pages host.stands.pages;
  clock = refl;
}

pub writer_state : (host : MemHost) (due : List PageId) (part : MemPart) → IsPart host due part → state_of_part part ≡ writer_lent due (state_of host)
writer_state host due part is = λ i. record { faults = is.counts.count i; access = record { folder = is.folder i; is_lent = false; reads = λ _. false; writes = is_among (is.due_is i); made = 0 } }

pub log_state : (host : MemHost) (part : MemPart) → IsPart host [] part → state_of_part part ≡ log_lent (state_of host)
log_state host part is = writer_state host [] part is

-- a part that has done nothing
begun_world : (host : MemHost) (due : List PageId) (part : MemPart) → IsPart host due part → (told_by part.kept).world ≡ lent_world part.kept
begun_world host due part is = ap (λ (l : List Step). replay l (lent_world part.kept)) is.nothing

pub writer_begins : (host : MemHost) (due : List PageId) (part : MemPart) → IsPart host due part → SameTracks host.files.pages part.kept.began.value.pages → BeginsPages (history_of host) (history_of_part part)
writer_begins host due part is same = record {
  pages = ap (λ (w : World). w.pages) (begun_world host due part is) ∙ files_same host.files.pages part.kept.began.value.pages (world_of host).pages same host.stands.pages;
  clock = ap length is.nothing;
}

pub log_begins : (host : MemHost) (part : MemPart) → IsPart host [] part → SameTracks host.files.log part.kept.began.value.log → BeginsLog (history_of host) (history_of_part part)
log_begins host part is same = record {
  segments = ap (λ (w : World). w.log) (begun_world host [] part is) ∙ files_same host.files.log part.kept.began.value.log (world_of host).log same host.stands.log;
  clock = ap length is.nothing;
}
