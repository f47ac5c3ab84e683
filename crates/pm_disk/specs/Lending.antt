-- How a host is split into parts for a round, and what it holds once they are back.
--
-- Each part reports its own world and its own moments, from the one at which it was lent. Of the log part only
-- the segments count, of the writer only the partitions' files. Nothing is said of which moment of the one goes
-- with which of the other: while the parts are lent, the disk may be each pair.
use Rattle.std.specs.Prelude.{◌≡◌, ◌<◌, ◌≤◌, ◌+◌, ◌⊎◌, ◌==◌, ℕ, List, [], ◌∷◌, Bool, true, false, not}
use Rattle.std.specs.Prelude.{All, Result, OnOk, OnErr}
use Rattle.std.specs.List.{list_any}
use Rattle.pm_types.specs.declared.page_id.PageId.{PageId}
use Rattle.pm_disk.specs.Worlds.{World, joined}
use Rattle.pm_disk.specs.Moments.{History}
use Rattle.pm_disk.specs.States.{DeviceState, Rose}

-- the page is one of these
abbrev pub is_among : List PageId → PageId → Bool
is_among pages page = list_any (λ p. p.0 == page.0) pages

-- what a reader reports about itself when it is lent: it may read each page that isn't due
abbrev pub reader_lent : List PageId → DeviceState → DeviceState
reader_lent due host = record {
  faults = 0;
  access = record {
    folder = host.access.folder;
    is_lent = false;
    reads = λ page. not (is_among due page);
    writes = λ _. false;
    made = 0;
  };
}

-- what the writer reports: it may write each page that is due
abbrev pub writer_lent : List PageId → DeviceState → DeviceState
writer_lent due host = record {
  faults = 0;
  access = record {
    folder = host.access.folder;
    is_lent = false;
    reads = λ _. false;
    writes = is_among due;
    made = 0;
  };
}

-- what the log part reports
abbrev pub log_lent : DeviceState → DeviceState
log_lent host = record {
  faults = 0;
  access = record {
    folder = host.access.folder;
    is_lent = false;
    reads = λ _. false;
    writes = λ _. false;
    made = 0;
  };
}

-- The log part has the host's segments, and its clock begins.
pub record BeginsLog (host part : History) : Type 0 where
  pub segments : part.world.log ≡ host.world.log
  pub clock : part.clock ≡ 0

-- A reader or the writer has the host's pages, and its clock begins.
pub record BeginsPages (host part : History) : Type 0 where
  pub pages : part.world.pages ≡ host.world.pages
  pub clock : part.clock ≡ 0

-- What each part may do when it is lent: the readers, the writer and the log.
pub record PartsLent {R : Type 0} (due : List PageId) (host : DeviceState) (state : R → DeviceState)
    (lent : List R) (lent_writer lent_log : DeviceState) : Type 0 where
  pub readers : All (λ reader. state reader ≡ reader_lent due host) lent
  pub writer : lent_writer ≡ writer_lent due host
  pub log : lent_log ≡ log_lent host

-- What each part holds when it is lent: what the host does.
pub record PartsBegin {R : Type 0} (host : History) (history : R → History) (lent : List R)
    (lent_writer lent_log : History) : Type 0 where
  pub readers : All (λ reader. BeginsPages host (history reader)) lent
  pub writer : BeginsPages host lent_writer
  pub log : BeginsLog host lent_log

-- A call that lends a host's parts: they are out at `Ok`, and at an `Err` the host is as it was.
pub record Lends {T E : Type 0} (before now : DeviceState) (result : Result T E) : Type 0 where
  pub faults : now.faults ≡ before.faults
  pub lent : OnOk result (now.access ≡ record before.access { is_lent = true })
  pub unchanged : OnErr result (now.access ≡ before.access)

-- how often calls of these objects failed
abbrev pub faults_among : List DeviceState → ℕ
faults_among [] = 0
faults_among (part ∷ parts) = part.faults + faults_among parts

-- A call that takes a host's parts back: calls may be made on it again. Its count of faults is as it was where
-- no call of a part failed, and else it rose.
pub record TakesBack (before now : DeviceState) (parts : List DeviceState) : Type 0 where
  pub access : now.access ≡ record before.access { is_lent = false }
  pub later : before.faults ≤ now.faults
  pub same : faults_among parts ≡ 0 → now.faults ≡ before.faults
  pub rose : 0 < faults_among parts → Rose before now

-- A moment of the log part and one of the writer, since both were lent, make the world this one, with all else
-- from the rest.
pub record IsPaired (rest : World) (log pages : History) (world : World) : Type 0 where
  pub log_then : World
  pub pages_then : World
  pub log_was : log.was 0 log_then
  pub pages_were : pages.was 0 pages_then
  pub is : world ≡ joined rest log_then pages_then

-- The parts are back: while they were lent the disk was each pair of a moment of the log part and one of the
-- writer, and nothing else. Now it has what both report now.
pub record Joins (old new log pages : History) : Type 0 where
  pub later : old.clock ≤ new.clock
  pub nothing_else : (t : ℕ) (w : World) → t ≤ old.clock → new.was t w
      → old.was t w ⊎ IsPaired old.world log pages w
  pub keeps : (t : ℕ) (w : World) → t ≤ old.clock → old.was t w → new.was t w
  pub each_pair : (t : ℕ) (w : World) → t ≤ old.clock → IsPaired old.world log pages w → new.was t w
  pub now : new.world ≡ joined old.world log.world pages.world
