use Rattle.std.proofs.Common.{◌≡◌, ◌<◌, ◌≤◌, ℕ, get_or}
use Rattle.std.specs.Prelude.{◌⊎◌, IsTrue}
use Rattle.pm_disk_fs.specs.declared.opened.Opened.{Opened}
use Rattle.pm_disk_fs.proofs.open_files.force_all.Given as goal

abbrev pub invariant-loop-file : goal.invariant-loop-file
invariant-loop-file g l = record {
  forced : (k : ℕ) (d : Opened g.row.F.Denot) → k < l.file-index → IsTrue (get_or l.files k d).is_forced;
  synced : (k : ℕ) (d : Opened g.row.F.Denot) → k < l.file-index → IsTrue (get_or l.initial.files k d).is_forced ⊎ g.F.FileCalls.synced (get_or l.initial.files k d).file;
  rest : (k : ℕ) (d : Opened g.row.F.Denot) → l.file-index ≤ k → get_or l.files k d ≡ get_or l.initial.files k d;
}
