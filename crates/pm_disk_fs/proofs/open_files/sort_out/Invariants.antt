use Rattle.std.proofs.Common.{◌≡◌, ◌≤◌, length, vec_len, vec_capacity}
use Rattle.pm_disk_fs.specs.OpenFiles.{AreSorted}
use Rattle.pm_disk_fs.proofs.open_files.sort_out.Given as goal

abbrev pub invariant-loop-file : goal.invariant-loop-file
invariant-loop-file g l = record {
  segments_room : vec_len l.segments.files ≤ length l.yielded;
  segments_capacity : vec_capacity l.segments.files ≡ vec_capacity l.initial.segments.files;
  pages_room : vec_len l.pages.files ≤ length l.yielded;
  pages_capacity : vec_capacity l.pages.files ≡ vec_capacity l.initial.pages.files;
  others_room : vec_len l.others.files ≤ length l.yielded;
  others_capacity : vec_capacity l.others.files ≡ vec_capacity l.initial.others.files;
  sorted : AreSorted l.yielded l.segments.files.items l.pages.files.items l.others.files.items;
}
