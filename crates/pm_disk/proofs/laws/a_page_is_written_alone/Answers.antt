use Rattle.std.proofs.Common.{◌*◌, length}
use Rattle.pm_disk.proofs.Gaps.{gapped_puts, page_alone}
use Rattle.pm_disk.proofs.laws.a_page_is_written_alone.Goals as goal

pub returns-clause-stands : goal.returns-clause-stands
returns-clause-stands c = λ file gap bytes index reaches. gapped_puts file (index * length bytes) gap bytes reaches

pub returns-clause-alone : goal.returns-clause-alone
returns-clause-alone c = λ file gap bytes index other reaches apart. page_alone file gap bytes index other reaches apart
