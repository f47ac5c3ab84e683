use Rattle.pm_core.proofs.NoFiles.{nothing_is_sound}
use Rattle.pm_core.proofs.laws.a_folder_without_files_is_sound.Goals as goal

pub returns : goal.returns
returns c = record { sound = λ wanted shaped. nothing_is_sound wanted shaped }
