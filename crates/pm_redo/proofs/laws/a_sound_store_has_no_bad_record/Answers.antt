use Rattle.pm_core.specs.Held.{in_force}
use Rattle.pm_core.specs.LogAlone.{image_of}
use Rattle.pm_records.specs.LogFiles.{contents}
use Rattle.pm_redo.proofs.SoundStores.{no_bad_record}
use Rattle.pm_redo.proofs.laws.a_sound_store_has_no_bad_record.Goals as goal

pub returns : goal.returns
returns c = λ wanted world shape pairs sound at bad.
    no_bad_record (in_force (image_of world)) (contents world.log) sound.holds.rebuilt sound.holds.frames sound.holds.rebuilt_are sound.holds.log sound.holds.reaches sound.holds.begins at bad
