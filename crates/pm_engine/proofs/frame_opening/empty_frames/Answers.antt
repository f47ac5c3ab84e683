use Rattle.std.proofs.Common.{◌∙◌}
use Rattle.pm_engine.proofs.FrameOpened.{new_pages}
use Rattle.pm_engine.proofs.frame_opening.empty_frames.Goals as goal

pub returns-in-Ok : goal.returns-in-Ok
returns-in-Ok c =
    let made = c.in_ok-pages.ensures in
    record {
      shape_is = made.begins.shape_is;
      many = made.begins.many;
      is_open = made.begins.is_open;
      sent = made.begins.none_logged;
      pages = λ world. new_pages c.args.shape.now c.args.mark c.in_ok-pages.pages world c.requires.shape c.requires.marked made.begins.rests made.begins.is_open made.begins.shape_is (made.begins.files_are ∙ c.is_some.ensures) (made.pages world);
      none_dirty = made.clean;
      clean = made.as_files;
      kept = c.in-Ok.ensures;
    }
