use Rattle.std.proofs.Common.{ap, ◌∙◌, take}
use Rattle.pm_script.proofs.Parts.{moved_front}
use Rattle.pm_script.proofs.buffer.keep_front.Goals as goal

pub returns-clause-kept : goal.returns-clause-kept
returns-clause-kept c =
    ap (take c.min-len.result) c.copy_within.ensures.items
    ∙ moved_front c.args.buffer.now.items c.args.from c.args.to c.min-len.result c.requires.ordered c.requires.within c.min-len.ensures
