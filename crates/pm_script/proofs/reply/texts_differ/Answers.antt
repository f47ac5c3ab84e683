use Rattle.pm_script.proofs.TextsReadBack as texts
use Rattle.pm_script.proofs.reply.texts_differ.Goals as goal

pub returns : goal.returns
returns c = texts.texts_differ
