use Rattle.std.proofs.Common.{sym}
use Rattle.pm_part.proofs.SoundPairs.{sound}
use Rattle.pm_part.proofs.ToldPairs.{told_appended}
use Rattle.pm_part.proofs.part.Part.pairs.Goals as goal

pub returns-clause-pairs : goal.returns-clause-pairs
returns-clause-pairs g c = λ t shape of.
    told_appended g.P.Pages.tells shape (g.P.Pages.seen c.args.pages.now) c.args.cache c.args.into.now c.into.inside.pairs.items c.append_pairs.new.pairs.items c.append_pairs.result (sym c.into.view_is) c.requires.cache t of c.append_pairs.ensures.pairs

pub returns-clause-sound : goal.returns-clause-sound
returns-clause-sound g c = λ t shape of.
    sound g.P.Pages.tells shape (g.P.Pages.seen c.args.pages.now) (g.P.Pages.seen c.append_pairs.new.pages) c.args.cache c.append_pairs.result c.requires.cache t of c.append_pairs.ensures.cause
