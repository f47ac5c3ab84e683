use Rattle.std.proofs.Common.{◌≡◌, refl, length, Some}
use Rattle.std.specs.List.{slice_get}
use Rattle.std.proofs.lemmas.Option.{slice_get_read}
use Rattle.pm_logger.proofs.Emptying.{on_ok_true}
use Rattle.pm_logger.proofs.rest.give_to.Goals as goal

pub returns-clause-appended : goal.returns-clause-appended
returns-clause-appended g c =
    let rings = c.args.rings.now.items in
    let there : slice_get rings c.args.worker ≡ Some c.index_mut.result.now = slice_get_read rings (length rings) c.args.worker c.index_mut.result.now refl c.requires.worker c.index_mut.ensures.value in
    record {
      from = c.index_mut.result.now;
      inbox = c.take_given.new.inbox;
      at = c.take_given.new.at;
      within = c.take_given.ensures.within;
      there = there;
      others_stay = refl;
      given = c.take_given.ensures.appended;
      all = on_ok_true c.take_given.result c.take_given.ensures.taken;
    }
