-- The round is one event more.
use Rattle.std.proofs.Common.{List, sym, subst}
use Rattle.std.proofs.lemmas.Bool.{false≢true}
use Rattle.pm_disk.specs.Lending.{Joins}
use Rattle.pm_disk_mem.specs.Events.{told_by, after_events, history_during}
use Rattle.pm_disk_mem.specs.Hosts.{first_world}
use Rattle.pm_disk_mem.specs.Steps.{HoldsWorld}
use Rattle.pm_disk_mem.specs.declared.event.Event.{Event}
use Rattle.pm_disk_mem.specs.declared.files.Files.{Files}
use Rattle.pm_disk_mem.proofs.Rounds.{joins_round, holds_joined}
use Rattle.pm_disk_mem.proofs.host.MemHost.put_back.Goals as goal

pub invariant_of-self : goal.invariant_of-self
invariant_of-self c =
    let now = c.args.self.now in
    record {
      stands = subst (λ (f : Files). HoldsWorld f now.console (after_events c.keep_round.new.events.items (first_world now))) (sym c.take_files.ensures)
          (holds_joined now.files c.args.log.files c.args.writer.files now.console c.args.log.console c.args.writer.console now.events.items (first_world now) c.args.log.kept c.args.writer.kept c.keep_round.new.events.items
          now.stands c.args.log.stands c.args.writer.stands c.keep_round.ensures);
      room = λ lent. absurd (false≢true lent);
    }

pub returns-clause-joins : goal.returns-clause-joins
returns-clause-joins c =
    let now = c.args.self.now in
    subst (λ (l : List Event). Joins (history_during (first_world now) now.events.items) (history_during (first_world now) l) (told_by c.args.log.kept) (told_by c.args.writer.kept))
    (sym c.keep_round.ensures) (joins_round (first_world now) now.events.items c.args.log.kept c.args.writer.kept)
