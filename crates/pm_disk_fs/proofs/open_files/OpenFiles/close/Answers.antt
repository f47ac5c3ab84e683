-- Each file that is left has another name, and each of another name is left.
use Rattle.std.proofs.Common.{rules}
use Rattle.std.specs.Prelude.{◌≢◌}
use Rattle.std.proofs.lemmas.Fn.{All-from_retain}
use Rattle.pm_disk_fs.specs.declared.opened.Opened.{Opened}
use Rattle.pm_disk_fs.proofs.Closing.{kept_by_retain}
use Rattle.pm_disk_fs.proofs.open_files.OpenFiles.close.Goals as goal

pub returns-clause-closed : goal.returns-clause-closed
returns-clause-closed g c =
    All-from_retain _ (λ (file : Opened g.row.F.Denot). file.name ≢ c.args.name) _ (λ x b f called. search rules) c.args.self.now.files.items c.retain.new.self.items c.retain.ensures.filtered

pub returns-clause-others : goal.returns-clause-others
returns-clause-others g c = record {
  stay = λ few file other there.
      kept_by_retain _ (λ (file : Opened g.row.F.Denot). file.name ≢ c.args.name) _ (λ x b f called. search rules) file other c.args.self.now.files.items c.retain.new.self.items c.retain.ensures.filtered there;
}
