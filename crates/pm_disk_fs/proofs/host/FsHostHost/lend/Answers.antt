-- The parts may do what they are lent for: the log part may write no page.
use Rattle.std.proofs.Common.{◌≡◌, List, [], ◌∙◌, ap, subst, get_or}
use Rattle.std.specs.Prelude.{false, option_map}
use Rattle.std.specs.String.{string_bytes}
use Rattle.pm_types.specs.declared.page_id.PageId.{PageId}
use Rattle.pm_disk.specs.Lending.{is_among, log_lent, reader_lent, writer_lent}
use Rattle.pm_disk_fs.specs.Host.{HostView, state_of}
use Rattle.pm_disk_fs.specs.Parts.{state_of_part, state_of_reader}
use Rattle.pm_disk_fs.proofs.LentNone.{lends_none}
use Rattle.pm_disk_fs.proofs.host.FsHostHost.lend.Goals as goal

pub returns-in_err-log-clause-lends : goal.returns-in_err-log-clause-lends
returns-in_err-log-clause-lends g c =
    lends_none (state_of c.args.self.now) _ c.from_residual-in_err-log.result c.from_residual-in_err-log.ensures.0 (ap state_of c.self.view_is)

pub returns-clause-parts : goal.returns-clause-parts
returns-clause-parts g c =
    let due = c.new.ensures.due ∙ c.in_ok-pages.ensures.items in
    let folder : c.new.result.folder ≡ option_map string_bytes c.self.inside.folder.dir = c.new.ensures.folder ∙ c.in_ok-page_folder.ensures in
    let none : c.new-2.result.due ≡ [] = c.new-2.ensures.due ∙ c.new-none.ensures.items in
    let log_folder : c.new-2.result.folder ≡ option_map string_bytes c.self.inside.folder.dir = c.new-2.ensures.folder ∙ c.in_ok-log_folder.ensures in
    record {
      readers = λ k d lt.
          subst (λ (l : List PageId). state_of_reader (get_or c.in_ok-readers.readers.items k d) ≡ reader_lent l (state_of c.args.self.now))
          c.in_ok-pages.ensures.items (c.in_ok-readers.ensures.each k d lt);
      writer = subst (λ (h : HostView). state_of_part c.new.result ≡ writer_lent c.args.due.now (state_of h)) c.self.view_is
          (λ i. record { faults = c.new.ensures.unfailed i; access = record { folder = folder i; is_lent = false; reads = λ _. false; writes = is_among (due i); made = 0 } });
      log = subst (λ (h : HostView). state_of_part c.new-2.result ≡ log_lent (state_of h)) c.self.view_is
          (λ i. record { faults = c.new-2.ensures.unfailed i; access = record { folder = log_folder i; is_lent = false; reads = λ _. false; writes = is_among (none i); made = 0 } });
    }
