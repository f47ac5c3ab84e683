-- The parts have what the host has: making room in its record has changed nothing of that.
use Rattle.std.proofs.Common.{get_or}
use Rattle.pm_disk_mem.proofs.Splitting.{reader_state, reader_begins, writer_state, writer_begins, log_state, log_begins}
use Rattle.pm_disk_mem.proofs.outside.MemHostHost.lend.Goals as goal

pub returns-clause-parts : goal.returns-clause-parts
returns-clause-parts c =
    let host = c.args.self.now in
    let due = c.args.due.now in
    let lent = c.in_ok-lent.lent in
    let out = c.in_ok-lent.ensures.writer in
    let log = c.in_ok-lent.ensures.log in
    record {
      readers = λ k d lt. (
          let is = c.in_ok-lent.ensures.readers k d lt in
          reader_state host due (get_or lent.readers.items k d)
          (record { counts = is.counts; folder = is.folder; due_is = is.due_is; pages = is.pages }));
      writer = writer_state host due lent.writer
          (record { counts = out.counts; folder = out.folder; due_is = out.due_is; nothing = out.nothing });
      log = log_state host lent.log
          (record { counts = log.counts; folder = log.folder; due_is = log.due_is; nothing = log.nothing });
    }

pub returns-clause-begin : goal.returns-clause-begin
returns-clause-begin c =
    let host = c.args.self.now in
    let due = c.args.due.now in
    let lent = c.in_ok-lent.lent in
    let out = c.in_ok-lent.ensures.writer in
    let log = c.in_ok-lent.ensures.log in
    record {
      readers = λ k d lt. (
          let is = c.in_ok-lent.ensures.readers k d lt in
          reader_begins host due (get_or lent.readers.items k d)
          (record { counts = is.counts; folder = is.folder; due_is = is.due_is; pages = is.pages }));
      writer = writer_begins host due lent.writer
          (record { counts = out.counts; folder = out.folder; due_is = out.due_is; nothing = out.nothing })
          c.in_ok-lent.ensures.pages;
      log = log_begins host lent.log
          (record { counts = log.counts; folder = log.folder; due_is = log.due_is; nothing = log.nothing })
          c.in_ok-lent.ensures.segments;
    }
