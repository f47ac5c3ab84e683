use Rattle.std.proofs.Common.{rules}
use Rattle.pm_records.specs.Views.{record_view}
use Rattle.pm_stripe.specs.ChangedPages.{frame_for}
use Rattle.pm_stripe.proofs.Spelling.{record_written}
use Rattle.pm_stripe.proofs.record.write_record.Goals as goal

pub returns-clause-written : goal.returns-clause-written
returns-clause-written c =
    record_written (frame_for (record_view c.args.rec.now)) c.encoded_len-len.result c.copy_from_slice.new.self c.encode.new.into c.split_at_mut-written.result.1.now
    (search rules) (search rules) (search rules)
