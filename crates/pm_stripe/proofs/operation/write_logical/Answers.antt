use Rattle.std.proofs.Common.{[], take, sym, subst, arith}
use Rattle.std.specs.Option.{option_copied}
use Rattle.pm_records.specs.Operations.{SpellRecords}
use Rattle.pm_stripe.specs.Listings.{MayBeLogical, given_record, after_logical}
use Rattle.pm_stripe.proofs.Operations.{is_record, is_short, logical_spelled}
use Rattle.pm_stripe.proofs.operation.write_logical.Goals as goal

pub write_record-requires-clause-fits : goal.write_record-requires-clause-fits
write_record-requires-clause-fits c = is_record c.in-Some.rec.now (subst (λ o. MayBeLogical (given_record (option_copied o))) c.in-Some.is c.requires.logical)

pub write_record-requires-clause-room : goal.write_record-requires-clause-room
write_record-requires-clause-room c = omega (arith, is_short c.in-Some.rec.now (subst (λ o. MayBeLogical (given_record (option_copied o))) c.in-Some.is c.requires.logical), c.requires.room)

pub returns-in-Some-clause-short : goal.returns-in-Some-clause-short
returns-in-Some-clause-short c = omega (arith, is_short c.in-Some.rec.now (subst (λ o. MayBeLogical (given_record (option_copied o))) c.in-Some.is c.requires.logical), c.write_record.ensures.end)

pub returns-in-Some-clause-written : goal.returns-in-Some-clause-written
returns-in-Some-clause-written c =
    subst (λ o. SpellRecords (take c.write_record.result c.write_record.new.into) (after_logical (given_record (option_copied o)) [])) (sym c.in-Some.is)
    (logical_spelled c.in-Some.rec.now (take c.write_record.result c.write_record.new.into) (subst (λ o. MayBeLogical (given_record (option_copied o))) c.in-Some.is c.requires.logical) c.write_record.ensures.written)
