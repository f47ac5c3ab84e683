use Rattle.std.proofs.Common.{[], sym, subst, rules, arith}
use Rattle.std.specs.Option.{option_copied}
use Rattle.std.proofs.lemmas.List.{length-take-le}
use Rattle.pm_records.specs.Operations.{SpellRecords}
use Rattle.pm_stripe.specs.Listings.{given_record, after_logical}
use Rattle.pm_stripe.proofs.Operations.{handed_none, handed_some}
use Rattle.pm_stripe.proofs.operation.write_operation.Goals as goal

pub returns-then-end-eq0-clause-written : goal.returns-then-end-eq0-clause-written
returns-then-end-eq0-clause-written c =
    let logical = given_record (option_copied c.args.rec) in
    let front = c.split_at_mut-pages.result.0.now in
    let spelled : SpellRecords front (after_logical logical []) = subst (λ x. SpellRecords x (after_logical logical [])) (sym c.split_at_mut-pages.ensures.front) c.write_logical-logical_end.ensures.written in
    handed_none c.args.line logical c.args.held.now front c.write_pages.new.into c.write_logical-logical_end.result c.write_pages.result spelled c.write_pages.ensures.written (search rules) c.split_at_mut-pages.ensures.front_len
    (length-take-le c.write_pages.result c.write_pages.new.into (omega (arith, c.if-end-eq0.true))) c.if-end-eq0.true

pub returns-clause-written : goal.returns-clause-written
returns-clause-written c =
    let logical = given_record (option_copied c.args.rec) in
    let front = c.split_at_mut-pages.result.0.now in
    let spelled : SpellRecords front (after_logical logical []) = subst (λ x. SpellRecords x (after_logical logical [])) (sym c.split_at_mut-pages.ensures.front) c.write_logical-logical_end.ensures.written in
    handed_some c.args.line logical c.args.held.now c.copy_from_slice.new.self front c.write_pages.new.into c.write_logical-logical_end.result c.write_pages.result spelled c.write_pages.ensures.written (search rules) c.split_at_mut-pages.ensures.front_len
    (length-take-le c.write_pages.result c.write_pages.new.into (omega (arith, c.write_pages.ensures.short, c.write_pages.ensures.size, c.split_at_mut-pages.ensures.back_len, c.split_at_mut-head.ensures.back_len, c.write_logical-logical_end.ensures.size, c.write_logical-logical_end.ensures.short, c.requires.room)))
    (omega (arith, c.write_pages.ensures.short, c.write_logical-logical_end.ensures.short, c.requires.room, c.requires.short)) (omega (arith, c.if-end-eq0.false)) (search rules) (search rules)
