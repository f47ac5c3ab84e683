use Rattle.std.proofs.Common.{refl, sym, arith}
use Rattle.std.proofs.lemmas.Bool.{false≢true}
use Rattle.pm_records.specs.PageRecords.{IsCpBegin}
use Rattle.pm_records.proofs.PageBytes.{none-other_length, none-before_one, cp_begin_read}
use Rattle.pm_records.proofs.decoding.cp_begin_of.Goals as goal

pub returns-then-payload-ne-CP_BEGIN_LEN : goal.returns-then-payload-ne-CP_BEGIN_LEN
returns-then-payload-ne-CP_BEGIN_LEN c = sym (none-other_length c.args.payload.now c.if-payload-ne-CP_BEGIN_LEN.true)

pub returns-then-not-is_checkpoint : goal.returns-then-not-is_checkpoint
returns-then-not-is_checkpoint c =
    sym (none-before_one c.args.payload.now (λ from_one. false≢true (c.if-not-is_checkpoint.ensures.1 (rw (← c.get_u64-number.ensures) at from_one))))

pub returns : goal.returns
returns c =
    let fits : IsCpBegin c.get_u64-number.result (record { seg = c.get_u64.result; off = c.get_u32.result }) = record {
      from_one = c.if-not-is_checkpoint.ensures.0 refl;
      number_fits = omega arith;
      seg_fits = omega arith;
      off_fits = omega arith;
    }
    in
    cp_begin_read _ _ _ _ (λ i. (c.type_inv.payload i).fits) c.if-payload-ne-CP_BEGIN_LEN.false
    c.get_u64-number.ensures c.get_u64.ensures c.get_u32.ensures fits
