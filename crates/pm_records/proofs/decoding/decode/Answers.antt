use Rattle.std.proofs.Common.{sym, ap, ◌∙◌, arith}
use Rattle.pm_records.specs.Records.{record_of}
use Rattle.pm_records.proofs.RecordOf.{record_of-spelled}
use Rattle.pm_records.proofs.Decoded.{decoded-fits, decoded-kind, decoded-spelled}
use Rattle.pm_records.proofs.OtherBytes.{none-other_kind}
use Rattle.pm_records.proofs.decoding.decode.Goals as goal

pub returns-in-1-clause-exact : goal.returns-in-1-clause-exact
returns-in-1-clause-exact c = c.logical_of.ensures ∙ ap (λ kind. record_of kind c.args.payload.now) (sym c.in-1.is)

pub returns-in-1-clause-fits : goal.returns-in-1-clause-fits
returns-in-1-clause-fits c = decoded-fits _ _ _ (returns-in-1-clause-exact c)

pub returns-in-1-clause-kind : goal.returns-in-1-clause-kind
returns-in-1-clause-kind c = decoded-kind _ _ _ (returns-in-1-clause-exact c)

pub returns-in-1-clause-spelled : goal.returns-in-1-clause-spelled
returns-in-1-clause-spelled c = decoded-spelled _ _ _ (returns-in-1-clause-exact c)

pub returns-in-1-clause-read : goal.returns-in-1-clause-read
returns-in-1-clause-read c = record_of-spelled _ _ _ (returns-in-1-clause-exact c)

pub returns-in-2-clause-exact : goal.returns-in-2-clause-exact
returns-in-2-clause-exact c = c.snapshot_of.ensures ∙ ap (λ kind. record_of kind c.args.payload.now) (sym c.in-2.is)

pub returns-in-2-clause-fits : goal.returns-in-2-clause-fits
returns-in-2-clause-fits c = decoded-fits _ _ _ (returns-in-2-clause-exact c)

pub returns-in-2-clause-kind : goal.returns-in-2-clause-kind
returns-in-2-clause-kind c = decoded-kind _ _ _ (returns-in-2-clause-exact c)

pub returns-in-2-clause-spelled : goal.returns-in-2-clause-spelled
returns-in-2-clause-spelled c = decoded-spelled _ _ _ (returns-in-2-clause-exact c)

pub returns-in-2-clause-read : goal.returns-in-2-clause-read
returns-in-2-clause-read c = record_of-spelled _ _ _ (returns-in-2-clause-exact c)

pub returns-in-3-clause-exact : goal.returns-in-3-clause-exact
returns-in-3-clause-exact c = c.delta_of.ensures ∙ ap (λ kind. record_of kind c.args.payload.now) (sym c.in-3.is)

pub returns-in-3-clause-fits : goal.returns-in-3-clause-fits
returns-in-3-clause-fits c = decoded-fits _ _ _ (returns-in-3-clause-exact c)

pub returns-in-3-clause-kind : goal.returns-in-3-clause-kind
returns-in-3-clause-kind c = decoded-kind _ _ _ (returns-in-3-clause-exact c)

pub returns-in-3-clause-spelled : goal.returns-in-3-clause-spelled
returns-in-3-clause-spelled c = decoded-spelled _ _ _ (returns-in-3-clause-exact c)

pub returns-in-3-clause-read : goal.returns-in-3-clause-read
returns-in-3-clause-read c = record_of-spelled _ _ _ (returns-in-3-clause-exact c)

pub returns-in-4-clause-exact : goal.returns-in-4-clause-exact
returns-in-4-clause-exact c = c.cp_begin_of.ensures ∙ ap (λ kind. record_of kind c.args.payload.now) (sym c.in-4.is)

pub returns-in-4-clause-fits : goal.returns-in-4-clause-fits
returns-in-4-clause-fits c = decoded-fits _ _ _ (returns-in-4-clause-exact c)

pub returns-in-4-clause-kind : goal.returns-in-4-clause-kind
returns-in-4-clause-kind c = decoded-kind _ _ _ (returns-in-4-clause-exact c)

pub returns-in-4-clause-spelled : goal.returns-in-4-clause-spelled
returns-in-4-clause-spelled c = decoded-spelled _ _ _ (returns-in-4-clause-exact c)

pub returns-in-4-clause-read : goal.returns-in-4-clause-read
returns-in-4-clause-read c = record_of-spelled _ _ _ (returns-in-4-clause-exact c)

pub returns-in-5-clause-exact : goal.returns-in-5-clause-exact
returns-in-5-clause-exact c = c.restart_of.ensures ∙ ap (λ kind. record_of kind c.args.payload.now) (sym c.in-5.is)

pub returns-in-5-clause-fits : goal.returns-in-5-clause-fits
returns-in-5-clause-fits c = decoded-fits _ _ _ (returns-in-5-clause-exact c)

pub returns-in-5-clause-kind : goal.returns-in-5-clause-kind
returns-in-5-clause-kind c = decoded-kind _ _ _ (returns-in-5-clause-exact c)

pub returns-in-5-clause-spelled : goal.returns-in-5-clause-spelled
returns-in-5-clause-spelled c = decoded-spelled _ _ _ (returns-in-5-clause-exact c)

pub returns-in-5-clause-read : goal.returns-in-5-clause-read
returns-in-5-clause-read c = record_of-spelled _ _ _ (returns-in-5-clause-exact c)

pub returns-in-6-clause-exact : goal.returns-in-6-clause-exact
returns-in-6-clause-exact c = c.seal_of.ensures ∙ ap (λ kind. record_of kind c.args.payload.now) (sym c.in-6.is)

pub returns-in-6-clause-fits : goal.returns-in-6-clause-fits
returns-in-6-clause-fits c = decoded-fits _ _ _ (returns-in-6-clause-exact c)

pub returns-in-6-clause-kind : goal.returns-in-6-clause-kind
returns-in-6-clause-kind c = decoded-kind _ _ _ (returns-in-6-clause-exact c)

pub returns-in-6-clause-spelled : goal.returns-in-6-clause-spelled
returns-in-6-clause-spelled c = decoded-spelled _ _ _ (returns-in-6-clause-exact c)

pub returns-in-6-clause-read : goal.returns-in-6-clause-read
returns-in-6-clause-read c = record_of-spelled _ _ _ (returns-in-6-clause-exact c)

pub returns-in_default-clause-exact : goal.returns-in_default-clause-exact
returns-in_default-clause-exact c = sym (none-other_kind c.args.kind c.args.payload.now (λ from to. omega arith))

pub returns-in_default-clause-read : goal.returns-in_default-clause-read
returns-in_default-clause-read c = record_of-spelled _ _ _ (returns-in_default-clause-exact c)
