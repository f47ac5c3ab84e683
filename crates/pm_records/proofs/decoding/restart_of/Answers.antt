use Rattle.std.proofs.Common.{refl, sym, ◌∙◌, arith}
use Rattle.std.proofs.lemmas.Bool.{false≢true}
use Rattle.pm_frame.specs.declared.kinds.TheConstants.{RESTART}
use Rattle.pm_records.specs.Records.{Restart, payload_of}
use Rattle.pm_records.proofs.OtherBytes.{none-other_length, none-other_shape}
use Rattle.pm_records.proofs.RecordOf.{record_of-spelled}
use Rattle.pm_records.proofs.ShapeBytes.{ShapeFits}
use Rattle.pm_records.proofs.decoding.restart_of.Goals as goal

pub returns-in_default : goal.returns-in_default
returns-in_default c = sym (none-other_length c.args.payload.now c.in_default.ensures.1)

pub returns-then-not-is_shape : goal.returns-then-not-is_shape
returns-then-not-is_shape c =
    let fits : ShapeFits c.shape_of-shape.result = record {
      page_size = omega arith;
      partitions = omega arith;
      version = omega arith;
      max_rows = omega arith;
      segment_bytes = omega arith;
    }
    in
    sym (none-other_shape c.args.payload.now c.shape_of-shape.result fits (sym c.in-Ok.ensures.1.same ∙ c.shape_of-shape.ensures)
    (λ h. false≢true (c.if-not-is_shape.ensures.1 h)))

pub returns : goal.returns
unfolding payload_of
returns c =
    let spelled = sym c.in-Ok.ensures.1.same ∙ c.shape_of-shape.ensures in
    sym (record_of-spelled RESTART c.args.payload.now _ refl (Restart c.shape_of-shape.result) (c.if-not-is_shape.ensures.0 refl) refl spelled)
