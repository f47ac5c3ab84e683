use Rattle.pm_records.proofs.ShapeBytes.{shape_bytes-said}
use Rattle.pm_records.proofs.shape.shape_of.Goals as goal

pub returns : goal.returns
returns c =
    shape_bytes-said c.args.bytes.now _ _ _ _ _ c.told-bytes c.fits-bytes
    c.from_le_bytes.ensures c.from_le_bytes-2.ensures c.from_le_bytes-3.ensures c.from_le_bytes-4.ensures c.from_le_bytes-5.ensures
