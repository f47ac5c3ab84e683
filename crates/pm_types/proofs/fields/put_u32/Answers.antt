use Rattle.std.proofs.Common.{◌≡◌, length, sym, ap, ◌∙◌, w32}
use Rattle.std.specs.Int.{from_le_bytes}
use Rattle.std.proofs.lemmas.Nat.{from_le_bytes-to_le_bytes_4}
use Rattle.pm_types.specs.Fields.{bytes_at, u32_at}
use Rattle.pm_types.proofs.fields.put_u32.Goals as goal

pub returns-clause-value : goal.returns-clause-value
unfolding u32_at
returns-clause-value c =
    let len : length c.to_le_bytes.result ≡ 4 = ap length c.to_le_bytes.ensures in
    ap (λ n. from_le_bytes w32 (bytes_at c.put_bytes.new.page c.args.at n)) (sym len) ∙ ap (from_le_bytes w32) (c.put_bytes.ensures.bytes ∙ c.to_le_bytes.ensures) ∙ from_le_bytes-to_le_bytes_4 c.args.value c.ranges.value.fits
