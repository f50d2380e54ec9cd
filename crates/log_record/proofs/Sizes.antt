-- How many bytes numbers have.
use Rattle.std.proofs.Common.{lit≤, ℕ, ◌≡◌, ◌≤◌, length}
use Rattle.byteorder.specs.Numbers.{length-bytes_high_first}
use Rattle.ds_model.specs.declared.log.Version.{Version}
use Rattle.ds_model.specs.declared.log.Version.TheVariants as version
use Rattle.ds_model.specs.RecordBytes.{width_of, lrsn_bytes}

pub number_length : (v : Version) (n : ℕ) → length (lrsn_bytes v n) ≡ width_of v
number_length v n = length-bytes_high_first (width_of v) n

pub widths : (v : Version) → (6 ≤ width_of v) × (width_of v ≤ 10)
widths version.One = (lit≤ tt, lit≤ tt)
widths version.Two = (lit≤ tt, lit≤ tt)
