use Rattle.std.proofs.Common.{◌≡◌, ℕ, List, take, drop, ap, ◌∙◌}
use Rattle.byteorder.specs.Endian.{big_bytes}
use Rattle.page_format.specs.Fields.{patched, set_lrsn}
use Rattle.page_format.proofs.patch.stamp.Goals as goal

-- the last 10 of the 16 bytes of the number
pub returns-clause-bytes : goal.returns-clause-bytes
unfolding set_lrsn
returns-clause-bytes c =
    let low : take 10 (drop 6 c.to_be_bytes-number.result) ≡ big_bytes 10 c.args.lrsn =
    ap (λ (bytes : List ℕ). take 10 (drop 6 bytes)) c.to_be_bytes-number.ensures ∙ ap (λ (n : ℕ). big_bytes 10 n) c.number.ensures.value in
    c.overwrite.ensures
    ∙ ap (λ (bytes : List ℕ). patched c.set_version.new.page 16 bytes) low
    ∙ ap (λ (page : List ℕ). patched page 16 (big_bytes 10 c.args.lrsn)) c.set_version.ensures.bytes
