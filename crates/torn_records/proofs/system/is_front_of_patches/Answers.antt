use Rattle.std.proofs.Common.{◌≡◌, ◌+◌, ◌*◌, ◌∙◌, arith}
use Rattle.ds_model.specs.RecordBytes.{width_of}
use Rattle.torn_records.proofs.Sizes.{rest_from}
use Rattle.torn_records.proofs.Systems.{system_text, system_told}
use Rattle.torn_records.proofs.system.is_front_of_patches.Goals as goal

pub returns : goal.returns
returns c =
    let bytes = c.args.bytes.now in
    let v = c.args.version in
    let at = 7 + 2 * c.width_of.result in
    let at-is : at ≡ 7 + 2 * width_of v = omega (arith, c.width_of.ensures.value) in
    let text = system_text c.new-text.result _ _ _ bytes v c.args.size c.args.count at c.saturating_sub.result c.new-text.ensures c.in_ok-extend.ensures.ok c.in_ok-put_patches.ensures.text
    (rest_from bytes at c.min.result c.min.ensures) at-is c.saturating_sub.ensures in
    system_told v c.args.size c.args.count bytes c.as_slice.result.now c.is_front_with.result (c.as_slice.ensures ∙ text) c.is_front_with.ensures
