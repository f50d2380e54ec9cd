use Rattle.std.proofs.Common.{arith}
use Rattle.torn_records.proofs.Frames.{framed_is}
use Rattle.torn_records.proofs.frame.framed.Goals as goal

pub returns : goal.returns
returns c =
    framed_is c.args.version c.args.kind c.args.has_tran c.args.text.now c.new-bytes.result c.to_be_bytes-size.result _ _ _ _ _ _ c.version_byte.result
    c.new-bytes.ensures c.to_be_bytes-size.ensures (omega (arith, c.frame_of.ensures.exact)) c.version_byte.ensures
    c.in_ok-extend.ensures.ok c.in_ok-extend-2.ensures.ok c.in_ok-put_numbers.ensures c.in_ok-extend-3.ensures.ok c.in_ok-extend-4.ensures.ok
