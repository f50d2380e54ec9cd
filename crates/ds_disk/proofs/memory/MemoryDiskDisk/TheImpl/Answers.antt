use Rattle.std.proofs.Common.{rules}
use Rattle.ds_disk.proofs.Writes.{write_answers, append_answers, cut_answers}
use Rattle.ds_disk.proofs.memory.MemoryDiskDisk.TheImpl.Goals as goal

pub write_page-tells : goal.write_page-tells
write_page-tells c = record { answers = write_answers c.args.self.now c.new.self.now c.result c.ensures.whole c.args.id c.args.from.now c.ensures.ends; cause = search rules }

pub append_log-tells : goal.append_log-tells
append_log-tells c = record { answers = append_answers c.args.self.now c.new.self.now c.result c.ensures.whole c.args.member c.args.bytes.now c.ensures.ends; cause = search rules }

pub cut_log-tells : goal.cut_log-tells
cut_log-tells c = record { answers = cut_answers c.args.self.now c.new.self.now c.result c.ensures.whole c.args.member c.args.length c.ensures.ends; cause = search rules }
