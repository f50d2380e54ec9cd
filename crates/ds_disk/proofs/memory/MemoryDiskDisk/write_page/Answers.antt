use Rattle.ds_disk.proofs.Writes.{parts_whole, written_stays}
use Rattle.ds_disk.proofs.memory.MemoryDiskDisk.write_page.Goals as goal
use Rattle.ds_disk.proofs.memory.MemoryDiskDisk.write_page.Goals.{then-is_done+in_ok-write, else-is_done}

pub invariant_of-self-2 : goal.invariant_of-self-2
invariant_of-self-2 c = elim c.if-is_done.branch [
  | then-is_done+in_ok-write w ↦ rw w.self-inside-is (c.self.invariant.0, written_stays _ _ _ _ w.in_ok-write.ensures.ok w.in_ok-write.ensures.bytes c.self.invariant.1, c.self.invariant.2)
  | else-is_done w ↦ rw w.self-inside-is c.self.invariant
]

pub returns-clause-whole : goal.returns-clause-whole
returns-clause-whole c = parts_whole (record { pages = c.if-is_done.self-inside.pages; logs = c.if-is_done.self-inside.logs }) (elim c.if-is_done.branch [
  | then-is_done+in_ok-write w ↦ rw w.self-inside-is (c.self.invariant.0, written_stays _ _ _ _ w.in_ok-write.ensures.ok w.in_ok-write.ensures.bytes c.self.invariant.1, c.self.invariant.2)
  | else-is_done w ↦ rw w.self-inside-is c.self.invariant
])
