use Rattle.std.proofs.Common.{◌≡◌, ◌+◌, ◌*◌, ◌/◌, ◌^◌, fold, take}
use Rattle.page_index.proofs.page_hash.PageHasherHasher.write.Given as goal

abbrev pub invariant-loop-byte : goal.invariant-loop-byte
invariant-loop-byte l = l.self.page ≡ fold (λ p b. p / 256 + b * 2 ^ 40) l.initial.self.page (take l.byte-index l.bytes)
