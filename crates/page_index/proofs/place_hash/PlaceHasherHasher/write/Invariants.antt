use Rattle.std.proofs.Common.{◌≡◌, ◌+◌, ◌*◌, ◌/◌, fold, take}
use Rattle.page_index.proofs.place_hash.PlaceHasherHasher.write.Given as goal

abbrev pub invariant-loop-byte : goal.invariant-loop-byte
invariant-loop-byte l = l.self.number ≡ fold (λ n b. n / 256 + b * 16777216) l.initial.self.number (take l.byte-index l.bytes)
