use Rattle.lock_structure.specs.Records.{retained_by}
use Rattle.std.proofs.Common.{◌≡◌, ◌+◌, ◌++◌, List, map, take, drop, set, subst, rules}
use Rattle.std.proofs.lemmas.List.Edits.{map_over_more}
use Rattle.lock_structure.specs.declared.chain.Held.{Held}
use Rattle.lock_structure.proofs.buckets.retain_all.Goals as goal

pub loop-chain-preserved : goal.loop-chain-preserved
loop-chain-preserved c =
    let i = c.loop-chain.chain-index in
    let f : List Held → List Held = map (retained_by c.args.member) in
    let P : List Held → Type 0 = λ z. set c.loop-chain.chain-items i (f z) ≡ map f (take (i + 1) c.args.chains.now.items) ++ drop (i + 1) c.args.chains.now.items in
    rw c.retain.ensures (subst P c.chain-item.is (map_over_more f c.args.chains.now.items c.loop-chain.chain-items i c.chain-item.result (search rules) c.loop-chain.invariant c.chain-item.is))
