use Rattle.std.proofs.Common.{◌≡◌, ℕ, ◌+◌, ◌≤◌, List, ◌++◌, length, drop, ap, ◌∙◌, arith}
use Rattle.std.proofs.lemmas.List.{length-append}
use Rattle.log_head.proofs.Kept.{none_before, cut_back, none_after}
use Rattle.log_head.proofs.head.Head.fill.Goals as goal

pub returns-in_err-extend_from_slice-clause-few : goal.returns-in_err-extend_from_slice-clause-few
returns-in_err-extend_from_slice-clause-few c =
    let none = none_before c.self.inside.at c.self.inside.end c.self.inside.bytes.items c.self.inside.taken c.self.inside.records.items c.self.inside.bad _ c.self.view_is c.self.invariant c.requires.short in
    omega (arith, none.few, ap length c.in_err-extend_from_slice.ensures.items, ap length c.drop_front-left.ensures.left)

pub read_records-requires-clause-empty : goal.read_records-requires-clause-empty
read_records-requires-clause-empty c =
    let none = none_before c.self.inside.at c.self.inside.end c.self.inside.bytes.items c.self.inside.taken c.self.inside.records.items c.self.inside.bad _ c.self.view_is c.self.invariant c.requires.short in
    none.none

pub invariant_of-self-in-Err : goal.invariant_of-self-in-Err
invariant_of-self-in-Err c =
    let none = none_before c.self.inside.at c.self.inside.end c.self.inside.bytes.items c.self.inside.taken c.self.inside.records.items c.self.inside.bad _ c.self.view_is c.self.invariant c.requires.short in
    let is = cut_back (drop c.self.inside.taken c.self.inside.bytes.items) c.args.bytes.now c.extend_from_slice.new.self.items c.truncate.new.self.items c.drop_front-left.result
    (c.in_ok-extend_from_slice.ensures.items ∙ ap (λ (t : List ℕ). t ++ c.args.bytes.now) c.drop_front-left.ensures.left)
    (c.drop_front-left.ensures.count ∙ ap length c.drop_front-left.ensures.left) c.truncate.ensures.items in
    none_after c.self.inside.at c.self.inside.end c.self.inside.bytes.items c.self.inside.taken c.self.inside.records.items c.clear.new.self.items c.self.inside.bad c.truncate.new.self.items c.self.invariant none is c.clear.ensures.items

pub returns-in-Ok-clause-few : goal.returns-in-Ok-clause-few
returns-in-Ok-clause-few c =
    let none = none_before c.self.inside.at c.self.inside.end c.self.inside.bytes.items c.self.inside.taken c.self.inside.records.items c.self.inside.bad _ c.self.view_is c.self.invariant c.requires.short in
    omega (arith, none.few, ap length c.in_ok-extend_from_slice.ensures.items ∙ length-append c.drop_front-left.new.bytes.items c.args.bytes.now, ap length c.drop_front-left.ensures.left)

pub returns-in-Err-clause-few : goal.returns-in-Err-clause-few
returns-in-Err-clause-few c =
    let none = none_before c.self.inside.at c.self.inside.end c.self.inside.bytes.items c.self.inside.taken c.self.inside.records.items c.self.inside.bad _ c.self.view_is c.self.invariant c.requires.short in
    let is = cut_back (drop c.self.inside.taken c.self.inside.bytes.items) c.args.bytes.now c.extend_from_slice.new.self.items c.truncate.new.self.items c.drop_front-left.result
    (c.in_ok-extend_from_slice.ensures.items ∙ ap (λ (t : List ℕ). t ++ c.args.bytes.now) c.drop_front-left.ensures.left)
    (c.drop_front-left.ensures.count ∙ ap length c.drop_front-left.ensures.left) c.truncate.ensures.items in
    omega (arith, none.few, ap length is)
