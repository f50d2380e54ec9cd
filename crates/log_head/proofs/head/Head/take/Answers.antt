use Rattle.std.proofs.Common.{rules, ◌≡◌, ◌+◌, ◌-◌, ◌≤◌, ℕ, List, ◌∷◌, subst, arith}
use Rattle.log_record.specs.Given.{LogRecord}
use Rattle.log_head.specs.Heads.{Keeps}
use Rattle.log_head.proofs.Kept.{first_kept}
use Rattle.log_head.proofs.head.Head.take.Goals as goal

pub overflow_add-self : goal.overflow_add-self
overflow_add-self c =
    let k = subst (λ (rs : List (LogRecord × ℕ)). Keeps c.self.inside.at c.self.inside.end c.self.inside.bytes.items c.self.inside.taken rs c.self.inside.bad) c.in_ok-record.ensures.items c.self.invariant in
    let b = first_kept c.self.inside.at c.self.inside.end c.self.inside.bytes.items c.self.inside.taken c.in_ok-record.record c.in_ok-record.length c.pop_front.new.self.items c.self.inside.bad k in
    omega (arith, b.below, k.below)

pub overflow_add-self-2 : goal.overflow_add-self-2
overflow_add-self-2 c =
    let k = subst (λ (rs : List (LogRecord × ℕ)). Keeps c.self.inside.at c.self.inside.end c.self.inside.bytes.items c.self.inside.taken rs c.self.inside.bad) c.in_ok-record.ensures.items c.self.invariant in
    let b = first_kept c.self.inside.at c.self.inside.end c.self.inside.bytes.items c.self.inside.taken c.in_ok-record.record c.in_ok-record.length c.pop_front.new.self.items c.self.inside.bad k in
    omega (arith, b.room, c.self.inside.bytes.ok.0, c.self.inside.bytes.small)

pub invariant_of-self-2 : goal.invariant_of-self-2
invariant_of-self-2 c =
    let k = subst (λ (rs : List (LogRecord × ℕ)). Keeps c.self.inside.at c.self.inside.end c.self.inside.bytes.items c.self.inside.taken rs c.self.inside.bad) c.in_ok-record.ensures.items c.self.invariant in
    (first_kept c.self.inside.at c.self.inside.end c.self.inside.bytes.items c.self.inside.taken c.in_ok-record.record c.in_ok-record.length c.pop_front.new.self.items c.self.inside.bad k).keeps
