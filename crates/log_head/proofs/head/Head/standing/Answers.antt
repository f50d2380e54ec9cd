use Rattle.std.proofs.Common.{◌≡◌, ℕ, ◌<◌, length, refl, sym, ap, subst, arith}
use Rattle.std.specs.Prelude.{[]}
use Rattle.log_head.specs.declared.standing.Standing.TheVariants as standing
use Rattle.log_head.specs.Heads.{HeadState, standing_of}
use Rattle.log_head.proofs.Kept.{stands_ready}
use Rattle.log_head.proofs.head.Head.standing.Goals as goal

pub returns-in-Some : goal.returns-in-Some
returns-in-Some c =
    sym (subst (λ (h : HeadState). standing_of c.args.block h ≡ standing.Ready) c.self.view_is
    (stands_ready c.args.block c.self.inside.at c.self.inside.end c.self.inside.bytes.items c.self.inside.taken c.self.inside.records.items c.self.inside.bad c.self.invariant
    (λ none. omega (arith, c.in-Some.ensures.variant.0 refl, c.self.inside.records.ok.0, ap length none))))
