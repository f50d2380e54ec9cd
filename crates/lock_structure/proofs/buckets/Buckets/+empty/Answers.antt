use Rattle.std.proofs.Common.{◌≡◌, arith, ◌<◌, false, length, get_or, set, [], sym, ◌∙◌, ap, subst, refl}
use Rattle.std.specs.Prelude.{is_some, slice_get}
use Rattle.std.proofs.lemmas.List.{set-set, length-set}
use Rattle.lock_structure.specs.Buckets.{without}
use Rattle.lock_structure.proofs.Emptied.{first_shrinks, is_empty}
use Rattle.lock_structure.proofs.buckets.Buckets.+empty.Goals as goal

pub empty-requires : goal.empty-requires
empty-requires t c =
    let chain = c.index.result.now in
    let old = c.args.self.now.chains in
    let read : chain ≡ get_or old c.args.at chain = subst (λ z. chain ≡ get_or z c.args.at chain) (ap (λ b. b.chains) c.self.view_is) c.index.ensures in
    let less = first_shrinks old c.args.at chain c.in-Some.held c.requires read (sym c.first.ensures ∙ c.in-Some.is) in
    let new : c.remove.new.self.chains ≡ set old c.args.at (without (get_or old c.args.at []) c.in-Some.held.member c.in-Some.held.name) = ap (λ b. b.chains) c.remove.ensures in
    let now : length (get_or c.remove.new.self.chains c.args.at []) < length (get_or old c.args.at []) = rw new less in
    (omega (arith, now, c.decreases), rw (new, length-set old c.args.at _) c.requires)

pub returns-in-Some : goal.returns-in-Some
returns-in-Some t c = rw (c.empty.ensures, c.remove.ensures, set-set c.args.self.now.chains c.args.at _ []) refl

pub returns-in_default : goal.returns-in_default
returns-in_default t c =
    let chain = c.index.result.now in
    let old = c.args.self.now.chains in
    let read : chain ≡ get_or old c.args.at chain = subst (λ z. chain ≡ get_or z c.args.at chain) (ap (λ b. b.chains) c.self.view_is) c.index.ensures in
    let none : is_some (slice_get chain 0) ≡ false = grind (arith, c.first.ensures, c.in_default.not-Some) in
    rw (is_empty old c.args.at chain c.requires read none) refl
