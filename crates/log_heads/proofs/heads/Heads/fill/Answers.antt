use Rattle.std.proofs.Common.{◌≡◌, ℕ, ◌<◌, List, sym, subst}
use Rattle.log_heads.specs.Heads.{HeadsState}
use Rattle.log_heads.specs.Logs.{work_left, IsFilled}
use Rattle.log_heads.proofs.heads.Heads.fill.Goals as goal

pub returns-clause-goes : goal.returns-clause-goes
returns-clause-goes c = λ logs are next.
    subst (λ (s : HeadsState). IsFilled logs c.args.self.now.heads s.heads) (sym c.in_ok-put.ensures.ok) (c.heads_laws.ensures.filled logs c.args.self.now c.args.member c.args.bytes.now c.in_ok-put.ensures.some are c.requires next)

pub returns-clause-less : goal.returns-clause-less
returns-clause-less c =
    subst (λ (s : HeadsState). work_left s.heads < work_left c.args.self.now.heads) (sym c.in_ok-put.ensures.ok) (c.heads_laws.ensures.less c.args.self.now c.args.member c.args.bytes.now c.in_ok-put.ensures.some c.requires)
