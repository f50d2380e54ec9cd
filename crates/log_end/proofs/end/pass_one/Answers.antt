use Rattle.std.proofs.Common.{◌≡◌, sym, ◌∙◌}
use Rattle.log_end.proofs.Passing.{passed_by}
use Rattle.log_end.proofs.end.pass_one.Goals as goal

pub returns : goal.returns
returns c =
    let p = passed_by c.whole_laws.ensures.size c.whole_laws.ensures.goes c.head_laws.ensures.taken c.head_laws.ensures.left c.args.head.now c.take-taken.new.self c.take-taken.result c.take-taken.ensures.record c.take-taken.ensures.after in
    record { passed = p.passed; less = λ t. p.less (sym c.is_some.ensures ∙ t); none = λ f. p.none (sym c.is_some.ensures ∙ f) }
