use Rattle.std.proofs.Common.{◌≤◌, arith, rules}
use Rattle.group_words.proofs.Ranges.{number_fits}
use Rattle.group_words.specs.Options.{number_for}
use Rattle.group_words.specs.declared.setting.Setting.TheVariants.{Members}
use Rattle.group_words.proofs.given.are_allowed.Goals as goal

pub overflow_mul-result : goal.overflow_mul-result
overflow_mul-result c =
    let least : number_for Members c.args.given.now ≤ 32 = number_fits Members c.args.given.now (search rules) in
    omega (arith, c.number_for.ensures, least)
