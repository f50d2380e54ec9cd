use Rattle.std.proofs.Common.{◌≤◌, arith}
use Rattle.group_words.specs.Options.{number_for}
use Rattle.group_words.specs.declared.setting.Setting.TheVariants.{Members, Agents, Locks, Records, Cache, Pool, Pages}
use Rattle.group_words.proofs.Ranges.{allowed_fits}
use Rattle.group_words.proofs.read.sizes_of.Goals as goal

pub overflow_cast-result : goal.overflow_cast-result
overflow_cast-result c =
    let fits : number_for Members c.args.given.now ≤ 32 = allowed_fits Members c.args.given.now c.requires in
    omega (arith, c.number_for.ensures, fits)

pub overflow_cast-result-2 : goal.overflow_cast-result-2
overflow_cast-result-2 c =
    let fits : number_for Agents c.args.given.now ≤ 16 = allowed_fits Agents c.args.given.now c.requires in
    omega (arith, c.number_for-2.ensures, fits)

pub overflow_cast-result-3 : goal.overflow_cast-result-3
overflow_cast-result-3 c =
    let fits : number_for Locks c.args.given.now ≤ 65536 = allowed_fits Locks c.args.given.now c.requires in
    omega (arith, c.number_for-3.ensures, fits)

pub overflow_cast-result-4 : goal.overflow_cast-result-4
overflow_cast-result-4 c =
    let fits : number_for Records c.args.given.now ≤ 65536 = allowed_fits Records c.args.given.now c.requires in
    omega (arith, c.number_for-4.ensures, fits)

pub overflow_cast-result-5 : goal.overflow_cast-result-5
overflow_cast-result-5 c =
    let fits : number_for Cache c.args.given.now ≤ 65536 = allowed_fits Cache c.args.given.now c.requires in
    omega (arith, c.number_for-5.ensures, fits)

pub overflow_cast-result-6 : goal.overflow_cast-result-6
overflow_cast-result-6 c =
    let fits : number_for Pool c.args.given.now ≤ 4096 = allowed_fits Pool c.args.given.now c.requires in
    omega (arith, c.number_for-6.ensures, fits)

pub overflow_cast-result-7 : goal.overflow_cast-result-7
overflow_cast-result-7 c =
    let fits : number_for Pages c.args.given.now ≤ 65536 = allowed_fits Pages c.args.given.now c.requires in
    omega (arith, c.number_for-7.ensures, fits)
