use Rattle.std.proofs.Common.{◌≡◌, ◌∙◌, ◌<◌, ◌≤◌, [], ◌∷◌, ◌++◌, List, ap, length, get_or, drop, arith}
use Rattle.std.proofs.lemmas.List.{map_push, length-take-le}
use Rattle.ds_model.specs.declared.log.LogRecord.{LogRecord}
use Rattle.log_record.specs.declared.log.Log.{Log}
use Rattle.report_check.specs.Commits.{commits_of}
use Rattle.report_check.proofs.Noting.{queues, commits_more}
use Rattle.report_check.proofs.commits.new_commits.Goals as goal

pub loop-i-preserved : goal.loop-i-preserved
loop-i-preserved c =
    let logs = c.args.logs.now in
    let had = c.args.had.now in
    let i = c.loop-i.i in
    let d = c.index-logs-i.result in
    let below : i < length logs = c.loop-i-test.true in
    let within : i ≤ length logs = omega arith in
    let queue = c.in_ok-commits_behind.field-0 in
    let behind : queue.items ≡ commits_of (drop c.count_at.result (get_or logs i d).records) = c.in_ok-commits_behind.ensures ∙ ap (λ (l : List LogRecord). commits_of (drop c.count_at.result l)) c.records.ensures ∙ ap (λ (l : Log). commits_of (drop c.count_at.result l.records)) c.index-logs-i.is in
    ap (λ l. queues l) c.in_ok-push.ensures.items
    ∙ map_push _ c.loop-i.commits.items queue
    ∙ (λ j. c.loop-i.invariant j ++ behind j ∷ [])
    ∙ commits_more had logs i d c.count_at.result below (length-take-le i logs within) c.count_at.ensures
