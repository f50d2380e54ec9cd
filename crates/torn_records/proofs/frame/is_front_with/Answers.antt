use Rattle.std.proofs.Common.{◌≡◌, true}
use Rattle.torn_records.specs.Fronts.{HasText}
use Rattle.torn_records.proofs.Shown.{front_begins}
use Rattle.torn_records.proofs.Telling.{told_none}
use Rattle.torn_records.proofs.frame.is_front_with.Goals as goal

pub returns-else-begins : goal.returns-else-begins
returns-else-begins c =
    told_none c.args.bytes.now (HasText c.args.version c.args.kind c.args.has_tran c.args.text.now)
    (λ r h t f.
    let begins : c.may_begin-begins.result ≡ true = c.may_begin-begins.ensures.1 (front_begins c.args.version c.args.kind c.args.has_tran c.args.text.now c.args.bytes.now r t f) in
    cc)
