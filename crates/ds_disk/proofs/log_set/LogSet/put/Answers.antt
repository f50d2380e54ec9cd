use Rattle.std.proofs.Common.{◌≡◌, ◌-◌, ◌++◌, ◌∙◌, List, ℕ, ap, subst, sym}
use Rattle.ds_disk.specs.Logs.{IsLogOfBytes, logs_have_bytes, set_logs_have}
use Rattle.ds_disk.proofs.log_set.LogSet.put.Goals as goal

pub returns-clause-logged : goal.returns-clause-logged
returns-clause-logged c =
    let same : c.extend.new.self ≡ c.args.bytes.now = c.in_ok-extend.ensures.ok ∙ ap (λ (log : List ℕ). log ++ c.args.bytes.now) c.new-log.ensures in
    let is : IsLogOfBytes c.extend.new.self = subst IsLogOfBytes (sym same) (record { are = c.count.ensures.bytes; short = c.count.ensures.short }) in
    λ h. set_logs_have c.self.inside.logs.items (c.number.result - 1) c.extend.new.self is (ap logs_have_bytes c.self.view_is ∙ h)
