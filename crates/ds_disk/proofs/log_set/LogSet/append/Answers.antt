use Rattle.std.proofs.Common.{◌-◌, ◌∙◌, ap, subst}
use Rattle.ds_disk.specs.Logs.{IsLogOfBytes, logs_have_bytes, set_logs_have}
use Rattle.ds_disk.proofs.log_set.LogSet.append.Goals as goal

pub returns-clause-logged : goal.returns-clause-logged
returns-clause-logged c =
    let is : IsLogOfBytes c.extend-done.new.self = subst IsLogOfBytes c.as_slice.ensures (record { are = c.count.ensures.bytes; short = c.count.ensures.short }) in
    λ h. set_logs_have c.self.inside.logs.items (c.number.result - 1) c.extend-done.new.self is (ap logs_have_bytes c.self.view_is ∙ h)
