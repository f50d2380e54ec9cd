use Rattle.std.proofs.Common.{refl}
use Rattle.log_record.specs.Fields.{field_at}
use Rattle.log_record.proofs.Values.{value_true}
use Rattle.log_record.proofs.state.value_at.Goals as goal

pub returns-in-Some : goal.returns-in-Some
unfolding field_at
returns-in-Some c =
    let found = rw c.in-Some.is at c.in_ok-value.ensures.found in
    rw (c.in_ok-bytes.ensures.exact, value_true c.in_ok-bytes.bytes.now found.0, found.1) refl
