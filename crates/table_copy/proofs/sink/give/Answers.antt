use Rattle.std.proofs.Common.{◌≡◌, sym, inl}
use Rattle.table_copy.specs.declared.fault.CopyFault.TheVariants as fault
use Rattle.table_copy.proofs.Fronts.{some_front}
use Rattle.table_copy.proofs.sink.give.Goals as goal

pub returns-in-Err : goal.returns-in-Err
returns-in-Err g c =
    let front = c.in-Err.ensures.err in
    record {
      ok = tt;
      front = some_front (g.K.Sink.taken c.args.sink.now) (g.K.Sink.taken c.write_all.new.sink) front.0 c.args.bytes.now front.2;
      failed = λ e. c.in-Err.ensures.cause.failed;
      only = λ f e. (let same : fault.Sink ≡ f = cc in inl (sym same));
      later = c.in-Err.ensures.cause.later;
    }
