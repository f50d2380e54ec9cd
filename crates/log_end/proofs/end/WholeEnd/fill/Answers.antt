use Rattle.std.proofs.Common.{◌≡◌, ℕ, List, length, sym, subst, ◌∙◌}
use Rattle.log_end.proofs.Passing.{wanted, read_on, read_kept}
use Rattle.log_end.proofs.end.WholeEnd.fill.Goals as goal

pub fill-requires-clause-short : goal.fill-requires-clause-short
fill-requires-clause-short c = (wanted c.self.inside.block (length c.args.bytes.now) c.self.inside.head _ c.self.view_is c.requires).short

pub fill-requires-clause-room : goal.fill-requires-clause-room
fill-requires-clause-room c = (wanted c.self.inside.block (length c.args.bytes.now) c.self.inside.head _ c.self.view_is c.requires).room
