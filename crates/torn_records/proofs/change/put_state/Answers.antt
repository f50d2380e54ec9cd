use Rattle.torn_records.proofs.Texts.{state_put}
use Rattle.torn_records.proofs.change.put_state.Goals as goal

pub returns : goal.returns
returns c = state_put c.args.text.now _ _ c.args.shape c.if-shape-eq0.false c.requires c.in_ok-extend.ensures.ok c.in_ok-extend-2.ensures.ok
