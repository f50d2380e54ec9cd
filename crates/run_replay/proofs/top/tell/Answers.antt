use Rattle.std.proofs.Common.{map, ap, ◌∙◌}
use Rattle.lock_sights.specs.Lines.{sights_text}
use Rattle.run_replay.proofs.top.tell.Goals as goal

pub returns-clause-ok : goal.returns-clause-ok
returns-clause-ok c = record {
  found = c.in_ok-sights.sights.items;
  are = c.in_ok-sights.ensures.ok;
  spelled = c.in_ok-text.ensures ∙ ap (sights_text (map (λ t. t.now) c.args.roster.now)) c.deref.ensures.value;
}
