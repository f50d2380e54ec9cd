use Rattle.std.proofs.Common.{rules, ◌∙◌, map, sym, ap}
use Rattle.group_crew.specs.Crews.{unlooked}
use Rattle.group_crew.proofs.Begun.{looked_state}
use Rattle.group_crew.proofs.Parts.{once}
use Rattle.group_crew.proofs.crew.Crew.find_ready.Goals as goal

pub returns-clause-looks : goal.returns-clause-looks
returns-clause-looks g c = record {
  rest = search rules;
  parts = ap (λ crew. map (unlooked {P = g.row.P.Denot}) crew.parts.items) c.find_idle.ensures
      ∙ once (unlooked {P = g.row.P.Denot}) c.args.self.now.parts.len c.args.self.now.parts.items c.find_in_all.new.parts
      (sym c.args.self.now.parts.ok.0) (c.find_in_all.ensures ∙ ap (map (unlooked {P = g.row.P.Denot})) c.deref_mut.ensures.value);
}

pub returns-clause-same : goal.returns-clause-same
returns-clause-same g c = looked_state g.C.CacheFace.directory c.args.self.now c.find_idle.new.self (returns-clause-looks g c)
