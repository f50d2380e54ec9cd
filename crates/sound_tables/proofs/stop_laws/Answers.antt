use Rattle.sound_tables.specs.Keeping.{AreSoundOn}
use Rattle.sound_tables.proofs.Kept_logs.{Laws, kept}
use Rattle.sound_tables.proofs.Stops.{all_keep, stop_keeps}
use Rattle.sound_tables.proofs.stop_laws.Goals as goal

pub returns-clause-all : goal.returns-clause-all
returns-clause-all c =
    let l : Laws = record {
      whole = c.whole_laws.ensures.append;
      torn = c.whole_laws.ensures.torn;
      transactions = c.transaction_laws.ensures.transactions;
      turns = c.turn_laws.ensures.turns;
      numbers = c.transaction_laws.ensures.numbers;
      same = c.append_laws.ensures.same;
      versions = c.page_laws.ensures.versions;
      checkpoints = c.page_laws.ensures.checkpoints;
      tables = c.table_laws.ensures.tables;
    } in
    λ at d logs after member records h e w t s. all_keep at (AreSoundOn at) (kept l at) records d logs after member h e w t s

pub returns-clause-stop : goal.returns-clause-stop
returns-clause-stop c =
    let l : Laws = record {
      whole = c.whole_laws.ensures.append;
      torn = c.whole_laws.ensures.torn;
      transactions = c.transaction_laws.ensures.transactions;
      turns = c.turn_laws.ensures.turns;
      numbers = c.transaction_laws.ensures.numbers;
      same = c.append_laws.ensures.same;
      versions = c.page_laws.ensures.versions;
      checkpoints = c.page_laws.ensures.checkpoints;
      tables = c.table_laws.ensures.tables;
    } in
    λ at d logs after member records n h e w t s. stop_keeps at (AreSoundOn at) (kept l at) d logs after member records n h e w t s
