use Rattle.script_text.proofs.Round.{read_back}
use Rattle.script_text.proofs.laws.canonical_script_laws.Goals as goal

pub returns : goal.returns
returns c = λ members s low h short.
    let laws = c.canonical_text_laws.ensures in
    read_back members s (record {
      read = λ l i. c.canonical_text_laws.ensures.read members l low i;
      counts = λ l i. c.canonical_text_laws.ensures.counts members l low i;
      keyword = λ l i. c.canonical_text_laws.ensures.keyword members l low i;
      printed = λ l i. c.canonical_text_laws.ensures.printed members l low i;
    }) c.canonical_text_laws.ensures.operations h short
