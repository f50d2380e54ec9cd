use Rattle.script_text.proofs.Sound.{read_is}
use Rattle.script_text.proofs.laws.reading_script_laws.Goals as goal

pub returns : goal.returns
returns c = λ members bytes s h. read_is members bytes s (λ line. record { range = c.reading_laws.ensures.range members line; keyword = c.reading_laws.ensures.keyword members line }) h
