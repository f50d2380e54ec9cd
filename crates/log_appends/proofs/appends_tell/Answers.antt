use Rattle.log_appends.proofs.appends_tell.Goals as goal
use Rattle.log_appends.proofs.Spelling.{whole_again}
use Rattle.log_appends.proofs.Stopping.{all_last, are_behind, last_spell}

pub returns : goal.returns
returns c = record {
  whole = whole_again;
  all = all_last c.log_laws.ensures.sound;
  spell = last_spell c.reading_laws.ensures.again c.reading_laws.ensures.cut c.whole_laws.ensures.empty c.log_laws.ensures.sound;
  last = are_behind c.reading_laws.ensures.again c.reading_laws.ensures.cut c.whole_laws.ensures.empty c.log_laws.ensures.sound;
}
