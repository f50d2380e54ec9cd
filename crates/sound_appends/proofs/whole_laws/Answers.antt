use Rattle.sound_appends.proofs.Whole.{keeps_whole, torn_keeps_whole, cut_keeps_whole}
use Rattle.sound_appends.proofs.whole_laws.Goals as goal

pub returns-clause-append : goal.returns-clause-append
returns-clause-append c = λ d logs after r h w none. keeps_whole c.log_laws.ensures.append d logs after r h w none

pub returns-clause-torn : goal.returns-clause-torn
returns-clause-torn c = λ d logs after r n h w none few. torn_keeps_whole c.log_laws.ensures.torn d logs after r n h w none few

pub returns-clause-cut : goal.returns-clause-cut
returns-clause-cut c = λ d front log back w. cut_keeps_whole d front log back w
