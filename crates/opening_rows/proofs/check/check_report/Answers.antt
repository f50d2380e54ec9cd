use Rattle.std.proofs.Common.{ℕ, List, subst}
use Rattle.opening_rows.proofs.FreshTells.{HadNone}
use Rattle.opening_rows.proofs.WholeLogs.{blocks_read, blocks_unread, failed_is, wanting_is, whole_behind}
use Rattle.opening_rows.specs.declared.fault.LogsFault.TheVariants.{Failed, NoMemory}
use Rattle.opening_rows.proofs.check.check_report.Goals as goal

pub returns-in-Ok-clause-judged : goal.returns-in-Ok-clause-judged
returns-in-Ok-clause-judged g c = blocks_read _ _ _ _ _ c.check_by_blocks.result c.in-Ok.rows c.in-Ok.is c.check_by_blocks.ensures.judged

pub returns-in-Err-Damaged-clause-judged : goal.returns-in-Err-Damaged-clause-judged
returns-in-Err-Damaged-clause-judged g c = whole_behind _ _ _ _ _ _ _ c.check_by_blocks.result c.check_whole.result c.check_by_blocks.ensures.judged c.check_whole.ensures.judged

pub returns-in-Err-Failed-clause-judged : goal.returns-in-Err-Failed-clause-judged
returns-in-Err-Failed-clause-judged g c = blocks_unread _ _ _ _ _ c.check_by_blocks.result c.in-Err-Failed.field-0 Failed c.in-Err-Failed.is c.in-Err-Failed.field-0-is failed_is c.check_by_blocks.ensures.judged

pub returns-in-Err-NoMemory-clause-judged : goal.returns-in-Err-NoMemory-clause-judged
returns-in-Err-NoMemory-clause-judged g c = blocks_unread _ _ _ _ _ c.check_by_blocks.result c.in-Err-NoMemory.field-0 NoMemory c.in-Err-NoMemory.is c.in-Err-NoMemory.field-0-is wanting_is c.check_by_blocks.ensures.judged

pub check_fresh-requires-clause-none : goal.check_fresh-requires-clause-none
check_fresh-requires-clause-none g c = subst (λ (ns : List ℕ). HadNone ns) c.deref.ensures.value (c.had_none.ensures.0 c.if-had_none.true)
