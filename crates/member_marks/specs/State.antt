-- What a member holds, as plain values.
use Rattle.std.specs.Prelude.{◌≡◌, ℕ, ◌+◌, ◌≤◌, [], replicate}
use Rattle.ds_base.specs.declared.names.TranId.{TranId}
use Rattle.lock_manager.specs.Managers.{Book}
use Rattle.member_pool.specs.Heads.{HeadState, all_free}
use Rattle.member_log.specs.Buffers.{LogBuffer, empty_buffer}
use Rattle.member_trans.specs.declared.fate.Owner.{Owner}
use Rattle.member_trans.specs.declared.fate.Owner.TheVariants as owner
use Rattle.member_trans.specs.Trans.{TransState, TranState, tran_of as tran_in, no_trans}
use Rattle.member_marks.specs.Names.{NameSet, no_names}

pub record MarksState : Type 0 where
  pub locks : Book
  pub heads : HeadState
  pub log : LogBuffer
  pub trans : TransState
  pub kept : NameSet  -- table spaces and rows whose retained records, of a failure of this member, stand in the group's table
  pub member : ℕ

abbrev pub agents_of : MarksState → ℕ
agents_of s = s.locks.agents

-- the owner's transaction
abbrev pub tran_of : MarksState → Owner → TranState
tran_of s o = tran_in s.trans o

abbrev pub slot_tran : MarksState → ℕ → TranState
slot_tran s slot = tran_of s (owner.Slot slot)

-- the owner's transaction, by member and number
abbrev pub id_of : MarksState → Owner → TranId
id_of s o = record { member = s.member; number = (tran_of s o).number }

abbrev pub slot_id : MarksState → ℕ → TranId
slot_id s slot = id_of s (owner.Slot slot)

abbrev pub with_locks : MarksState → Book → MarksState
with_locks s b = record s { locks = b }

abbrev pub with_heads : MarksState → HeadState → MarksState
with_heads s h = record s { heads = h }

abbrev pub with_log : MarksState → LogBuffer → MarksState
with_log s l = record s { log = l }

abbrev pub with_trans : MarksState → TransState → MarksState
with_trans s t = record s { trans = t }

abbrev pub with_kept : MarksState → NameSet → MarksState
with_kept s k = record s { kept = k }

-- ---- at the start: no claims, free frames, nothing pending, no transactions, no retained records

abbrev pub log_size : ℕ
log_size = 65536

pub record IsFresh (member agents entries frames : ℕ) (s : MarksState) : Type 0 where
  pub holders : s.locks.holders ≡ replicate (agents + 1) []
  pub rollbacks : s.locks.rollbacks ≡ []
  pub sizes : (s.locks.agents ≡ agents) × (s.locks.entries ≡ entries) × (s.locks.pages ≡ frames + 128)
  pub room : (1 ≤ s.locks.spare) × (agents ≤ s.locks.room)
  pub heads : s.heads ≡ all_free frames
  pub log : s.log ≡ empty_buffer log_size
  pub trans : s.trans ≡ no_trans agents
  pub kept : s.kept ≡ no_names
  pub member_is : s.member ≡ member
