-- What a restarting member holds, without the bytes of its page, as plain values.
use Rattle.std.specs.Prelude.{◌≡◌, ℕ, Bool, false, List, [], Option, None}
use Rattle.ds_base.specs.declared.names.PageId.{PageId}
use Rattle.member_log.specs.Buffers.{LogBuffer, empty_buffer}
use Rattle.restart_marks.specs.declared.hand.Hand.{Hand}
use Rattle.restart_marks.specs.declared.marks.KeptBy.{KeptBy}
use Rattle.restart_records.specs.declared.queue.TurnKey.{TurnKey}
use Rattle.restart_records.specs.Own.{OwnState, IsNewLog}
use Rattle.restart_records.specs.Names.{NameState, no_names}
use Rattle.restart_records.specs.Trans.{TransState, no_trans}

pub record RestartState : Type 0 where
  pub member : ℕ
  pub own : OwnState
  pub log : LogBuffer
  pub counter : ℕ  -- the greatest number that was met
  pub listed : ℕ  -- how many retained locks are known
  pub is_listed : Bool  -- all are
  pub pages : List TurnKey  -- the retained pages that are known, in their order
  pub names : NameState
  pub trans : TransState
  pub hand : Hand
  pub claim : Option PageId  -- the page whose lock is claimed
  pub kept : Option KeptBy
  pub is_up : Bool

abbrev pub with_own : RestartState → OwnState → RestartState
with_own s o = record s { own = o }

abbrev pub with_log : RestartState → LogBuffer → RestartState
with_log s b = record s { log = b }

abbrev pub with_hand : RestartState → Hand → RestartState
with_hand s h = record s { hand = h }

abbrev pub with_pages : RestartState → List TurnKey → RestartState
with_pages s keys = record s { pages = keys }

abbrev pub with_names : RestartState → NameState → RestartState
with_names s n = record s { names = n }

abbrev pub with_trans : RestartState → TransState → RestartState
with_trans s t = record s { trans = t }

abbrev pub no_hand : Hand
no_hand = record { page = None; key = None; registered = false; filled = false; changed = false; brought = false; last = 0 }

abbrev pub log_size : ℕ
log_size = 65536

-- nothing is read, known or held yet
pub record IsFresh (member : ℕ) (s : RestartState) : Type 0 where
  pub own : IsNewLog member s.own
  pub rest : s ≡ record {
    member = member;
    own = s.own;
    log = empty_buffer log_size;
    counter = 0;
    listed = 0;
    is_listed = false;
    pages = [];
    names = no_names;
    trans = no_trans;
    hand = no_hand;
    claim = None;
    kept = None;
    is_up = false;
  }
