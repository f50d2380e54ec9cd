-- How the members stand: whether they run, are done with the phase, and rebuild the cache.
use Rattle.std.specs.Prelude.{ℕ, ◌≡◌, ◌-◌, ◌==◌, Bool, true, false, not, ◌&&◌, List, length, replicate, slice_index_or, nat_le, Option, Some, None, if◌then◌else◌}
use Rattle.ds_base.specs.Ids.{IsMember}
use Rattle.list_structure.specs.declared.standing.MemberStatus.{MemberStatus}
use Rattle.list_structure.specs.declared.standing.MemberStatus.TheVariants.{Down, Up, Failed, Restarting}
use Rattle.list_structure.specs.declared.standing.ClaimReply.{ClaimReply}
use Rattle.list_structure.specs.declared.standing.ClaimReply.TheVariants.{NotLost, Taken, Claimed}

-- the members of the group, each one's status and mark of being done, and who rebuilds the cache
pub record StandingState : Type 0 where
  pub members : ℕ
  pub statuses : List MemberStatus
  pub done : List Bool
  pub rebuilder : Option ℕ

abbrev pub status_of : List MemberStatus → ℕ → MemberStatus
status_of statuses member = slice_index_or statuses (member - 1) Down

abbrev pub done_of : List Bool → ℕ → Bool
done_of done member = slice_index_or done (member - 1) false

abbrev pub is_live : MemberStatus → Bool
is_live Up = true
is_live Restarting = true
is_live _ = false

-- the group's members are up and done, and all other numbers are down
pub record AreUp (statuses : List MemberStatus) (members : ℕ) : Type 0 where
  pub count : length statuses ≡ 32
  pub each : (m : ℕ) → IsMember m → status_of statuses m ≡ (if nat_le m members then Up else Down)

pub record AreDone (done : List Bool) (members : ℕ) : Type 0 where
  pub count : length done ≡ 32
  pub each : (m : ℕ) → IsMember m → done_of done m ≡ nat_le m members

-- no member is done
abbrev pub NoneDone : List Bool → Type 0
NoneDone done = done ≡ replicate 32 false

-- the reply to a member that is to rebuild the cache if it is lost
abbrev pub claim_reply : Bool → Option ℕ → ℕ → List MemberStatus → ClaimReply
claim_reply false rebuilder member statuses = NotLost
claim_reply true None member statuses = Claimed
claim_reply true (Some by) member statuses = if not (by == member) && is_live (status_of statuses by) then Taken by else Claimed

-- who rebuilds after the reply
abbrev pub rebuilder_after : ClaimReply → ℕ → Option ℕ → Option ℕ
rebuilder_after Claimed member rebuilder = Some member
rebuilder_after _ member rebuilder = rebuilder

-- who rebuilds once the member doesn't
abbrev pub rebuilder_without : ℕ → Option ℕ → Option ℕ
rebuilder_without member None = None
rebuilder_without member (Some by) = if by == member then None else Some by
