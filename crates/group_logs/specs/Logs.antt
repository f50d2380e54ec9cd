-- How the log of a member on disk goes on, by what its event was.
use Rattle.std.specs.Prelude.{◌≡◌, ◌≢◌, ◌⊎◌, ℕ, ◌-◌, ◌≤◌, ◌++◌, nat_lt, Bool, true, false, List, [], length, take, Option, Some, None, IfSome}
use Rattle.ds_disk.specs.Contents.{Contents, log_of}
use Rattle.member_intents.specs.declared.outcome.Sent.{Sent}
use Rattle.member_intents.specs.declared.outcome.Sent.TheVariants as sent
use Rattle.group_member.specs.declared.restarting.Restarting.{Restarting}
use Rattle.group_member.specs.declared.stepped.Stepped.{Stepped}
use Rattle.group_member.specs.declared.stepped.Stepped.TheVariants as steps
use Rattle.group_member.specs.Happening.{RestartSent}
use Rattle.group_member.specs.Happening.restart_sent as restarting
use Rattle.group_member.specs.Members.{Member}
use Rattle.group_member.specs.Stepping.{is_failure}

-- ---- one log, where a call of the disk has failed or not

-- it ends with these bytes, or with the first of them where the call has failed
abbrev pub Appends : List ℕ → Bool → List ℕ → List ℕ → Type 0
Appends more false old new = new ≡ old ++ more
Appends more true old new = (n : ℕ) × (n ≤ length more) × (new ≡ old ++ take n more)

-- so many of its bytes are left, or all where the call has failed
abbrev pub IsCut : ℕ → Bool → List ℕ → List ℕ → Type 0
IsCut long false old new = new ≡ take long old
IsCut long true old new = (new ≡ old) ⊎ (new ≡ take long old)

-- ---- by what was sent: a member that is up appends its log buffer, and its restart may cut the log before that

abbrev pub OwnGoes : Sent → List ℕ → Bool → List ℕ → List ℕ → Type 0
OwnGoes sent.None pending failed old new = new ≡ old
OwnGoes (sent.Command c) pending failed old new = new ≡ old
OwnGoes sent.AppendLog pending failed old new = Appends pending failed old new
OwnGoes (sent.ReadPage page) pending failed old new = new ≡ old
OwnGoes (sent.WritePage page) pending failed old new = new ≡ old

abbrev pub RestartGoes : RestartSent → List ℕ → Bool → List ℕ → List ℕ → Type 0
RestartGoes restarting.None pending failed old new = new ≡ old
RestartGoes (restarting.Command c) pending failed old new = new ≡ old
RestartGoes restarting.LogLength pending failed old new = new ≡ old
RestartGoes (restarting.ReadLog at count) pending failed old new = new ≡ old
RestartGoes (restarting.CutLog long) pending failed old new = IsCut long failed old new
RestartGoes restarting.AppendLog pending failed old new = Appends pending failed old new
RestartGoes (restarting.ReadPage page) pending failed old new = new ≡ old

-- the log buffer of the restart in hand
abbrev pub buffer_of : Option Restarting → List ℕ
buffer_of None = []
buffer_of (Some q) = q.resources.marks.log.pending

-- a rebuild changes no log, and no call is made where the member is to fail
abbrev pub LogGoes : Member → Stepped → List ℕ → List ℕ → Type 0
LogGoes m (steps.Sent sent answered) old new = OwnGoes sent m.holds.marks.log.pending (is_failure answered) old new
LogGoes m (steps.Restart sent answered) old new = RestartGoes sent (buffer_of m.restart) (is_failure answered) old new
LogGoes m (steps.Rebuild sent answered) old new = new ≡ old
LogGoes m steps.Failed old new = new ≡ old

-- ---- all logs

-- that of this member goes on so, if the disk has one for it, and no other changes
pub record OneGoes (member : ℕ) (Goes : List ℕ → List ℕ → Type 0) (c d : Contents) : Type 0 where
  pub count : length d.logs ≡ length c.logs
  pub others : (k : ℕ) → 1 ≤ k → k ≢ member → log_of d.logs k ≡ log_of c.logs k
  pub own : nat_lt (member - 1) (length c.logs) ≡ true → Goes (log_of c.logs member) (log_of d.logs member)

-- the member, and its restart, have this number
pub record IsNumbered (number : ℕ) (m : Member) : Type 0 where
  pub own : m.holds.marks.member ≡ number
  pub restart : IfSome m.restart (λ q. q.resources.marks.member ≡ number)
