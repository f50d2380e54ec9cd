-- Given out again: what the crates above take from those below this one.
pub use Rattle.sound_disk.specs.Sound.{IsSoundDisk}
pub use Rattle.restart_soundness.specs.Left_out.{LeavesOutClosed}
pub use Rattle.claimed_logs.specs.Given.{CrewState, Group, IsLooked, IsSafe, LocksTied, Member, MemberStands, RestartInHand, Restarting, RunsFresh, StandsBeside, crew_state, known, known_by}
pub use Rattle.claimed_logs.specs.Given.fault_variants as fault_variants
pub use Rattle.claimed_logs.specs.Logs.{DownLogged, LogsClaimed, MemberLogged}
pub use Rattle.claimed_logs.specs.Taken.{LogsStand}
