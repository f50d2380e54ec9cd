-- Up to where members know the logs to be whole records.
use Rattle.std.specs.Prelude.{◌≡◌, ℕ, ◌≤◌, All, List, Option, Some, None, slice_index_or}
use Rattle.checkpoint_reader.specs.Ends.{end_of, nothing_known}
use Rattle.group_member.specs.declared.part.MemberPart.{MemberPart}
use Rattle.group_restart.specs.Ends.{log_end}
use Rattle.group_restart.specs.Machine.{Restart}

-- where the logs end behind this restart
abbrev pub AreEndsOf : Restart → List ℕ → Type 0
AreEndsOf restart known = (member : ℕ) → 1 ≤ member → member ≤ 32 → end_of known member ≡ log_end restart member

-- behind the one in hand; where none is, nothing is known
abbrev pub AreEndsIn : Option Restart → List ℕ → Type 0
AreEndsIn None known = known ≡ nothing_known
AreEndsIn (Some restart) known = AreEndsOf restart known

-- what is known by the member at a place; where none is, nothing is
abbrev pub known_at : List (List ℕ) → ℕ → List ℕ
known_at known at = slice_index_or known at nothing_known

-- each of them knows these
abbrev pub AllKnow : {P : Type 0} → List ℕ → List (MemberPart P) → Type 0
AllKnow {P} known parts = All (λ (part : MemberPart P). part.known ≡ known) parts

-- and each what is known behind the restart in hand
abbrev pub AllKnowEnds : {P : Type 0} → Option Restart → List (MemberPart P) → Type 0
AllKnowEnds {P} restart parts = All (λ (part : MemberPart P). AreEndsIn restart part.known) parts
