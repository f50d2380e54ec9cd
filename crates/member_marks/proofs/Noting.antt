-- One patch after the other.
use Rattle.std.proofs.Common.{◌≡◌, ℕ, ◌+◌, ◌<◌, List, length, drop, get_or}
use Rattle.std.proofs.lemmas.List.{at_drop_more}
use Rattle.page_format.specs.declared.patch.Patch.{Patch}
use Rattle.member_trans.specs.Trans.{TransState}
use Rattle.member_marks.specs.Records.{sets_noted, set_noted}

pub noted_step : (t : TransState) (slot : ℕ) (ps : List Patch) (i : ℕ) (d : Patch) → i < length ps
    → sets_noted t slot (drop i ps) ≡ sets_noted (set_noted t slot (get_or ps i d).page.set) slot (drop (i + 1) ps)
noted_step t slot ps i d h = at_drop_more (λ z. sets_noted t slot z) ps i d h
