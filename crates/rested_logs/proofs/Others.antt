-- The logs of which no member of the group is there, behind an event.
use Rattle.std.proofs.Common.{◌≡◌, ℕ, zero, suc, ◌+◌, ◌-◌, ◌≤◌, refl, sym, ◌∙◌, ap, subst, arith, Bool, inl, inr, List, [], ◌∷◌, Option, Some, None}
use Rattle.std.specs.Prelude.{◌≢◌, ◌⊎◌, ◌%◌, slice_get}
use Rattle.std.proofs.lemmas.Bool.{cases_eq}
use Rattle.ds_disk.specs.Contents.{Becomes, Contents, log_of}
use Rattle.cache_structure.specs.Directory.{Directory}
use Rattle.claimed_logs.specs.Given.{CrewState, LogsChangeBy, LogsGo, Member, MemberLogs, crew_state}
use Rattle.claimed_logs.specs.Logs.{LogCloses}
use Rattle.rested_logs.specs.Others.{OthersStay}
use Rattle.rested_logs.specs.Rests.{OthersClose}

above_zero : (n : ℕ) → n ≢ 0 → 1 ≤ n
above_zero zero ne = absurd (ne refl)
above_zero (suc n) ne = omega arith

none_some : {A : Type 0} → (x : Option A) (a : A) → x ≡ Some a → x ≡ None → ⊥
none_some x a some none = cc

same_others : (c d : Contents) (s : CrewState) → d ≡ c → OthersClose c s → OthersClose d s
same_others c d s same others = subst (λ (z : Contents). OthersClose z s) (sym same) others

member_others : (c d : Contents) (s : CrewState) (number : ℕ) (o : Option Member) → number ≢ 0 → slice_get s.members (number - 1) ≡ o → MemberLogs o number c d → OthersClose c s → OthersClose d s
member_others c d s number None ne is same others = same_others c d s same others
member_others c d s number (Some m) ne is goes others = λ at none. subst LogCloses (sym (goes.1.others (at + 1) (omega arith) (apart at none))) (others at none)
  where
    one : 1 ≤ number
    one = above_zero number ne

    apart : (at : ℕ) → slice_get s.members at ≡ None → at + 1 ≢ number
    apart at none e =
        let here : number - 1 ≡ at = omega (arith, e) in
        none_some (slice_get s.members (number - 1)) m is (ap (slice_get s.members) here ∙ none)

pub changed_others : (c d : Contents) (s : CrewState) (event : ℕ) → LogsChangeBy event s c d → OthersClose c s → OthersClose d s
changed_others c d s event changes others = elim (cases_eq (event % 64) 0) [
  | inl own ↦ same_others c d s (changes.group own) others
  | inr member ↦ member_others c d s (event % 64) (slice_get s.members (event % 64 - 1)) member refl (changes.member member) others
]

pub others_stay : {C D : Type 0} → (P : Type 0) (directory : C → Directory) (alive : D → Bool) (contents : D → Option Contents) (count : D → ℕ) → LogsGo P directory alive contents count → OthersStay P directory alive contents count
others_stay {C} {D} P directory alive contents count law old new event c d takes no_restart lawful numbered told left others =
    changed_others c d (crew_state directory old.crew) event
    (subst (λ (z : Option Contents). Becomes (Some c) z (LogsChangeBy event (crew_state directory old.crew))) left
    (subst (λ (z : Option Contents). Becomes z (contents new.disk) (LogsChangeBy event (crew_state directory old.crew))) told (law old new event takes no_restart lawful numbered)))
    others
