-- What a call of a disk that tells leaves.
use Rattle.std.proofs.Common.{◌≡◌, Bool, Option, Some, None, Result, Ok, Err, refl, sym, subst, inl, inr}
use Rattle.ds_disk.specs.Answers.{Answers}
use Rattle.ds_disk.specs.Contents.{Contents, Becomes, Same}
use Rattle.ds_disk.specs.declared.disk.DiskError.{DiskError}
use Rattle.ds_disk.specs.declared.disk.DiskError.TheVariants as failures

-- a fact that holds from a first moment to a second one goes on to a third
pub told_on : (P Q : Contents → Contents → Type 0) (a b e : Option Contents) → Becomes a b P → ((o c : Contents) → b ≡ Some c → P o c → Becomes (Some c) e (λ _ d. Q o d)) → Becomes a e Q
told_on P Q None b e is on = tt
told_on P Q (Some o) None e is on = absurd is
told_on P Q (Some o) (Some c) None is on = on o c refl is
told_on P Q (Some o) (Some c) (Some d) is on = on o c refl is

pub told_as : (c : Contents) (e : Option Contents) (P Q : Contents → Type 0) → ((d : Contents) → P d → Q d) → Becomes (Some c) e (λ _ d. P d) → Becomes (Some c) e (λ _ d. Q d)
told_as c None P Q next h = absurd h
told_as c (Some d) P Q next h = next d h

told_at : (c : Contents) (b e : Option Contents) (P : Contents → Contents → Type 0) (Q : Contents → Type 0) → b ≡ Some c → ((d : Contents) → P c d → Q d) → Becomes b e P → Becomes (Some c) e (λ _ d. Q d)
told_at c None e P Q is next h = absurd cc
told_at c (Some x) None P Q is next h = absurd h
told_at c (Some x) (Some d) P Q is next h = let same : x ≡ c = cc in next d (subst (λ (z : Contents). P z d) same h)

module _ {T : Type 0} {was now : Bool} {before after : Option Contents} {Done : T → Contents → Contents → Type 0} {Torn : Contents → Contents → Type 0} (c : Contents) where
  -- after an answer
  pub answered : (x : T) (Q : Contents → Type 0) → before ≡ Some c → Answers was now before after (Ok x) Done Torn → ((d : Contents) → Done x c d → Q d) → Becomes (Some c) after (λ _ d. Q d)
  answered x Q is a next = told_at c before after (Done x) Q is next a.ok.2

  -- after a call, whether it was answered or not
  pub left_by : (made : Result T DiskError) (Q : Contents → Type 0) → before ≡ Some c → Answers was now before after made Done Torn → Q c → ((x : T) (d : Contents) → Done x c d → Q d) → ((d : Contents) → Torn c d → Q d)
      → Becomes (Some c) after (λ _ d. Q d)
  left_by (Ok x) Q is a q done torn = told_at c before after (Done x) Q is (done x) a.ok.2
  left_by (Err failures.Failed) Q is a q done torn = elim (a.failed refl) [
    | inl h ↦ told_at c before after Same Q is (λ d e. subst Q (sym e) q) h.1
    | inr h ↦ told_at c before after Torn Q is torn h.1
  ]
  left_by (Err failures.NoMemory) Q is a q done torn = told_at c before after Same Q is (λ d e. subst Q (sym e) q) (a.no_memory refl).2
