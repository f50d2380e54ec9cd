-- Calls of a disk that change nothing, one after the other.
use Rattle.std.proofs.Common.{◌≡◌, Option, Some, None, subst}
use Rattle.ds_disk.specs.Contents.{Contents, WhenTold, Becomes, Same}

pub same_on : (a b e : Option Contents) → Becomes a b Same → Becomes b e Same → Becomes a e Same
same_on None b e p q = tt
same_on (Some x) None e p q = absurd p
same_on (Some x) (Some y) None p q = absurd q
same_on (Some x) (Some y) (Some z) p q = subst (λ (c : Contents). z ≡ c) p q

-- what holds of the contents after a call held before it
pub held_before : (a b : Option Contents) (P : Contents → Type 0) → Becomes a b Same → WhenTold b P → WhenTold a P
held_before None b P same p = tt
held_before (Some c) None P same p = absurd same
held_before (Some c) (Some d) P same p = subst P same p

-- what two calls tell together
pub told_both : (a : Option Contents) (P Q R : Contents → Type 0) → ((c : Contents) → P c → Q c → R c) → WhenTold a P → WhenTold a Q → WhenTold a R
told_both None P Q R both p q = tt
told_both (Some c) P Q R both p q = both c p q

pub told_one : (a : Option Contents) (P R : Contents → Type 0) → ((c : Contents) → P c → R c) → WhenTold a P → WhenTold a R
told_one None P R one p = tt
told_one (Some c) P R one p = one c p
