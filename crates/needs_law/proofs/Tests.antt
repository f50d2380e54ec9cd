-- What follows from tests that are passed.
use Rattle.std.proofs.Common.{◌≡◌, ◌≢◌, ℕ, ◌==◌, Bool, true, false, not, Result, Ok, Err, refl, sym, ap, subst, arith}
use Rattle.std.proofs.lemmas.Grind.{common_steps}
use Rattle.member_intents.specs.declared.outcome.Sent.{Sent}
use Rattle.member_intents.specs.declared.test.Test.{Test}
use Rattle.member_needs.specs.Tested.{Tested, passed, when, after}

pub when_ok : (b : Bool) (t : Test) (rest : Tested) → when b t rest ≡ passed → (b ≡ true) × (rest ≡ passed)
when_ok true t rest e = (refl, e)
when_ok false t rest e = cc

pub after_ok : {T : Type 0} (tested : Tested) (rest : Result T Test) (x : T) → after tested rest ≡ Ok x → (tested ≡ passed) × (rest ≡ Ok x)
after_ok (Ok u) rest x e = (refl, e)
after_ok (Err t) rest x e = cc

or_first : Sent → Result Sent Test → Sent
or_first d (Ok x) = x
or_first d (Err t) = d

pub ok_out : (a b : Sent) → (let r : Result Sent Test = Ok a in r ≡ Ok b) → b ≡ a
unfolding or_first
ok_out a b e = sym (ap (or_first a) e)

pub not_true : (b : Bool) → not b ≡ true → b ≡ false
not_true true e = sym e
not_true false e = refl

pub nonzero : (n : ℕ) → not (n == 0) ≡ true → n ≢ 0
nonzero n h e = let h' : false ≡ true = subst (λ (k : ℕ). not (k == 0) ≡ true) e h in cc

pub is_zero : (n : ℕ) → (n == 0) ≡ true → n ≡ 0
is_zero n e = grind (arith, common_steps)
