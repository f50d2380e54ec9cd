-- The members in their order.
use Rattle.std.proofs.Common.{◌≡◌, ℕ, Option, Some, None, sym, ◌∙◌}
use Rattle.std.specs.Option.{SomeIff}
use Rattle.ds_base.specs.Ids.{IsMember}

pub member_is : (o : Option ℕ) (n member : ℕ) → SomeIff o (IsMember n) n → o ≡ Some member → member ≡ n
member_is None n member h e = absurd cc
member_is (Some m) n member h e = let same : m ≡ member = cc in sym same ∙ h.1
