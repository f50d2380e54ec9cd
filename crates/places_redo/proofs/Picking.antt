-- Records at their places, one after the other, against the list of those records.
use Rattle.std.proofs.Common.{◌≡◌, ℕ, Bool, true, false, List, [], ◌∷◌, refl, ap, ◌∙◌}
use Rattle.std.specs.Prelude.{◌||◌, Option, None, Some, Result, Ok, Err, slice_get}
use Rattle.ds_base.specs.declared.names.PageId.{PageId}
use Rattle.ds_model.specs.declared.log.LogRecord.{LogRecord}
use Rattle.page_redo.specs.declared.fault.FieldFault.{FieldFault}
use Rattle.page_redo.specs.Forward.{Forward, after_one, go_on, forward_from}
use Rattle.places_redo.specs.Picked.{before, picked, one_of, forward_at}

or_false : (b : Bool) → (b || false) ≡ b
or_false true = refl
or_false false = refl

same_on : (f g : List ℕ → Bool → Forward) → ((p : List ℕ) (b : Bool) → f p b ≡ g p b) → (applied : Bool) (page : List ℕ) (o : Result Bool FieldFault)
    → go_on f applied page o ≡ go_on g applied page o
same_on f g h applied page (Err fault) = refl
same_on f g h applied page (Ok one) = h page (applied || one)

one_more : (id : PageId) (records : List LogRecord) (ns : List ℕ) → ((p : List ℕ) (b : Bool) → forward_at id records p b ns ≡ forward_from id p b (picked records ns))
    → (page : List ℕ) (applied : Bool) (found : Option LogRecord)
    → go_on (λ p b. forward_at id records p b ns) applied (one_of id page found).page (one_of id page found).outcome ≡ forward_from id page applied (before found (picked records ns))
one_more id records ns h page applied None = h page (applied || false) ∙ ap (λ b. forward_from id page b (picked records ns)) (or_false applied)
one_more id records ns h page applied (Some r) =
    same_on (λ p b. forward_at id records p b ns) (λ p b. forward_from id p b (picked records ns)) h applied (after_one id page r).page (after_one id page r).outcome

pub at_picked : (id : PageId) (records : List LogRecord) (page : List ℕ) (applied : Bool) (ns : List ℕ)
    → forward_at id records page applied ns ≡ forward_from id page applied (picked records ns)
at_picked id records page applied [] = refl
at_picked id records page applied (n ∷ ns) = one_more id records ns (λ p b. at_picked id records p b ns) page applied (slice_get records n)
