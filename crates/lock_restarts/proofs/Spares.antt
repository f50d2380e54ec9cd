-- The claims of rollbacks that the moves of a restart leave as they are.
use Rattle.std.proofs.Common.{◌≡◌, ℕ, refl, sym, ◌∙◌, ap, Bool, true, false, [], ◌∷◌, Option, Some, None}
use Rattle.std.specs.Prelude.{◌==◌, ◌&&◌, ◌||◌, if◌then◌else◌}
use Rattle.std.proofs.lemmas.Bool.{ne_eqb}
use Rattle.ds_base.specs.declared.names.PageId.{PageId}
use Rattle.ds_model.specs.declared.lock.Name.TheVariants as name
use Rattle.lock_names.specs.declared.mode.Mode.{Mode}
use Rattle.lock_protocol.specs.Machine.{World, no_interest}
use Rattle.lock_protocol.specs.Moves.{Ask, GiveUp, Grant, Obtain, Purge, Refuse, Release, Run, asked}
use Rattle.lock_world.specs.Names.{on_name}
use Rattle.lock_world.specs.Numbers.{AreNumbered, name_at, number}
use Rattle.lock_world.specs.Tied.{is_own}
use Rattle.lock_restarts.specs.Stands.{Spares, none_gone}

-- ---- tests
owner_apart : (a b c : Bool) (x y : Option Mode) → b ≡ false → (if a && (b && c) then x else y) ≡ y
owner_apart true true c x y e = cc
owner_apart true false c x y e = refl
owner_apart false b c x y e = refl

name_apart : (a b : Bool) (y : Option Mode) → b ≡ false → (if a && b then None else y) ≡ y
name_apart true true y e = cc
name_apart true false y e = refl
name_apart false b y e = refl

both_apart : (a b : Bool) (y : Option Mode) → b ≡ false → (if a && (b || b) then None else y) ≡ y
both_apart true true y e = cc
both_apart true false y e = refl
both_apart false b y e = refl

-- ---- the moves
pub no_move : (entry : ℕ → ℕ) (w v : World) (m : ℕ) (gone : ℕ → Bool) → Run entry w [] v → Spares w v m gone
no_move entry w v m gone run o c ne own keep = ap (λ (z : World). z.claims m o c) run

pub obtain_spares : (entry : ℕ → ℕ) (w v : World) (m n : ℕ) (need : Mode) → Run entry w (Obtain m 0 n need true ∷ []) v → Spares w v m none_gone
obtain_spares entry w v m n need run o c ne own keep =
    ap (λ (z : World). z.claims m o c) run.2 ∙ ap (λ (z : World). z.claims m o c) run.1.4 ∙ owner_apart (m == m) (o == 0) (c == n) (Some (asked w m 0 n need)) (w.claims m o c) (ne_eqb o 0 ne)

pub grant_spares : (entry : ℕ → ℕ) (w v : World) (m n : ℕ) (need : Mode) → Run entry w (Grant m 0 n need true ∷ []) v → Spares w v m none_gone
grant_spares entry w v m n need run o c ne own keep =
    ap (λ (z : World). z.claims m o c) run.2 ∙ ap (λ (z : World). z.claims m o c) run.1.4 ∙ owner_apart (m == m) (o == 0) (c == n) (Some (asked w m 0 n need)) (w.claims m o c) (ne_eqb o 0 ne)

pub refuse_spares : (entry : ℕ → ℕ) (w v : World) (m : ℕ) → Run entry w (Refuse m 0 ∷ []) v → Spares w v m none_gone
refuse_spares entry w v m run o c ne own keep = ap (λ (z : World). z.claims m o c) run.2 ∙ ap (λ (z : World). z.claims m o c) run.1

pub ask_spares : (entry : ℕ → ℕ) (w v : World) (m to n : ℕ) (mode : Mode) → Run entry w (Ask m 0 to n mode ∷ []) v → Spares w v m none_gone
ask_spares entry w v m to n mode run o c ne own keep = ap (λ (z : World). z.claims m o c) run.2 ∙ ap (λ (z : World). z.claims m o c) run.1

-- a name that is no page's isn't the page's
page_apart : AreNumbered → (page : PageId) (c : ℕ) → is_own (name_at c) ≡ false → (c == number (name.Page page)) ≡ false
page_apart law page c own = ne_eqb c (number (name.Page page)) (λ e. never (sym (ap (λ z. is_own z) (law.named (name.Page page))) ∙ ap (λ z. is_own (name_at z)) (sym e) ∙ own))
  where
    never : true ≡ false → ⊥
    never e = cc

pub release_spares : AreNumbered → (entry : ℕ → ℕ) (w v : World) (m : ℕ) (page : PageId)
    → Run entry w (GiveUp m (λ o c. on_name (number (name.Page page)) o c || (c == number (name.Page page))) ∷ Release m 0 (number (name.Page page)) no_interest ∷ []) v → Spares w v m none_gone
release_spares law entry w v m page run o c ne own keep =
    ap (λ (z : World). z.claims m o c) run.2.2 ∙ ap (λ (z : World). z.claims m o c) run.2.1.2
    ∙ owner_apart (m == m) (o == 0) (c == number (name.Page page)) None (run.0.claims m o c) (ne_eqb o 0 ne)
    ∙ ap (λ (z : World). z.claims m o c) run.1 ∙ both_apart (m == m) (c == number (name.Page page)) (w.claims m o c) (page_apart law page c own)

pub purge_spares : (entry : ℕ → ℕ) (w v : World) (m n : ℕ) → Run entry w (GiveUp m (on_name n) ∷ Purge m n ∷ []) v → Spares w v m (λ c. c == n)
purge_spares entry w v m n run o c ne own keep =
    ap (λ (z : World). z.claims m o c) run.2.2 ∙ ap (λ (z : World). z.claims m o c) run.2.1.1 ∙ ap (λ (z : World). z.claims m o c) run.1 ∙ name_apart (m == m) (c == n) (w.claims m o c) keep

pub all_gone : (w v : World) (m : ℕ) → Spares w v m (λ c. true)
all_gone w v m o c ne own keep = cc

-- of more names
pub gone_more : (w v : World) (m : ℕ) (gone : ℕ → Bool) → Spares w v m none_gone → Spares w v m gone
gone_more w v m gone spares o c ne own keep = spares o c ne own refl
