-- A world in which only claims of a member have changed that isn't live.
use Rattle.std.proofs.Common.{◌≡◌, ℕ, sym, ◌∙◌, ap, subst, true, false, inl, inr, Option, None}
use Rattle.std.specs.Prelude.{◌≢◌}
use Rattle.std.proofs.lemmas.Bool.{cases_eq}
use Rattle.ds_base.specs.Ids.{IsMember}
use Rattle.lock_names.specs.declared.mode.Mode.{Mode}
use Rattle.lock_structure.specs.Locks.{Locks}
use Rattle.list_structure.specs.declared.standing.MemberStatus.{MemberStatus}
use Rattle.list_structure.specs.declared.standing.MemberStatus.TheVariants.{Up}
use Rattle.list_structure.specs.Standings.{is_live, status_of}
use Rattle.list_structure.specs.States.{ListsState}
use Rattle.lock_protocol.specs.Machine.{World}
use Rattle.lock_world.specs.Numbers.{name_at}
use Rattle.lock_world.specs.Tied.{ClaimTied, Claims, Tied, is_own}

-- what has changed of the world
pub record OnlyClaims (w v : World) (m : ℕ) : Type 0 where
  pub same : v ≡ record w { claims = v.claims }
  pub others : (k o c : ℕ) → k ≢ m → v.claims k o c ≡ w.claims k o c
  pub free : (o c : ℕ) → o ≢ 0 → ((q : ℕ) → q ≢ 0 → w.claims m q c ≡ None) → v.claims m o c ≡ None

never : true ≡ false → ⊥
never e = cc

up_dead : (s : MemberStatus) → s ≡ Up → is_live s ≡ false → ⊥
up_dead s e dead = never (sym (ap is_live e) ∙ dead)

pub still_tied : (w v : World) (locks : Locks) (lists : ListsState) (held : Claims) (m : ℕ)
    → Tied w locks lists held → OnlyClaims w v m → w.live m ≡ false → is_live (status_of lists.statuses m) ≡ false → Tied v locks lists held
still_tied w v locks lists held m t only dead down = subst (λ (z : World). Tied z locks lists held) (sym only.same) (record {
  versions = t.versions;
  interest = t.interest;
  records = t.records;
  claims = claims;
  down = t.down;
  up = up;
  own = own;
  cells = t.cells;
  live = t.live;
})
  where
    claims : (k o c : ℕ) → w.live k ≡ true → ClaimTied (v.claims k o c) (held k o c) (w.records k c)
    claims k o c live = elim (cases_eq k m) [
      | inl same ↦ absurd (never (sym live ∙ ap (λ (z : ℕ). w.live z) same ∙ dead))
      | inr other ↦ subst (λ (z : Option Mode). ClaimTied z (held k o c) (w.records k c)) (sym (only.others k o c other)) (t.claims k o c live)
    ]

    up : (k o c : ℕ) → IsMember k → status_of lists.statuses k ≡ Up → held k o c ≡ None → v.claims k o c ≡ None
    up k o c member is_up none = elim (cases_eq k m) [
      | inl same ↦ absurd (up_dead (status_of lists.statuses m) (ap (λ (z : ℕ). status_of lists.statuses z) (sym same) ∙ is_up) down)
      | inr other ↦ only.others k o c other ∙ t.up k o c member is_up none
    ]

    own : (k o c : ℕ) → is_own (name_at c) ≡ true → o ≢ 0 → v.claims k o c ≡ None
    own k o c is other = elim (cases_eq k m) [
      | inl same ↦ ap (λ (z : ℕ). v.claims z o c) same ∙ only.free o c other (λ q some. t.own m q c is some)
      | inr apart ↦ only.others k o c apart ∙ t.own k o c is other
    ]
