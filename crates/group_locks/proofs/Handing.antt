-- Claims of a failed member that are handed on.
use Rattle.std.proofs.Common.{◌≡◌, ℕ, refl, sym, ◌∙◌, ap, subst, Bool, true, false, inl, inr, [], ◌∷◌, Option, None}
use Rattle.std.specs.Prelude.{◌≢◌, ◌==◌, ◌&&◌, if◌then◌else◌}
use Rattle.std.proofs.lemmas.Bool.{cases_eq, ne_eqb}
use Rattle.ds_base.specs.Ids.{IsMember}
use Rattle.lock_names.specs.declared.mode.Mode.{Mode}
use Rattle.list_structure.specs.declared.standing.MemberStatus.{MemberStatus}
use Rattle.list_structure.specs.declared.standing.MemberStatus.TheVariants.{Up}
use Rattle.list_structure.specs.Standings.{is_live, status_of}
use Rattle.lock_protocol.specs.Machine.{World, handed_on}
use Rattle.lock_protocol.specs.Moves.{Postpone, Run}
use Rattle.lock_protocol.specs.Sound.{RunKeepsSound}
use Rattle.lock_world.specs.Tied.{ClaimTied}
use Rattle.lock_world.specs.Views.{entry_in}
use Rattle.group_locks.specs.Handing.{HandsOnMoves}
use Rattle.group_locks.specs.Stands.{known}

never : true ≡ false → ⊥
never e = cc

up_dead : (s : MemberStatus) → s ≡ Up → is_live s ≡ false → ⊥
up_dead s e dead = never (sym (ap is_live e) ∙ dead)

-- another member's claims stay
apart : (a b c : Bool) (x y : Option Mode) → a ≡ false → (if a && b then x else if a && c then None else y) ≡ y
apart true b c x y e = absurd (never e)
apart false b c x y e = refl

-- what nobody has is handed on as that
none_of : (a b c : Bool) (x y : Option Mode) → x ≡ None → y ≡ None → (if a && b then x else if a && c then None else y) ≡ None
none_of true true c x y e f = e
none_of true false true x y e f = refl
none_of true false false x y e f = f
none_of false b c x y e f = f

pub hands_on : RunKeepsSound → HandsOnMoves
hands_on law s w m owner to t one most dead slot ne free = record {
  entries = refl;
  moves = Postpone m owner to ∷ [];
  are = (refl, tt);
  world = v;
  run = run;
  tied = record {
    sound = law (entry_in s.facility.locks) (Postpone m owner to ∷ []) w v t.sound run;
    tied = record {
      versions = t.tied.versions;
      interest = t.tied.interest;
      records = t.tied.records;
      claims = claims;
      down = t.tied.down;
      up = up;
      own = λ k o c own other. none_of (k == m) (o == to) (o == owner) (w.claims m owner c) (w.claims k o c) (t.tied.own m owner c own slot) (t.tied.own k o c own other);
      cells = t.tied.cells;
      live = t.tied.live;
    };
    count = t.count;
    few = t.few;
    agents = t.agents;
    entries = t.entries;
    stands = t.stands;
  };
}
  where
    v : World
    v = handed_on w m owner to

    run : Run (entry_in s.facility.locks) w (Postpone m owner to ∷ []) v
    run = (v, (ne, free, refl), refl)

    not_live : w.live m ≡ false
    not_live = t.tied.live m one most ∙ dead

    others : (k o c : ℕ) → k ≢ m → v.claims k o c ≡ w.claims k o c
    others k o c other = apart (k == m) (o == to) (o == owner) (w.claims m owner c) (w.claims k o c) (ne_eqb k m other)

    claims : (k o c : ℕ) → v.live k ≡ true → ClaimTied (v.claims k o c) (known s.members k o c) (v.records k c)
    claims k o c live = elim (cases_eq k m) [
      | inl same ↦ absurd (never (sym live ∙ ap (λ z. w.live z) same ∙ not_live))
      | inr other ↦ subst (λ z. ClaimTied z (known s.members k o c) (w.records k c)) (sym (others k o c other)) (t.tied.claims k o c live)
    ]

    up : (k o c : ℕ) → IsMember k → status_of s.facility.lists.statuses k ≡ Up → known s.members k o c ≡ None → v.claims k o c ≡ None
    up k o c member is_up none = elim (cases_eq k m) [
      | inl same ↦ absurd (up_dead (status_of s.facility.lists.statuses m) (ap (λ z. status_of s.facility.lists.statuses z) (sym same) ∙ is_up) dead)
      | inr other ↦ others k o c other ∙ t.tied.up k o c member is_up none
    ]
