-- An event of one member, and all others as they were.
use Rattle.std.proofs.Common.{◌≡◌, ◌≢◌, ℕ, refl, sym, subst, ◌∙◌, Bool, true, false, inl, inr, List}
use Rattle.std.specs.Prelude.{◌==◌}
use Rattle.std.proofs.lemmas.Bool.{both_ways, cases_eq, cond-false, cond-true, eq-eqb, ne_eqb}
use Rattle.facility.specs.States.{Held as Facility, MemberFailed}
use Rattle.member_resources.specs.Held.{Held}
use Rattle.member_resources.specs.Settled.{kept_of}
use Rattle.member_resources.specs.Events as event
use Rattle.page_protocol.specs.Page.{put}
use Rattle.page_protocol.specs.Moves.{World}
use Rattle.page_world.specs.Holdings.{Holdings, with_facility}
use Rattle.page_world.specs.Failing.{without}
use Rattle.page_intents.specs.Stands.{IsUp}
use Rattle.page_intents.specs.Castouts.{HasCast}
use Rattle.page_members.specs.Members.{FailuresGo, Leads, OthersStayUp, SameOthers, Shows, EventGoes, ToldGoes}
use Rattle.page_groups.specs.Groups.{EachIsBeside, FailsStand, GroupLeads, GroupStands, LeadsStand, MembersFail, MembersGo, ToldGo}

-- ---- what holds of a member that is up
record Stands (g : Holdings) (forced : ℕ → ℕ) (m : ℕ) (h : Held) : Type 0 where
  pub named : h.marks.member ≡ m
  pub up : IsUp g forced (kept_of h)
  pub cast : HasCast g h.marks.member h.cast h.buffer

stands_of : (w : World) (u : event.World) (g : Holdings) (content : ℕ → ℕ → List ℕ) (forced : ℕ → ℕ) (up : ℕ → Bool) (hs : ℕ → Held) → GroupStands w u g content forced up hs → (m : ℕ) → up m ≡ true → Stands g forced m (hs m)
stands_of w u g content forced up hs b m e = record { named = b.named m e; up = b.each m e; cast = b.casts m e }

-- another one still is
stands_on : OthersStayUp → (g left : Holdings) (forced force : ℕ → ℕ) (m p : ℕ) (h : Held) → SameOthers g left forced force m → p ≢ m → Stands g forced p h → Stands left force p h
stands_on law g left forced force m p h same ne s =
    let both = law g left forced force m h same (λ e. ne (sym s.named ∙ e)) s.up s.cast in
    record { named = s.named; up = both.0; cast = both.1 }

-- the one that the event was of, and the others
stands_put : OthersStayUp → (g left : Holdings) (forced force : ℕ → ℕ) (up : ℕ → Bool) (hs : ℕ → Held) (m : ℕ) (k : Held) → SameOthers g left forced force m → Stands left force m k → ((p : ℕ) → up p ≡ true → Stands g forced p (hs p))
    → (p : ℕ) → up p ≡ true → Stands left force p (put hs m k p)
stands_put law g left forced force up hs m k same own each p e = elim (cases_eq p m) [
  | inl is ↦ subst (λ z. Stands left force p z) (sym (cond-true (p == m) k (hs p) (eq-eqb p m is))) (subst (λ z. Stands left force z k) (sym is) own)
  | inr ne ↦ subst (λ z. Stands left force p z) (sym (cond-false (p == m) k (hs p) (ne_eqb p m ne))) (stands_on law g left forced force m p (hs p) same ne (each p e))
]

-- ---- the group behind an event of a member that is up
pub leads_stand : OthersStayUp → LeadsStand
leads_stand law w u v g content forced up hs m k b e a =
    let others : SameOthers g a.left forced a.force m = subst (λ z. SameOthers g a.left forced a.force z) (b.named m e) a.others in
    let own : Stands a.left a.force m k = record { named = a.same ∙ b.named m e; up = a.beside.begins.up; cast = a.beside.cast } in
    let each : (p : ℕ) → up p ≡ true → Stands a.left a.force p (put hs m k p) = stands_put law g a.left forced a.force up hs m k others own (stands_of w u g content forced up hs b) in
    record {
      group = record { good = a.beside.begins.good; tied = a.beside.begins.tied; numbered = a.beside.begins.numbered; sound = a.beside.begins.sound };
      facility = a.beside.facility;
      drive = a.beside.drive;
      named = λ p x. (each p x).named;
      each = λ p x. (each p x).up;
      casts = λ p x. (each p x).cast;
    }

leads_group : OthersStayUp → (w : World) (u v : event.World) (g : Holdings) (content : ℕ → ℕ → List ℕ) (forced : ℕ → ℕ) (up : ℕ → Bool) (hs : ℕ → Held) (m : ℕ) (k : Held)
    → GroupStands w u g content forced up hs → up m ≡ true → Leads w v g content forced (hs m) k → GroupLeads w v up (put hs m k)
leads_group law w u v g content forced up hs m k b e a =
    record { moves = a.moves; world = a.world; run = a.run; left = a.left; versions = a.versions; force = a.force; stands = leads_stand law w u v g content forced up hs m k b e a }

pub each_is_beside : EachIsBeside
each_is_beside w u g content forced up hs m b e = record {
  begins = record { good = b.group.good; tied = b.group.tied; numbered = b.group.numbered; sound = b.group.sound; up = b.each m e };
  facility = b.facility;
  drive = b.drive;
  cast = b.casts m e;
}

pub members_go : OthersStayUp → EventGoes → MembersGo
members_go law goes w u v g content forced up hs m k i place sent a b e happens supplied =
    leads_group law w u v g content forced up hs m k b e (goes w u v g content forced (hs m) k i place sent a (each_is_beside w u g content forced up hs m b e) happens supplied)

pub told_go : OthersStayUp → ToldGoes → ToldGo
told_go law goes w u g content forced up hs m k place b e ends = leads_group law w u u g content forced up hs m k b e (goes w u g content forced (hs m) k place (each_is_beside w u g content forced up hs m b e) ends)

-- ---- a member fails
pub fails_stand : OthersStayUp → FailsStand
fails_stand law w u v g content forced up hs m b drive a = record {
  group = a.stands;
  facility = refl;
  drive = subst (λ d. Shows d g.disk) (sym drive) b.drive;
  named = λ p x. (each p x).named;
  each = λ p x. (each p x).up;
  casts = λ p x. (each p x).cast;
}
  where
    each : (p : ℕ) → put up m false p ≡ true → Stands (with_facility (without g m) v.facility) forced p (hs p)
    each p x = elim (cases_eq p m) [
      | inl is ↦ absurd (both_ways (put up m false p) (cond-true (p == m) false (up p) (eq-eqb p m is)) x)
      | inr ne ↦ stands_on law g (with_facility (without g m) v.facility) forced forced m p (hs p) a.others ne (stands_of w u g content forced up hs b p (sym (cond-false (p == m) false (up p) (ne_eqb p m ne)) ∙ x))
    ]

pub members_fail : OthersStayUp → FailuresGo → MembersFail
members_fail law fails w u v g content forced up hs m b least failed drive =
    let a = fails w g content forced m v.facility b.group least (subst (λ (f : Facility). MemberFailed f m v.facility) (sym b.facility) failed) in
    record { moves = a.moves; world = a.world; run = a.run; left = with_facility (without g m) v.facility; versions = content; force = forced; stands = fails_stand law w u v g content forced up hs m b drive a }
