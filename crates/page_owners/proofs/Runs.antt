-- Events one behind the other.
use Rattle.std.proofs.Common.{◌≡◌, ℕ, refl, sym, subst, Bool, false, inl, inr, List, [], ◌∷◌, ◌++◌}
use Rattle.std.specs.Prelude.{◌⊎◌}
use Rattle.member_resources.specs.Held.{Held}
use Rattle.member_resources.specs.Events as event
use Rattle.lock_protocol.specs.Machine.{World as LockWorld, start as lock_start}
use Rattle.page_protocol.specs.Page.{put}
use Rattle.page_protocol.specs.Moves.{World, Move, Run, start}
use Rattle.page_world.specs.Numbers.{set_of}
use Rattle.page_world.specs.Holdings.{Holdings}
use Rattle.page_groups.specs.Groups.{among, made}
use Rattle.page_owners.specs.Groups.{BothLead, BothStand, EventsGo, FailuresGo, GroupsStart, ToldGo}
use Rattle.page_owners.specs.Runs.{Acts, AllGo, Fails, Goes, IsFresh, IsTold, RunsStand, StandsBehind, Whole}

pub record Facts : Type 0 where
  pub start : GroupsStart
  pub event : EventsGo
  pub told : ToldGo
  pub fail : FailuresGo

run_on : (w mid v : World) (xs ys : List Move) → Run set_of w xs mid → Run set_of mid ys v → Run set_of w (xs ++ ys) v
run_on w mid v [] ys r q = subst (λ x. Run set_of x ys v) r q
run_on w mid v (e ∷ es) ys r q = (r.0, r.1, run_on r.0 mid v es ys r.2 q)

-- behind what stood already
behind : (w : World) (s t : Whole) (b : StandsBehind w s) → BothLead b.world b.locks s.outside t.outside t.held t.up t.holds → StandsBehind w t
behind w s t b a = record {
  moves = b.moves ++ a.moves;
  world = a.world;
  run = run_on w b.world a.world b.moves a.moves b.run a.run;
  locks = a.locked.world;
  holdings = a.holdings;
  versions = a.versions;
  force = a.force;
  stands = a.stands;
}

led : (w : World) (l : LockWorld) (s t : Whole) (v : event.World) (up : ℕ → Bool) (hs : ℕ → Held) → t.outside ≡ v → t.up ≡ up → t.holds ≡ hs → BothLead w l s.outside v t.held up hs → BothLead w l s.outside t.outside t.held t.up t.holds
led w l s t v up hs outside same left a =
    subst (λ z. BothLead w l s.outside z t.held t.up t.holds) (sym outside) (subst (λ z. BothLead w l s.outside v t.held z t.holds) (sym same) (subst (λ z. BothLead w l s.outside v t.held up z) (sym left) a))

goes_on : Facts → (w : World) (s t : Whole) → StandsBehind w s → Goes s t → StandsBehind w t
goes_on facts w s t b (inl x) =
    behind w s t b
    (led b.world b.locks s t t.outside s.up (put s.holds x.member x.after) refl x.same x.left
    (facts.event b.world b.locks s.outside t.outside b.holdings b.versions b.force s.held t.held s.up s.holds x.member x.after x.intent x.place x.sent x.answered b.stands x.was_up x.leads x.happens x.given))
goes_on facts w s t b (inr (inl x)) =
    behind w s t b
    (led b.world b.locks s t s.outside s.up (put s.holds x.member x.after) x.outside x.same x.left
    (facts.told b.world b.locks s.outside b.holdings b.versions b.force s.held t.held s.up s.holds x.member x.after x.place b.stands x.was_up x.leads x.ends))
goes_on facts w s t b (inr (inr x)) =
    behind w s t b
    (led b.world b.locks s t t.outside (put s.up x.member false) s.holds refl x.down x.left
    (facts.fail b.world b.locks s.outside t.outside b.holdings b.versions b.force s.held t.held s.up s.holds x.member b.stands x.is x.few x.failed x.drive x.forgets))

all_on : Facts → (w : World) (s t : Whole) (xs : List Whole) → StandsBehind w s → AllGo s xs t → StandsBehind w t
all_on facts w s t [] b e = subst (λ z. StandsBehind w z) (sym e) b
all_on facts w s t (x ∷ xs) b e = all_on facts w x t xs (goes_on facts w s x b e.0) e.1

begins : Facts → (s : Whole) → IsFresh s → StandsBehind start s
begins facts s f =
    let stood = facts.start s.outside f.pages f.sizes s.held s.holds f.facility f.drive f.few f.agents f.knows f.each in
    record {
      moves = [];
      world = start;
      run = refl;
      locks = lock_start;
      holdings = made s.outside.facility f.pages;
      versions = λ n v. f.pages n;
      force = λ m. 0;
      stands = subst (λ z. BothStand start lock_start s.outside (made s.outside.facility f.pages) (λ n v. f.pages n) (λ m. 0) s.held z s.holds) (sym f.all_up) stood;
    }

pub runs_stand : Facts → RunsStand
runs_stand facts s t xs f e = all_on facts start s t xs (begins facts s f) e
