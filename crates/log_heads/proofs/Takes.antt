-- What is taken by what the looks at the logs have found.
use Rattle.std.proofs.Common.{◌≡◌, ℕ, ◌+◌, ◌<◌, List, length, set, Option, Some, None, refl, sym, ap, subst, ◌∙◌, arith}
use Rattle.log_head.specs.Heads.{HeadState, first_of, after_take}
use Rattle.log_heads.specs.declared.taken.Taken.{Taken}
use Rattle.log_heads.specs.declared.taken.Taken.TheVariants as taken
use Rattle.log_heads.specs.Heads.{HeadsState, head_at, first_stop, least_from, taken_record, taken_by, taken_of, heads_by, after_taken}
use Rattle.log_heads.proofs.Least.{placed}

-- this is taken, and these heads are left
pub record Takes (s : HeadsState) (t : Taken) (heads : List HeadState) : Type 0 where
  pub taken : taken_of s ≡ t
  pub after : after_taken s ≡ record { block = s.block; heads = heads }

pub takes_stop : (s : HeadsState) (stop : Taken) → first_stop s.block 1 s.heads ≡ Some stop → Takes s stop s.heads
takes_stop s stop e = record {
  taken = ap (λ (o : Option Taken). taken_by o s.heads (least_from 0 s.heads)) e;
  after = ap (λ (o : Option Taken). let t : HeadsState = record { block = s.block; heads = heads_by o s.heads (least_from 0 s.heads) } in t) e;
}

takes_least : (s : HeadsState) (least : Option (ℕ × ℕ)) → first_stop s.block 1 s.heads ≡ None → least_from 0 s.heads ≡ least → Takes s (taken_by None s.heads least) (heads_by None s.heads least)
takes_least s least e f = record {
  taken = ap (λ (o : Option Taken). taken_by o s.heads (least_from 0 s.heads)) e ∙ ap (taken_by None s.heads) f;
  after = ap (λ (o : Option Taken). let t : HeadsState = record { block = s.block; heads = heads_by o s.heads (least_from 0 s.heads) } in t) e
      ∙ ap (λ (o : Option (ℕ × ℕ)). let t : HeadsState = record { block = s.block; heads = heads_by None s.heads o } in t) f;
}

pub takes_none : (s : HeadsState) → first_stop s.block 1 s.heads ≡ None → least_from 0 s.heads ≡ None → Takes s taken.End s.heads
takes_none s e f = takes_least s None e f

pub takes_record : (s : HeadsState) (p : ℕ × ℕ) → first_stop s.block 1 s.heads ≡ None → least_from 0 s.heads ≡ Some p
    → Takes s (taken_record (p.0 + 1) (first_of (head_at s.heads p.0))) (set s.heads p.0 (after_take (head_at s.heads p.0)))
takes_record s p e f = takes_least s (Some p) e f

pub least_within : (heads : List HeadState) (p : ℕ × ℕ) → least_from 0 heads ≡ Some p → p.0 < length heads
least_within heads p e = let it = placed 0 heads p e in omega (arith, it.is, it.within)

-- ---- by the heads themselves

abbrev pub state : ℕ → List HeadState → HeadsState
state block heads = record { block = block; heads = heads }

pub stop_taken : (block : ℕ) (heads : List HeadState) (s : HeadsState) (stop : Taken) → state block heads ≡ s → first_stop block 1 heads ≡ Some stop → Takes s stop s.heads
stop_taken block heads s stop is e = subst (λ (t : HeadsState). Takes t stop t.heads) is (takes_stop (state block heads) stop e)

pub least_taken : (block : ℕ) (heads new : List HeadState) (s : HeadsState) (taken : Taken) → state block heads ≡ s → first_stop block 1 heads ≡ None
    → taken ≡ taken_by None heads (least_from 0 heads) → new ≡ heads_by None heads (least_from 0 heads) → Takes s taken new
least_taken block heads new s taken is e t h =
    subst (λ (u : HeadsState). Takes u taken new) is
    (subst (λ (v : Taken). Takes (state block heads) v new) (sym t)
    (subst (λ (hs : List HeadState). Takes (state block heads) (taken_by None heads (least_from 0 heads)) hs) (sym h) (takes_least (state block heads) (least_from 0 heads) e refl)))
