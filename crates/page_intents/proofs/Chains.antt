-- Moves of pages leave the chains of changes, and so the numbers that versions show.
use Rattle.std.proofs.Common.{◌≡◌, ℕ, ◌<◌, ◌≤◌, refl, sym, ap, subst, ◌∙◌, Bool, true, false, inl, inr, List, [], ◌∷◌, ◌++◌, Option, Some, None}
use Rattle.std.specs.Prelude.{◌==◌, ◌+◌, ◌||◌, if◌then◌else◌, is_some}
use Rattle.std.proofs.lemmas.Bool.{cond-true, cond-false, cases_eq, eq-eqb, ne_eqb}
use Rattle.ds_base.specs.declared.names.PageId.{PageId}
use Rattle.cache_structure.specs.Entries.{Entry, entry_of}
use Rattle.cache_structure.specs.Directory.{Directory, has_free_place, reclaimable}
use Rattle.page_format.specs.Fields.{lrsn_of}
use Rattle.page_protocol.specs.Page.{Page, Group, put}
use Rattle.page_protocol.specs.Moves.{World, PageMove, Move, PageStep, Step, Run, At, Read, ReadDisk, Write, WriteDirect, CastoutRead, CastoutWrite, CastoutDone, Reclaim, DropFrame, Lock, Unlock, Redo, PutAside, Purge, Rebuild}
use Rattle.page_world.specs.Numbers.{set_of}
use Rattle.page_world.specs.Cache.{reclaim_of, entry_moves}
use Rattle.page_intents.specs.Numbers.{AreNumbered}
use Rattle.page_intents.specs.Plain.{ArePlain, is_plain}

pub record Chain : Type 0 where
  pub last : ℕ
  pub author : ℕ → ℕ
  pub place : ℕ → ℕ
  pub lrsn : ℕ → ℕ

abbrev pub chain_of : Page → Chain
chain_of p = record { last = p.last; author = p.author; place = p.place; lrsn = p.lrsn }

step_chain : (g : Group) (p q : Page) (e : PageMove) → PageStep g p e q → chain_of q ≡ chain_of p
step_chain g p q (Read m direct) s = ap chain_of s.4
step_chain g p q (ReadDisk m) s = ap chain_of s.3
step_chain g p q (Write m) s = ap chain_of s.4
step_chain g p q (WriteDirect m) s = ap chain_of s.4
step_chain g p q (CastoutRead m v) s = ap chain_of s.4
step_chain g p q (CastoutWrite m) s = ap chain_of s.1
step_chain g p q (CastoutDone m) s = ap chain_of s.2
step_chain g p q Reclaim s = ap chain_of s.2
step_chain g p q (DropFrame m) s = ap chain_of s.1
step_chain g p q (Lock m) s = ap chain_of s.2
step_chain g p q (Unlock m) s = ap chain_of s.4
step_chain g p q (Redo m) s = ap chain_of s.4
step_chain g p q (PutAside m) s = ap chain_of s.3
step_chain g p q (Purge m) s = ap chain_of s.5
step_chain g p q (Rebuild n) s = ap chain_of s.2

put_chain : (pages : ℕ → Page) (n : ℕ) (q : Page) → chain_of q ≡ chain_of (pages n) → (k : ℕ) → chain_of (put pages n q k) ≡ chain_of (pages k)
put_chain pages n q e k = elim (cases_eq k n) [
  | inl same ↦ ap chain_of (cond-true (k == n) q (pages k) (eq-eqb k n same)) ∙ e ∙ sym (ap (λ z. chain_of (pages z)) same)
  | inr ne ↦ ap chain_of (cond-false (k == n) q (pages k) (ne_eqb k n ne))
]

-- what the numbers say of a page
abbrev Shows : (ℕ → List ℕ) → Chain → Type 0
Shows content c = (i : ℕ) → i < c.last → lrsn_of (content (i + 1)) ≡ c.lrsn i

abbrev Stands : (ℕ → ℕ) → (ℕ → ℕ) → Chain → Type 0
Stands forced stable c = (i : ℕ) → i < c.last → c.lrsn i ≤ forced (c.author i) → c.place i < stable (c.author i)

pub numbered_along : (w v : World) (content : ℕ → ℕ → List ℕ) (forced : ℕ → ℕ) → ((n : ℕ) → chain_of (v.pages n) ≡ chain_of (w.pages n)) → v.group.stable ≡ w.group.stable → v.group.counter ≡ w.group.counter → AreNumbered w content forced → AreNumbered v content forced
numbered_along w v content forced same stable counter t = record {
  shown = λ n. subst (Shows (content n)) (sym (same n)) (t.shown n);
  stable = λ n. subst (λ f. Stands forced f (chain_of (v.pages n))) (sym stable) (subst (Stands forced w.group.stable) (sym (same n)) (t.stable n));
  drawn = λ m. subst (λ z. forced m ≤ z) (sym counter) (t.drawn m);
}

-- ---- lists of such moves
pub AtPages : List Move → Type 0
AtPages [] = Unit {0}
AtPages (e ∷ es) = ((n : ℕ) × (x : PageMove) × (e ≡ At n x)) × AtPages es

pub plain_pages : (appends : Bool) (es : List Move) → AtPages es → ArePlain appends es
unfolding AtPages
plain_pages appends [] a = tt
plain_pages appends (e ∷ es) a = (ap (is_plain appends) a.0.2, plain_pages appends es a.1)

pub at_one : (n : ℕ) (e : PageMove) → AtPages (At n e ∷ [])
unfolding AtPages
at_one n e = ((n, e, refl), tt)

pub at_none : AtPages []
unfolding AtPages
at_none = tt

at_reclaim : (o : Option Entry) (es : List Move) → AtPages es → AtPages (reclaim_of o ++ es)
unfolding AtPages
at_reclaim None es a = a
at_reclaim (Some e) es a = ((_, _, refl), a)

pub at_entry : (d : Directory) (id : PageId) (n : ℕ) (e : PageMove) → AtPages (entry_moves d id ++ At n e ∷ [])
at_entry d id n e = by (is_some (entry_of d.entries id) || has_free_place d)
  where
    by : (b : Bool) → AtPages ((if b then [] else reclaim_of (reclaimable d)) ++ At n e ∷ [])
    by true = at_one n e
    by false = at_reclaim (reclaimable d) (At n e ∷ []) (at_one n e)

at_step : (w v : World) (n : ℕ) (e : PageMove) (content : ℕ → ℕ → List ℕ) (forced : ℕ → ℕ) → Step set_of w (At n e) v → AreNumbered w content forced → AreNumbered v content forced
at_step w v n e content forced s t =
    subst (λ x. AreNumbered x content forced) (sym s.1.2)
    (numbered_along w (record { down = false; group = w.group; pages = put w.pages n s.1.0 }) content forced (put_chain w.pages n s.1.0 (step_chain w.group (w.pages n) s.1.0 e s.1.1)) refl refl t)

pub numbered_on : (w v : World) (es : List Move) (content : ℕ → ℕ → List ℕ) (forced : ℕ → ℕ) → AtPages es → Run set_of w es v → AreNumbered w content forced → AreNumbered v content forced
unfolding AtPages
numbered_on w v [] content forced a r t = subst (λ x. AreNumbered x content forced) (sym r) t
numbered_on w v (e ∷ es) content forced a r t =
    numbered_on r.0 v es content forced a.1 r.2 (at_step w r.0 a.0.0 a.0.1 content forced (subst (λ x. Step set_of w x r.0) a.0.2 r.1) t)
