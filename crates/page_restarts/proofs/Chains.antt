-- Moves of pages leave the chains of changes, and so the numbers that versions show.
use Rattle.std.proofs.Common.{◌≡◌, ℕ, ◌<◌, ◌≤◌, refl, sym, ap, subst, ◌∙◌, Bool, true, false, inl, inr, List, [], ◌∷◌, ◌++◌, Option, Some, None}
use Rattle.std.specs.Prelude.{◌==◌, ◌+◌, ◌||◌, if◌then◌else◌, is_some}
use Rattle.std.proofs.lemmas.Bool.{cond-true, cond-false, cases_eq, eq-eqb, ne_eqb}
use Rattle.ds_base.specs.declared.names.PageId.{PageId}
use Rattle.cache_structure.specs.Entries.{Entry, entry_of}
use Rattle.cache_structure.specs.Directory.{Directory, has_free_place, reclaimable}
use Rattle.page_format.specs.Fields.{lrsn_of}
use Rattle.page_protocol.specs.Page.{Page, Group, put}
use Rattle.page_protocol.specs.Moves.{World, PageMove, Move, PageStep, Step, Run, At, Read, ReadDisk, Write, WriteDirect, CastoutRead, CastoutWrite, CastoutDone, Reclaim, DropFrame, Lock, Unlock, Redo, PutAside, Purge, Rebuild}
use Rattle.page_world.specs.Numbers.{set_of}
use Rattle.page_world.specs.Cache.{reclaim_of, entry_moves}
use Rattle.page_intents.specs.Numbers.{AreNumbered}

pub record Chain : Type 0 where
  pub last : ℕ
  pub author : ℕ → ℕ
  pub place : ℕ → ℕ
  pub lrsn : ℕ → ℕ

abbrev pub chain_of : Page → Chain
chain_of p = record { last = p.last; author = p.author; place = p.place; lrsn = p.lrsn }

step_chain : (g : Group) (p q : Page) (e : PageMove) → PageStep g p e q → chain_of q ≡ chain_of p
step_chain g p q (Read m direct) s = ap chain_of s.4
step_chain g p q (ReadDisk m) s = ap chain_of s.3
step_chain g p q (Write m) s = ap chain_of s.4
step_chain g p q (WriteDirect m) s = ap chain_of s.4
step_chain g p q (CastoutRead m v) s = ap chain_of s.4
step_chain g p q (CastoutWrite m) s = ap chain_of s.1
step_chain g p q (CastoutDone m) s = ap chain_of s.2
step_chain g p q Reclaim s = ap chain_of s.2
step_chain g p q (DropFrame m) s = ap chain_of s.1
step_chain g p q (Lock m) s = ap chain_of s.2
step_chain g p q (Unlock m) s = ap chain_of s.4
step_chain g p q (Redo m) s = ap chain_of s.4
step_chain g p q (PutAside m) s = ap chain_of s.3
step_chain g p q (Purge m) s = ap chain_of s.5
step_chain g p q (Rebuild n) s = ap chain_of s.2

-- moves that leave the castout lock of their page
abbrev pub leaves_castout : PageMove → Bool
leaves_castout (CastoutRead m v) = false
leaves_castout (CastoutDone m) = false
leaves_castout _ = true

step_castout : (g : Group) (p q : Page) (e : PageMove) → leaves_castout e ≡ true → PageStep g p e q → q.castout ≡ p.castout
step_castout g p q (Read m direct) so s = ap (λ (x : Page). x.castout) s.4
step_castout g p q (ReadDisk m) so s = ap (λ (x : Page). x.castout) s.3
step_castout g p q (Write m) so s = ap (λ (x : Page). x.castout) s.4
step_castout g p q (WriteDirect m) so s = ap (λ (x : Page). x.castout) s.4
step_castout g p q (CastoutRead m v) never s = absurd (cc never)
step_castout g p q (CastoutWrite m) so s = ap (λ (x : Page). x.castout) s.1
step_castout g p q (CastoutDone m) never s = absurd (cc never)
step_castout g p q Reclaim so s = ap (λ (x : Page). x.castout) s.2
step_castout g p q (DropFrame m) so s = ap (λ (x : Page). x.castout) s.1
step_castout g p q (Lock m) so s = ap (λ (x : Page). x.castout) s.2
step_castout g p q (Unlock m) so s = ap (λ (x : Page). x.castout) s.4
step_castout g p q (Redo m) so s = ap (λ (x : Page). x.castout) s.4
step_castout g p q (PutAside m) so s = ap (λ (x : Page). x.castout) s.3
step_castout g p q (Purge m) so s = ap (λ (x : Page). x.castout) s.5
step_castout g p q (Rebuild n) so s = ap (λ (x : Page). x.castout) s.2

-- what holds of a page that is put, and of each other one
put_part : {A : Type 0} → (f : Page → A) (pages : ℕ → Page) (n : ℕ) (q : Page) → f q ≡ f (pages n) → (k : ℕ) → f (put pages n q k) ≡ f (pages k)
put_part f pages n q e k = elim (cases_eq k n) [
  | inl same ↦ ap f (cond-true (k == n) q (pages k) (eq-eqb k n same)) ∙ e ∙ sym (ap (λ z. f (pages z)) same)
  | inr ne ↦ ap f (cond-false (k == n) q (pages k) (ne_eqb k n ne))
]

put_chain : (pages : ℕ → Page) (n : ℕ) (q : Page) → chain_of q ≡ chain_of (pages n) → (k : ℕ) → chain_of (put pages n q k) ≡ chain_of (pages k)
put_chain pages n q e k = put_part chain_of pages n q e k

-- what the numbers say of a page
abbrev Shows : (ℕ → List ℕ) → Chain → Type 0
Shows content c = (i : ℕ) → i < c.last → lrsn_of (content (i + 1)) ≡ c.lrsn i

abbrev Stands : (ℕ → ℕ) → (ℕ → ℕ) → Chain → Type 0
Stands forced stable c = (i : ℕ) → i < c.last → c.lrsn i ≤ forced (c.author i) → c.place i < stable (c.author i)

pub numbered_along : (w v : World) (content : ℕ → ℕ → List ℕ) (forced : ℕ → ℕ) → ((n : ℕ) → chain_of (v.pages n) ≡ chain_of (w.pages n)) → v.group.stable ≡ w.group.stable → v.group.counter ≡ w.group.counter → AreNumbered w content forced → AreNumbered v content forced
numbered_along w v content forced same stable counter t = record {
  shown = λ n. subst (Shows (content n)) (sym (same n)) (t.shown n);
  stable = λ n. subst (λ f. Stands forced f (chain_of (v.pages n))) (sym stable) (subst (Stands forced w.group.stable) (sym (same n)) (t.stable n));
  drawn = λ m. subst (λ z. forced m ≤ z) (sym counter) (t.drawn m);
}

-- ---- lists of such moves
pub AtPages : List Move → Type 0
AtPages [] = Unit {0}
AtPages (e ∷ es) = ((n : ℕ) × (x : PageMove) × (e ≡ At n x) × (leaves_castout x ≡ true)) × AtPages es

pub at_one : (n : ℕ) (e : PageMove) → leaves_castout e ≡ true → AtPages (At n e ∷ [])
unfolding AtPages
at_one n e so = ((n, e, refl, so), tt)

pub at_none : AtPages []
unfolding AtPages
at_none = tt

at_reclaim : (o : Option Entry) (es : List Move) → AtPages es → AtPages (reclaim_of o ++ es)
unfolding AtPages
at_reclaim None es a = a
at_reclaim (Some e) es a = ((_, _, refl, refl), a)

pub at_entry : (d : Directory) (id : PageId) (n : ℕ) (e : PageMove) → leaves_castout e ≡ true → AtPages (entry_moves d id ++ At n e ∷ [])
at_entry d id n e so = by (is_some (entry_of d.entries id) || has_free_place d)
  where
    by : (b : Bool) → AtPages ((if b then [] else reclaim_of (reclaimable d)) ++ At n e ∷ [])
    by true = at_one n e so
    by false = at_reclaim (reclaimable d) (At n e ∷ []) (at_one n e so)

at_step : (w v : World) (n : ℕ) (e : PageMove) (content : ℕ → ℕ → List ℕ) (forced : ℕ → ℕ) → Step set_of w (At n e) v → AreNumbered w content forced → AreNumbered v content forced
at_step w v n e content forced s t =
    subst (λ x. AreNumbered x content forced) (sym s.1.2)
    (numbered_along w (record { down = false; group = w.group; pages = put w.pages n s.1.0 }) content forced (put_chain w.pages n s.1.0 (step_chain w.group (w.pages n) s.1.0 e s.1.1)) refl refl t)

pub numbered_on : (w v : World) (es : List Move) (content : ℕ → ℕ → List ℕ) (forced : ℕ → ℕ) → AtPages es → Run set_of w es v → AreNumbered w content forced → AreNumbered v content forced
unfolding AtPages
numbered_on w v [] content forced a r t = subst (λ x. AreNumbered x content forced) (sym r) t
numbered_on w v (e ∷ es) content forced a r t =
    numbered_on r.0 v es content forced a.1 r.2 (at_step w r.0 a.0.0 a.0.1 content forced (subst (λ x. Step set_of w x r.0) a.0.2 r.1) t)

-- ---- what they leave of each page
pub record SamePage (p q : Page) : Type 0 where
  pub chain : chain_of q ≡ chain_of p
  pub castout : q.castout ≡ p.castout

page_step : (w v : World) (n : ℕ) (e : PageMove) → leaves_castout e ≡ true → Step set_of w (At n e) v → (k : ℕ) → SamePage (w.pages k) (v.pages k)
page_step w v n e so s k = subst (λ (x : World). SamePage (w.pages k) (x.pages k)) (sym s.1.2) (record {
  chain = put_chain w.pages n s.1.0 (step_chain w.group (w.pages n) s.1.0 e s.1.1) k;
  castout = put_part (λ (x : Page). x.castout) w.pages n s.1.0 (step_castout w.group (w.pages n) s.1.0 e so s.1.1) k;
})

pub pages_stay : (w v : World) (es : List Move) → AtPages es → Run set_of w es v → (k : ℕ) → SamePage (w.pages k) (v.pages k)
unfolding AtPages
pages_stay w v [] a r k = subst (λ (x : World). SamePage (w.pages k) (x.pages k)) (sym r) (record { chain = refl; castout = refl })
pages_stay w v (e ∷ es) a r k =
    let first = page_step w r.0 a.0.0 a.0.1 a.0.3 (subst (λ x. Step set_of w x r.0) a.0.2 r.1) k in
    let rest = pages_stay r.0 v es a.1 r.2 k in
    record { chain = rest.chain ∙ first.chain; castout = rest.castout ∙ first.castout }
