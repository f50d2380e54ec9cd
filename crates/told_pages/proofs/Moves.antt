-- Runs of moves that are no failures: what they leave of the logs, and that what was drawn goes on telling.
use Rattle.std.proofs.Common.{◌≡◌, ℕ, ◌+◌, ◌≤◌, Bool, true, false, cond, List, [], ◌∷◌, refl, sym, ap, ◌∙◌, subst, arith, inl, inr}
use Rattle.std.specs.Prelude.{◌⊎◌, ◌==◌}
use Rattle.std.proofs.lemmas.Bool.{cases_eq, cond-true, cond-false, eq-eqb, ne_eqb, false≢true}
use Rattle.ds_base.specs.declared.names.PageId.{PageId}
use Rattle.ds_model.specs.declared.log.LogRecord.{LogRecord}
use Rattle.ds_model.specs.declared.log.Body.TheVariants as body
use Rattle.ds_model.specs.declared.log.Version.TheVariants as version
use Rattle.page_protocol.specs.Page.{Group, Page, given_up, owned_whole, put}
use Rattle.page_protocol.specs.Moves.{World, PageMove, PageStep, Read, ReadDisk, Write, WriteDirect, CastoutRead, CastoutWrite, CastoutDone, Reclaim, DropFrame, Lock, Unlock, Redo, PutAside, Purge, Rebuild, Move, At, Draw, Force, TakeSet, YieldSet, PurgeSet, Lose, ReadLog, Rebuilt, Fail, Restart, Open, GroupFail, Forward, Compensate, Append, Rise, Step, Run}
use Rattle.page_protocol.specs.Always.{Good, KeepsGood}
use Rattle.log_tells.specs.Told.{Told, IsTold}
use Rattle.log_tells.specs.Keeps.{StaysTold}
use Rattle.page_intents.proofs.Chains.{Chain, chain_of}
use Rattle.page_events.specs.Given.{ArePlain, is_plain}

pub never : {A : Type 0} → false ≡ true → A
never e = absurd (false≢true e)

-- the bytes of no version change
abbrev pub Keeps : World → (ℕ → ℕ → List ℕ) → (ℕ → ℕ → List ℕ) → Type 0
Keeps w content after = (n i : ℕ) → i ≤ (w.pages n).last → after n i ≡ content n i

abbrev pub TellsOn : World → World → Type 0
TellsOn w v = (name : ℕ → PageId) (content after : ℕ → ℕ → List ℕ) (told : List Told) → Keeps w content after → IsTold name w content told → IsTold name v after told

-- ---- what moves leave that draw nothing

pub record Leaves (appends : Bool) (w v : World) : Type 0 where
  pub tells : TellsOn w v
  pub chains : (n : ℕ) → chain_of (v.pages n) ≡ chain_of (w.pages n)
  pub counter : v.group.counter ≡ w.group.counter
  pub written : (m : ℕ) → v.group.written m ≡ w.group.written m
  pub stable : appends ≡ false → (m : ℕ) → v.group.stable m ≡ w.group.stable m
  pub running : v.down ≡ false

told_same : (w : World) → TellsOn w w
told_same w name content after told kept t = record {
  each = t.each;
  rise = t.rise;
  logs = t.logs;
  chains = t.chains;
  versions = λ n v le. kept n v le ∙ t.versions n v le;
  level = t.level;
}

pub left_same : (a : Bool) (w : World) → w.down ≡ false → Leaves a w w
left_same a w running = record { tells = told_same w; chains = λ n. refl; counter = refl; written = λ m. refl; stable = λ e m. refl; running = running }

pub last_of : (a : Bool) (w v : World) → Leaves a w v → (n : ℕ) → (v.pages n).last ≡ (w.pages n).last
last_of a w v k n = ap (λ (c : Chain). c.last) (k.chains n)

told_on : (w x v : World) → ((n : ℕ) → (x.pages n).last ≡ (w.pages n).last) → TellsOn w x → TellsOn x v → TellsOn w v
told_on w x v last one two name content after told kept t = two name content after told (λ n i le. kept n i (subst (λ z. i ≤ z) (last n) le)) (one name content content told (λ n i le. refl) t)

pub left_on : (a : Bool) (w x v : World) → Leaves a w x → Leaves a x v → Leaves a w v
left_on a w x v one two = record {
  tells = told_on w x v (last_of a w x one) one.tells two.tells;
  chains = λ n. two.chains n ∙ one.chains n;
  counter = two.counter ∙ one.counter;
  written = λ m. two.written m ∙ one.written m;
  stable = λ e m. two.stable e m ∙ one.stable e m;
  running = two.running;
}

-- ---- one move: a draw, or one that draws nothing

pub record DrawsSome (set : ℕ → ℕ) (w v : World) : Type 0 where
  pub member : ℕ
  pub touched : ℕ → Bool
  pub step : Step set w (Draw member touched) v

pub some_record : LogRecord
some_record = record { version = version.Two; lrsn = 0; tran = 0; body = body.Commit }

step_chain : (g : Group) (p q : Page) (e : PageMove) → PageStep g p e q → chain_of q ≡ chain_of p
step_chain g p q (Read m d) st = ap chain_of st.4
step_chain g p q (ReadDisk m) st = ap chain_of st.3
step_chain g p q (Write m) st = ap chain_of st.4
step_chain g p q (WriteDirect m) st = ap chain_of st.4
step_chain g p q (CastoutRead m v) st = ap chain_of st.4
step_chain g p q (CastoutWrite m) st = ap chain_of st.1
step_chain g p q (CastoutDone m) st = ap chain_of st.2
step_chain g p q Reclaim st = ap chain_of st.2
step_chain g p q (DropFrame m) st = ap chain_of st.1
step_chain g p q (Lock m) st = ap chain_of st.2
step_chain g p q (Unlock m) st = ap chain_of st.4
step_chain g p q (Redo m) st = ap chain_of st.4
step_chain g p q (PutAside m) st = ap chain_of st.3
step_chain g p q (Purge m) st = ap chain_of st.5
step_chain g p q (Rebuild n) st = ap chain_of st.2

chain_when : (b : Bool) (q p : Page) → chain_of q ≡ chain_of p → chain_of (cond b q p) ≡ chain_of p
chain_when true q p e = e
chain_when false q p e = refl

put_chain : (pages : ℕ → Page) (n : ℕ) (q : Page) → chain_of q ≡ chain_of (pages n) → (k : ℕ) → chain_of (put pages n q k) ≡ chain_of (pages k)
put_chain pages n q e k = elim (cases_eq k n) [
  | inl is ↦ ap chain_of (cond-true (k == n) q (pages k) (eq-eqb k n is)) ∙ e ∙ sym (ap (λ z. chain_of (pages z)) is)
  | inr ne ↦ ap chain_of (cond-false (k == n) q (pages k) (ne_eqb k n ne))
]

module _ (law : StaysTold) (a : Bool) (set : ℕ → ℕ) (w : World) (good : Good w) where
  -- what it leaves, where this is known of the logs
  leaves_as : (v : World) → TellsOn w v → ((n : ℕ) → chain_of (v.pages n) ≡ chain_of (w.pages n)) → v.group.counter ≡ w.group.counter → v.group.written ≡ w.group.written → (a ≡ false → v.group.stable ≡ w.group.stable) → v.down ≡ false → DrawsSome set w v ⊎ Leaves a w v
  leaves_as v tells chains counter written stable running = inr (record { tells = tells; chains = chains; counter = counter; written = λ m. ap (λ (f : ℕ → ℕ). f m) written; stable = λ e m. ap (λ (f : ℕ → ℕ). f m) (stable e); running = running })

  pub stepped : (v : World) (e : Move) → is_plain a e ≡ true → Step set w e v → DrawsSome set w v ⊎ Leaves a w v
  stepped v (At n e) p st = leaves_as v (λ name content after told kept t. law name set w v (At n e) some_record content after told good t st tt (record { kept = kept; behind = λ k f. never f }))
      (λ k. ap (λ (z : World). chain_of (z.pages k)) st.1.2 ∙ put_chain w.pages n st.1.0 (step_chain w.group (w.pages n) st.1.0 e st.1.1) k) (ap (λ (z : World). z.group.counter) st.1.2) (ap (λ (z : World). z.group.written) st.1.2) (λ f. ap (λ (z : World). z.group.stable) st.1.2) (ap (λ (z : World). z.down) st.1.2)
  stepped v (Draw m touched) p st = inl (record { member = m; touched = touched; step = st })
  stepped v (Force m k) p st = leaves_as v (λ name content after told kept t. law name set w v (Force m k) some_record content after told good t st tt (record { kept = kept; behind = λ j f. never f }))
      (λ k. ap (λ (z : World). chain_of (z.pages k)) st.3) (ap (λ (z : World). z.group.counter) st.3) (ap (λ (z : World). z.group.written) st.3) (λ f. never (sym f ∙ p)) (ap (λ (z : World). z.down) st.3)
  stepped v (TakeSet s m) p st = leaves_as v (λ name content after told kept t. law name set w v (TakeSet s m) some_record content after told good t st tt (record { kept = kept; behind = λ j f. never f }))
      (λ k. ap (λ (z : World). chain_of (z.pages k)) st.3 ∙ chain_when (set k == s) (owned_whole (w.pages k) m) (w.pages k) refl) (ap (λ (z : World). z.group.counter) st.3) (ap (λ (z : World). z.group.written) st.3) (λ f. ap (λ (z : World). z.group.stable) st.3) (ap (λ (z : World). z.down) st.3)
  stepped v (YieldSet s m) p st = leaves_as v (λ name content after told kept t. law name set w v (YieldSet s m) some_record content after told good t st tt (record { kept = kept; behind = λ j f. never f }))
      (λ k. ap (λ (z : World). chain_of (z.pages k)) st.2 ∙ chain_when (set k == s) (given_up (w.pages k)) (w.pages k) refl) (ap (λ (z : World). z.group.counter) st.2) (ap (λ (z : World). z.group.written) st.2) (λ f. ap (λ (z : World). z.group.stable) st.2) (ap (λ (z : World). z.down) st.2)
  stepped v (PurgeSet s m) p st = leaves_as v (λ name content after told kept t. law name set w v (PurgeSet s m) some_record content after told good t st tt (record { kept = kept; behind = λ j f. never f }))
      (λ k. ap (λ (z : World). chain_of (z.pages k)) st.2 ∙ chain_when (set k == s) (given_up (w.pages k)) (w.pages k) refl) (ap (λ (z : World). z.group.counter) st.2) (ap (λ (z : World). z.group.written) st.2) (λ f. ap (λ (z : World). z.group.stable) st.2) (ap (λ (z : World). z.down) st.2)
  stepped v Lose p st = leaves_as v (λ name content after told kept t. law name set w v Lose some_record content after told good t st tt (record { kept = kept; behind = λ j f. never f }))
      (λ k. ap (λ (z : World). chain_of (z.pages k)) st.2) (ap (λ (z : World). z.group.counter) st.2) (ap (λ (z : World). z.group.written) st.2) (λ f. ap (λ (z : World). z.group.stable) st.2) (ap (λ (z : World). z.down) st.2)
  stepped v (ReadLog m) p st = leaves_as v (λ name content after told kept t. law name set w v (ReadLog m) some_record content after told good t st tt (record { kept = kept; behind = λ j f. never f }))
      (λ k. ap (λ (z : World). chain_of (z.pages k)) st.2) (ap (λ (z : World). z.group.counter) st.2) (ap (λ (z : World). z.group.written) st.2) (λ f. ap (λ (z : World). z.group.stable) st.2) (ap (λ (z : World). z.down) st.2)
  stepped v Rebuilt p st = leaves_as v (λ name content after told kept t. law name set w v Rebuilt some_record content after told good t st tt (record { kept = kept; behind = λ j f. never f }))
      (λ k. ap (λ (z : World). chain_of (z.pages k)) st.3) (ap (λ (z : World). z.group.counter) st.3) (ap (λ (z : World). z.group.written) st.3) (λ f. ap (λ (z : World). z.group.stable) st.3) (ap (λ (z : World). z.down) st.3)
  stepped v (Fail m cut) p st = never p
  stepped v (Restart m) p st = leaves_as v (λ name content after told kept t. law name set w v (Restart m) some_record content after told good t st tt (record { kept = kept; behind = λ j f. never f }))
      (λ k. ap (λ (z : World). chain_of (z.pages k)) st.2) (ap (λ (z : World). z.group.counter) st.2) (ap (λ (z : World). z.group.written) st.2) (λ f. ap (λ (z : World). z.group.stable) st.2) (ap (λ (z : World). z.down) st.2)
  stepped v (Open m) p st = leaves_as v (λ name content after told kept t. law name set w v (Open m) some_record content after told good t st tt (record { kept = kept; behind = λ j f. never f }))
      (λ k. ap (λ (z : World). chain_of (z.pages k)) st.3) (ap (λ (z : World). z.group.counter) st.3) (ap (λ (z : World). z.group.written) st.3) (λ f. ap (λ (z : World). z.group.stable) st.3) (ap (λ (z : World). z.down) st.3)
  stepped v (GroupFail cut counter) p st = never p
  stepped v (Forward n k) p st = never p
  stepped v (Compensate n m) p st = never p
  stepped v (Append m) p st = never p
  stepped v Rise p st = never p

-- ---- runs

drawn_counter : (set : ℕ → ℕ) (w v : World) → DrawsSome set w v → v.group.counter ≡ w.group.counter + 1
drawn_counter set w v d = ap (λ (z : World). z.group.counter) d.step.2

drawn_running : (set : ℕ → ℕ) (w v : World) → DrawsSome set w v → v.down ≡ false
drawn_running set w v d = ap (λ (z : World). z.down) d.step.2

-- where it rises by one, there is one draw, and nothing is drawn before it and behind it
pub record Once (a : Bool) (set : ℕ → ℕ) (w v : World) : Type 0 where
  pub before : World
  pub behind : World
  pub up_to : Leaves a w before
  pub good : Good before
  pub draws : DrawsSome set before behind
  pub from : Leaves a behind v

once_on : (a : Bool) (set : ℕ → ℕ) (w x v : World) → Leaves a w x → Once a set x v → Once a set w v
once_on a set w x v k o = record { before = o.before; behind = o.behind; up_to = left_on a w x o.before k o.up_to; good = o.good; draws = o.draws; from = o.from }

module _ (law : StaysTold) (keeps : KeepsGood) (a : Bool) (set : ℕ → ℕ) where
  -- the counter doesn't fall
  pub rises : (w v : World) (es : List Move) → Good w → ArePlain a es → Run set w es v → w.group.counter ≤ v.group.counter
  rises w v [] good p r = subst (λ (z : World). w.group.counter ≤ z.group.counter) (sym r) (omega arith)
  rises w v (e ∷ es) good p r = elim (stepped law a set w good r.0 e p.0 r.1) [
    | inl d ↦ let one = drawn_counter set w r.0 d in let two = rises r.0 v es (keeps set w r.0 e good r.1) p.1 r.2 in omega (arith, one, two)
    | inr k ↦ let one = k.counter in let two = rises r.0 v es (keeps set w r.0 e good r.1) p.1 r.2 in omega (arith, one, two)
  ]

  -- where it stays, nothing is drawn
  pub leaves : (w v : World) (es : List Move) → Good w → w.down ≡ false → ArePlain a es → Run set w es v → v.group.counter ≡ w.group.counter → Leaves a w v
  leaves w v [] good running p r e = subst (Leaves a w) (sym r) (left_same a w running)
  leaves w v (x ∷ es) good running p r e = elim (stepped law a set w good r.0 x p.0 r.1) [
    | inl d ↦ absurd (let one = drawn_counter set w r.0 d in let two = rises r.0 v es (keeps set w r.0 x good r.1) p.1 r.2 in omega (arith, one, two, e))
    | inr k ↦ left_on a w r.0 v k (leaves r.0 v es (keeps set w r.0 x good r.1) k.running p.1 r.2 (e ∙ sym k.counter))
  ]

  pub once : (w v : World) (es : List Move) → Good w → w.down ≡ false → ArePlain a es → Run set w es v → v.group.counter ≡ w.group.counter + 1 → Once a set w v
  once w v [] good running p r e = absurd (let same = ap (λ (z : World). z.group.counter) r in omega (arith, same, e))
  once w v (x ∷ es) good running p r e = elim (stepped law a set w good r.0 x p.0 r.1) [
    | inl d ↦ record { before = w; behind = r.0; up_to = left_same a w running; good = good; draws = d; from = leaves r.0 v es (keeps set w r.0 x good r.1) (drawn_running set w r.0 d) p.1 r.2 (e ∙ sym (drawn_counter set w r.0 d)) }
    | inr k ↦ once_on a set w r.0 v k (once r.0 v es (keeps set w r.0 x good r.1) k.running p.1 r.2 (e ∙ ap (λ z. z + 1) (sym k.counter)))
  ]
