-- The records of all logs of a disk, one after the other.
use Rattle.std.proofs.Common.{◌≡◌, ℕ, Bool, List, [], Option, Some, None, Result, Ok, Err, subst, ◌∙◌, arith}
use Rattle.std.specs.Prelude.{IsErrOf, IsErrAnd}
use Rattle.ds_disk.specs.Contents.{Contents}
use Rattle.ds_model.specs.declared.log.LogRecord.{LogRecord}
use Rattle.log_head.specs.Heads.{HeadState}
use Rattle.log_heads.specs.declared.taken.Taken.{Taken}
use Rattle.log_heads.specs.declared.taken.Taken.TheVariants as taken
use Rattle.log_heads.specs.Logs.{left, NoneFalls}
use Rattle.opening_rows.specs.declared.fault.LogsFault.{LogsFault}
use Rattle.opening_rows.specs.declared.fault.LogsFault.TheVariants.{Failed, Damaged}
use Rattle.opening_rows.specs.Reading.{ReadsBy}
use Rattle.opening_rows.specs.declared.made.Made.{Made}
use Rattle.opening_rows.specs.Rows.{Stand, AreKept, Comes, IsNextOfAll, IsAdded, IsMade}
use Rattle.opening_rows.proofs.Told.{same_at, told_all, reads_on, reads_to, err_on}
use Rattle.opening_rows.proofs.Heads.{MadeSoFar, made_start, made_on, made_end}

no_error : {U : Type 0} (u : U) (m at : ℕ) → IsErrOf {T = U} {E = LogsFault} (Ok u) (Damaged m at) → ⊥
no_error u m at e = cc

no_failure : {U : Type 0} (u : U) → IsErrOf {T = U} {E = LogsFault} (Ok u) Failed → ⊥
no_failure u e = cc

-- nothing is read yet
pub reads_none : {X : Type 0} (a : Option Contents) (n : ℕ) (Is : X → Contents → Type 0) (IsBad : ℕ → ℕ → Contents → Type 0) (x : X) → ((c : Contents) → Is x c) → ReadsBy a a n n Is IsBad (Ok x)
reads_none a n Is IsBad x is = record {
  ok = told_all a (Is x) is;
  damaged = λ m at e. absurd (no_error x m at e);
  failed = λ e. absurd (no_failure x e);
  same = same_at a;
  later = omega arith;
}

-- ---- the next record

-- what came of the logs as they were at first
abbrev pub CameOf : List HeadState → Taken → List HeadState → Contents → Type 0
CameOf start t now c = Stand c.logs start → Stand c.logs now × Comes (left c.logs start) t (left c.logs now)

came_on : (logs : List (List ℕ)) (h0 h1 h2 h3 : List HeadState) (t u : Taken) (m at n : ℕ) → t ≡ taken.Wants m at n → (Stand logs h0 → Stand logs h1 × Comes (left logs h0) t (left logs h1)) → AreKept logs h1 h2
    → (Stand logs h2 → Stand logs h3 × Comes (left logs h2) u (left logs h3)) → Stand logs h0 → Stand logs h3 × Comes (left logs h0) u (left logs h3)
came_on logs h0 h1 h2 h3 t u m at n e first kept last stand =
    let a = first stand in
    let same : left logs h1 ≡ left logs h0 = subst (λ (x : Taken). Comes (left logs h0) x (left logs h1)) e a.1 in
    let b = kept a.0 in
    let d = last b.0 in
    (d.0, subst (λ (l : List (List LogRecord)). Comes l u (left logs h3)) (b.1 ∙ same) d.1)

pub taken_on : {Y : Type 0} (a b e : Option Contents) (n k j m at count : ℕ) (h0 h1 h2 h3 : List HeadState) (t u : Taken) (IsBad BadQ : ℕ → ℕ → Contents → Type 0) (x z : ℕ) (y : Y) → ReadsBy a b n k (λ (w : ℕ) c. CameOf h0 t h1 c) IsBad (Ok x)
    → ReadsBy b e k j (λ (w : Y) (c : Contents). AreKept c.logs h1 h2) BadQ (Ok y) → t ≡ taken.Wants m at count → ((logs : List (List ℕ)) → Stand logs h2 → Stand logs h3 × Comes (left logs h2) u (left logs h3))
    → ReadsBy a e n j (λ (w : ℕ) c. CameOf h0 u h3 c) (λ m at c. ⊥) (Ok z)
taken_on {Y = Y} a b e n k j m at count h0 h1 h2 h3 t u IsBad BadQ x z y p q wants last =
    let on : ReadsBy a e n j (λ (w : Y) c. CameOf h0 u h3 c) BadQ (Ok y) =
    reads_on a b e n k j (λ (w : ℕ) c. CameOf h0 t h1 c) IsBad x (λ (w : Y) c. AreKept c.logs h1 h2) (λ (w : Y) c. CameOf h0 u h3 c) BadQ BadQ (Ok y) p q
    (λ w c first kept. came_on c.logs h0 h1 h2 h3 t u m at count wants first kept (last c.logs)) (λ i l c first bad. bad) in
    reads_to a e n j (λ (w : Y) c. CameOf h0 u h3 c) BadQ y (λ (w : ℕ) c. CameOf h0 u h3 c) (λ m at c. ⊥) (Ok z) on (λ c came. came) (λ i l h. absurd (no_error z i l h)) (λ h. no_failure z h)

-- where the loop ends
pub next_came : (a b : Option Contents) (n k m : ℕ) (h0 h1 : List HeadState) (t : Taken) (r : LogRecord) (IsBad BadR : ℕ → ℕ → Contents → Type 0) (x : ℕ) → ReadsBy a b n k (λ (w : ℕ) c. CameOf h0 t h1 c) IsBad (Ok x) → t ≡ taken.Record m r
    → ReadsBy a b n k (λ (o : Option LogRecord) c. Stand c.logs h0 → Stand c.logs h1 × IsNextOfAll (left c.logs h0) o (left c.logs h1)) BadR (Ok (Some r))
next_came a b n k m h0 h1 t r IsBad BadR x p e =
    reads_to a b n k (λ (w : ℕ) c. CameOf h0 t h1 c) IsBad x (λ (o : Option LogRecord) c. Stand c.logs h0 → Stand c.logs h1 × IsNextOfAll (left c.logs h0) o (left c.logs h1)) BadR (Ok (Some r)) p
    (λ c came stand. let d = came stand in (d.0, (m, subst (λ (y : Taken). Comes (left c.logs h0) y (left c.logs h1)) e d.1))) (λ i l h. absurd (no_error (Some r) i l h)) (λ h. no_failure (Some r) h)

pub none_came : (a b : Option Contents) (n k : ℕ) (h0 h1 : List HeadState) (t : Taken) (IsBad BadR : ℕ → ℕ → Contents → Type 0) (x : ℕ) → ReadsBy a b n k (λ (w : ℕ) c. CameOf h0 t h1 c) IsBad (Ok x) → t ≡ taken.End
    → ReadsBy a b n k (λ (o : Option LogRecord) c. Stand c.logs h0 → Stand c.logs h1 × IsNextOfAll (left c.logs h0) o (left c.logs h1)) BadR (Ok None)
none_came a b n k h0 h1 t IsBad BadR x p e =
    reads_to a b n k (λ (w : ℕ) c. CameOf h0 t h1 c) IsBad x (λ (o : Option LogRecord) c. Stand c.logs h0 → Stand c.logs h1 × IsNextOfAll (left c.logs h0) o (left c.logs h1)) BadR (Ok None) p
    (λ c came stand. let d = came stand in (d.0, subst (λ (y : Taken). Comes (left c.logs h0) y (left c.logs h1)) e d.1)) (λ i l h. absurd (no_error {U = Option LogRecord} None i l h)) (λ h. no_failure {U = Option LogRecord} None h)

pub bad_came : {Y : Type 0} (a b : Option Contents) (n k m at : ℕ) (h0 h1 : List HeadState) (t : Taken) (IsBad : ℕ → ℕ → Contents → Type 0) (IsR : Y → Contents → Type 0) (x : ℕ) → ReadsBy a b n k (λ (w : ℕ) c. CameOf h0 t h1 c) IsBad (Ok x) → t ≡ taken.Bad m at
    → ReadsBy a b n k IsR (λ i l c. Stand c.logs h0 → ⊥) (Err (Damaged m at))
bad_came {Y = Y} a b n k m at h0 h1 t IsBad IsR x p e =
    reads_to a b n k (λ (w : ℕ) c. CameOf h0 t h1 c) IsBad x IsR (λ i l c. Stand c.logs h0 → ⊥) (Err (Damaged m at)) p tt
    (λ i l h c came stand. subst (λ (y : Taken). Comes (left c.logs h0) y (left c.logs h1)) e (came stand).1) (λ h. no h)
  where
    no : IsErrOf {T = Y} (Err (Damaged m at)) Failed → ⊥
    no h = cc

-- ---- what is made of records

abbrev pub SoFar : (ℕ → Bool) → (ℕ → Bool) → List HeadState → List HeadState → Made → Contents → Type 0
SoFar pending committed start now m c = MadeSoFar c.logs pending committed start now m

abbrev pub MadeOf : (ℕ → Bool) → (ℕ → Bool) → List HeadState → Made → Contents → Type 0
MadeOf pending committed start m c = Stand c.logs start → NoneFalls (left c.logs start) → IsMade pending committed (left c.logs start) m

pub made_begin : (a : Option Contents) (n : ℕ) (pending committed : ℕ → Bool) (start : List HeadState) (m : Made) (x : ℕ) → IsMade pending committed [] m → ReadsBy a a n n (λ (w : ℕ) c. SoFar pending committed start start m c) (λ m at c. ⊥) (Ok x)
made_begin a n pending committed start m x is = reads_none a n (λ (w : ℕ) c. SoFar pending committed start start m c) (λ m at c. ⊥) x (λ c. made_start c.logs pending committed start m is)

abbrev pub NextOf : List HeadState → List HeadState → Option LogRecord → Contents → Type 0
NextOf old new o c = Stand c.logs old → Stand c.logs new × IsNextOfAll (left c.logs old) o (left c.logs new)

pub made_more : (a b e : Option Contents) (n k j : ℕ) (pending committed : ℕ → Bool) (start old new : List HeadState) (m after : Made) (o : Option LogRecord) (r : LogRecord) (IsBad BadQ : ℕ → ℕ → Contents → Type 0) (x z : ℕ)
    → ReadsBy a b n k (λ (w : ℕ) c. SoFar pending committed start old m c) IsBad (Ok x) → ReadsBy b e k j (λ (w : Option LogRecord) c. NextOf old new w c) BadQ (Ok o) → o ≡ Some r → IsAdded pending committed m after r
    → ReadsBy a e n j (λ (w : ℕ) c. SoFar pending committed start new after c) (λ m at c. ⊥) (Ok z)
made_more a b e n k j pending committed start old new m after o r IsBad BadQ x z p q some is =
    let on : ReadsBy a e n j (λ (w : Option LogRecord) c. w ≡ Some r → SoFar pending committed start new after c) BadQ (Ok o) =
    reads_on a b e n k j (λ (w : ℕ) c. SoFar pending committed start old m c) IsBad x (λ (w : Option LogRecord) c. NextOf old new w c) (λ (w : Option LogRecord) c. w ≡ Some r → SoFar pending committed start new after c) BadQ BadQ (Ok o) p q
    (λ w c so_far next is_some. made_on c.logs pending committed start old new m after r so_far (subst (λ (v : Option LogRecord). NextOf old new v c) is_some next) is) (λ i l c so_far bad. bad) in
    reads_to a e n j (λ (w : Option LogRecord) c. w ≡ Some r → SoFar pending committed start new after c) BadQ o (λ (w : ℕ) c. SoFar pending committed start new after c) (λ m at c. ⊥) (Ok z) on (λ c s. s some) (λ i l h. absurd (no_error z i l h)) (λ h. no_failure z h)

pub made_over : (a b e : Option Contents) (n k j : ℕ) (pending committed : ℕ → Bool) (start old new : List HeadState) (m : Made) (o : Option LogRecord) (IsBad BadQ BadR : ℕ → ℕ → Contents → Type 0) (x : ℕ)
    → ReadsBy a b n k (λ (w : ℕ) c. SoFar pending committed start old m c) IsBad (Ok x) → ReadsBy b e k j (λ (w : Option LogRecord) c. NextOf old new w c) BadQ (Ok o) → o ≡ None
    → ReadsBy a e n j (λ (w : Made) c. MadeOf pending committed start w c) BadR (Ok m)
made_over a b e n k j pending committed start old new m o IsBad BadQ BadR x p q none =
    let on : ReadsBy a e n j (λ (w : Option LogRecord) c. w ≡ None → MadeOf pending committed start m c) BadQ (Ok o) =
    reads_on a b e n k j (λ (w : ℕ) c. SoFar pending committed start old m c) IsBad x (λ (w : Option LogRecord) c. NextOf old new w c) (λ (w : Option LogRecord) c. w ≡ None → MadeOf pending committed start m c) BadQ BadQ (Ok o) p q
    (λ w c so_far next is_none. made_end c.logs pending committed start old new m so_far (subst (λ (v : Option LogRecord). NextOf old new v c) is_none next)) (λ i l c so_far bad. bad) in
    reads_to a e n j (λ (w : Option LogRecord) c. w ≡ None → MadeOf pending committed start m c) BadQ o (λ (w : Made) c. MadeOf pending committed start w c) BadR (Ok m) on (λ c s. s none) (λ i l h. absurd (no_error m i l h)) (λ h. no_failure m h)

-- nothing else is met
pub made_unmet : {Y : Type 0} (a b e : Option Contents) (n k j : ℕ) (pending committed : ℕ → Bool) (start old : List HeadState) (m : Made) (IsBad : ℕ → ℕ → Contents → Type 0) (IsQ : Option LogRecord → Contents → Type 0) (IsR : Y → Contents → Type 0) (x : ℕ) (f : LogsFault) (r : Result Y LogsFault)
    → IsErrAnd r (λ (z : LogsFault). z ≡ f) → ReadsBy a b n k (λ (w : ℕ) c. SoFar pending committed start old m c) IsBad (Ok x) → ReadsBy b e k j IsQ (λ m at c. Stand c.logs old → ⊥) (Err f)
    → ReadsBy a e n j IsR (λ m at c. Stand c.logs start → NoneFalls (left c.logs start) → ⊥) r
made_unmet a b e n k j pending committed start old m IsBad IsQ IsR x f r is p q =
    err_on a b e n k j (λ (w : ℕ) c. SoFar pending committed start old m c) IsBad x IsQ IsR (λ m at c. Stand c.logs old → ⊥) (λ m at c. Stand c.logs start → NoneFalls (left c.logs start) → ⊥) f r is p q
    (λ m at c so_far bad stand none. bad (so_far stand none).stand)
