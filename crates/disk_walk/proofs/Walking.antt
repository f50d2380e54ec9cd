-- The records of all logs of a disk, one after the other.
use Rattle.std.proofs.Common.{◌≡◌, ℕ, ◌-◌, List, length, take, drop, Option, Some, None, sym, ap, subst, ◌∙◌, arith}
use Rattle.ds_disk.specs.Contents.{Contents, log_of, WhenTold, Becomes, Same}
use Rattle.ds_model.specs.declared.log.LogRecord.{LogRecord}
use Rattle.log_head.specs.Heads.{HeadState}
use Rattle.log_heads.specs.declared.taken.Taken.{Taken}
use Rattle.log_heads.specs.declared.taken.Taken.TheVariants as taken
use Rattle.log_heads.specs.Heads.{HeadsState, taken_of, after_fill}
use Rattle.log_heads.specs.Laws.{WantsNext}
use Rattle.log_heads.specs.Logs.{AreOf, left, AreNextOf, IsFilled}
use Rattle.disk_walk.specs.Reading.{AreAt}
use Rattle.disk_walk.specs.Walks.{Stand, AreKept, Comes}
use Rattle.disk_walk.proofs.Reading.{told_before, told_by, told_by_both}
use Rattle.disk_walk.proofs.Standing.{stands_filled, is_of_at}

-- ---- bytes that are wanted

next_of : WantsNext → (logs : List (List ℕ)) (s : HeadsState) (member at : ℕ) (bytes : List ℕ) → taken_of s ≡ taken.Wants member at (length bytes) → AreOf logs s.heads → AreAt (log_of logs member) at bytes → AreNextOf logs s.heads member bytes
next_of law logs s member at bytes e of are =
    let w = law s member at (length bytes) e in
    let is = is_of_at logs s.heads (member - 1) of in
    let there : bytes ≡ take (length bytes) (drop at (log_of logs member)) = are (omega (arith, w.1, is.within)) in
    subst (λ (k : ℕ). bytes ≡ take (length bytes) (drop k (log_of logs member))) w.0 there

pub kept_on : WantsNext → (a : Option Contents) (member at count : ℕ) (s g : HeadsState) (bytes : List ℕ) → length bytes ≡ count → taken_of s ≡ taken.Wants member at count
    → WhenTold a (λ (c : Contents). AreAt (log_of c.logs member) at bytes) → g ≡ after_fill s member bytes
    → ((logs : List (List ℕ)) → AreOf logs s.heads → AreNextOf logs s.heads member bytes → IsFilled logs s.heads g.heads) → WhenTold a (λ (c : Contents). AreKept c.logs s.heads g.heads)
kept_on law a member at count s g bytes long e p new goes =
    let wants : taken_of s ≡ taken.Wants member at (length bytes) = e ∙ ap (λ (j : ℕ). taken.Wants member at j) (sym long) in
    told_by a (λ (c : Contents). AreAt (log_of c.logs member) at bytes) (λ (c : Contents). AreKept c.logs s.heads g.heads)
    (λ c are stand. stands_filled c.logs s g member bytes new (goes c.logs stand.of (next_of law c.logs s member at bytes wants stand.of are)) stand) p

-- ---- the next record

-- what came of the logs as they were at first
abbrev pub CameOf : List HeadState → Taken → List HeadState → Contents → Type 0
CameOf start t now c = Stand c.logs start → Stand c.logs now × Comes (left c.logs start) t (left c.logs now)

came_on : (logs : List (List ℕ)) (h0 h1 h2 h3 : List HeadState) (t u : Taken) (m at n : ℕ) → t ≡ taken.Wants m at n → (Stand logs h0 → Stand logs h1 × Comes (left logs h0) t (left logs h1)) → AreKept logs h1 h2
    → (Stand logs h2 → Stand logs h3 × Comes (left logs h2) u (left logs h3)) → Stand logs h0 → Stand logs h3 × Comes (left logs h0) u (left logs h3)
came_on logs h0 h1 h2 h3 t u m at n e first kept last stand =
    let a = first stand in
    let same : left logs h1 ≡ left logs h0 = subst (λ (x : Taken). Comes (left logs h0) x (left logs h1)) e a.1 in
    let b = kept a.0 in
    let d = last b.0 in
    (d.0, subst (λ (l : List (List LogRecord)). Comes l u (left logs h3)) (b.1 ∙ same) d.1)

pub taken_on : (a b : Option Contents) (m at count : ℕ) (h0 h1 h2 h3 : List HeadState) (t u : Taken) → WhenTold a (CameOf h0 t h1) → Becomes a b Same
    → WhenTold b (λ (c : Contents). AreKept c.logs h1 h2) → t ≡ taken.Wants m at count → ((logs : List (List ℕ)) → Stand logs h2 → Stand logs h3 × Comes (left logs h2) u (left logs h3))
    → WhenTold a (CameOf h0 u h3)
taken_on a b m at count h0 h1 h2 h3 t u came same kept wants last =
    told_by_both a (CameOf h0 t h1) (λ (c : Contents). AreKept c.logs h1 h2) (CameOf h0 u h3) (λ c first on. came_on c.logs h0 h1 h2 h3 t u m at count wants first on (last c.logs)) came
    (told_before a b (λ (c : Contents). AreKept c.logs h1 h2) same kept)
