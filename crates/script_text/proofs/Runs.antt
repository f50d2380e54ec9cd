-- The lines of a script, one after the other, give the script.
use Rattle.std.proofs.Common.{◌≡◌, ◌⊎◌, ℕ, zero, suc, ◌+◌, ◌<◌, ◌≤◌, Bool, true, false, not, ◌&&◌, nat_le, leb, eqb, if◌then◌else◌, List, [], ◌∷◌, ◌++◌, length, map, drop, replicate, Option, Some, None, Result, Ok, Err, Contains, refl, sym, ap, ◌∙◌, subst, arith, append_assoc, append-nil, length-append, inl, inr}
use Rattle.std.specs.List.{flat_map, AllByRecursion}
use Rattle.std.proofs.lemmas.Bool.Decides.{nat_tests}
use Rattle.std.proofs.lemmas.List.{map_push}
use Rattle.std.proofs.lemmas.List.Elements.{Contains-append_cases, Contains-append_left, Contains-append_right, Contains-push, Contains-push_cases}
use Rattle.ds_model.specs.declared.script.Op.{Op}
use Rattle.ds_model.specs.declared.script.Op.TheVariants as op
use Rattle.ds_model.specs.declared.script.FailAt.{FailAt}
use Rattle.ds_model.specs.declared.script.Tran.{Tran}
use Rattle.ds_model.specs.declared.script.Part.{Part}
use Rattle.ds_model.specs.declared.script.Phase.{Phase}
use Rattle.ds_model.specs.declared.script.Script.{Script}
use Rattle.ds_model.specs.declared.script.FaultKind.{FaultKind}
use Rattle.ds_model.specs.declared.script.FaultKind.TheVariants as fault
use Rattle.ds_model.specs.Transactions.{Placed, placed_part, placed_phase, placed}
use Rattle.ds_model.specs.Scripts.{AreParts, ArePhases, Differ, FailIsAllowed, IsOp, IsPart, IsScript, IsTran, Lacks, LeavesFlags, TranLeavesFlags, counted, flag_raised, flags_raised, part_raises, phase_fails}
use Rattle.script_line.specs.Words.{mapped}
use Rattle.script_line.specs.declared.line.Keyword.TheVariants as keyword
use Rattle.script_line.specs.declared.line.Line.{Line}
use Rattle.script_line.specs.declared.line.Line.TheVariants as lines
use Rattle.script_line.specs.Canonical.{IsLine, keyword_for}
use Rattle.script_text.specs.declared.draft.Place.{Place}
use Rattle.script_text.specs.declared.draft.Place.TheVariants as place
use Rattle.script_text.specs.declared.draft.Draft.{Draft}
use Rattle.script_text.specs.SoFar.{has_number, has_name, parts_of, phase_with, names_so_far}
use Rattle.script_text.specs.Drafts.{begun_at, closed, closed_at, draft_at, failed_again, in_phase, may_stand, may_use_flags, moved, part_begun, part_of, phases_begun, place_fault, start, step_line, tran_of, with_phase, with_tran}
use Rattle.script_text.proofs.SoFar.{push_flat}
use Rattle.script_text.proofs.Members.{number_contained, number_lacked, name_lacked}
use Rattle.script_text.proofs.Kept.{ended, ended_more, name_of, number_of, names_ended}
use Rattle.script_text.proofs.Spelled.{tran_lines, restart_lines, fail_lines, part_lines, groupfail_lines, phase_lines, script_lines}

pub record Takes (m : ℕ) (d : Draft) (l : Line) (e : Draft) : Type 0 where
  pub ranged : IsLine m l
  pub placed_right : place_fault d (Some (keyword_for l)) ≡ None
  pub steps : step_line d l ≡ Ok e

abbrev pub Runs : ℕ → Draft → List Line → Draft → Type 0
Runs m d [] e = d ≡ e
Runs m d (l ∷ ls) e = (n : Draft) × Takes m d l n × Runs m n ls e

pub joined : (m : ℕ) (d : Draft) (ls ks : List Line) (e f : Draft) → Runs m d ls e → Runs m e ks f → Runs m d (ls ++ ks) f
joined m d [] ks e f h k = subst (λ x. Runs m x ks f) (sym h) k
joined m d (l ∷ ls) ks e f h k = (h.0, h.1, joined m h.0 ls ks e f h.2 k)

at_end : (m : ℕ) (d : Draft) (ls : List Line) (e f : Draft) → e ≡ f → Runs m d ls e → Runs m d ls f
at_end m d ls e f h k = subst (Runs m d ls) h k

one : (m : ℕ) (d : Draft) (l : Line) (e : Draft) → Takes m d l e → Runs m d (l ∷ []) e
one m d l e h = (e, h, refl)

-- ---- operations

not_above : (a b : ℕ) → b < a → leb a b ≡ false
not_above a b h = grind (arith, nat_tests)

all_front : {A : Type 0} (P : A → Type 0) (xs ys : List A) → AllByRecursion P (xs ++ ys) → AllByRecursion P xs
all_front P [] ys h = tt
all_front P (x ∷ xs) ys h = (h.0, all_front P xs ys h.1)

all_back : {A : Type 0} (P : A → Type 0) (xs ys : List A) → AllByRecursion P (xs ++ ys) → AllByRecursion P ys
all_back P [] ys h = h
all_back P (x ∷ xs) ys h = all_back P xs ys h.1

-- operations that may follow those of the part, behind these parts
abbrev FlagsFit : List Part → Part → List Op → Type 0
FlagsFit qs x os = ((x.trans ≡ []) × AllByRecursion (Lacks (flat_map part_raises qs)) (flags_raised os)) ⊎ AllByRecursion LeavesFlags os

rest_fits : (qs : List Part) (x : Part) (o : Op) (os : List Op) → FlagsFit qs x (o ∷ os) → FlagsFit qs x os
rest_fits qs x o os (inl h) = inl (h.0, all_back (Lacks (flat_map part_raises qs)) (flag_raised o) (flags_raised os) h.1)
rest_fits qs x o os (inr h) = inr h.1

is_first_of : (ts : List Tran) → ts ≡ [] → eqb (length ts) 0 ≡ true
is_first_of ts h = ap (λ (us : List Tran). eqb (length us) 0) h

both : (a b : Bool) → a ≡ true → b ≡ false → (a && not b) ≡ true
both true false h k = refl
both true true h k = cc
both false b h k = cc

raises_of_first : (qs : List Part) (x : Part) → x.trans ≡ [] → flat_map part_raises (qs ++ x ∷ []) ≡ flat_map part_raises qs
raises_of_first qs x h =
    push_flat part_raises qs x ∙ ap (λ (ts : List Tran). flat_map part_raises qs ++ flat_map (λ (t : Tran). flags_raised t.ops) ts) h ∙ append-nil (flat_map part_raises qs)

op_fits : (phases : List Phase) (g c : ℕ) (qs : List Part) (x : Part) (name : List ℕ) (wait : Bool) (done : List Op) (o : Op) (os : List Op) → FlagsFit qs x (o ∷ os) → may_use_flags (draft_at phases g c (place.Tran qs x name wait done)) o ≡ true
op_fits phases g c qs x name wait done (op.Get table key) os h = refl
op_fits phases g c qs x name wait done (op.Getu table key) os h = refl
op_fits phases g c qs x name wait done (op.Put table key value) os h = refl
op_fits phases g c qs x name wait done (op.Del table key) os h = refl
op_fits phases g c qs x name wait done (op.Scan table low high) os h = refl
op_fits phases g c qs x name wait done (op.Raise flag) os (inl h) =
    both (eqb (length x.trans) 0) (has_number (flat_map part_raises (qs ++ x ∷ [])) flag) (is_first_of x.trans h.0)
    (ap (λ xs. has_number xs flag) (raises_of_first qs x h.0) ∙ number_lacked (flat_map part_raises qs) flag h.1.0)
op_fits phases g c qs x name wait done (op.Raise flag) os (inr h) = absurd h.0
op_fits phases g c qs x name wait done (op.Await flag) os (inl h) = is_first_of x.trans h.0
op_fits phases g c qs x name wait done (op.Await flag) os (inr h) = absurd h.0
op_fits phases g c qs x name wait done op.LoseCache os h = refl
op_fits phases g c qs x name wait done op.Abort os h = refl

abbrev in_tran : List Phase → ℕ → ℕ → List Part → Part → List ℕ → Bool → List Op → Draft
in_tran phases g c qs x name wait ops = draft_at phases g c (place.Tran qs x name wait ops)

run_ops : (m : ℕ) (phases : List Phase) (g c : ℕ) (qs : List Part) (x : Part) (name : List ℕ) (wait : Bool) (done os : List Op) → length done + length os ≤ 64 → AllByRecursion IsOp os → FlagsFit qs x os → Runs m (in_tran phases g c qs x name wait done) (map lines.Operation os) (in_tran phases g c qs x name wait (done ++ os))
run_ops m phases g c qs x name wait done [] l h k = ap (in_tran phases g c qs x name wait) (sym (append-nil done))
run_ops m phases g c qs x name wait done (o ∷ os) l h k =
    let next = in_tran phases g c qs x name wait (done ++ o ∷ []) in (
      in_tran phases g c qs x name wait (done ++ o ∷ []),
      record {
        ranged = h.0;
        placed_right = ap (λ (b : Bool). if b then Some fault.TooLong else None) (not_above 64 (length done) (omega arith));
        steps = ap (λ (b : Bool). if b then Ok (in_tran phases g c qs x name wait (done ++ o ∷ [])) else Err fault.Flag) (op_fits phases g c qs x name wait done o os k);
      },
      at_end m (in_tran phases g c qs x name wait (done ++ o ∷ [])) (map lines.Operation os) (in_tran phases g c qs x name wait ((done ++ o ∷ []) ++ os)) (in_tran phases g c qs x name wait (done ++ o ∷ os))
          (ap (in_tran phases g c qs x name wait) (append_assoc done (o ∷ []) os))
          (run_ops m phases g c qs x name wait (done ++ o ∷ []) os (omega (arith, length-append {A = Op})) h.1 (rest_fits qs x o os k)),
    )

-- ---- the next transaction of all

pub record Good (W : List Placed) : Type 0 where
  pub few : length W ≤ 65536
  pub numbers : map number_of W ≡ counted 1 (length W)
  pub differ : Differ (map name_of W)

number_at : (X : List Placed) (x : Placed) (Y : List Placed) (c : ℕ) → map number_of (X ++ x ∷ Y) ≡ counted c (length (X ++ x ∷ Y)) → x.1.number ≡ c + length X
number_at [] x Y c h = let head : x.1.number ≡ c = cc in omega arith
number_at (y ∷ X) x Y c h =
    let tail : map number_of (X ++ x ∷ Y) ≡ counted (c + 1) (length (X ++ x ∷ Y)) = cc in
    omega (arith, number_at X x Y (c + 1) tail)

in_middle : (X : List Placed) (x : Placed) (Y : List Placed) → Contains (map name_of (X ++ x ∷ Y)) x.1.name
in_middle [] x Y = Contains-append_left (x.1.name ∷ []) (map name_of Y) x.1.name (Contains-push [] x.1.name)
in_middle (y ∷ X) x Y = Contains-append_right (y.1.name ∷ []) (map name_of (X ++ x ∷ Y)) x.1.name (in_middle X x Y)

none_in : (y : List ℕ) → Contains [] y → ⊥
none_in y c = omega (arith, c.1)

only : (y x : List ℕ) → Contains [] x ⊎ (y ≡ x) → y ≡ x
only y x (inl c) = absurd (none_in x c)
only y x (inr e) = e

differ_by : (y : List ℕ) (X : List Placed) (x : Placed) (Y : List Placed) → (Contains (map name_of (X ++ x ∷ Y)) y → ⊥) → (Contains (map name_of X) x.1.name → ⊥) → Contains (y ∷ []) x.1.name ⊎ Contains (map name_of X) x.1.name → ⊥
differ_by y X x Y h k (inl c) = h (subst (Contains (map name_of (X ++ x ∷ Y))) (sym (only y x.1.name (Contains-push_cases [] y x.1.name c))) (in_middle X x Y))
differ_by y X x Y h k (inr c) = k c

differ_at : (X : List Placed) (x : Placed) (Y : List Placed) → Differ (map name_of (X ++ x ∷ Y)) → Contains (map name_of X) x.1.name → ⊥
differ_at [] x Y d c = none_in x.1.name c
differ_at (y ∷ X) x Y d c = differ_by y.1.name X x Y d.0 (differ_at X x Y d.1) (Contains-append_cases (y.1.name ∷ []) (map name_of X) x.1.name c)

record Next (X : List Placed) (x : Placed) : Type 0 where
  number_is : x.1.number ≡ 1 + length X
  new : Contains (map name_of X) x.1.name → ⊥
  few : length X < 65536

next_of : (W X : List Placed) (x : Placed) (Y : List Placed) → Good W → W ≡ X ++ x ∷ Y → Next X x
next_of W X x Y h e = let k = subst Good e h in record {
  number_is = number_at X x Y 1 k.numbers;
  new = differ_at X x Y k.differ;
  few = omega (arith, k.few, length-append X (x ∷ Y));
}

-- ---- transactions

abbrev in_part : List Phase → ℕ → ℕ → List Part → Part → Draft
in_part phases g c qs x = draft_at phases g c (place.Part qs x)

abbrev placed_tran : ℕ → Tran → Placed
placed_tran m t = (m, t)

same_tran : (t : Tran) (n : ℕ) → t.number ≡ n → tran_of t.name n t.wait t.ops ≡ t
same_tran t n h = ap (λ (k : ℕ). tran_of t.name k t.wait t.ops) (sym h)

run_tran : (m : ℕ) (phases : List Phase) (g c : ℕ) (qs : List Part) (x : Part) (t : Tran) → IsTran t → FlagsFit qs x t.ops → c ≡ length (ended phases (place.Part qs x)) → Next (ended phases (place.Part qs x)) (placed_tran x.member t) → Runs m (in_part phases g c qs x) (tran_lines t) (in_part phases g (c + 1) qs (with_tran x t))
run_tran m phases g c qs x t h f e n =
    let lacked = ap (λ (ns : List (List ℕ)). has_name ns t.name) (names_ended phases g c qs x) ∙ name_lacked (map name_of (ended phases (place.Part qs x))) t.name n.new in (
      in_tran phases g (c + 1) qs x t.name t.wait [],
      record {
        ranged = h.named;
        placed_right = ap (λ (b : Bool). if b then Some fault.TooLong else None) (not_above 65536 c (omega (arith, n.few)));
        steps = ap (λ (b : Bool). if b then Err fault.Name else Ok (in_tran phases g (c + 1) qs x t.name t.wait [])) lacked;
      },
      joined m (in_tran phases g (c + 1) qs x t.name t.wait []) (map lines.Operation t.ops) (lines.End ∷ []) (in_tran phases g (c + 1) qs x t.name t.wait t.ops) (in_part phases g (c + 1) qs (with_tran x t))
          (run_ops m phases g (c + 1) qs x t.name t.wait [] t.ops (omega (arith, h.short)) h.ops_are f)
          (at_end m (in_tran phases g (c + 1) qs x t.name t.wait t.ops) (lines.End ∷ []) (in_part phases g (c + 1) qs (with_tran x (tran_of t.name (c + 1) t.wait t.ops))) (in_part phases g (c + 1) qs (with_tran x t))
          (ap (λ (u : Tran). in_part phases g (c + 1) qs (with_tran x u)) (same_tran t (c + 1) (omega (arith, n.number_is))))
          (one m (in_tran phases g (c + 1) qs x t.name t.wait t.ops) lines.End _ (record { ranged = tt; placed_right = refl; steps = refl }))),
    )

abbrev all_raised : List Tran → List ℕ
all_raised ts = flat_map (λ (t : Tran). flags_raised t.ops) ts

abbrev TransFit : List Part → Part → List Tran → Type 0
TransFit qs x ts = ((x.trans ≡ []) × AllByRecursion (Lacks (flat_map part_raises qs)) (all_raised ts) × AllByRecursion TranLeavesFlags (drop 1 ts)) ⊎ AllByRecursion TranLeavesFlags ts

first_fits : (qs : List Part) (x : Part) (t : Tran) (ts : List Tran) → TransFit qs x (t ∷ ts) → FlagsFit qs x t.ops
first_fits qs x t ts (inl h) = inl (h.0, all_front (Lacks (flat_map part_raises qs)) (flags_raised t.ops) (all_raised ts) h.1)
first_fits qs x t ts (inr h) = inr h.0

later_fit : (qs : List Part) (x y : Part) (t : Tran) (ts : List Tran) → TransFit qs x (t ∷ ts) → TransFit qs y ts
later_fit qs x y t ts (inl h) = inr h.2
later_fit qs x y t ts (inr h) = inr h.1

abbrev with_trans : Part → List Tran → Part
with_trans x ts = record { member = x.member; restart = x.restart; fail = x.fail; trans = x.trans ++ ts }

with_more : (phases : List Phase) (g c d : ℕ) (qs : List Part) (x : Part) (ts us : List Tran) → c ≡ d → ts ≡ us → in_part phases g c qs (record { member = x.member; restart = x.restart; fail = x.fail; trans = ts }) ≡ in_part phases g d qs (record { member = x.member; restart = x.restart; fail = x.fail; trans = us })
with_more phases g c d qs x ts us e h =
    ap (λ (n : ℕ). in_part phases g n qs (record { member = x.member; restart = x.restart; fail = x.fail; trans = ts })) e
    ∙ ap (λ (vs : List Tran). in_part phases g d qs (record { member = x.member; restart = x.restart; fail = x.fail; trans = vs })) h

run_trans : (m : ℕ) (W : List Placed) (phases : List Phase) (g c : ℕ) (qs : List Part) (x : Part) (ts : List Tran) (Y : List Placed) → Good W → AllByRecursion IsTran ts → TransFit qs x ts → c ≡ length (ended phases (place.Part qs x)) → W ≡ ended phases (place.Part qs x) ++ (map (placed_tran x.member) ts ++ Y) → Runs m (in_part phases g c qs x) (flat_map tran_lines ts) (in_part phases g (c + length ts) qs (with_trans x ts))
run_trans m W phases g c qs x [] Y good h f e w = with_more phases g c (c + 0) qs x x.trans (x.trans ++ []) (omega arith) (sym (append-nil x.trans))
run_trans m W phases g c qs x (t ∷ ts) Y good h f e w =
    let E = ended phases (place.Part qs x) in
    let more = ended_more phases qs x t in
    let rest = map (placed_tran x.member) ts ++ Y in
    joined m (in_part phases g c qs x) (tran_lines t) (flat_map tran_lines ts) (in_part phases g (c + 1) qs (with_tran x t)) (in_part phases g (c + length (t ∷ ts)) qs (with_trans x (t ∷ ts)))
    (run_tran m phases g c qs x t h.0 (first_fits qs x t ts f) e (next_of W (ended phases (place.Part qs x)) (placed_tran x.member t) (map (placed_tran x.member) ts ++ Y) good w))
    (at_end m (in_part phases g (c + 1) qs (with_tran x t)) (flat_map tran_lines ts) (in_part phases g (c + 1 + length ts) qs (with_trans (with_tran x t) ts)) (in_part phases g (c + length (t ∷ ts)) qs (with_trans x (t ∷ ts)))
    (with_more phases g (c + 1 + length ts) (c + length (t ∷ ts)) qs x (x.trans ++ t ∷ [] ++ ts) (x.trans ++ t ∷ ts) (omega arith) (append_assoc x.trans (t ∷ []) ts))
    (run_trans m W phases g (c + 1) qs (with_tran x t) ts Y good h.1 (later_fit qs x (with_tran x t) t ts f)
    (omega (arith, ap length more, length-append {A = Placed}))
    (w ∙ sym (append_assoc (ended phases (place.Part qs x)) (placed_tran x.member t ∷ []) (map (placed_tran x.member) ts ++ Y)) ∙ ap (λ (xs : List Placed). xs ++ (map (placed_tran x.member) ts ++ Y)) (sym more))))

-- ---- parts

-- a place behind the parts qs of a phase, where one more may begin
record Between (qs : List Part) (p : Place) : Type 0 where
  parts_are : parts_of p ≡ qs
  begins : (d : Draft) (member : ℕ) → part_begun d p member ≡ Ok (moved d (place.Part qs (part_of member)))
  closes : (d : Draft) → closed_at d p ≡ Ok (with_phase d qs)
  begun : (n : ℕ) → begun_at n p ≡ n + 1
  stands_member : may_stand p keyword.Member ≡ true
  stands_fail : may_stand p keyword.GroupFail ≡ true
  stands_phase : may_stand p keyword.Phase ≡ true

first_place : Between [] (place.Phase [])
first_place = record { parts_are = refl; begins = λ d m. refl; closes = λ d. refl; begun = λ n. refl; stands_member = refl; stands_fail = refl; stands_phase = refl }

later_place : (qs : List Part) (x : Part) → Between (qs ++ x ∷ []) (place.Part qs x)
later_place qs x = record { parts_are = refl; begins = λ d m. refl; closes = λ d. refl; begun = λ n. refl; stands_member = refl; stands_fail = refl; stands_phase = refl }

abbrev head : ℕ → Bool → Option FailAt → Part
head member restart fail = record { member = member; restart = restart; fail = fail; trans = [] }

run_restart : (m : ℕ) (phases : List Phase) (g c : ℕ) (qs : List Part) (member : ℕ) (b : Bool) → (b ≡ true → Contains (flat_map phase_fails phases) member) → Runs m (in_part phases g c qs (head member false None)) (restart_lines b) (in_part phases g c qs (head member b None))
run_restart m phases g c qs member true h = one m (in_part phases g c qs (head member false None)) lines.Restart (in_part phases g c qs (head member true None)) (record {
  ranged = tt;
  placed_right = refl;
  steps = ap (λ (b : Bool). if b then Ok (in_part phases g c qs (head member true None)) else Err fault.Restart) (number_contained (flat_map phase_fails phases) member (h refl));
})
run_restart m phases g c qs member false h = refl

run_fail : (m : ℕ) (phases : List Phase) (g c : ℕ) (qs : List Part) (member : ℕ) (b : Bool) (o : Option FailAt) → FailIsAllowed o → Runs m (in_part phases g c qs (head member b None)) (fail_lines o) (in_part phases g c qs (head member b o))
run_fail m phases g c qs member b None h = refl
run_fail m phases g c qs member b (Some at) h = one m (in_part phases g c qs (head member b None)) (lines.Fail at) (in_part phases g c qs (head member b (Some at))) (record { ranged = h; placed_right = refl; steps = refl })

begin_takes : (m : ℕ) (phases : List Phase) (g c : ℕ) (qs : List Part) (p : Place) (member : ℕ) → Between qs p → (1 ≤ member) × (member ≤ m) → Lacks (map (λ (p : Part). p.member) qs) member → Takes m (draft_at phases g c p) (lines.Member member) (in_part phases g c qs (head member false None))
begin_takes m phases g c qs p member b h l = record {
  ranged = h;
  placed_right = ap (λ (t : Bool). if t then None else Some fault.Word) b.stands_member;
  steps =
      ap (λ (t : Bool). if t then Err fault.Member else part_begun (draft_at phases g c p) p member)
      (ap (λ (ps : List Part). has_number (map (λ (p : Part). p.member) ps) member) b.parts_are ∙ number_lacked (map (λ (p : Part). p.member) qs) member l)
      ∙ b.begins (draft_at phases g c p) member;
}

abbrev before : List Phase → List Part → List Placed
before phases qs = flat_map placed_phase phases ++ flat_map placed_part qs

run_part : (m : ℕ) (W : List Placed) (phases : List Phase) (g c : ℕ) (qs : List Part) (p : Place) (x : Part) (Y : List Placed) → Good W → Between qs p → Lacks (map (λ (p : Part). p.member) qs) x.member → IsPart m (flat_map phase_fails phases) (flat_map part_raises qs) x → c ≡ length (before phases qs) → W ≡ before phases qs ++ (placed_part x ++ Y) → Runs m (draft_at phases g c p) (part_lines x) (in_part phases g (c + length x.trans) qs x)
run_part m W phases g c qs p x Y good b l i e w =
    let idle : before phases qs ≡ flat_map placed_phase phases ++ (flat_map placed_part qs ++ []) = ap (λ (xs : List Placed). flat_map placed_phase phases ++ xs) (sym (append-nil (flat_map placed_part qs))) in (
      in_part phases g c qs (head x.member false None),
      begin_takes m phases g c qs p x.member b i.member_in l,
      joined m (in_part phases g c qs (head x.member false None)) (restart_lines x.restart) (fail_lines x.fail ++ flat_map tran_lines x.trans) (in_part phases g c qs (head x.member x.restart None)) (in_part phases g (c + length x.trans) qs x)
          (run_restart m phases g c qs x.member x.restart i.restarts)
          (joined m (in_part phases g c qs (head x.member x.restart None)) (fail_lines x.fail) (flat_map tran_lines x.trans) (in_part phases g c qs (head x.member x.restart x.fail)) (in_part phases g (c + length x.trans) qs x)
          (run_fail m phases g c qs x.member x.restart x.fail i.fail_in)
          (run_trans m W phases g c qs (head x.member x.restart x.fail) x.trans Y good i.trans_are (inl (refl, i.raises_its_own, i.first_alone))
          (e ∙ ap length idle)
          (w ∙ ap (λ (xs : List Placed). xs ++ (placed_part x ++ Y)) idle))),
    )

record PartsRun (m : ℕ) (phases : List Phase) (g : ℕ) (d : Draft) (ls : List Line) (qs : List Part) : Type 0 where
  at : Place
  total : ℕ
  runs : Runs m d ls (draft_at phases g total at)
  between : Between qs at
  total_is : total ≡ length (before phases qs)

regroup : (F Q P R Y : List Placed) → (F ++ Q) ++ ((P ++ R) ++ Y) ≡ (F ++ (Q ++ P)) ++ (R ++ Y)
regroup F Q P R Y = simp append_assoc

long_part : (member : ℕ) (ts : List Tran) → length (map (λ (t : Tran). let it : Placed = (member, t) in it) ts) ≡ length ts
long_part member [] = refl
long_part member (t ∷ ts) = ap suc (long_part member ts)

longer : (F Q P : List Placed) (c n : ℕ) → c ≡ length (F ++ Q) → length P ≡ n → c + n ≡ length (F ++ (Q ++ P))
longer F Q P c n e h = omega (arith, length-append F Q, length-append Q P, length-append F (Q ++ P))

then_parts : (m : ℕ) (phases : List Phase) (g : ℕ) (d e : Draft) (ls ks : List Line) (qs : List Part) → Runs m d ls e → PartsRun m phases g e ks qs → PartsRun m phases g d (ls ++ ks) qs
then_parts m phases g d e ls ks qs r h = record { at = h.at; total = h.total; runs = joined m d ls ks e (draft_at phases g h.total h.at) r h.runs; between = h.between; total_is = h.total_is }

run_parts : (m : ℕ) (W : List Placed) (phases : List Phase) (g c : ℕ) (qs ps : List Part) (p : Place) (Y : List Placed) → Good W → Between qs p → AreParts m (flat_map phase_fails phases) (flat_map part_raises qs) (map (λ (p : Part). p.member) qs) ps → c ≡ length (before phases qs) → W ≡ before phases qs ++ (flat_map placed_part ps ++ Y) → PartsRun m phases g (draft_at phases g c p) (flat_map part_lines ps) (qs ++ ps)
run_parts m W phases g c qs [] p Y good b a e w = record {
  at = p;
  total = c;
  runs = refl;
  between = subst (λ (xs : List Part). Between xs p) (sym (append-nil qs)) b;
  total_is = e ∙ ap (λ (xs : List Part). length (before phases xs)) (sym (append-nil qs));
}
run_parts m W phases g c qs (x ∷ ps) p Y good b a e w =
    let pushed : before phases (qs ++ x ∷ []) ≡ flat_map placed_phase phases ++ (flat_map placed_part qs ++ placed_part x) = ap (λ (xs : List Placed). flat_map placed_phase phases ++ xs) (push_flat placed_part qs x) in
    subst (PartsRun m phases g (draft_at phases g c p) (flat_map part_lines (x ∷ ps))) (append_assoc qs (x ∷ []) ps)
    (then_parts m phases g (draft_at phases g c p) (in_part phases g (c + length x.trans) qs x) (part_lines x) (flat_map part_lines ps) ((qs ++ x ∷ []) ++ ps)
    (run_part m W phases g c qs p x (flat_map placed_part ps ++ Y) good b a.0 a.1 e (w ∙ ap (λ (xs : List Placed). before phases qs ++ xs) (append_assoc (placed_part x) (flat_map placed_part ps) Y)))
    (run_parts m W phases g (c + length x.trans) (qs ++ x ∷ []) ps (place.Part qs x) Y good (later_place qs x)
    (subst (λ (had : List ℕ). AreParts m (flat_map phase_fails phases) (flat_map part_raises (qs ++ x ∷ [])) had ps) (sym (map_push (λ (p : Part). p.member) qs x))
    (subst (λ (raised : List ℕ). AreParts m (flat_map phase_fails phases) raised (map (λ (p : Part). p.member) qs ++ x.member ∷ []) ps) (sym (push_flat part_raises qs x)) a.2))
    (longer (flat_map placed_phase phases) (flat_map placed_part qs) (placed_part x) c (length x.trans) e (long_part x.member x.trans) ∙ ap length (sym pushed))
    (w ∙ regroup (flat_map placed_phase phases) (flat_map placed_part qs) (placed_part x) (flat_map placed_part ps) Y ∙ ap (λ (xs : List Placed). xs ++ (flat_map placed_part ps ++ Y)) (sym pushed))))

-- ---- phases

-- a draft behind these phases and so many failures of the group
record Ready (d : Draft) (done : List Phase) (n c : ℕ) : Type 0 where
  closes : closed d ≡ Ok (draft_at done n c place.Outside)
  begun : phases_begun d ≡ length done
  stands_fail : may_stand d.place keyword.GroupFail ≡ true
  stands_phase : may_stand d.place keyword.Phase ≡ true

outside : (done : List Phase) (n c : ℕ) → Ready (draft_at done n c place.Outside) done n c
outside done n c = record { closes = refl; begun = refl; stands_fail = refl; stands_phase = refl }

behind_parts : (phases : List Phase) (g c : ℕ) (qs : List Part) (p : Place) → Between qs p → Ready (draft_at phases g c p) (phases ++ phase_with g qs ∷ []) 0 c
behind_parts phases g c qs p b = record {
  closes = b.closes (draft_at phases g c p);
  begun = b.begun (length phases) ∙ omega (arith, length-append {A = Phase});
  stands_fail = b.stands_fail;
  stands_phase = b.stands_phase;
}

record GroupfailsRun (m : ℕ) (d : Draft) (k : ℕ) (done : List Phase) (n c : ℕ) : Type 0 where
  last : Draft
  runs : Runs m d (groupfail_lines k) last
  ready : Ready last done (n + k) c

fail_takes : (m : ℕ) (d : Draft) (done : List Phase) (n c : ℕ) → Ready d done n c → Takes m d lines.GroupFail (draft_at done (n + 1) c place.Outside)
fail_takes m d done n c h = record {
  ranged = tt;
  placed_right = ap (λ (t : Bool). if t then None else Some fault.Word) h.stands_fail;
  steps = ap (mapped failed_again) h.closes;
}

run_groupfails : (m : ℕ) (d : Draft) (k : ℕ) (done : List Phase) (n c : ℕ) → Ready d done n c → GroupfailsRun m d k done n c
run_groupfails m d zero done n c h = record { last = d; runs = refl; ready = subst (λ (a : ℕ). Ready d done a c) (let e : n ≡ n + 0 = omega arith in e) h }
run_groupfails m d (suc k) done n c h =
    let rest = run_groupfails m (draft_at done (n + 1) c place.Outside) k done (n + 1) c (outside done (n + 1) c) in
    record {
      last = rest.last;
      runs = (draft_at done (n + 1) c place.Outside, fail_takes m d done n c h, rest.runs);
      ready = subst (λ (a : ℕ). Ready rest.last done a c) (let e : n + 1 + k ≡ n + suc k = omega arith in e) rest.ready;
    }

phase_takes : (m : ℕ) (d : Draft) (done : List Phase) (n c : ℕ) → Ready d done n c → length done < 1024 → Takes m d lines.Phase (draft_at done n c (place.Phase []))
phase_takes m d done n c h l = record {
  ranged = tt;
  placed_right =
      ap (λ (t : Bool). if t then (if nat_le 1024 (phases_begun d) then Some fault.TooLong else None) else Some fault.Word) h.stands_phase
      ∙ ap (λ (t : Bool). if t then Some fault.TooLong else None) (not_above 1024 (phases_begun d) (omega (arith, h.begun)));
  steps = ap (mapped in_phase) h.closes;
}

record PhasesRun (m : ℕ) (d : Draft) (ls : List Line) (done : List Phase) : Type 0 where
  last : Draft
  total : ℕ
  runs : Runs m d ls last
  ready : Ready last done 0 total
  total_is : total ≡ length (flat_map placed_phase done)

run_phase : (m : ℕ) (W : List Placed) (d : Draft) (done : List Phase) (c : ℕ) (x : Phase) (Y : List Placed) → Good W → Ready d done 0 c → length done < 1024 → AreParts m (flat_map phase_fails done) [] [] x.parts → c ≡ length (flat_map placed_phase done) → W ≡ flat_map placed_phase done ++ (placed_phase x ++ Y) → PhasesRun m d (phase_lines x) (done ++ x ∷ [])
run_phase m W d done c x Y good h l a e w =
    let fails = run_groupfails m d x.groupfails done 0 c h in
    let count : 0 + x.groupfails ≡ x.groupfails = omega arith in
    let ready = subst (λ (n : ℕ). Ready fails.last done n c) count fails.ready in
    let none = append-nil (flat_map placed_phase done) in
    let parts = run_parts m W done x.groupfails c [] x.parts (place.Phase []) Y good first_place a (e ∙ ap length (sym none)) (w ∙ ap (λ (xs : List Placed). xs ++ (placed_phase x ++ Y)) (sym none)) in
    record {
      last = draft_at done x.groupfails parts.total parts.at;
      total = parts.total;
      runs = joined m d (groupfail_lines x.groupfails) (lines.Phase ∷ flat_map part_lines x.parts) fails.last (draft_at done x.groupfails parts.total parts.at) fails.runs
          (draft_at done x.groupfails c (place.Phase []), phase_takes m fails.last done x.groupfails c ready l, parts.runs);
      ready = behind_parts done x.groupfails parts.total x.parts parts.at parts.between;
      total_is = parts.total_is ∙ ap length (sym (push_flat placed_phase done x));
    }

then_phases : (m : ℕ) (d : Draft) (ls ks : List Line) (done all : List Phase) (h : PhasesRun m d ls done) → PhasesRun m h.last ks all → PhasesRun m d (ls ++ ks) all
then_phases m d ls ks done all h k = record { last = k.last; total = k.total; runs = joined m d ls ks h.last k.last h.runs k.runs; ready = k.ready; total_is = k.total_is }

run_phases : (m : ℕ) (W : List Placed) (ps : List Phase) (d : Draft) (done : List Phase) (c : ℕ) → Good W → Ready d done 0 c → length done + length ps ≤ 1024 → ArePhases m (flat_map phase_fails done) ps → c ≡ length (flat_map placed_phase done) → W ≡ flat_map placed_phase done ++ flat_map placed_phase ps → PhasesRun m d (flat_map phase_lines ps) (done ++ ps)
run_phases m W [] d done c good h l a e w = subst (PhasesRun m d []) (sym (append-nil done)) (record { last = d; total = c; runs = refl; ready = h; total_is = e })
run_phases m W (x ∷ ps) d done c good h l a e w =
    let first = run_phase m W d done c x (flat_map placed_phase ps) good h (omega arith) a.0 e w in
    subst (PhasesRun m d (flat_map phase_lines (x ∷ ps))) (append_assoc done (x ∷ []) ps)
    (then_phases m d (phase_lines x) (flat_map phase_lines ps) (done ++ x ∷ []) ((done ++ x ∷ []) ++ ps) first
    (run_phases m W ps first.last (done ++ x ∷ []) first.total good first.ready (omega (arith, length-append {A = Phase}))
    (subst (λ (f : List ℕ). ArePhases m f ps) (sym (push_flat phase_fails done x)) a.1)
    first.total_is
    (w ∙ sym (append_assoc (flat_map placed_phase done) (placed_phase x) (flat_map placed_phase ps)) ∙ ap (λ (xs : List Placed). xs ++ flat_map placed_phase ps) (sym (push_flat placed_phase done x)))))

-- ---- the whole

pub record ScriptRun (m : ℕ) (s : Script) : Type 0 where
  pub last : Draft
  pub total : ℕ
  pub runs : Runs m start (script_lines s) last
  pub ends : closed last ≡ Ok (draft_at s.phases s.groupfails total place.Outside)

pub run_script : (m : ℕ) (s : Script) → IsScript m s → ScriptRun m s
run_script m s h =
    let good : Good (placed s) = record { few = h.trans_short; numbers = h.numbers; differ = h.names } in
    let phases = run_phases m (placed s) s.phases start [] 0 good (outside [] 0 0) (omega (arith, h.phases_short)) h.phases_are refl refl in
    let fails = run_groupfails m phases.last s.groupfails s.phases 0 phases.total phases.ready in
    let count : 0 + s.groupfails ≡ s.groupfails = omega arith in
    record {
      last = fails.last;
      total = phases.total;
      runs = joined m start (flat_map phase_lines s.phases) (groupfail_lines s.groupfails) phases.last fails.last phases.runs fails.runs;
      ends = fails.ready.closes ∙ ap (λ (n : ℕ). let it : Result Draft FaultKind = Ok (draft_at s.phases n phases.total place.Outside) in it) count;
    }
