-- What is seen of the numbers of a range is what is seen of all of them.
use Rattle.std.proofs.Common.{◌≡◌, ℕ, ◌+◌, ◌≤◌, Bool, true, false, cond, List, [], ◌∷◌, ◌++◌, Option, Some, None, refl, sym, ap, subst, ◌∙◌, arith}
use Rattle.std.specs.Prelude.{◌==◌, not, ◌||◌, ◌&&◌, is_some}
use Rattle.std.specs.Ordering.{nat_cmp}
use Rattle.std.specs.FinMap.{FinMap, get, insert, get-empty}
use Rattle.std.proofs.lemmas.Bool.Decides.{nat_tests}
use Rattle.ds_model.specs.declared.log.LogRecord.{LogRecord}
use Rattle.log_record.specs.Changes.{is_drawn}
use Rattle.sound_disk.specs.Transactions.{speak_of}
use Rattle.fitting_records.specs.declared.standing.Standing.{Standing}
use Rattle.fitting_records.specs.declared.ranged.NumberRange.{NumberRange}
use Rattle.fitting_records.specs.declared.ranged.RangeSeen.{RangeSeen}
use Rattle.fitting_records.specs.Standings.{after_body}
use Rattle.fitting_records.specs.Fitting.{Seen, Numbers, nothing_seen, is_new, is_home, follows_on, follows, fits, standing_of, seen_with, behind_log}
use Rattle.fitting_records.specs.Ranges.{Homes, is_in, nothing_in, is_new_in, is_own, is_home_in, fits_in, entered, noted, left_behind}
use Rattle.fitting_records.proofs.Knowing.{put_at, has_put, speak_more, trans_has}
use Rattle.fitting_records.proofs.Taking.{and_left, and_right, and_both}

-- of the numbers in the range the same is seen; these are the records of this log so far
pub record Agrees (member : ℕ) (before : List LogRecord) (full : Seen) (s : RangeSeen) : Type 0 where
  pub drawn : (n : ℕ) → is_in s.range n ≡ true → get s.drawn n ≡ get full.drawn n
  pub trans : (t : ℕ) → is_in s.range t ≡ true → get s.trans t ≡ get full.trans t
  pub homes : (t : ℕ) → is_in s.range t ≡ true → (t == 0) ≡ false → is_own member (get s.homes t) ≡ not (is_some (get full.elsewhere t))
  pub lived : (t : ℕ) → is_in s.range t ≡ true → is_some (get s.homes t) ≡ (is_some (get full.elsewhere t) || is_some (get full.trans t))
  pub below : (t k : ℕ) → get s.homes t ≡ Some k → k ≤ member
  pub spoken : (t : ℕ) → is_some (get full.trans t) ≡ speak_of t before

never : (k : ℕ) (o : Option ℕ) → o ≡ None → o ≡ Some k → ⊥
never k o e h = cc

pub agrees_none : (member : ℕ) (range : NumberRange) → Agrees member [] nothing_seen (nothing_in range)
agrees_none member range = record {
  drawn = λ n h. refl;
  trans = λ t h. refl;
  homes = λ t h z. ap (is_own member) (get-empty {X = ℕ} nat_cmp t) ∙ sym (ap (λ (o : Option Bool). not (is_some o)) (get-empty {X = Bool} nat_cmp t));
  lived = λ t h.
      ap (λ (o : Option ℕ). is_some o) (get-empty {X = ℕ} nat_cmp t)
      ∙ sym (ap (λ (o : Option Bool). is_some o || is_some (get nothing_seen.trans t)) (get-empty {X = Bool} nat_cmp t) ∙ ap (λ (o : Option Standing). is_some o) (get-empty {X = Standing} nat_cmp t));
  below = λ t k h. absurd (never k (get (nothing_in range).homes t) (get-empty {X = ℕ} nat_cmp t) h);
  spoken = λ t. ap (λ (o : Option Standing). is_some o) (get-empty {X = Standing} nat_cmp t);
}

-- ---- one record more

equal : (m n : ℕ) → (m == n) ≡ true → m ≡ n
equal m n e = grind (arith, nat_tests)

same_number : (n : ℕ) → (n == n) ≡ true
same_number n = grind (arith, nat_tests)

in_same : (range : NumberRange) (k n : ℕ) → is_in range n ≡ true → (k == n) ≡ true → is_in range k ≡ true
in_same range k n h e = subst (λ (m : ℕ). is_in range m ≡ true) (sym (equal k n e)) h

not_here : {X : Type 0} (c : Bool) (x y : X) → (c ≡ true → false ≡ true) → cond c x y ≡ y
not_here true x y h = (let e : false ≡ true = h refl in absurd cc)
not_here false x y h = refl

put_step : {X : Type 0} (b : Bool) (part full : FinMap nat_cmp X) (k n : ℕ) (v w : X) → get part n ≡ get full n → (b ≡ true → v ≡ w) → ((k == n) ≡ true → b ≡ true) → get (cond b (insert part k v) part) n ≡ get (insert full k w) n
put_step {X = X} true part full k n v w h same within =
    put_at part k v n ∙ ap (λ (x : X). cond (k == n) (Some x) (get part n)) (same refl) ∙ ap (λ (o : Option X). cond (k == n) (Some w) o) h ∙ sym (put_at full k w n)
put_step false part full k n v w h same within = h ∙ sym (put_at full k w n ∙ not_here (k == n) (Some w) (get full n) within)

drawn_step : (d b : Bool) (part full : Numbers) (k n : ℕ) → get part n ≡ get full n → ((k == n) ≡ true → b ≡ true) → get (cond (d && b) (insert part k true) part) n ≡ get (cond d (insert full k true) full) n
drawn_step true b part full k n h within = put_step b part full k n true true h (λ e. refl) within
drawn_step false b part full k n h within = h

own_by : (c : Bool) (o : Option ℕ) (member : ℕ) (e : Bool) → is_own member o ≡ e → (c ≡ true → e ≡ true) → is_own member (cond c (Some member) o) ≡ e
own_by true o member e h k = same_number member ∙ sym (k refl)
own_by false o member e h k = h

own_step : (b : Bool) (homes : Homes) (k member t : ℕ) (e : Bool) → is_own member (get homes t) ≡ e → ((k == t) ≡ true → e ≡ true) → is_own member (get (cond b (insert homes k member) homes) t) ≡ e
own_step true homes k member t e h here = ap (is_own member) (put_at homes k member t) ∙ own_by (k == t) (get homes t) member e h here
own_step false homes k member t e h here = h

or_between : (c e s : Bool) → (c || (e || s)) ≡ (e || (c || s))
or_between true true s = refl
or_between true false s = refl
or_between false e s = refl

lived_step : (b : Bool) (homes : Homes) (k member t : ℕ) (e s : Bool) → is_some (get homes t) ≡ (e || s) → ((k == t) ≡ true → b ≡ true) → is_some (get (cond b (insert homes k member) homes) t) ≡ (e || ((k == t) || s))
lived_step true homes k member t e s h within = has_put homes k member t ∙ ap (λ (x : Bool). (k == t) || x) h ∙ or_between (k == t) e s
lived_step false homes k member t e s h within = h ∙ ap (λ (x : Bool). e || x) (sym (none (k == t) within))
  where
    none : (c : Bool) → (c ≡ true → false ≡ true) → (c || s) ≡ s
    none true f = (let w : false ≡ true = f refl in absurd cc)
    none false f = refl

below_by : (c : Bool) (o : Option ℕ) (member k : ℕ) → cond c (Some member) o ≡ Some k → (o ≡ Some k → k ≤ member) → k ≤ member
below_by true o member k h more = (let same : member ≡ k = cc in omega (arith, same))
below_by false o member k h more = more h

below_step : (b : Bool) (homes : Homes) (k member t j : ℕ) → (get homes t ≡ Some j → j ≤ member) → get (cond b (insert homes k member) homes) t ≡ Some j → j ≤ member
below_step true homes k member t j more h = below_by (k == t) (get homes t) member j (sym (put_at homes k member t) ∙ h) more
below_step false homes k member t j more h = more h

or_none : (a : Bool) → (a || false) ≡ a
or_none true = refl
or_none false = refl

or_turn : (a b : Bool) → (a || b) ≡ (b || a)
or_turn true true = refl
or_turn true false = refl
or_turn false true = refl
or_turn false false = refl

home_by : (z s : Bool) → (z || not s) ≡ true → z ≡ false → not s ≡ true
home_by true s h k = absurd cc
home_by false s h k = h

not_zero : (k t : ℕ) → (k == t) ≡ true → (t == 0) ≡ false → (k == 0) ≡ false
not_zero k t e h = subst (λ (m : ℕ). (m == 0) ≡ false) (sym (equal k t e)) h

pub agrees_more : (member : ℕ) (before : List LogRecord) (full : Seen) (s : RangeSeen) (r : LogRecord) → fits full r ≡ true → Agrees member before full s → Agrees member (before ++ r ∷ []) (seen_with full r) (entered s member r)
agrees_more member before full s r fit a =
    let home : is_home full r ≡ true = and_right (is_new full r) (is_home full r) (and_left (is_new full r && is_home full r) (follows full r) fit) in
    record {
      drawn = λ n h. drawn_step (is_drawn r.body) (is_in s.range r.lrsn) s.drawn full.drawn r.lrsn n (a.drawn n h) (in_same s.range r.lrsn n h);
      trans = λ t h.
          put_step (is_in s.range r.tran) s.trans full.trans r.tran t (after_body (standing_of (get s.trans r.tran)) r r.body) (after_body (standing_of (get full.trans r.tran)) r r.body) (a.trans t h)
          (λ b. ap (λ (o : Option Standing). after_body (standing_of o) r r.body) (a.trans r.tran b)) (in_same s.range r.tran t h);
      homes = λ t h z.
          own_step (is_in s.range r.tran) s.homes r.tran member t (not (is_some (get full.elsewhere t))) (a.homes t h z)
          (λ e. subst (λ (m : ℕ). not (is_some (get full.elsewhere m)) ≡ true) (equal r.tran t e) (home_by (r.tran == 0) (is_some (get full.elsewhere r.tran)) home (not_zero r.tran t e z)));
      lived = λ t h.
          lived_step (is_in s.range r.tran) s.homes r.tran member t (is_some (get full.elsewhere t)) (is_some (get full.trans t)) (a.lived t h) (in_same s.range r.tran t h)
          ∙ ap (λ (x : Bool). is_some (get full.elsewhere t) || x) (sym (has_put full.trans r.tran (after_body (standing_of (get full.trans r.tran)) r r.body) t));
      below = λ t k h. below_step (is_in s.range r.tran) s.homes r.tran member t k (a.below t k) h;
      spoken = λ t.
          has_put full.trans r.tran (after_body (standing_of (get full.trans r.tran)) r r.body) t ∙ ap (λ (b : Bool). (r.tran == t) || b) (a.spoken t)
          ∙ or_turn (r.tran == t) (speak_of t before) ∙ ap (λ (b : Bool). speak_of t before || b) (sym (or_none (r.tran == t))) ∙ sym (speak_more t before (r ∷ []));
    }

pub agrees_noted : (member : ℕ) (before : List LogRecord) (full : Seen) (s : RangeSeen) (r : LogRecord) → Agrees member before full s → Agrees member before full (noted s r)
agrees_noted member before full s r a = record { drawn = a.drawn; trans = a.trans; homes = a.homes; lived = a.lived; below = a.below; spoken = a.spoken }

-- ---- behind a log

unequal : (k member : ℕ) → k ≤ member → (k == member + 1) ≡ false
unequal k member le = grind (arith, nat_tests)

own_later : (member : ℕ) (o : Option ℕ) → ((k : ℕ) → o ≡ Some k → k ≤ member) → is_own (member + 1) o ≡ not (is_some o)
own_later member None h = refl
own_later member (Some k) h = unequal k member (h k refl)

pub agrees_behind : (member : ℕ) (before : List LogRecord) (full : Seen) (s : RangeSeen) → Agrees member before full s → Agrees (member + 1) [] (behind_log full before) (left_behind s)
agrees_behind member before full s a =
    let elsewhere : (t : ℕ) → is_in s.range t ≡ true → is_some (get s.homes t) ≡ is_some (get (behind_log full before).elsewhere t) =
    λ (t : ℕ) (h : is_in s.range t ≡ true). a.lived t h ∙ ap (λ (b : Bool). is_some (get full.elsewhere t) || b) (a.spoken t) ∙ sym (trans_has full.elsewhere before t) in
    record {
      drawn = a.drawn;
      trans = λ t h. refl;
      homes = λ t h z. own_later member (get s.homes t) (a.below t) ∙ ap (λ (b : Bool). not b) (elsewhere t h);
      lived = λ t h. elsewhere t h ∙ sym (ap (λ (o : Option Standing). is_some (get (behind_log full before).elsewhere t) || is_some o) (get-empty {X = Standing} nat_cmp t) ∙ or_none (is_some (get (behind_log full before).elsewhere t)));
      below = λ t k h. (let le = a.below t k h in omega (arith, le));
      spoken = λ t. ap (λ (o : Option Standing). is_some o) (get-empty {X = Standing} nat_cmp t);
    }

-- ---- the next record

new_agrees : (member : ℕ) (before : List LogRecord) (full : Seen) (s : RangeSeen) (r : LogRecord) → Agrees member before full s → is_in s.range r.lrsn ≡ true → is_new_in s r ≡ is_new full r
new_agrees member before full s r a h = ap (λ (o : Option Bool). not (is_drawn r.body) || (not (r.lrsn == 0) && not (is_some o))) (a.drawn r.lrsn h)

home_when : (z b c : Bool) → (z ≡ false → b ≡ c) → (z || b) ≡ (z || c)
home_when true b c h = refl
home_when false b c h = h refl

home_agrees : (member : ℕ) (before : List LogRecord) (full : Seen) (s : RangeSeen) (r : LogRecord) → Agrees member before full s → is_in s.range r.tran ≡ true → is_home_in s member r ≡ is_home full r
home_agrees member before full s r a h = home_when (r.tran == 0) (is_own member (get s.homes r.tran)) (not (is_some (get full.elsewhere r.tran))) (a.homes r.tran h)

follows_agrees : (member : ℕ) (before : List LogRecord) (full : Seen) (s : RangeSeen) (r : LogRecord) → Agrees member before full s → is_in s.range r.tran ≡ true → follows_on (get s.trans r.tran) r ≡ follows full r
follows_agrees member before full s r a h = ap (λ (o : Option Standing). follows_on o r) (a.trans r.tran h)

asked_new : (b n m : Bool) → (b ≡ true → n ≡ m) → m ≡ true → (not b || n) ≡ true
asked_new true n m h k = h refl ∙ k
asked_new false n m h k = refl

pub fits_too : (member : ℕ) (before : List LogRecord) (full : Seen) (s : RangeSeen) (r : LogRecord) → Agrees member before full s → fits full r ≡ true → fits_in s member r ≡ true
fits_too member before full s r a fit =
    let front = and_left (is_new full r && is_home full r) (follows full r) fit in
    and_both (not (is_in s.range r.lrsn) || is_new_in s r) (not (is_in s.range r.tran) || (is_home_in s member r && follows_on (get s.trans r.tran) r))
    (asked_new (is_in s.range r.lrsn) (is_new_in s r) (is_new full r) (new_agrees member before full s r a) (and_left (is_new full r) (is_home full r) front))
    (asked_new (is_in s.range r.tran) (is_home_in s member r && follows_on (get s.trans r.tran) r) true
    (λ h. and_both (is_home_in s member r) (follows_on (get s.trans r.tran) r) (home_agrees member before full s r a h ∙ and_right (is_new full r) (is_home full r) front)
    (follows_agrees member before full s r a h ∙ and_right (is_new full r && is_home full r) (follows full r) fit)) refl)

-- the number that tells that the record doesn't fit
abbrev pub blamed : Seen → LogRecord → ℕ
blamed seen r = cond (is_new seen r) r.tran r.lrsn

in_when : (range : NumberRange) (b : Bool) (m n : ℕ) → is_in range (cond b m n) ≡ cond b (is_in range m) (is_in range n)
in_when range true m n = refl
in_when range false m n = refl

and_none : (a : Bool) → (a && false) ≡ false
and_none true = refl
and_none false = refl

misfit_by : (n h f m g e l t : Bool) → ((n && h) && f) ≡ false → (l ≡ true → m ≡ n) → (t ≡ true → g ≡ h) → (t ≡ true → e ≡ f) → cond n t l ≡ true → ((not l || m) && (not t || (g && e))) ≡ false
misfit_by true h f m g e l true fails_it new home follow within =
    ap (λ (b : Bool). (not l || m) && (b && e)) (home refl) ∙ ap (λ (b : Bool). (not l || m) && (h && b)) (follow refl) ∙ ap (λ (b : Bool). (not l || m) && b) fails_it ∙ and_none (not l || m)
misfit_by true h f m g e l false fails_it new home follow within = absurd cc
misfit_by false h f m g e true t fails_it new home follow within = ap (λ (b : Bool). b && (not t || (g && e))) (new refl)
misfit_by false h f m g e false t fails_it new home follow within = absurd cc

pub misfits_too : (member : ℕ) (before : List LogRecord) (full : Seen) (s : RangeSeen) (r : LogRecord) → Agrees member before full s → fits full r ≡ false → is_in s.range (blamed full r) ≡ true → fits_in s member r ≡ false
misfits_too member before full s r a fails_it within =
    misfit_by (is_new full r) (is_home full r) (follows full r) (is_new_in s r) (is_home_in s member r) (follows_on (get s.trans r.tran) r) (is_in s.range r.lrsn) (is_in s.range r.tran) fails_it
    (new_agrees member before full s r a) (home_agrees member before full s r a) (follows_agrees member before full s r a) (sym (in_when s.range (is_new full r) r.tran r.lrsn) ∙ within)
