-- What a field that was read took from the front, and when a field is read again.
use Rattle.std.proofs.Common.{◌≡◌, ℕ, ◌+◌, ◌-◌, ◌^◌, ◌<◌, ◌≤◌, Bool, true, false, cond, List, [], ◌++◌, length, take, drop, Option, Some, None, Result, Ok, Err, refl, sym, ap, subst, ◌∙◌, append_assoc, arith}
use Rattle.std.specs.Prelude.{nat_lt}
use Rattle.std.specs.Int.{bytes_high_first}
use Rattle.std.proofs.lemmas.Bool.{ltb-false, le-ltb}
use Rattle.std.proofs.lemmas.List.{take_at, drop_at, take-append-drop, length-append, length-take, length-drop, drop-drop}
use Rattle.byteorder.specs.Endian.{big_number}
use Rattle.byteorder.specs.Numbers.{big_from-lt, length-bytes_high_first}
use Rattle.log_record.specs.declared.fault.RecordFault.{RecordFault}
use Rattle.log_record.specs.declared.fault.RecordFault.TheVariants as fault
use Rattle.std.specs.Result.{IsErr, IsErrAnd}
use Rattle.log_record.specs.Reading.{Answers}
use Rattle.log_record.specs.Fields.{◌>>=◌, bytes_at, allowed_at, field_at, only_if, number_at}
use Rattle.log_record.proofs.Numbers.{IsBytes, IsBytes-take, IsBytes-drop, bytes_back, number_back}

-- the value of a step that gave one
pub bind_ok : {A B : Type 0} (r : Result A RecordFault) (f : A → Result B RecordFault) (y : B) → (r >>= f) ≡ Ok y → (x : A) × (r ≡ Ok x) × (f x ≡ Ok y)
bind_ok (Ok x) f y e = (x, refl, e)
bind_ok (Err d) f y e = absurd cc

-- a test that was passed
pub guard_ok : {A : Type 0} (b : Bool) (d : RecordFault) (x y : A) → cond b (Err d) (Ok x) ≡ Ok y → (b ≡ false) × (x ≡ y)
guard_ok true d x y e = absurd cc
guard_ok false d x y e = (refl, cc)

pub passed : {A : Type 0} (b : Bool) (d : RecordFault) (x y : A) → cond b (Ok x) (Err d) ≡ Ok y → (b ≡ true) × (x ≡ y)
passed true d x y e = (refl, cc)
passed false d x y e = absurd cc

abbrev done : {A : Type 0} → A → Result A RecordFault
done x = Ok x

pub ok_is : {A : Type 0} (x y : A) → done x ≡ done y → x ≡ y
ok_is x y e = cc

-- ---- a fault that is handed on

pub answers_err : {X : Type 0} (result read : Result X RecordFault) (e : RecordFault) → IsErr result → IsErrAnd result (λ f. f ≡ e) → Answers (Err e) read → Answers result read
answers_err (Ok x) read e is a h = absurd cc
answers_err (Err f) read e is a h = let same : f ≡ e = a in rw same h

pub fault_is : {X : Type 0} (result : Result X RecordFault) (e f : RecordFault) → IsErrAnd result (λ z. z ≡ e) → result ≡ Err f → e ≡ f
fault_is (Ok x) e f a h = absurd cc
fault_is (Err d) e f a h = let same : d ≡ e = a in cc

-- ---- what was read

-- this text stands from one offset to the next
pub record Takes (fields : List ℕ) (at : ℕ) (text : List ℕ) (next : ℕ) : Type 0 where
  pub ends : next ≡ at + length text
  pub within : next ≤ length fields
  pub parts : drop at fields ≡ text ++ drop next fields

pub Takes-then : (fields : List ℕ) (at : ℕ) (x : List ℕ) (mid : ℕ) (y : List ℕ) (next : ℕ) → Takes fields at x mid → Takes fields mid y next → Takes fields at (x ++ y) next
Takes-then fields at x mid y next p q = record {
  ends = omega (arith, p.ends, q.ends, length-append x y);
  within = q.within;
  parts = p.parts ∙ ap (λ (t : List ℕ). x ++ t) q.parts ∙ sym (append_assoc x y (drop next fields));
}

pub Takes-none : (fields : List ℕ) (at : ℕ) → at ≤ length fields → Takes fields at [] at
Takes-none fields at le = record { ends = omega arith; within = le; parts = refl }

allowed_ok : {X : Type 0} (at next : ℕ) (o : Option X) (x : X) (end : ℕ) → allowed_at at next o ≡ Ok (x, end) → (o ≡ Some x) × (end ≡ next)
allowed_ok at next None x end e = absurd cc
allowed_ok at next (Some y) x end e = let p = ok_is (y, next) (x, end) e in (ap (λ (z : _). Some z.0) p, sym (ap (λ (z : _). z.1) p))

-- what a field that was read is made of
pub record TakesField {X : Type 0} (width : ℕ) (meaning : List ℕ → Option X) (fields : List ℕ) (at : ℕ) (x : X) (next : ℕ) : Type 0 where
  pub text : List ℕ
  pub bytes : IsBytes text
  pub wide : length text ≡ width
  pub means : meaning text ≡ Some x
  pub takes : Takes fields at text next

pub field_takes : {X : Type 0} (width : ℕ) (meaning : List ℕ → Option X) (fields : List ℕ) (at : ℕ) (x : X) (next : ℕ) → IsBytes fields → field_at width meaning fields at ≡ Ok (x, next) → TakesField width meaning fields at x next
unfolding field_at
field_takes width meaning fields at x next fits e =
    let text = take width (drop at fields) in
    let b = bind_ok (bytes_at width fields at) (λ bytes. allowed_at at (at + width) (meaning bytes)) (x, next) e in
    let g = guard_ok (nat_lt (length fields) (at + width)) (fault.Bad at) text b.0 b.1 in
    let long : at + width ≤ length fields = ltb-false _ _ g.0 in
    let a = allowed_ok at (at + width) (meaning b.0) x next b.2 in
    let wide : length text ≡ width = omega (arith, length-take width (drop at fields), length-drop at fields) in
    let rest : drop width (drop at fields) ≡ drop next fields = drop-drop width at fields ∙ ap (λ (n : ℕ). drop n fields) (sym a.1) in
    record {
      text = text;
      bytes = IsBytes-take width (drop at fields) (IsBytes-drop at fields fits);
      wide = wide;
      means = ap meaning g.1 ∙ a.0;
      takes = record {
        ends = omega (arith, a.1, wide);
        within = omega (arith, a.1, long);
        parts = sym (take-append-drop width (drop at fields)) ∙ ap (λ (t : List ℕ). text ++ t) rest;
      };
    }

pub only_ok : {X : Type 0} (b : Bool) (x y : X) → only_if b x ≡ Some y → (b ≡ true) × (x ≡ y)
only_ok true x y e = (refl, cc)
only_ok false x y e = absurd cc

-- a number that was read stands there, and is allowed
pub number_takes : (width : ℕ) (allowed : ℕ → Bool) (fields : List ℕ) (at n next : ℕ) → IsBytes fields → number_at width allowed fields at ≡ Ok (n, next)
    → Takes fields at (bytes_high_first width n) next × (n < 256 ^ width) × (allowed n ≡ true)
number_takes width allowed fields at n next fits e =
    let t = field_takes width (λ bytes. only_if (allowed (big_number width bytes)) (big_number width bytes)) fields at n next fits e in
    let o = only_ok (allowed (big_number width t.text)) (big_number width t.text) n t.means in
    let text-is : t.text ≡ bytes_high_first width n = sym (bytes_back width t.text t.wide t.bytes) ∙ ap (bytes_high_first width) o.1 in
    let P : List ℕ → Type 0 = λ text. Takes fields at text next in
    (subst P text-is t.takes, subst (λ (k : ℕ). k < 256 ^ width) o.1 (big_from-lt 0 width t.text t.bytes), ap allowed (sym o.1) ∙ o.0)

-- ---- what is read again

-- these are the fields from this offset on
pub record Left (fields : List ℕ) (at : ℕ) (rest : List ℕ) : Type 0 where
  pub within : at ≤ length fields
  pub is : drop at fields ≡ rest

-- a step gave this value, and left these bytes
pub record Reads {X : Type 0} (r : Result (X × ℕ) RecordFault) (x : X) (fields rest : List ℕ) : Type 0 where
  pub next : ℕ
  pub is : r ≡ Ok (x, next)
  pub left : Left fields next rest

pub Left-as : (fields : List ℕ) (at : ℕ) (a b : List ℕ) → a ≡ b → Left fields at a → Left fields at b
Left-as fields at a b e l = record { within = l.within; is = l.is ∙ e }

pub field_again : {X : Type 0} (width : ℕ) (meaning : List ℕ → Option X) (fields : List ℕ) (at : ℕ) (text rest : List ℕ) (x : X) → length text ≡ width → meaning text ≡ Some x → Left fields at (text ++ rest)
    → Reads (field_at width meaning fields at) x fields rest
unfolding field_at
field_again width meaning fields at text rest x wide means l =
    let long : length fields - at ≡ width + length rest = omega (arith, length-drop at fields, length-append text rest, ap length l.is) in
    let within : at + width ≤ length fields = omega (arith, long, l.within) in
    let is-long : nat_lt (length fields) (at + width) ≡ false = le-ltb _ _ within in
    let front : take width (drop at fields) ≡ text = ap (take width) l.is ∙ take_at text rest width wide in
    let back : drop (at + width) fields ≡ rest = sym (drop-drop width at fields) ∙ ap (drop width) l.is ∙ drop_at text rest width wide in
    record { next = at + width; is = rw (is-long, front, means) refl; left = record { within = within; is = back } }

pub number_again : (width : ℕ) (allowed : ℕ → Bool) (fields : List ℕ) (at n : ℕ) (rest : List ℕ) → n < 256 ^ width → allowed n ≡ true → Left fields at (bytes_high_first width n ++ rest)
    → Reads (number_at width allowed fields at) n fields rest
number_again width allowed fields at n rest lt ok l =
    field_again width (λ bytes. only_if (allowed (big_number width bytes)) (big_number width bytes)) fields at (bytes_high_first width n) rest n (length-bytes_high_first width n) (rw (number_back width n lt, ok) refl) l
