-- Whole records: what is read is their spelling, their spelling is read again, and a front of it is not whole.
use Rattle.std.proofs.Common.{lit<, lit≤, ◌≡◌, ℕ, ◌+◌, ◌-◌, ◌*◌, ◌^◌, ◌<◌, ◌≤◌, Bool, true, false, not, cond, List, [], ◌∷◌, ◌++◌, length, Option, Some, None, Result, Ok, Err, get_or, take, drop, refl, sym, ap, subst, ◌∙◌, append_assoc, arith, inl, inr}
use Rattle.std.specs.Prelude.{IfOk, ◌==◌, nat_le, nat_lt}
use Rattle.std.specs.List.{flat_map, AllByRecursion}
use Rattle.std.specs.Int.{w32, to_be_bytes, bytes_high_first}
use Rattle.std.proofs.Math.Seq.{take-add}
use Rattle.std.proofs.lemmas.Bool.{cases_lt, cases_Bool, eqb-true, eq-eqb, leb-true, le-leb, ltb-false, lt-ltb, le-ltb, not-false, and_parts, and_from}
use Rattle.std.proofs.lemmas.List.{append-nil, length-append, length-take, length-drop, get_or_past, take-take, take-append-drop, take_at, drop_at, nil_from_length}
use Rattle.byteorder.specs.Endian.{big_number}
use Rattle.byteorder.specs.Numbers.{big_from-take, big_number-reads_back}
use Rattle.ds_model.specs.declared.log.LogRecord.{LogRecord}
use Rattle.ds_model.specs.declared.log.RowChange.{RowChange}
use Rattle.ds_model.specs.declared.log.Body.{Body}
use Rattle.ds_model.specs.declared.log.Body.TheVariants as body
use Rattle.ds_model.specs.declared.log.Version.{Version}
use Rattle.ds_model.specs.declared.log.Version.TheVariants as version
use Rattle.ds_model.specs.RecordBytes.{Patch, state_bytes, change_bytes, patch_bytes, kind_of, version_byte, width_of, body_bytes, length_in, lrsn_bytes, spelling, record_bytes, patches_limit, is_of_tran, TranFits, StateIsAllowed, ChangeIsAllowed, PatchIsAllowed, ArePatches, IsNumber, BodyIsAllowed, IsAllowed, BodyFits, Fits}
use Rattle.log_record.specs.declared.fault.RecordFault.{RecordFault}
use Rattle.log_record.specs.declared.fault.RecordFault.TheVariants as fault
use Rattle.log_record.specs.declared.kind.Kind.{Kind}
use Rattle.log_record.specs.declared.kind.Kind.TheVariants as kind
use Rattle.log_record.specs.Fields.{◌>>=◌, kind_of_number, version_of_number, has_tran, kind_at, version_at, lrsn_at, tran_at, offset_at, change_at, patches_at, compensation_at, body_at}
use Rattle.log_record.specs.Reading.{fields_in, ends_at, whole_in, is_size, record_in, Found, Answers, HasPatches}
use Rattle.log_record.proofs.Numbers.{IsBytes, IsBytes-take, IsBytes-drop, bytes_back, one_byte}
use Rattle.log_record.proofs.Sizes.{number_length, widths}
use Rattle.log_record.proofs.Steps.{bind_ok, passed, ok_is, Takes, Takes-then, Takes-none, field_takes, number_takes, Left, Left-as, Reads, field_again, number_again}
use Rattle.log_record.proofs.Changes.{not-zero, zero-not, change_takes, change_again}
use Rattle.log_record.proofs.Patches.{patches_takes, patches_again}

-- ---- kinds

abbrev pub number_of : Kind → ℕ
number_of kind.RowChange = 1
number_of kind.Compensation = 2
number_of kind.System = 3
number_of kind.Commit = 4
number_of kind.Ended = 5
number_of kind.Checkpoint = 6
number_of kind.RestartEnd = 7

-- the number of a choice, by a test for each
named : {A : Type 0} (number : A → ℕ) (n m : ℕ) (a : A) (other : Option A) (k : A) → number a ≡ m → (other ≡ Some k → n ≡ number k) → cond (n == m) (Some a) other ≡ Some k → n ≡ number k
named number n m a other k is next e =
    elim (cases_Bool (n == m)) [
      | inl same ↦ let s : a ≡ k = let h = rw same at e in cc in eqb-true n m same ∙ sym is ∙ ap number s
      | inr differs ↦ next (rw differs at e)
    ]

number_is : (n : ℕ) (k : Kind) → kind_of_number n ≡ Some k → n ≡ number_of k
number_is n k =
    named number_of n 1 kind.RowChange _ k refl
    (named number_of n 2 kind.Compensation _ k refl
    (named number_of n 3 kind.System _ k refl
    (named number_of n 4 kind.Commit _ k refl
    (named number_of n 5 kind.Ended _ k refl
    (named number_of n 6 kind.Checkpoint _ k refl
    (named number_of n 7 kind.RestartEnd None k refl (λ e. absurd cc)))))))

number_small : (k : Kind) → number_of k < 256
number_small kind.RowChange = lit< tt
number_small kind.Compensation = lit< tt
number_small kind.System = lit< tt
number_small kind.Commit = lit< tt
number_small kind.Ended = lit< tt
number_small kind.Checkpoint = lit< tt
number_small kind.RestartEnd = lit< tt

pub kind_takes : (fields : List ℕ) (at : ℕ) (k : Kind) (next : ℕ) → IsBytes fields → kind_at fields at ≡ Ok (k, next) → Takes fields at (number_of k ∷ []) next
kind_takes fields at k next fits e =
    let t = field_takes 1 (λ bytes. kind_of_number (big_number 1 bytes)) fields at k next fits e in
    let n-is = number_is (big_number 1 t.text) k t.means in
    let text-is : t.text ≡ bytes_high_first 1 (number_of k) = sym (bytes_back 1 t.text t.wide t.bytes) ∙ ap (bytes_high_first 1) n-is in
    subst (λ (text : List ℕ). Takes fields at text next) (text-is ∙ one_byte (number_of k) (number_small k)) t.takes

number_read : (k : Kind) → kind_of_number (big_number 1 (number_of k ∷ [])) ≡ Some k
number_read kind.RowChange = refl
number_read kind.Compensation = refl
number_read kind.System = refl
number_read kind.Commit = refl
number_read kind.Ended = refl
number_read kind.Checkpoint = refl
number_read kind.RestartEnd = refl

kind_again : (fields : List ℕ) (at : ℕ) (k : Kind) (rest : List ℕ) → Left fields at (number_of k ∷ rest) → Reads (kind_at fields at) k fields rest
kind_again fields at k rest l = field_again 1 (λ bytes. kind_of_number (big_number 1 bytes)) fields at (number_of k ∷ []) rest k refl (number_read k) l

-- ---- versions

version_is : (n : ℕ) (v : Version) → version_of_number n ≡ Some v → n ≡ version_byte v
version_is n v =
    named version_byte n 1 version.One _ v refl
    (named version_byte n 2 version.Two None v refl (λ e. absurd cc))

version_small : (v : Version) → version_byte v < 256
version_small version.One = lit< tt
version_small version.Two = lit< tt

version_takes : (fields : List ℕ) (at : ℕ) (v : Version) (next : ℕ) → IsBytes fields → version_at fields at ≡ Ok (v, next) → Takes fields at (version_byte v ∷ []) next
version_takes fields at v next fits e =
    let t = field_takes 1 (λ bytes. version_of_number (big_number 1 bytes)) fields at v next fits e in
    let n-is = version_is (big_number 1 t.text) v t.means in
    let text-is : t.text ≡ bytes_high_first 1 (version_byte v) = sym (bytes_back 1 t.text t.wide t.bytes) ∙ ap (bytes_high_first 1) n-is in
    subst (λ (text : List ℕ). Takes fields at text next) (text-is ∙ one_byte (version_byte v) (version_small v)) t.takes

version_read : (v : Version) → version_of_number (big_number 1 (version_byte v ∷ [])) ≡ Some v
version_read version.One = refl
version_read version.Two = refl

version_again : (fields : List ℕ) (at : ℕ) (v : Version) (rest : List ℕ) → Left fields at (version_byte v ∷ rest) → Reads (version_at fields at) v fields rest
version_again fields at v rest l = field_again 1 (λ bytes. version_of_number (big_number 1 bytes)) fields at (version_byte v ∷ []) rest v refl (version_read v) l

-- ---- bodies

abbrev kind_for : Body → Kind
kind_for (body.RowChange c) = kind.RowChange
kind_for (body.Compensation c undone) = kind.Compensation
kind_for (body.System ps) = kind.System
kind_for body.Commit = kind.Commit
kind_for body.Ended = kind.Ended
kind_for (body.Checkpoint offset) = kind.Checkpoint
kind_for body.RestartEnd = kind.RestartEnd

kind_for-is : (b : Body) → number_of (kind_for b) ≡ kind_of b
kind_for-is (body.RowChange c) = refl
kind_for-is (body.Compensation c undone) = refl
kind_for-is (body.System ps) = refl
kind_for-is body.Commit = refl
kind_for-is body.Ended = refl
kind_for-is (body.Checkpoint offset) = refl
kind_for-is body.RestartEnd = refl

kind_for-tran : (b : Body) → has_tran (kind_for b) ≡ is_of_tran b
kind_for-tran (body.RowChange c) = refl
kind_for-tran (body.Compensation c undone) = refl
kind_for-tran (body.System ps) = refl
kind_for-tran body.Commit = refl
kind_for-tran body.Ended = refl
kind_for-tran (body.Checkpoint offset) = refl
kind_for-tran body.RestartEnd = refl

-- this body of a record of the version stands from one offset to the next, and has the kind
record Stands (v : Version) (k : Kind) (fields : List ℕ) (at : ℕ) (b : Body) (next : ℕ) : Type 0 where
  takes : Takes fields at (body_bytes v b) next
  kind_is : k ≡ kind_for b
  allowed : BodyIsAllowed v b

compensation_takes : (v : Version) (fields : List ℕ) (at : ℕ) (b : Body) (next : ℕ) → IsBytes fields → compensation_at v fields at ≡ Ok (b, next) → Stands v kind.Compensation fields at b next
unfolding compensation_at
compensation_takes v fields at b next fits e =
    let c = bind_ok (change_at fields at) (λ change. lrsn_at v fields change.1 >>= λ undone. Ok (body.Compensation change.0 undone.0, undone.1)) (b, next) e in
    let u = bind_ok (lrsn_at v fields c.0.1) (λ undone. Ok (body.Compensation c.0.0 undone.0, undone.1)) (b, next) c.2 in
    let change = change_takes fields at c.0.0 c.0.1 fits c.1 in
    let undone = number_takes (width_of v) (λ n. true) fields c.0.1 u.0.0 u.0.1 fits u.1 in
    let whole = Takes-then fields at (change_bytes c.0.0) c.0.1 (lrsn_bytes v u.0.0) u.0.1 change.0 undone.0 in
    subst (λ (z : Body × ℕ). Stands v kind.Compensation fields at z.0 z.1) (ok_is (body.Compensation c.0.0 u.0.0, u.0.1) (b, next) u.2)
    (record { takes = whole; kind_is = refl; allowed = (change.1, undone.1) })

-- the patches are short where the body begins behind the head and the record isn't too long
system_allowed : (v : Version) (fields : List ℕ) (at : ℕ) (ps : List Patch) (next : ℕ) → 6 + 2 * width_of v ≤ at → length fields ≤ 16380 → Takes fields at (length ps ∷ flat_map patch_bytes ps) next → 1 ≤ length ps → length ps ≤ patches_limit → AllByRecursion PatchIsAllowed ps → ArePatches v ps
system_allowed v fields at ps next lo hi t from to each = record { some = from; few = to; each = each; short = omega (arith, t.ends, t.within) }

body_takes : (v : Version) (k : Kind) (fields : List ℕ) (at : ℕ) (b : Body) (next : ℕ) → IsBytes fields → 6 + 2 * width_of v ≤ at → at ≤ length fields → length fields ≤ 16380 → body_at v k fields at ≡ Ok (b, next) → Stands v k fields at b next
unfolding body_at
body_takes v kind.RowChange fields at b next fits lo le hi e =
    let c = bind_ok (change_at fields at) (λ change. Ok (body.RowChange change.0, change.1)) (b, next) e in
    let t = change_takes fields at c.0.0 c.0.1 fits c.1 in
    subst (λ (z : Body × ℕ). Stands v kind.RowChange fields at z.0 z.1) (ok_is (body.RowChange c.0.0, c.0.1) (b, next) c.2) (record { takes = t.0; kind_is = refl; allowed = t.1 })
body_takes v kind.Compensation fields at b next fits lo le hi e = compensation_takes v fields at b next fits e
body_takes v kind.System fields at b next fits lo le hi e =
    let p = bind_ok (patches_at fields at) (λ patches. Ok (body.System patches.0, patches.1)) (b, next) e in
    let t = patches_takes fields at p.0.0 p.0.1 fits p.1 in
    subst (λ (z : Body × ℕ). Stands v kind.System fields at z.0 z.1) (ok_is (body.System p.0.0, p.0.1) (b, next) p.2)
    (record { takes = t.0; kind_is = refl; allowed = system_allowed v fields at p.0.0 p.0.1 lo hi t.0 t.1 t.2 t.3 })
body_takes v kind.Commit fields at b next fits lo le hi e =
    subst (λ (z : Body × ℕ). Stands v kind.Commit fields at z.0 z.1) (ok_is (body.Commit, at) (b, next) e) (record { takes = Takes-none fields at le; kind_is = refl; allowed = tt })
body_takes v kind.Ended fields at b next fits lo le hi e =
    subst (λ (z : Body × ℕ). Stands v kind.Ended fields at z.0 z.1) (ok_is (body.Ended, at) (b, next) e) (record { takes = Takes-none fields at le; kind_is = refl; allowed = tt })
body_takes v kind.Checkpoint fields at b next fits lo le hi e =
    let o = bind_ok (offset_at fields at) (λ offset. Ok (body.Checkpoint offset.0, offset.1)) (b, next) e in
    let t = number_takes 8 (λ n. true) fields at o.0.0 o.0.1 fits o.1 in
    subst (λ (z : Body × ℕ). Stands v kind.Checkpoint fields at z.0 z.1) (ok_is (body.Checkpoint o.0.0, o.0.1) (b, next) o.2) (record { takes = t.0; kind_is = refl; allowed = t.1 })
body_takes v kind.RestartEnd fields at b next fits lo le hi e =
    subst (λ (z : Body × ℕ). Stands v kind.RestartEnd fields at z.0 z.1) (ok_is (body.RestartEnd, at) (b, next) e) (record { takes = Takes-none fields at le; kind_is = refl; allowed = tt })

compensation_again : (v : Version) (fields : List ℕ) (at : ℕ) (c : RowChange) (undone : ℕ) (rest : List ℕ) → ChangeIsAllowed c → IsNumber v undone → Left fields at ((change_bytes c ++ lrsn_bytes v undone) ++ rest)
    → Reads (compensation_at v fields at) (body.Compensation c undone) fields rest
unfolding compensation_at
compensation_again v fields at c undone rest h is l =
    let a = change_again fields at c (lrsn_bytes v undone ++ rest) h (Left-as fields at _ _ (append_assoc (change_bytes c) (lrsn_bytes v undone) rest) l) in
    let u = number_again (width_of v) (λ n. true) fields a.next undone rest is refl a.left in
    record { next = u.next; is = rw (a.is, u.is) refl; left = u.left }

body_again : (v : Version) (fields : List ℕ) (at : ℕ) (b : Body) (rest : List ℕ) → BodyIsAllowed v b → Left fields at (body_bytes v b ++ rest) → Reads (body_at v (kind_for b) fields at) b fields rest
unfolding body_at
body_again v fields at (body.RowChange c) rest h l =
    let a = change_again fields at c rest h l in
    record { next = a.next; is = rw a.is refl; left = a.left }
body_again v fields at (body.Compensation c undone) rest h l = compensation_again v fields at c undone rest h.0 h.1 l
body_again v fields at (body.System ps) rest h l =
    let a = patches_again fields at ps rest h.some h.few h.each l in
    record { next = a.next; is = rw a.is refl; left = a.left }
body_again v fields at body.Commit rest h l = record { next = at; is = refl; left = l }
body_again v fields at body.Ended rest h l = record { next = at; is = refl; left = l }
body_again v fields at (body.Checkpoint offset) rest h l =
    let a = number_again 8 (λ n. true) fields at offset rest h refl l in
    record { next = a.next; is = rw a.is refl; left = a.left }
body_again v fields at body.RestartEnd rest h l = record { next = at; is = refl; left = l }

-- ---- from the kind to the body

abbrev middle : LogRecord → List ℕ
middle r = kind_of r.body ∷ version_byte r.version ∷ lrsn_bytes r.version r.lrsn ++ lrsn_bytes r.version r.tran ++ body_bytes r.version r.body

-- with the length before and behind it
middle_length : (r : LogRecord) → 8 + length (middle r) ≡ length_in r.version r.body
middle_length r =
    let v = r.version in
    omega (arith, number_length v r.lrsn, number_length v r.tran, length-append (lrsn_bytes v r.lrsn) (lrsn_bytes v r.tran), length-append (lrsn_bytes v r.lrsn ++ lrsn_bytes v r.tran) (body_bytes v r.body))

-- the test of a transaction's number
abbrev tran_test : Bool → ℕ → Bool
tran_test b n = cond b (not (n == 0)) (n == 0)

tran_true : (b : Bool) (n : ℕ) → tran_test b n ≡ true → TranFits b n
tran_true true n e = not-zero n e
tran_true false n e = eqb-true n 0 e

tran_from : (b : Bool) (n : ℕ) → TranFits b n → tran_test b n ≡ true
tran_from true n h = zero-not n h
tran_from false n h = eq-eqb n 0 h

fields_takes : (fields : List ℕ) (r : LogRecord) (next : ℕ) → IsBytes fields → length fields ≤ 16380 → fields_in fields ≡ Ok (r, next) → Takes fields 4 (middle r) next × IsAllowed r
unfolding fields_in
fields_takes fields r next fits hi e =
    let k = bind_ok (kind_at fields 4) (λ kind. version_at fields kind.1 >>= λ version. lrsn_at version.0 fields version.1 >>= λ lrsn. tran_at version.0 kind.0 fields lrsn.1 >>= λ tran. body_at version.0 kind.0 fields tran.1 >>= λ body. Ok (record { version = version.0; lrsn = lrsn.0; tran = tran.0; body = body.0 }, body.1)) (r, next) e in
    let v = bind_ok (version_at fields k.0.1) (λ version. lrsn_at version.0 fields version.1 >>= λ lrsn. tran_at version.0 k.0.0 fields lrsn.1 >>= λ tran. body_at version.0 k.0.0 fields tran.1 >>= λ body. Ok (record { version = version.0; lrsn = lrsn.0; tran = tran.0; body = body.0 }, body.1)) (r, next) k.2 in
    let l = bind_ok (lrsn_at v.0.0 fields v.0.1) (λ lrsn. tran_at v.0.0 k.0.0 fields lrsn.1 >>= λ tran. body_at v.0.0 k.0.0 fields tran.1 >>= λ body. Ok (record { version = v.0.0; lrsn = lrsn.0; tran = tran.0; body = body.0 }, body.1)) (r, next) v.2 in
    let t = bind_ok (tran_at v.0.0 k.0.0 fields l.0.1) (λ tran. body_at v.0.0 k.0.0 fields tran.1 >>= λ body. Ok (record { version = v.0.0; lrsn = l.0.0; tran = tran.0; body = body.0 }, body.1)) (r, next) l.2 in
    let b = bind_ok (body_at v.0.0 k.0.0 fields t.0.1) (λ body. Ok (record { version = v.0.0; lrsn = l.0.0; tran = t.0.0; body = body.0 }, body.1)) (r, next) t.2 in
    let w = width_of v.0.0 in
    let number = lrsn_bytes v.0.0 l.0.0 in
    let owner = lrsn_bytes v.0.0 t.0.0 in
    let byte = version_byte v.0.0 in
    let kind_t = kind_takes fields 4 k.0.0 k.0.1 fits k.1 in
    let version_t = version_takes fields k.0.1 v.0.0 v.0.1 fits v.1 in
    let lrsn_t = number_takes w (λ n. true) fields v.0.1 l.0.0 l.0.1 fits l.1 in
    let tran_t = number_takes w (tran_test (has_tran k.0.0)) fields l.0.1 t.0.0 t.0.1 fits t.1 in
    let lo : 6 + 2 * w ≤ t.0.1 = omega (arith, kind_t.ends, version_t.ends, lrsn_t.0.ends, tran_t.0.ends, number_length v.0.0 l.0.0, number_length v.0.0 t.0.0) in
    let body_t = body_takes v.0.0 k.0.0 fields t.0.1 b.0.0 b.0.1 fits lo tran_t.0.within hi b.1 in
    let number-is : number_of k.0.0 ≡ kind_of b.0.0 = ap number_of body_t.kind_is ∙ kind_for-is b.0.0 in
    let tran-is : has_tran k.0.0 ≡ is_of_tran b.0.0 = ap has_tran body_t.kind_is ∙ kind_for-tran b.0.0 in
    let made : LogRecord = record { version = v.0.0; lrsn = l.0.0; tran = t.0.0; body = b.0.0 } in
    let first : Takes fields 4 (kind_of b.0.0 ∷ []) k.0.1 = subst (λ (n : ℕ). Takes fields 4 (n ∷ []) k.0.1) number-is kind_t in
    let head : Takes fields 4 (kind_of b.0.0 ∷ byte ∷ []) v.0.1 = Takes-then fields 4 (kind_of b.0.0 ∷ []) k.0.1 (byte ∷ []) v.0.1 first version_t in
    let numbered : Takes fields 4 (kind_of b.0.0 ∷ byte ∷ number) l.0.1 = Takes-then fields 4 (kind_of b.0.0 ∷ byte ∷ []) v.0.1 number l.0.1 head lrsn_t.0 in
    let owned = Takes-then fields 4 (kind_of b.0.0 ∷ byte ∷ number) l.0.1 owner t.0.1 numbered tran_t.0 in
    let whole : Takes fields 4 (middle made) b.0.1 = Takes-then fields 4 (kind_of b.0.0 ∷ byte ∷ number ++ owner) t.0.1 (body_bytes v.0.0 b.0.0) b.0.1 owned body_t.takes in
    let allowed : IsAllowed made = record { lrsn_in = lrsn_t.1; tran_fits = subst (λ (z : Bool). TranFits z t.0.0) tran-is (tran_true (has_tran k.0.0) t.0.0 tran_t.2); tran_in = tran_t.1; body_is = body_t.allowed } in
    subst (λ (z : LogRecord × ℕ). Takes fields 4 (middle z.0) z.1 × IsAllowed z.0) (ok_is (made, b.0.1) (r, next) b.2) (whole, allowed)

fields_again : (fields : List ℕ) (r : LogRecord) → IsAllowed r → Left fields 4 (middle r) → Reads (fields_in fields) r fields []
unfolding fields_in
fields_again fields r h l =
    let k = kind_for r.body in
    let w = width_of r.version in
    let number = lrsn_bytes r.version r.lrsn in
    let owner = lrsn_bytes r.version r.tran in
    let byte = version_byte r.version in
    let rest = body_bytes r.version r.body ++ [] in
    let no_more : body_bytes r.version r.body ≡ rest = sym (append-nil (body_bytes r.version r.body)) in
    let begins : middle r ≡ number_of k ∷ byte ∷ (number ++ (owner ++ rest)) =
    ap (λ (n : ℕ). n ∷ byte ∷ (number ++ owner ++ body_bytes r.version r.body)) (sym (kind_for-is r.body))
    ∙ ap (λ (x : List ℕ). number_of k ∷ byte ∷ x) (append_assoc number owner (body_bytes r.version r.body))
    ∙ ap (λ (x : List ℕ). number_of k ∷ byte ∷ (number ++ (owner ++ x))) no_more in
    let a = kind_again fields 4 k (byte ∷ (number ++ (owner ++ rest))) (Left-as fields 4 _ _ begins l) in
    let v = version_again fields a.next r.version (number ++ (owner ++ rest)) a.left in
    let n = number_again w (λ n. true) fields v.next r.lrsn (owner ++ rest) h.lrsn_in refl v.left in
    let t = number_again w (tran_test (has_tran k)) fields n.next r.tran rest h.tran_in (tran_from (has_tran k) r.tran (subst (λ (z : Bool). TranFits z r.tran) (sym (kind_for-tran r.body)) h.tran_fits)) n.left in
    let b = body_again r.version fields t.next r.body [] h.body_is t.left in
    record { next = b.next; is = rw (a.is, v.is, n.is, t.is, b.is) refl; left = b.left }

-- ---- the whole record

ended : (bytes : List ℕ) (size at : ℕ) → ends_at bytes size at ≡ true → (at ≡ size - 4) × (big_number 4 (drop (size - 4) bytes) ≡ size)
ended bytes size at e = let p = and_parts (at == size - 4) (big_number 4 (drop (size - 4) bytes) == size) e in (eqb-true _ _ p.0, eqb-true _ _ p.1)

-- the four bytes at the front are those of their number
front_back : (bytes : List ℕ) (n : ℕ) → IsBytes bytes → 4 ≤ length bytes → big_number 4 bytes ≡ n → take 4 bytes ≡ to_be_bytes w32 n
front_back bytes n fits le is =
    let same : big_number 4 (take 4 bytes) ≡ n = big_from-take 0 4 4 bytes (lit≤ tt) ∙ is in
    sym (bytes_back 4 (take 4 bytes) (omega (arith, length-take 4 bytes)) (IsBytes-take 4 bytes fits)) ∙ ap (bytes_high_first 4) same

pub whole_length : (r : LogRecord) → length (record_bytes r) ≡ length_in r.version r.body
unfolding record_bytes spelling
whole_length r =
    let n = to_be_bytes w32 (length_in r.version r.body) in
    omega (arith, middle_length r, length-append (lrsn_bytes r.version r.lrsn ++ lrsn_bytes r.version r.tran ++ body_bytes r.version r.body) n)

-- a record that is written has the spelling of version 2
pub as_written : (r : LogRecord) → Fits r → record_bytes r ≡ spelling version.Two r.lrsn r.tran r.body
unfolding record_bytes
as_written r h = ap (λ (v : Version). spelling v r.lrsn r.tran r.body) h.version_is

pub body_written : (r : LogRecord) → Fits r → BodyFits version.Two r.body
body_written r h = subst (λ (v : Version). BodyFits v r.body) h.version_is h.body_fits

whole_parts : (r : LogRecord) (rest : List ℕ) → record_bytes r ++ rest ≡ (to_be_bytes w32 (length_in r.version r.body) ++ middle r) ++ (to_be_bytes w32 (length_in r.version r.body) ++ rest)
unfolding record_bytes spelling
whole_parts r rest = append_assoc (to_be_bytes w32 (length_in r.version r.body) ++ middle r) (to_be_bytes w32 (length_in r.version r.body)) rest

whole_takes : (bytes : List ℕ) (size : ℕ) (r : LogRecord) (n : ℕ) → IsBytes bytes → 22 ≤ size → size ≤ 16384 → size ≤ length bytes → big_number 4 bytes ≡ size → whole_in bytes size ≡ Ok (r, n) → Found bytes r n
unfolding whole_in record_bytes spelling
whole_takes bytes size r n fits long short within first e =
    let fields = take (size - 4) bytes in
    let f = bind_ok (fields_in fields) (λ found. cond (ends_at bytes size found.1) (Ok (found.0, size)) (Err (fault.Bad found.1))) (r, n) e in
    let p = passed (ends_at bytes size f.0.1) (fault.Bad f.0.1) (f.0.0, size) (r, n) f.2 in
    let end = ended bytes size f.0.1 p.0 in
    let count : length fields ≡ size - 4 = omega (arith, length-take (size - 4) bytes) in
    let t = fields_takes fields f.0.0 f.0.1 (IsBytes-take (size - 4) bytes fits) (omega arith) f.1 in
    let nothing : drop f.0.1 fields ≡ [] = nil_from_length (drop f.0.1 fields) (omega (arith, length-drop f.0.1 fields, end.0, count)) in
    let body-is : drop 4 fields ≡ middle f.0.0 = t.0.parts ∙ ap (λ (x : List ℕ). middle f.0.0 ++ x) nothing ∙ append-nil (middle f.0.0) in
    let size-is : size ≡ length_in f.0.0.version f.0.0.body = omega (arith, t.0.ends, end.0, middle_length f.0.0) in
    let spelled_size : to_be_bytes w32 size ≡ to_be_bytes w32 (length_in f.0.0.version f.0.0.body) = ap (to_be_bytes w32) size-is in
    let front : take 4 fields ≡ to_be_bytes w32 (length_in f.0.0.version f.0.0.body) = take-take 4 (size - 4) bytes (omega arith) ∙ front_back bytes size fits (omega arith) first ∙ spelled_size in
    let tail : take 4 (drop (size - 4) bytes) ≡ to_be_bytes w32 (length_in f.0.0.version f.0.0.body) = front_back (drop (size - 4) bytes) size (IsBytes-drop (size - 4) bytes fits) (omega (arith, length-drop (size - 4) bytes)) end.1 ∙ spelled_size in
    let cut : (size - 4) + 4 ≡ size = omega arith in
    let whole : take size bytes ≡ record_bytes f.0.0 =
    ap (λ (k : ℕ). take k bytes) (sym cut) ∙ take-add (size - 4) 4 bytes
    ∙ ap (λ (x : List ℕ). x ++ take 4 (drop (size - 4) bytes)) (sym (take-append-drop 4 fields))
    ∙ ap (λ (x : List ℕ). (take 4 fields ++ x) ++ take 4 (drop (size - 4) bytes)) body-is
    ∙ ap (λ (x : List ℕ). (x ++ middle f.0.0) ++ take 4 (drop (size - 4) bytes)) front
    ∙ ap (λ (x : List ℕ). (to_be_bytes w32 (length_in f.0.0.version f.0.0.body) ++ middle f.0.0) ++ x) tail in
    subst (λ (z : LogRecord × ℕ). Found bytes z.0 z.1) p.1 (record { long = long; within = within; spelled = whole; allowed = t.1 })

otherwise : {A : Type 0} (b : Bool) (d : RecordFault) (z : Result A RecordFault) (y : A) → cond b (Err d) z ≡ Ok y → (b ≡ false) × (z ≡ Ok y)
otherwise true d z y e = absurd cc
otherwise false d z y e = (refl, e)

-- what is read is a spelling
pub record_takes : (bytes : List ℕ) (r : LogRecord) (n : ℕ) → IsBytes bytes → record_in bytes ≡ Ok (r, n) → Found bytes r n
unfolding record_in
record_takes bytes r n fits e =
    let size = big_number 4 bytes in
    let a = otherwise (nat_lt (length bytes) 4) fault.NotWhole _ (r, n) e in
    let b = otherwise (not (is_size size)) (fault.Bad 0) _ (r, n) a.1 in
    let c = otherwise (nat_lt (length bytes) size) fault.NotWhole (whole_in bytes size) (r, n) b.1 in
    let s = and_parts (nat_le 22 size) (nat_le size 16384) (not-false (is_size size) b.0) in
    whole_takes bytes size r n fits (leb-true _ _ s.0) (leb-true _ _ s.1) (ltb-false _ _ c.0) refl c.1

-- ---- what is spelled

state_short : (o : Option (List ℕ)) → StateIsAllowed o → length (state_bytes o) ≤ 102
state_short None h = lit≤ tt
state_short (Some v) h = omega (arith, h.0)

change_short : (c : RowChange) → ChangeIsAllowed c → length (change_bytes c) ≤ 219
change_short c h = omega (arith, state_short c.before h.before_is, state_short c.after h.after_is, length-append (state_bytes c.before) (state_bytes c.after))

body_short : (v : Version) (b : Body) → BodyIsAllowed v b → length_in v b ≤ 16384
body_short v (body.RowChange c) h = omega (arith, widths v, change_short c h)
body_short v (body.Compensation c undone) h = omega (arith, widths v, change_short c h.0, number_length v undone, length-append (change_bytes c) (lrsn_bytes v undone))
body_short v (body.System ps) h = h.short
body_short v body.Commit h = omega (arith, widths v)
body_short v body.Ended h = omega (arith, widths v)
body_short v (body.Checkpoint offset) h = omega (arith, widths v)
body_short v body.RestartEnd h = omega (arith, widths v)

whole_again : (r : LogRecord) (rest : List ℕ) → IsAllowed r → whole_in (record_bytes r ++ rest) (length_in r.version r.body) ≡ Ok (r, length_in r.version r.body)
unfolding whole_in
whole_again r rest h =
    let n = length_in r.version r.body in
    let bytes = record_bytes r ++ rest in
    let front = to_be_bytes w32 n ++ middle r in
    let back = to_be_bytes w32 n ++ rest in
    let wide : length front ≡ n - 4 = omega (arith, middle_length r) in
    let fields-is : take (n - 4) bytes ≡ front = ap (take (n - 4)) (whole_parts r rest) ∙ take_at front back (n - 4) wide in
    let tail-is : drop (n - 4) bytes ≡ back = ap (drop (n - 4)) (whole_parts r rest) ∙ drop_at front back (n - 4) wide in
    let a = fields_again front r h (record { within = omega arith; is = refl }) in
    let end : a.next ≡ n - 4 = omega (arith, a.left.within, length-drop a.next front, ap length a.left.is, wide) in
    let small : n < 256 ^ 4 = omega (arith, body_short r.version r.body h.body_is) in
    let again : big_number 4 back ≡ n = big_number-reads_back 4 n rest small in
    let ok : ends_at bytes n a.next ≡ true = and_from (a.next == n - 4) (big_number 4 (drop (n - 4) bytes) == n) (eq-eqb _ _ end) (eq-eqb _ _ (ap (big_number 4) tail-is ∙ again)) in
    rw (fields-is, a.is, ok) refl

-- the number at the front of a spelling is its length
spelled_size : (r : LogRecord) (rest : List ℕ) → IsAllowed r → big_number 4 (record_bytes r ++ rest) ≡ length_in r.version r.body
spelled_size r rest h =
    let n = length_in r.version r.body in
    let small : n < 256 ^ 4 = omega (arith, body_short r.version r.body h.body_is) in
    let e : record_bytes r ++ rest ≡ to_be_bytes w32 n ++ (middle r ++ (to_be_bytes w32 n ++ rest)) = whole_parts r rest ∙ append_assoc (to_be_bytes w32 n) (middle r) (to_be_bytes w32 n ++ rest) in
    ap (big_number 4) e ∙ big_number-reads_back 4 n (middle r ++ (to_be_bytes w32 n ++ rest)) small

allowed_size : (r : LogRecord) → IsAllowed r → is_size (length_in r.version r.body) ≡ true
allowed_size r h = and_from (nat_le 22 (length_in r.version r.body)) (nat_le (length_in r.version r.body) 16384) (le-leb _ _ (omega (arith, widths r.version))) (le-leb _ _ (omega (arith, body_short r.version r.body h.body_is)))

-- what is spelled is read, whatever follows it
pub record_again : (r : LogRecord) (rest : List ℕ) → IsAllowed r → record_in (record_bytes r ++ rest) ≡ Ok (r, length (record_bytes r))
unfolding record_in
record_again r rest h =
    let bytes = record_bytes r ++ rest in
    let n = length_in r.version r.body in
    let len : length bytes ≡ n + length rest = omega (arith, length-append (record_bytes r) rest, whole_length r) in
    let not_few : nat_lt (length bytes) 4 ≡ false = le-ltb _ _ (omega (arith, len)) in
    let size : big_number 4 bytes ≡ n = spelled_size r rest h in
    let not_cut : nat_lt (length bytes) n ≡ false = le-ltb _ _ (omega (arith, len)) in
    rw (not_few, size, allowed_size r h, not_cut, whole_again r rest h, whole_length r) refl

-- so is the number at the front of a front of it
front_size : (r : LogRecord) (n : ℕ) → IsAllowed r → 4 ≤ n → big_number 4 (take n (record_bytes r)) ≡ length_in r.version r.body
front_size r n h enough = big_from-take 0 4 n (record_bytes r) enough ∙ ap (big_number 4) (sym (append-nil (record_bytes r))) ∙ spelled_size r [] h

-- a front of a spelling is not whole
pub record_cut : (r : LogRecord) (n : ℕ) → IsAllowed r → n < length (record_bytes r) → record_in (take n (record_bytes r)) ≡ Err fault.NotWhole
unfolding record_in
record_cut r n h lt =
    let bytes = take n (record_bytes r) in
    let len : length bytes ≡ n = omega (arith, length-take n (record_bytes r)) in
    elim (cases_lt n 4) [
      | inl few ↦ let is_few : nat_lt (length bytes) 4 ≡ true = lt-ltb _ _ (omega (arith, len)) in rw is_few refl
      | inr enough ↦
          let not_few : nat_lt (length bytes) 4 ≡ false = le-ltb _ _ (omega (arith, len)) in
          let size : big_number 4 bytes ≡ length_in r.version r.body = front_size r n h enough in
          let is_cut : nat_lt (length bytes) (length_in r.version r.body) ≡ true = lt-ltb _ _ (omega (arith, len, whole_length r)) in
          rw (not_few, size, allowed_size r h, is_cut) refl
    ]

pub is_found : (bytes : List ℕ) (result : Result (LogRecord × ℕ) RecordFault) → IsBytes bytes → Answers result (record_in bytes) → IfOk result (λ found. Found bytes found.0 found.1)
is_found bytes (Ok found) fits e = record_takes bytes found.0 found.1 fits e
is_found bytes (Err fault) fits e = tt

-- a whole record of kind 3 is not cut short
pub is_cut : (bytes : List ℕ) (result : Result (LogRecord × ℕ) RecordFault) (r : LogRecord) (n : ℕ) → IsAllowed r → n < length (record_bytes r) → bytes ≡ take n (record_bytes r) → Answers result (record_in bytes) → (result ≡ Err fault.NoMemory → HasPatches bytes) → result ≡ Err fault.NotWhole
is_cut bytes (Ok found) r n h lt e a m = let cut : record_in bytes ≡ Err fault.NotWhole = ap record_in e ∙ record_cut r n h lt in cc
is_cut bytes (Err fault.NotWhole) r n h lt e a m = refl
is_cut bytes (Err (fault.Bad at)) r n h lt e a m =
    let cut : record_in bytes ≡ Err fault.NotWhole = ap record_in e ∙ record_cut r n h lt in
    let other : record_in bytes ≡ Err (fault.Bad at) = a (λ s. cc) in
    cc
is_cut bytes (Err fault.NoMemory) r n h lt e a m =
    let wants = m refl in
    let len : length bytes ≡ n = omega (arith, ap length e, length-take n (record_bytes r)) in
    absurd (elim (cases_lt 4 n) as (λ _. ⊥) [
      | inl more ↦
          let size : big_number 4 bytes ≡ length_in r.version r.body = ap (big_number 4) e ∙ front_size r n h (omega arith) in
          omega (arith, wants.whole, size, len, lt, whole_length r)
      | inr few ↦ let none : get_or bytes 4 0 ≡ 0 = get_or_past bytes 4 0 (omega arith) in omega (arith, none, wants.kind)
    ])
