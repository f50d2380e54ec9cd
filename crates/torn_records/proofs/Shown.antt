-- What a front of a record shows of its length, its kind and its version.
use Rattle.std.proofs.Common.{◌≡◌, ℕ, ◌+◌, ◌<◌, Bool, List, ◌∷◌, ◌++◌, length, get_or, take, inl, inr, refl, sym, ap, ◌∙◌, arith}
use Rattle.std.specs.Int.{w32, to_be_bytes}
use Rattle.std.proofs.lemmas.Bool.{cases_lt}
use Rattle.std.proofs.lemmas.List.{take_all, take_at, take-take, take-append-le, get_or-take, length-take-le}
use Rattle.ds_model.specs.declared.log.LogRecord.{LogRecord}
use Rattle.ds_model.specs.declared.log.Version.{Version}
use Rattle.ds_model.specs.RecordBytes.{frame_of, version_byte, kind_of, length_in, lrsn_bytes, body_bytes, record_bytes}
use Rattle.torn_records.specs.Fronts.{IsFrontOf, HasText, MayBegin}
use Rattle.torn_records.proofs.Frames.{record_parts}

-- ---- the length

behind_length : LogRecord → List ℕ
behind_length r = kind_of r.body ∷ version_byte r.version ∷ (lrsn_bytes r.version r.lrsn ++ lrsn_bytes r.version r.tran ++ body_bytes r.version r.body ++ to_be_bytes w32 (length_in r.version r.body))

length_first : (r : LogRecord) → record_bytes r ≡ to_be_bytes w32 (length_in r.version r.body) ++ behind_length r
unfolding behind_length
length_first r = record_parts r

front_of_size : (n : ℕ) (four rest : List ℕ) → length four ≡ 4 → take 4 (take n (four ++ rest)) ≡ take n four
front_of_size n four rest long =
    elim (cases_lt n 4) [
      | inl few ↦
          let cut : take n (four ++ rest) ≡ take n four = take-append-le n four rest (omega arith) in
          take_all 4 (take n (four ++ rest)) (omega (arith, ap length cut, length-take-le n four (omega arith))) ∙ cut
      | inr more ↦ take-take 4 n (four ++ rest) more ∙ take_at four rest 4 long ∙ sym (take_all n four (omega arith))
    ]

count_is : (bytes : List ℕ) (r : LogRecord) (f : IsFrontOf bytes r) → length bytes ≡ f.count
count_is bytes r f = ap length f.is ∙ length-take-le f.count (record_bytes r) (let lt = f.short in omega arith)

pub size_seen : (bytes : List ℕ) (r : LogRecord) → IsFrontOf bytes r → take 4 bytes ≡ take (length bytes) (to_be_bytes w32 (length_in r.version r.body))
size_seen bytes r f =
    let four : List ℕ = to_be_bytes w32 (length_in r.version r.body) in
    ap (take 4) (f.is ∙ ap (take f.count) (length_first r)) ∙ front_of_size f.count four (behind_length r) refl ∙ ap (λ (n : ℕ). take n four) (sym (count_is bytes r f))

-- ---- the bytes behind it

byte_seen : (bytes : List ℕ) (r : LogRecord) (at : ℕ) → IsFrontOf bytes r → at < length bytes → get_or bytes at 0 ≡ get_or (record_bytes r) at 0
byte_seen bytes r at f lt =
    let count = count_is bytes r f in
    ap (λ (l : List ℕ). get_or l at 0) f.is ∙ get_or-take f.count (record_bytes r) at 0 (omega (arith, count, lt))

kind_first : (r : LogRecord) → get_or (record_bytes r) 4 0 ≡ kind_of r.body
unfolding behind_length
kind_first r = ap (λ (l : List ℕ). get_or l 4 0) (length_first r)

version_first : (r : LogRecord) → get_or (record_bytes r) 5 0 ≡ version_byte r.version
unfolding behind_length
version_first r = ap (λ (l : List ℕ). get_or l 5 0) (length_first r)

-- the bytes begin so
pub front_begins : (v : Version) (kind : ℕ) (has_tran : Bool) (text bytes : List ℕ) (r : LogRecord) → HasText v kind has_tran text r → IsFrontOf bytes r → MayBegin v kind (length text) bytes
front_begins v kind has_tran text bytes r h f =
    let long : length (body_bytes v r.body) ≡ length text = sym h.fills.long in
    let size : length_in r.version r.body ≡ frame_of v + length text = ap (λ (x : Version). length_in x r.body) h.version_is ∙ ap (λ (n : ℕ). frame_of v + n) long in
    record {
      size = size_seen bytes r f ∙ ap (λ (n : ℕ). take (length bytes) (to_be_bytes w32 n)) size;
      kind_seen = λ lt. byte_seen bytes r 4 f lt ∙ kind_first r ∙ h.kind_is;
      version_seen = λ lt. byte_seen bytes r 5 f lt ∙ version_first r ∙ ap version_byte h.version_is;
    }
