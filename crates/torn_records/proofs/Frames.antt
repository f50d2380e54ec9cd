-- Records of which the first bytes are given.
use Rattle.std.proofs.Common.{◌≡◌, ℕ, ◌+◌, ◌-◌, ◌*◌, Bool, true, false, List, [], ◌∷◌, ◌++◌, length, refl, sym, ap, subst, ◌∙◌, append_assoc, arith}
use Rattle.std.specs.Int.{w32, to_be_bytes}
use Rattle.std.proofs.lemmas.List.{length-append}
use Rattle.byteorder.specs.Numbers.{length-bytes_high_first}
use Rattle.ds_model.specs.declared.log.LogRecord.{LogRecord}
use Rattle.ds_model.specs.declared.log.Version.{Version}
use Rattle.ds_model.specs.declared.log.Version.TheVariants as version
use Rattle.ds_model.specs.RecordBytes.{width_of, frame_of, version_byte, kind_of, lrsn_bytes, body_bytes, length_in, spelling, record_bytes, is_of_tran, TranFits, IsNumber, IsAllowed}
use Rattle.torn_records.specs.Mixes.{mix, Fills, Completes}
use Rattle.torn_records.specs.Templates.{tran_text, frame_text}
use Rattle.torn_records.specs.Fronts.{HasText}
use Rattle.torn_records.proofs.Telling.{Means}
use Rattle.torn_records.proofs.Mixing.{mix_same, mix_length, join}
use Rattle.torn_records.proofs.Numbers.{number_mixed, some_mixed}

-- ---- the number of the transaction

-- these are the bytes of a number that fits
pub record Tran (v : Version) (has_tran : Bool) (bytes : List ℕ) : Type 0 where
  pub tran : ℕ
  pub fits : TranFits has_tran tran
  pub tran_in : IsNumber v tran
  pub is : lrsn_bytes v tran ≡ bytes

tran_mixed : (v : Version) (has_tran : Bool) (n t : ℕ) → TranFits has_tran t → IsNumber v t → Tran v has_tran (mix n (lrsn_bytes v t) (lrsn_bytes v (tran_text has_tran)))
tran_mixed version.One true n t fits lt =
    let m = number_mixed 6 t 1 n in
    record { tran = m.value; fits = some_mixed 5 t n lt fits m; tran_in = m.below; is = m.is }
tran_mixed version.Two true n t fits lt =
    let m = number_mixed 10 t 1 n in
    record { tran = m.value; fits = some_mixed 9 t n lt fits m; tran_in = m.below; is = m.is }
tran_mixed v false n t fits lt =
    let zeros : lrsn_bytes v t ≡ lrsn_bytes v 0 = ap (lrsn_bytes v) fits in
    record {
      tran = 0;
      fits = refl;
      tran_in = subst (λ (x : ℕ). IsNumber v x) fits lt;
      is = sym (mix_same n (lrsn_bytes v 0)) ∙ ap (λ (l : List ℕ). mix n l (lrsn_bytes v 0)) (sym zeros);
    }

-- ---- the whole record

pub number_long : (v : Version) (n : ℕ) → length (lrsn_bytes v n) ≡ width_of v
number_long v n = length-bytes_high_first (width_of v) n

abbrev pub head : Version → ℕ → ℕ → List ℕ
head v size kind = to_be_bytes w32 size ++ kind ∷ version_byte v ∷ []

abbrev pub parts : List ℕ → List ℕ → List ℕ → List ℕ → List ℕ → List ℕ
parts h l t b e = h ++ l ++ t ++ b ++ e

pub record_parts : (r : LogRecord) → record_bytes r ≡ parts (head r.version (length_in r.version r.body) (kind_of r.body)) (lrsn_bytes r.version r.lrsn) (lrsn_bytes r.version r.tran) (body_bytes r.version r.body) (to_be_bytes w32 (length_in r.version r.body))
unfolding record_bytes spelling
record_parts r = refl

pub frame_parts : (v : Version) (kind : ℕ) (has_tran : Bool) (text : List ℕ) → frame_text v kind has_tran text ≡ parts (head v (frame_of v + length text) kind) (lrsn_bytes v 0) (lrsn_bytes v (tran_text has_tran)) text (to_be_bytes w32 (frame_of v + length text))
unfolding frame_text
frame_parts v kind has_tran text = refl

pub parts_long : (v : Version) (size kind l t : ℕ) (b : List ℕ) → length (parts (head v size kind) (lrsn_bytes v l) (lrsn_bytes v t) b (to_be_bytes w32 size)) ≡ 10 + 2 * width_of v + length b
parts_long v size kind l t b =
    let h : List ℕ = head v size kind in
    let L : List ℕ = lrsn_bytes v l in
    let T : List ℕ = lrsn_bytes v t in
    omega (arith, number_long v l, number_long v t, length-append (L ++ T ++ b) (to_be_bytes w32 size), length-append (L ++ T) b, length-append L T)

-- five parts, each of which is mixed; the first and the last are the same in both
join_parts : (n : ℕ) (h l t b e l0 t0 b0 q u c : List ℕ) → length l ≡ length l0 → length t ≡ length t0 → length b ≡ length b0
    → q ≡ mix (n - length h) l l0 → u ≡ mix (n - length (h ++ l)) t t0 → c ≡ mix (n - length (h ++ l ++ t)) b b0 → parts h q u c e ≡ mix n (parts h l t b e) (parts h l0 t0 b0 e)
join_parts n h l t b e l0 t0 b0 q u c el et eb pq pu pc =
    let one = join n h h l l0 h q refl (sym (mix_same n h)) pq in
    let long_l : length (h ++ l) ≡ length (h ++ l0) = omega (arith, el, length-append h l, length-append h l0) in
    let two = join n (h ++ l) (h ++ l0) t t0 (h ++ q) u long_l one pu in
    let long_t : length (h ++ l ++ t) ≡ length (h ++ l0 ++ t0) = omega (arith, long_l, et, length-append (h ++ l) t, length-append (h ++ l0) t0) in
    let three = join n (h ++ l ++ t) (h ++ l0 ++ t0) b b0 (h ++ q ++ u) c long_t two pc in
    let long_b : length (h ++ l ++ t ++ b) ≡ length (h ++ l0 ++ t0 ++ b0) = omega (arith, long_t, eb, length-append (h ++ l ++ t) b, length-append (h ++ l0 ++ t0) b0) in
    join n (h ++ l ++ t ++ b) (h ++ l0 ++ t0 ++ b0) e e (h ++ q ++ u ++ c) e long_b three (sym (mix_same (n - length (h ++ l ++ t ++ b)) e))

-- the record whose front is the first's, and whose rest is the text's
filled : (r : LogRecord) (text : List ℕ) → IsAllowed r → Fills r.version r.body text → (n : ℕ)
    → (q : LogRecord) × IsAllowed q × (record_bytes q ≡ mix n (record_bytes r) (frame_text r.version (kind_of r.body) (is_of_tran r.body) text))
filled r text h f n =
    let v = r.version in
    let size = length_in v r.body in
    let H : List ℕ = head v size (kind_of r.body) in
    let L : List ℕ = lrsn_bytes v r.lrsn in
    let T : List ℕ = lrsn_bytes v r.tran in
    let B : List ℕ = body_bytes v r.body in
    let E : List ℕ = to_be_bytes w32 size in
    let L0 : List ℕ = lrsn_bytes v 0 in
    let T0 : List ℕ = lrsn_bytes v (tran_text (is_of_tran r.body)) in
    let l = number_mixed (width_of v) r.lrsn 0 (n - length H) in
    let t = tran_mixed v (is_of_tran r.body) (n - length (H ++ L)) r.tran h.tran_fits h.tran_in in
    let b = f.fills (n - length (H ++ L ++ T)) in
    let q : LogRecord = record { version = v; lrsn = l.value; tran = t.tran; body = b.body } in
    let size_q : length_in v b.body ≡ size = omega (arith, ap length b.is, mix_length (n - length (H ++ L ++ T)) B text (sym f.long), f.long) in
    let size_t : frame_of v + length text ≡ size = omega (arith, f.long) in
    let whole = join_parts n H L T B E L0 T0 text (lrsn_bytes v l.value) (lrsn_bytes v t.tran) (body_bytes v b.body)
    (number_long v r.lrsn ∙ sym (number_long v 0)) (number_long v r.tran ∙ sym (number_long v (tran_text (is_of_tran r.body)))) (sym f.long) l.is t.is b.is in
    let spelled : record_bytes q ≡ parts H (lrsn_bytes v l.value) (lrsn_bytes v t.tran) (body_bytes v b.body) E =
    record_parts q
    ∙ ap (λ (s : ℕ). parts (head v s (kind_of b.body)) (lrsn_bytes v l.value) (lrsn_bytes v t.tran) (body_bytes v b.body) (to_be_bytes w32 s)) size_q
    ∙ ap (λ (k : ℕ). parts (head v size k) (lrsn_bytes v l.value) (lrsn_bytes v t.tran) (body_bytes v b.body) E) b.kind_is in
    let framed : parts H L0 T0 text E ≡ frame_text v (kind_of r.body) (is_of_tran r.body) text =
    ap (λ (s : ℕ). parts (head v s (kind_of r.body)) L0 T0 text (to_be_bytes w32 s)) (sym size_t) ∙ sym (frame_parts v (kind_of r.body) (is_of_tran r.body) text) in (
      q,
      record { lrsn_in = l.below; tran_fits = subst (λ (z : Bool). TranFits z t.tran) (sym b.tran_is) t.fits; tran_in = t.tran_in; body_is = b.allowed },
      spelled ∙ whole ∙ ap (λ (x : List ℕ). mix n x (parts H L0 T0 text E)) (sym (record_parts r)) ∙ ap (mix n (record_bytes r)) framed,
    )

pub frame_completes : (r : LogRecord) (text : List ℕ) → IsAllowed r → Fills r.version r.body text → Completes r (frame_text r.version (kind_of r.body) (is_of_tran r.body) text)
frame_completes r text h f = record {
  long =
      let v = r.version in
      let a = ap length (frame_parts v (kind_of r.body) (is_of_tran r.body) text) ∙ parts_long v (frame_of v + length text) (kind_of r.body) 0 (tran_text (is_of_tran r.body)) text in
      let b = ap length (record_parts r) ∙ parts_long v (length_in v r.body) (kind_of r.body) r.lrsn r.tran (body_bytes v r.body) in
      omega (arith, a, b, f.long);
  fills = filled r text h f;
}

-- ---- what the code makes and tells

-- the parts of a frame, one put behind the other
pub framed_is : (v : Version) (kind : ℕ) (has_tran : Bool) (text none size a b c d e : List ℕ) (n byte : ℕ) → none ≡ [] → size ≡ to_be_bytes w32 n → n ≡ frame_of v + length text → byte ≡ version_byte v
    → a ≡ none ++ size → b ≡ a ++ (kind ∷ byte ∷ []) → c ≡ b ++ (lrsn_bytes v 0 ++ lrsn_bytes v (tran_text has_tran)) → d ≡ c ++ text → e ≡ d ++ size → e ≡ frame_text v kind has_tran text
framed_is v kind has_tran text none size a b c d e n byte nothing size-is n-is byte-is pa pb pc pd pe =
    let E : List ℕ = to_be_bytes w32 (frame_of v + length text) in
    let L : List ℕ = lrsn_bytes v 0 in
    let T : List ℕ = lrsn_bytes v (tran_text has_tran) in
    let E-is : size ≡ E = size-is ∙ ap (to_be_bytes w32) n-is in
    let a-is : a ≡ E = pa ∙ ap (λ (l : List ℕ). l ++ size) nothing ∙ E-is in
    let b-is : b ≡ head v (frame_of v + length text) kind = pb ∙ ap (λ (l : List ℕ). l ++ (kind ∷ byte ∷ [])) a-is ∙ ap (λ (k : ℕ). E ++ (kind ∷ k ∷ [])) byte-is in
    let H : List ℕ = head v (frame_of v + length text) kind in
    let c-is : c ≡ H ++ L ++ T = pc ∙ ap (λ (l : List ℕ). l ++ (L ++ T)) b-is ∙ sym (append_assoc H L T) in
    let d-is : d ≡ H ++ L ++ T ++ text = pd ∙ ap (λ (l : List ℕ). l ++ text) c-is in
    pe ∙ ap (λ (l : List ℕ). l ++ size) d-is ∙ ap (λ (l : List ℕ). H ++ L ++ T ++ text ++ l) E-is ∙ sym (frame_parts v kind has_tran text)

pub text_completes : (v : Version) (kind : ℕ) (has_tran : Bool) (text template : List ℕ) → template ≡ frame_text v kind has_tran text → Means (HasText v kind has_tran text) (λ r. Completes r template)
text_completes v kind has_tran text template is r h t =
    let own = frame_completes r text h (subst (λ (x : Version). Fills x r.body text) (sym t.version_is) t.fills) in
    let same : frame_text r.version (kind_of r.body) (is_of_tran r.body) text ≡ template =
    ap (λ (x : Version). frame_text x (kind_of r.body) (is_of_tran r.body) text) t.version_is
    ∙ ap (λ (k : ℕ). frame_text v k (is_of_tran r.body) text) t.kind_is
    ∙ ap (λ (b : Bool). frame_text v kind b text) t.tran_is
    ∙ sym is in
    subst (λ (l : List ℕ). Completes r l) same own
