-- Records with patches of which the first bytes are given.
use Rattle.std.proofs.Common.{◌≡◌, ℕ, ◌+◌, ◌-◌, ◌*◌, Bool, false, List, [], ◌∷◌, ◌++◌, length, take, drop, Result, refl, sym, ap, subst, ◌∙◌, append_assoc, arith}
use Rattle.std.specs.Int.{w32, to_be_bytes}
use Rattle.std.specs.List.{flat_map}
use Rattle.std.proofs.lemmas.List.{length-append, drop_at}
use Rattle.ds_base.specs.declared.fault.NoMemory.{NoMemory}
use Rattle.page_format.specs.declared.patch.Patch.{Patch}
use Rattle.ds_model.specs.declared.log.LogRecord.{LogRecord}
use Rattle.ds_model.specs.declared.log.Body.{Body}
use Rattle.ds_model.specs.declared.log.Body.TheVariants as body
use Rattle.ds_model.specs.declared.log.Version.{Version}
use Rattle.ds_model.specs.RecordBytes.{width_of, kind_of, length_in, lrsn_bytes, body_bytes, patch_bytes, record_bytes, IsAllowed}
use Rattle.torn_records.specs.Mixes.{Fills}
use Rattle.torn_records.specs.Templates.{patches_text, sizes_of, sizes_from}
use Rattle.torn_records.specs.Fronts.{IsFrontOf, Tells, HasText, IsSystemOf, IsSystemIn}
use Rattle.torn_records.proofs.Frames.{head, record_parts, parts_long, number_long}
use Rattle.torn_records.proofs.Patches.{system_fills}
use Rattle.torn_records.proofs.Shown.{size_seen}
use Rattle.torn_records.proofs.Telling.{NoFront}
use Rattle.torn_records.proofs.Sizes.{take_append, drop_front, begins}

-- the front of a list, of which a part is exchanged where it isn't seen
same_front : (n : ℕ) (pre P Q E : List ℕ) → length P ≡ length Q → take (n - length pre) P ≡ take (n - length pre) Q → take n ((pre ++ P) ++ E) ≡ take n ((pre ++ Q) ++ E)
same_front n pre P Q E long same =
    let front : take n (pre ++ P) ≡ take n (pre ++ Q) = take_append n pre P ∙ ap (λ (l : List ℕ). take n pre ++ l) same ∙ sym (take_append n pre Q) in
    let at : n - length (pre ++ P) ≡ n - length (pre ++ Q) = omega (arith, length-append pre P, length-append pre Q, long) in
    take_append n (pre ++ P) E ∙ ap (λ (l : List ℕ). l ++ take (n - length (pre ++ P)) E) front ∙ ap (λ (k : ℕ). take n (pre ++ Q) ++ take k E) at ∙ sym (take_append n (pre ++ Q) E)

abbrev system_in : Version → ℕ → ℕ → List Patch → LogRecord
system_in v lrsn tran ps = record { version = v; lrsn = lrsn; tran = tran; body = body.System ps }

-- what stands before the patches, of which there are so many
abbrev before : Version → ℕ → ℕ → ℕ → ℕ → List ℕ
before v size lrsn tran count = head v size 3 ++ lrsn_bytes v lrsn ++ lrsn_bytes v tran ++ count ∷ []

before_long : (v : Version) (size lrsn tran count : ℕ) → length (before v size lrsn tran count) ≡ 7 + 2 * width_of v
before_long v size lrsn tran count =
    let L : List ℕ = lrsn_bytes v lrsn in
    let T : List ℕ = lrsn_bytes v tran in
    omega (arith, number_long v lrsn, number_long v tran, length-append L T, length-append (L ++ T) (count ∷ []))

system_parts : (v : Version) (lrsn tran : ℕ) (ps : List Patch) → record_bytes (system_in v lrsn tran ps)
    ≡ (before v (length_in v (body.System ps)) lrsn tran (length ps) ++ flat_map patch_bytes ps) ++ to_be_bytes w32 (length_in v (body.System ps))
system_parts v lrsn tran ps =
    let size : ℕ = length_in v (body.System ps) in
    let A : List ℕ = head v size 3 ++ lrsn_bytes v lrsn ++ lrsn_bytes v tran in
    record_parts (system_in v lrsn tran ps) ∙ ap (λ (l : List ℕ). l ++ to_be_bytes w32 size) (sym (append_assoc A (length ps ∷ []) (flat_map patch_bytes ps)))

-- a record of which the bytes are a front, whose patches have the sizes that are read
pub record Refilled (v : Version) (bytes text : List ℕ) : Type 0 where
  pub it : LogRecord
  pub allowed : IsAllowed it
  pub has_text : HasText v 3 false text it
  pub front : IsFrontOf bytes it

refilled : (v : Version) (lrsn tran : ℕ) (ps : List Patch) (bytes text : List ℕ) (size : ℕ) → IsAllowed (system_in v lrsn tran ps) → IsFrontOf bytes (system_in v lrsn tran ps)
    → length (record_bytes (system_in v lrsn tran ps)) ≡ size
    → text ≡ length ps ∷ patches_text (sizes_from (length ps) (drop (7 + 2 * width_of v) bytes) (size - (11 + 2 * width_of v))) → Refilled v bytes text
refilled v lrsn tran ps bytes text size h f size-is text-is =
    let n : ℕ = f.count in
    let at : ℕ = 7 + 2 * width_of v in
    let P : List ℕ = flat_map patch_bytes ps in
    let whole : ℕ = length_in v (body.System ps) in
    let E : List ℕ = to_be_bytes w32 whole in
    let pre : List ℕ = before v whole lrsn tran (length ps) in
    let r : LogRecord = system_in v lrsn tran ps in
    let pre_long = before_long v whole lrsn tran (length ps) in
    let spelled = system_parts v lrsn tran ps in
    let long : length (record_bytes r) ≡ 10 + 2 * width_of v + length (length ps ∷ P) = ap length (record_parts r) ∙ parts_long v whole 3 lrsn tran (length ps ∷ P) in
    let here : drop at bytes ≡ take (n - at) (P ++ E) =
    ap (drop at) (f.is ∙ ap (take n) (spelled ∙ append_assoc pre P E)) ∙ drop_front at n (pre ++ (P ++ E)) ∙ ap (take (n - at)) (drop_at pre (P ++ E) at pre_long) in
    let left : size - (11 + 2 * width_of v) ≡ length P = omega (arith, long, size-is) in
    let b = begins ps E (n - at) h.body_is.each in
    let Q : List ℕ = flat_map patch_bytes b.patches in
    let q : LogRecord = system_in v lrsn tran b.patches in
    let size_q : length_in v (body.System b.patches) ≡ whole = omega (arith, b.long) in
    let allowed : IsAllowed q = record {
      lrsn_in = h.lrsn_in;
      tran_fits = h.tran_fits;
      tran_in = h.tran_in;
      body_is = record { some = omega (arith, b.count_is, h.body_is.some); few = omega (arith, b.count_is, h.body_is.few); each = b.each; short = omega (arith, b.long, h.body_is.short) };
    } in
    let read : text ≡ length b.patches ∷ patches_text (sizes_of b.patches) =
    text-is
    ∙ ap (λ (l : List ℕ). length ps ∷ patches_text (sizes_from (length ps) l (size - (11 + 2 * width_of v)))) here
    ∙ ap (λ (k : ℕ). length ps ∷ patches_text (sizes_from (length ps) (take (n - at) (P ++ E)) k)) left
    ∙ ap (λ (l : List ℕ). length ps ∷ patches_text l) (sym b.sizes_are)
    ∙ ap (λ (k : ℕ). k ∷ patches_text (sizes_of b.patches)) (sym b.count_is) in
    let spelled_q : record_bytes q ≡ (pre ++ Q) ++ E =
    system_parts v lrsn tran b.patches
    ∙ ap (λ (s : ℕ). (before v s lrsn tran (length b.patches) ++ Q) ++ to_be_bytes w32 s) size_q
    ∙ ap (λ (k : ℕ). (before v whole lrsn tran k ++ Q) ++ E) b.count_is in
    let long_q : length (record_bytes q) ≡ length (record_bytes r) = ap length spelled_q ∙ omega (arith, long, pre_long, b.long, length-append (pre ++ Q) E, length-append pre Q) in
    let seen : take (n - length pre) P ≡ take (n - length pre) Q =
    ap (λ (k : ℕ). take (n - k) P) pre_long ∙ sym b.front ∙ ap (λ (k : ℕ). take (n - k) Q) (sym pre_long) in
    record {
      it = q;
      allowed = allowed;
      has_text = record { version_is = refl; kind_is = refl; tran_is = refl; fills = subst (λ (l : List ℕ). Fills v (body.System b.patches) l) (sym read) (system_fills v b.patches allowed.body_is) };
      front = record {
        count = n;
        short = (let lt = f.short in omega (arith, lt, long_q));
        is = f.is ∙ ap (take n) spelled ∙ same_front n pre P Q E (sym b.long) seen ∙ ap (take n) (sym spelled_q);
      };
    }

pub system_refilled : (v : Version) (size count : ℕ) (bytes text : List ℕ) → text ≡ count ∷ patches_text (sizes_from count (drop (7 + 2 * width_of v) bytes) (size - (11 + 2 * width_of v)))
    → (r : LogRecord) → IsAllowed r → IsSystemOf v size count r → IsFrontOf bytes r → Refilled v bytes text
system_refilled v size count bytes text text-is r h i f =
    let made : LogRecord = system_in v r.lrsn r.tran i.patches in
    let same : r ≡ made =
    ap (λ (x : Version). let it : LogRecord = record { version = x; lrsn = r.lrsn; tran = r.tran; body = r.body } in it) i.version_is
    ∙ ap (λ (b : Body). let it : LogRecord = record { version = v; lrsn = r.lrsn; tran = r.tran; body = b } in it) i.is in
    refilled v r.lrsn r.tran i.patches bytes text size (subst IsAllowed same h) (subst (IsFrontOf bytes) same f)
    (ap (λ (x : LogRecord). length (record_bytes x)) (sym same) ∙ i.size_is)
    (text-is ∙ ap (λ (k : ℕ). k ∷ patches_text (sizes_from k (drop (7 + 2 * width_of v) bytes) (size - (11 + 2 * width_of v)))) (sym i.count_is))

-- ---- what a front shows of the size

pub whole_long : (r : LogRecord) → length (record_bytes r) ≡ length_in r.version r.body
whole_long r = ap length (record_parts r) ∙ parts_long r.version (length_in r.version r.body) (kind_of r.body) r.lrsn r.tran (body_bytes r.version r.body)

pub front_size : (bytes : List ℕ) (size : ℕ) (r : LogRecord) → IsFrontOf bytes r → length (record_bytes r) ≡ size → take 4 bytes ≡ take (length bytes) (to_be_bytes w32 size)
front_size bytes size r f is = size_seen bytes r f ∙ ap (λ (n : ℕ). take (length bytes) (to_be_bytes w32 n)) (sym (whole_long r) ∙ is)

pub other_size : (v : Version) (size : ℕ) (bytes : List ℕ) → (take 4 bytes ≡ take (length bytes) (to_be_bytes w32 size) → ⊥) → NoFront bytes (IsSystemIn v size)
other_size v size bytes other r h i f = other (front_size bytes size r f i.2.size_is)

-- what was told of a record with the sizes that are read
pub system_told : (v : Version) (size count : ℕ) (bytes text : List ℕ) (result : Result Bool NoMemory) → text ≡ count ∷ patches_text (sizes_from count (drop (7 + 2 * width_of v) bytes) (size - (11 + 2 * width_of v)))
    → Tells bytes (HasText v 3 false text) result → Tells bytes (IsSystemOf v size count) result
system_told v size count bytes text result is t = record {
  torn = t.torn;
  none = λ e r h i f. let q = system_refilled v size count bytes text is r h i f in t.none e q.it q.allowed q.has_text q.front;
}

-- ---- what the code puts

pub system_text : (none one out here bytes : List ℕ) (v : Version) (size count at left : ℕ) → none ≡ [] → one ≡ none ++ (count ∷ []) → out ≡ one ++ patches_text (sizes_from count here left) → here ≡ drop at bytes
    → at ≡ 7 + 2 * width_of v → left ≡ size - (at + 4) → out ≡ count ∷ patches_text (sizes_from count (drop (7 + 2 * width_of v) bytes) (size - (11 + 2 * width_of v)))
system_text none one out here bytes v size count at left nothing first rest here-is at-is left-is =
    let less : left ≡ size - (11 + 2 * width_of v) = omega arith in
    let one-is : one ≡ count ∷ [] = first ∙ ap (λ (l : List ℕ). l ++ (count ∷ [])) nothing in
    rest ∙ ap (λ (l : List ℕ). l ++ patches_text (sizes_from count here left)) one-is
    ∙ ap (λ (l : List ℕ). count ∷ patches_text (sizes_from count l left)) (here-is ∙ ap (λ (k : ℕ). drop k bytes) at-is)
    ∙ ap (λ (k : ℕ). count ∷ patches_text (sizes_from count (drop (7 + 2 * width_of v) bytes) k)) less
