-- A front of one list and the rest of another, which is as long.
use Rattle.std.specs.Prelude.{◌≡◌, ℕ, zero, suc, List, [], ◌∷◌, length}
use Rattle.ds_model.specs.declared.log.LogRecord.{LogRecord}
use Rattle.ds_model.specs.declared.log.Body.{Body}
use Rattle.ds_model.specs.declared.log.Version.{Version}
use Rattle.ds_model.specs.RecordBytes.{record_bytes, body_bytes, kind_of, is_of_tran, BodyIsAllowed, IsAllowed}

-- so many of the first, and then the second from there on
abbrev pub mix : ℕ → List ℕ → List ℕ → List ℕ
mix zero xs ys = ys
mix (suc n) [] ys = []
mix (suc n) (x ∷ xs) [] = []
mix (suc n) (x ∷ xs) (y ∷ ys) = x ∷ mix n xs ys

-- these are the bytes of a body of the same kind
pub record SpellsLike (v : Version) (b : Body) (bytes : List ℕ) : Type 0 where
  pub body : Body
  pub kind_is : kind_of body ≡ kind_of b
  pub tran_is : is_of_tran body ≡ is_of_tran b
  pub allowed : BodyIsAllowed v body
  pub is : body_bytes v body ≡ bytes

-- the text fills every front of the body's bytes up to such a body
pub record Fills (v : Version) (b : Body) (text : List ℕ) : Type 0 where
  pub long : length text ≡ length (body_bytes v b)
  pub fills : (n : ℕ) → SpellsLike v b (mix n (body_bytes v b) text)

-- the text fills every front of the record's bytes up to a record
pub record Completes (r : LogRecord) (text : List ℕ) : Type 0 where
  pub long : length text ≡ length (record_bytes r)
  pub fills : (n : ℕ) → (q : LogRecord) × IsAllowed q × (record_bytes q ≡ mix n (record_bytes r) text)
