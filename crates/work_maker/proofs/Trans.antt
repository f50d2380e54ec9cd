-- The transactions that are made are transactions of a script.
use Rattle.std.proofs.Common.{lit≤, ◌≡◌, ℕ, ◌+◌, ◌%◌, ◌^◌, ◌<◌, ◌≤◌, Bool, true, false, cond, List, [], ◌++◌, length, refl, arith, inl, inr}
use Rattle.std.specs.Prelude.{◌==◌, nat_lt, codes}
use Rattle.std.specs.Fmt.{decimal}
use Rattle.std.specs.List.{AllByRecursion}
use Rattle.std.proofs.lemmas.Fmt.{length-decimal-le}
use Rattle.std.proofs.lemmas.List.{length-append}
use Rattle.std.proofs.lemmas.List.Elements.{All-cons, All-weaker}
use Rattle.draw_generator.specs.Draws.{next_state, drawn}
use Rattle.ds_base.specs.Ids.{IsTable}
use Rattle.ds_model.specs.declared.script.Op.{Op}
use Rattle.ds_model.specs.declared.script.Op.TheVariants as op
use Rattle.ds_model.specs.declared.script.Tran.{Tran}
use Rattle.ds_model.specs.Scripts.{IsNameByte, IsName, IsKey, IsOp, IsTran, LeavesFlags, TranLeavesFlags, flag_raised, flags_raised}
use Rattle.work_maker.specs.Made.{series, value_of, op_from, number_of, loses_cache, cache_loss, tran_from}
use Rattle.work_maker.proofs.Series.{series_all, length_series, all_weaker, flat_none}
use Rattle.work_maker.proofs.Texts.{IsDigit, digits_are, value_allowed}

-- an operation that uses no flag
pub record IsPlain (it : Op) : Type 0 where
  pub allowed : IsOp it
  pub leaves : LeavesFlags it
  pub raises : flag_raised it ≡ []

pick : (a b : Bool) (table key x : ℕ) → IsTable table → IsKey key → IsPlain (cond {A = Op × ℕ} a (op.Get table key, x) (cond b (op.Put table key (value_of (drawn x % 1000000)), next_state x) (op.Del table key, x))).0
pick true b table key x t k = record { allowed = (t, k); leaves = tt; raises = refl }
pick false true table key x t k = record { allowed = (t, k, value_allowed (drawn x % 1000000) (omega arith)); leaves = tt; raises = refl }
pick false false table key x t k = record { allowed = (t, k); leaves = tt; raises = refl }

op_plain : (x : ℕ) → IsPlain (op_from x).0
unfolding op_from
op_plain x =
    let to_table = next_state x in
    let to_key = next_state to_table in
    pick (nat_lt (drawn x % 4) 2) (drawn x % 4 == 2) (1 + drawn to_table % 4) (drawn to_key % 1000) (next_state to_key) (omega arith, omega arith) (omega arith)

pub record IsMadeTran (number : ℕ) (t : Tran) : Type 0 where
  pub numbered : t.number ≡ number
  pub named : t.name ≡ codes "t" ++ decimal number
  pub is_tran : IsTran t
  pub leaves : TranLeavesFlags t
  pub raises : flags_raised t.ops ≡ []

name_allowed : (n : ℕ) → n < 1000000 → IsName (codes "t" ++ decimal n)
name_allowed n h =
    let small : n < 2 ^ 64 = omega arith in
    let short = length-decimal-le 6 n (omega arith) (omega arith) small in
    let digits = All-weaker IsDigit IsNameByte (λ b d. inl d) (decimal n) (digits_are n small) in
    (omega arith, omega (arith, short), All-cons IsNameByte 116 (decimal n) (inr (inr (inl (lit≤ tt, lit≤ tt)))) digits)

with_loss : (b : Bool) (ops : List Op) → AllByRecursion IsPlain ops → AllByRecursion IsPlain (cache_loss b ++ ops)
with_loss true ops h = (record { allowed = tt; leaves = tt; raises = refl }, h)
with_loss false ops h = h

loss_short : (b : Bool) → length (cache_loss b) ≤ 1
loss_short true = lit≤ tt
loss_short false = lit≤ tt

pub tran_made : (phase member place x : ℕ) → number_of phase member place < 1000000 → IsMadeTran (number_of phase member place) (tran_from phase member place x).0
unfolding tran_from
tran_made phase member place x h =
    let count = 1 + drawn x % 4 in
    let drawn_ops = (series (λ _. op_from) count 1 (next_state x)).0 in
    let plain : AllByRecursion IsPlain (cache_loss (loses_cache phase member place) ++ drawn_ops) = with_loss (loses_cache phase member place) drawn_ops (series_all IsPlain (λ _. op_from) count 1 (next_state x) (λ k y a b. op_plain y)) in
    let ops = cache_loss (loses_cache phase member place) ++ drawn_ops in
    let count-is = length_series (λ (_ : ℕ). op_from) count 1 (next_state x) in
    let short : length ops ≤ 64 = omega (arith, length-append (cache_loss (loses_cache phase member place)) drawn_ops, loss_short (loses_cache phase member place), count-is) in
    record {
      numbered = refl;
      named = refl;
      is_tran = record {
        named = name_allowed (number_of phase member place) h;
        short = short;
        ops_are = all_weaker IsPlain IsOp (λ it p. p.allowed) ops plain;
      };
      leaves = all_weaker IsPlain LeavesFlags (λ it p. p.leaves) ops plain;
      raises = flat_none flag_raised ops (all_weaker IsPlain (λ (it : Op). flag_raised it ≡ []) (λ it p. p.raises) ops plain);
    }
