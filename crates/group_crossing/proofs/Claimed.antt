-- A lock manager may go to another thread: a chain of its claims owns memory alone.
use Prim.Native.Nat.{ℕ, zero, suc, ◌+◌}
use mathlib.Core.List.{List}
use mir.Val.{Val}
use base.Shift.{Keyless}
use denote.RattleType.{RattleType}
use denote.Model.Local.{Parts, rows}
use denote.Model.Cut.{split_one}
use denote.Model.Knot.{stage}
use denote.Struct.Field.{row_field}
use denote.Param.Send.{IsSend, view_send, recorded_send, sendable}
use denote.Param.SendFields.{as_row_send, declared_send, variants_send}
use Rattle.std.proofs.Crossing.{Box-send, crosses}
use Rattle.lock_manager.proofs.claim.Claim.TheSendSync as element
use Rattle.lock_manager.specs.declared.chain.Chain.TheDeep.{the_members, member-Chain, split-Node, join-Node, joins-Node, split-Chain, join-Chain, joins-Chain}
use Rattle.lock_manager.specs.contracts.chain.Chain.{the_row}
use Rattle.lock_manager.specs.contracts.chain.Chain.TheKnot.{type-Chain, type-Node, layer-Chain, layer-Node, frame, at-Node, at-Chain, view-Chain, step, sizes, tied}
use Rattle.lock_manager.specs.contracts.manager.LockManager as LockManager

abbrev Sent : Parts frame → Type 0
Sent p = (i : the_members) (d : frame.D i) (vs : List Val) → Keyless ((p i d).0 vs)

chain_layer : (h : RattleType) → IsSend h → IsSend (layer-Chain h)
chain_layer h s = declared_send (type-Chain h) (as_row_send (row_field h) s, tt)

node_layer : (h : RattleType) → IsSend h → IsSend (layer-Node h)
node_layer h s = variants_send (type-Node h) (tt, ((as_row_send (row_field _) element.the_send, (as_row_send (row_field _) (Box-send h s), tt)), tt))

rows_sent : (p : Parts frame) → Sent p → (i : the_members) → IsSend (rows frame p i)
rows_sent p s i = record { owned = λ d vs. s i d vs; leaving = λ k d w. tt }

view_sent : (p : Parts frame) → Sent p → IsSend (view-Chain p)
view_sent p s =
    let row = rows frame p member-Chain in
    let node : IsSend (at-Node p) = recorded_send (layer-Node row) _ split-Node (split_one (layer-Node row) _ split-Node join-Node joins-Node) (node_layer row (rows_sent p s member-Chain)) in
    let chain : IsSend (at-Chain p) = recorded_send (layer-Chain (at-Node p)) _ split-Chain (split_one (layer-Chain (at-Node p)) _ split-Chain join-Chain joins-Chain) (chain_layer (at-Node p) node) in
    view_send (at-Chain p) _ _ _ _ chain

one_step : (p : Parts frame) → Sent p → Sent (step p)
one_step p s member-Chain d vs = (view_sent p s).owned d vs

stages : (n : ℕ) → Sent (stage frame step n)
stages zero i d vs = λ e. tt
stages (suc n) i d vs = one_step (stage frame step n) (stages n) i d vs

pub chain_send : IsSend the_row
chain_send = rows_sent tied (λ i d vs. stages (sizes i d + 1) i d vs) member-Chain

pub manager_send : IsSend LockManager.the_row
manager_send = search (chain_send, sendable, crosses) depth 400 fits 200000
