use Rattle.std.proofs.Common.{◌≡◌, map, length, Some, false, sym, ap, ◌∙◌, subst}
use mathlib.Core.Option.{some-injective}
use lib.ListN.{length-map}
use Rattle.turn_gate.specs.Told.{Good, ended_of}
use Rattle.turn_gate.specs.Seated.{HasAll, PartsReach, knowledge_of}
use Rattle.turn_gate.proofs.Moves.{closes}
use Rattle.turn_gate.proofs.Seating.{has_all, parts_reach, none_ended, none_knows}
use Rattle.turn_gate.proofs.turn.Turn.close.Goals as goal

pub unreachable-requires : goal.unreachable-requires
unreachable-requires g c =
    let M = g.M.Machine in
    let caller = λ (e : g.row.M-Entry.Denot). M.caller (M.event_of e) in
    let key = c.self.inside.table.shared.key in
    let p = c.gather-place.result in
    let f = c.close_with-closed.ensures.values.2 in
    let all : length (map knowledge_of c.args.seats.items) ≡ key.0 = length-map c.args.seats.items knowledge_of ∙ (c.requires.0 ∙ (sym (ap (λ t. t.seats) c.self.view_is) ∙ c.self.invariant.1)) in
    let t = closes (Good M.event_of M.start M.story M.sound) ended_of caller key.0 (M.start key.1.value) f.0 p.id p.me.0 _ f.1.0 f.1.1 (ap (λ m. m.0) c.gather-place.ensures.all) all in
    let same : t.0 ≡ c.take.result = some-injective _ _ (sym (f.4 0 t.0 t.2) ∙ c.take.ensures.value) in
    subst (λ y. Good M.event_of M.start M.story M.sound y (M.start key.1.value) t.1) (same ∙ c.in_default.is) t.3

pub returns-clause-start : goal.returns-clause-start
returns-clause-start g c =
    let M = g.M.Machine in
    let caller = λ (e : g.row.M-Entry.Denot). M.caller (M.event_of e) in
    let key = c.self.inside.table.shared.key in
    let p = c.gather-place.result in
    let f = c.close_with-closed.ensures.values.2 in
    let all : length (map knowledge_of c.args.seats.items) ≡ key.0 = length-map c.args.seats.items knowledge_of ∙ (c.requires.0 ∙ (sym (ap (λ t. t.seats) c.self.view_is) ∙ c.self.invariant.1)) in
    let t = closes (Good M.event_of M.start M.story M.sound) ended_of caller key.0 (M.start key.1.value) f.0 p.id p.me.0 _ f.1.0 f.1.1 (ap (λ m. m.0) c.gather-place.ensures.all) all in
    let same : t.0 ≡ Some c.in-Some.kept = some-injective _ _ (sym (f.4 0 t.0 t.2) ∙ c.in-Some.ensures.value) in
    let good = subst (λ y. Good M.event_of M.start M.story M.sound y (M.start key.1.value) t.1) same t.3 in
    ap M.start c.into_parts.ensures.0 ∙ (good.0 ∙ ap (λ q. q.start) c.self.view_is)

pub returns-clause-stands : goal.returns-clause-stands
returns-clause-stands g c =
    let M = g.M.Machine in
    let caller = λ (e : g.row.M-Entry.Denot). M.caller (M.event_of e) in
    let key = c.self.inside.table.shared.key in
    let p = c.gather-place.result in
    let f = c.close_with-closed.ensures.values.2 in
    let all : length (map knowledge_of c.args.seats.items) ≡ key.0 = length-map c.args.seats.items knowledge_of ∙ (c.requires.0 ∙ (sym (ap (λ t. t.seats) c.self.view_is) ∙ c.self.invariant.1)) in
    let t = closes (Good M.event_of M.start M.story M.sound) ended_of caller key.0 (M.start key.1.value) f.0 p.id p.me.0 _ f.1.0 f.1.1 (ap (λ m. m.0) c.gather-place.ensures.all) all in
    let same : t.0 ≡ Some c.in-Some.kept = some-injective _ _ (sym (f.4 0 t.0 t.2) ∙ c.in-Some.ensures.value) in
    let good = subst (λ y. Good M.event_of M.start M.story M.sound y (M.start key.1.value) t.1) same t.3 in
    c.into_parts.ensures.1 ∙ (good.2 ∙ ap (map M.event_of) (sym good.1 ∙ sym (ap M.story c.into_parts.ensures.0)))

pub returns-clause-own : goal.returns-clause-own
returns-clause-own g c =
    let M = g.M.Machine in
    let caller = λ (e : g.row.M-Entry.Denot). M.caller (M.event_of e) in
    let key = c.self.inside.table.shared.key in
    let p = c.gather-place.result in
    let f = c.close_with-closed.ensures.values.2 in
    let all : length (map knowledge_of c.args.seats.items) ≡ key.0 = length-map c.args.seats.items knowledge_of ∙ (c.requires.0 ∙ (sym (ap (λ t. t.seats) c.self.view_is) ∙ c.self.invariant.1)) in
    let t = closes (Good M.event_of M.start M.story M.sound) ended_of caller key.0 (M.start key.1.value) f.0 p.id p.me.0 _ f.1.0 f.1.1 (ap (λ m. m.0) c.gather-place.ensures.all) all in
    let same : t.0 ≡ Some c.in-Some.kept = some-injective _ _ (sym (f.4 0 t.0 t.2) ∙ c.in-Some.ensures.value) in
    let good = subst (λ y. Good M.event_of M.start M.story M.sound y (M.start key.1.value) t.1) same t.3 in
    subst (λ l. HasAll caller l c.args.seats.items) (sym good.1 ∙ sym (ap M.story c.into_parts.ensures.0)) (has_all caller (M.start key.1.value) t.1 (ended_of t.0) c.args.seats.items t.4)

pub returns-clause-parts : goal.returns-clause-parts
returns-clause-parts g c =
    let M = g.M.Machine in
    let caller = λ (e : g.row.M-Entry.Denot). M.caller (M.event_of e) in
    let key = c.self.inside.table.shared.key in
    let p = c.gather-place.result in
    let f = c.close_with-closed.ensures.values.2 in
    let all : length (map knowledge_of c.args.seats.items) ≡ key.0 = length-map c.args.seats.items knowledge_of ∙ (c.requires.0 ∙ (sym (ap (λ t. t.seats) c.self.view_is) ∙ c.self.invariant.1)) in
    let t = closes (Good M.event_of M.start M.story M.sound) ended_of caller key.0 (M.start key.1.value) f.0 p.id p.me.0 _ f.1.0 f.1.1 (ap (λ m. m.0) c.gather-place.ensures.all) all in
    let same : t.0 ≡ Some c.in-Some.kept = some-injective _ _ (sym (f.4 0 t.0 t.2) ∙ c.in-Some.ensures.value) in
    let good = subst (λ y. Good M.event_of M.start M.story M.sound y (M.start key.1.value) t.1) same t.3 in
    subst (λ l. PartsReach M.parted l c.args.seats.items) (sym good.1 ∙ sym (ap M.story c.into_parts.ensures.0)) (parts_reach caller M.parted g.met.M.Machine.leaves (M.start key.1.value) t.1 (ended_of t.0) c.args.seats.items t.4)

pub returns-clause-refused : goal.returns-clause-refused
returns-clause-refused g c none =
    let M = g.M.Machine in
    let caller = λ (e : g.row.M-Entry.Denot). M.caller (M.event_of e) in
    let key = c.self.inside.table.shared.key in
    let p = c.gather-place.result in
    let f = c.close_with-closed.ensures.values.2 in
    let all : length (map knowledge_of c.args.seats.items) ≡ key.0 = length-map c.args.seats.items knowledge_of ∙ (c.requires.0 ∙ (sym (ap (λ t. t.seats) c.self.view_is) ∙ c.self.invariant.1)) in
    let t = closes (Good M.event_of M.start M.story M.sound) ended_of caller key.0 (M.start key.1.value) f.0 p.id p.me.0 _ f.1.0 f.1.1 (ap (λ m. m.0) c.gather-place.ensures.all) all in
    let same : t.0 ≡ Some c.in-Some.kept = some-injective _ _ (sym (f.4 0 t.0 t.2) ∙ c.in-Some.ensures.value) in
    c.into_parts.ensures.2 ∙ (ap ended_of (sym same) ∙ none_ended (ended_of t.0) c.args.seats.items t.5 none)

pub returns-clause-lasts : goal.returns-clause-lasts
returns-clause-lasts g c lasts =
    let M = g.M.Machine in
    let caller = λ (e : g.row.M-Entry.Denot). M.caller (M.event_of e) in
    let key = c.self.inside.table.shared.key in
    let p = c.gather-place.result in
    let f = c.close_with-closed.ensures.values.2 in
    let all : length (map knowledge_of c.args.seats.items) ≡ key.0 = length-map c.args.seats.items knowledge_of ∙ (c.requires.0 ∙ (sym (ap (λ t. t.seats) c.self.view_is) ∙ c.self.invariant.1)) in
    let t = closes (Good M.event_of M.start M.story M.sound) ended_of caller key.0 (M.start key.1.value) f.0 p.id p.me.0 _ f.1.0 f.1.1 (ap (λ m. m.0) c.gather-place.ensures.all) all in
    let same : t.0 ≡ Some c.in-Some.kept = some-injective _ _ (sym (f.4 0 t.0 t.2) ∙ c.in-Some.ensures.value) in
    none_knows caller (M.start key.1.value) t.1 (ended_of t.0) c.args.seats.items t.4 (ap ended_of same ∙ (sym c.into_parts.ensures.2 ∙ lasts))

pub returns-clause-sound : goal.returns-clause-sound
returns-clause-sound g c lasts =
    let M = g.M.Machine in
    let caller = λ (e : g.row.M-Entry.Denot). M.caller (M.event_of e) in
    let key = c.self.inside.table.shared.key in
    let p = c.gather-place.result in
    let f = c.close_with-closed.ensures.values.2 in
    let all : length (map knowledge_of c.args.seats.items) ≡ key.0 = length-map c.args.seats.items knowledge_of ∙ (c.requires.0 ∙ (sym (ap (λ t. t.seats) c.self.view_is) ∙ c.self.invariant.1)) in
    let t = closes (Good M.event_of M.start M.story M.sound) ended_of caller key.0 (M.start key.1.value) f.0 p.id p.me.0 _ f.1.0 f.1.1 (ap (λ m. m.0) c.gather-place.ensures.all) all in
    let same : t.0 ≡ Some c.in-Some.kept = some-injective _ _ (sym (f.4 0 t.0 t.2) ∙ c.in-Some.ensures.value) in
    let good = subst (λ y. Good M.event_of M.start M.story M.sound y (M.start key.1.value) t.1) same t.3 in
    subst M.sound (sym c.into_parts.ensures.0) (good.3 (sym c.into_parts.ensures.2 ∙ lasts))
