use Rattle.std.proofs.Common.{◌≡◌, ◌∙◌, sym, ap, Some, option_map}
use Rattle.clap.specs.Matches.{ids_left}
use Rattle.clap.specs.Words.{found_of, rows_of}
use Rattle.group_words.proofs.Found.{all_found, lacks_number, names_by_rows, none_found, one_found, passed_over}
use Rattle.group_words.proofs.parsed.options_in.Goals as goal

pub loop-name-init : goal.loop-name-init
loop-name-init c =
    let rows = rows_of (found_of c.args.matches.now) in
    rw (c.new-given.ensures.items, c.into_iter-name-iterator.ensures.into_iter_gives, c.ids-name-items.ensures, names_by_rows (found_of c.args.matches.now)) (none_found rows _)

pub returns-in_default-clause-refused : goal.returns-in_default-clause-refused
returns-in_default-clause-refused c = λ _.
    let rows = rows_of (found_of c.args.matches.now) in
    let first : Some c.in-Some.name.now ≡ _ = ap (option_map (λ s. s.now)) (sym c.in-Some.is) ∙ c.next.ensures.steps.0 in
    sym c.loop-name.invariant ∙ lacks_number c.loop-name.given.items rows (ids_left c.loop-name.name-iterator) c.in-Some.name.now first (sym c.if-is_by_words.true ∙ c.is_by_words.ensures) (sym c.in_default.is ∙ c.option_in.ensures)

pub loop-name-preserved-in-Continue-1 : goal.loop-name-preserved-in-Continue-1
loop-name-preserved-in-Continue-1 c =
    let rows = rows_of (found_of c.args.matches.now) in
    let first : Some c.in-Some.name.now ≡ _ = ap (option_map (λ s. s.now)) (sym c.in-Some.is) ∙ c.next.ensures.steps.0 in
    rw (c.in_ok-push.ensures.items, c.next.ensures.steps.1)
    (one_found c.loop-name.given.items rows (ids_left c.loop-name.name-iterator) c.in-Some.name.now c.in-Some-option_in.option first (sym c.if-is_by_words.true ∙ c.is_by_words.ensures) (sym c.in-Some-option_in.is ∙ c.option_in.ensures) ∙ c.loop-name.invariant)

pub loop-name-preserved : goal.loop-name-preserved
loop-name-preserved c =
    let rows = rows_of (found_of c.args.matches.now) in
    let first : Some c.in-Some.name.now ≡ _ = ap (option_map (λ s. s.now)) (sym c.in-Some.is) ∙ c.next.ensures.steps.0 in
    rw c.next.ensures.steps.1
    (passed_over c.loop-name.given.items rows (ids_left c.loop-name.name-iterator) c.in-Some.name.now first (sym c.if-is_by_words.false ∙ c.is_by_words.ensures) ∙ c.loop-name.invariant)

pub returns-clause-given : goal.returns-clause-given
returns-clause-given c =
    let rows = rows_of (found_of c.args.matches.now) in
    sym c.loop-name.invariant ∙ all_found c.loop-name.given.items rows (ids_left c.loop-name.name-iterator) (ap (option_map (λ s. s.now)) (sym c.in-None.is) ∙ c.next.ensures.steps.0)
