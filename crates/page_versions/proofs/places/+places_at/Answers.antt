use Rattle.std.proofs.Common.{◌+◌, ◌<◌, ◌/◌, length, length-take, length-drop, List, sym, ap, subst, ◌∙◌, arith}
use Rattle.std.proofs.lemmas.List.{take_rest}
use Rattle.page_records.specs.declared.places.PageRecords.{PageRecords}
use Rattle.page_versions.specs.Own.{Rise, places_at}
use Rattle.page_versions.proofs.Search.{rise_take, rise_drop, left_half, right_half, the_middle, some_page}
use Rattle.page_versions.proofs.places.+places_at.Goals as goal

pub places_at-requires : goal.places_at-requires
places_at-requires t c =
    let some : 0 < length c.args.pages.now = some_page c.args.pages.now c.is_empty.result c.is_empty.ensures c.if-is_empty.false in
    (omega (arith, some, c.decreases, length-take {A = PageRecords}), rise_take c.args.pages.now (length c.args.pages.now / 2) c.requires)

pub places_at-requires-in-Greater : goal.places_at-requires-in-Greater
places_at-requires-in-Greater t c =
    let some : 0 < length c.args.pages.now = some_page c.args.pages.now c.is_empty.result c.is_empty.ensures c.if-is_empty.false in
    let m = length c.args.pages.now / 2 + 1 in (
      omega (arith, some, c.decreases, length-take {A = PageRecords}, length-drop {A = PageRecords}),
      subst Rise (sym (take_rest c.args.pages.now m)) (rise_drop c.args.pages.now m c.requires),
    )

pub returns-in-Less : goal.returns-in-Less
returns-in-Less t c =
    let some : 0 < length c.args.pages.now = some_page c.args.pages.now c.is_empty.result c.is_empty.ensures c.if-is_empty.false in
    let middle : length c.args.pages.now / 2 < length c.args.pages.now = omega (arith, some) in
    left_half c.args.id c.args.pages.now (length c.args.pages.now / 2) c.index-pages-middle.result c.places_at.result.now c.requires middle c.index-pages-middle.is (sym c.cmp.ensures ∙ c.in-Less.is) c.places_at.ensures

pub returns-in-Equal : goal.returns-in-Equal
returns-in-Equal t c =
    let some : 0 < length c.args.pages.now = some_page c.args.pages.now c.is_empty.result c.is_empty.ensures c.if-is_empty.false in
    let middle : length c.args.pages.now / 2 < length c.args.pages.now = omega (arith, some) in
    c.as_slice.ensures ∙ the_middle c.args.id c.args.pages.now (length c.args.pages.now / 2) c.index-pages-middle.result c.requires middle c.index-pages-middle.is (sym c.cmp.ensures ∙ c.in-Equal.is)

pub returns-in-Greater : goal.returns-in-Greater
returns-in-Greater t c =
    let some : 0 < length c.args.pages.now = some_page c.args.pages.now c.is_empty.result c.is_empty.ensures c.if-is_empty.false in
    let middle : length c.args.pages.now / 2 < length c.args.pages.now = omega (arith, some) in
    right_half c.args.id c.args.pages.now (length c.args.pages.now / 2) c.index-pages-middle.result c.places_at-in-Greater.result.now c.requires middle c.index-pages-middle.is (sym c.cmp.ensures ∙ c.in-Greater.is)
    (c.places_at-in-Greater.ensures ∙ ap (λ (l : List PageRecords). places_at c.args.id l) (take_rest c.args.pages.now (length c.args.pages.now / 2 + 1)))
