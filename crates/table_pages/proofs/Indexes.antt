-- The test of an index's header page.
use Rattle.std.proofs.Common.{◌≡◌, ◌↔◌, ℕ, ◌+◌, ◌-◌, ◌^◌, Bool, true, ◌&&◌, List, drop, sym, ◌∙◌}
use Rattle.std.specs.Prelude.{nat_le, nat_lt, IsTrue}
use Rattle.ds_base.specs.declared.names.PageId.{PageId}
use Rattle.page_format.specs.Header.{is_zeros, header_of}
use Rattle.page_format.specs.declared.header.PageKind.TheVariants as kind
use Rattle.index_leaf.specs.Changes.{next_at, next_page_of}
use Rattle.sound_disk.specs.Layouts.{has_clean_header}
use Rattle.sound_disk.specs.Indexes.{IsIndexHeader}
use Rattle.table_pages.specs.Kinds.{has_kind}
use Rattle.table_pages.specs.Indexes.{is_next, is_index_header}
use Rattle.table_pages.proofs.Booleans.{and_left, and_right, and_both, le_of, of_le, lt_of, of_lt}
use Rattle.table_pages.proofs.Kind_tests.{kind_is, kind_has}

abbrev kind_test : PageId → List ℕ → Bool
kind_test id page = has_kind kind.IndexHeader (header_of page id)

abbrev rest_test : List ℕ → Bool
rest_test page = is_zeros (drop (next_at + 4) page)

header_right : (id : PageId) (page : List ℕ) → is_index_header id page ≡ true → IsIndexHeader id page
header_right id page h =
    let a = and_right (kind_test id page) (has_clean_header page && (is_next (next_page_of page) && rest_test page)) h in
    let b = and_right (has_clean_header page) (is_next (next_page_of page) && rest_test page) a in
    let c = and_left (is_next (next_page_of page)) (rest_test page) b in
    record {
      kind_is = kind_is kind.IndexHeader (header_of page id) (and_left (kind_test id page) (has_clean_header page && (is_next (next_page_of page) && rest_test page)) h);
      clean = and_left (has_clean_header page) (is_next (next_page_of page) && rest_test page) a;
      next_from = le_of 3 (next_page_of page) (and_left (nat_le 3 (next_page_of page)) (nat_lt (next_page_of page) (2 ^ 32 - 1)) c);
      next_to = lt_of (next_page_of page) (2 ^ 32 - 1) (and_right (nat_le 3 (next_page_of page)) (nat_lt (next_page_of page) (2 ^ 32 - 1)) c);
      rest = and_right (is_next (next_page_of page)) (rest_test page) b;
    }

right_header : (id : PageId) (page : List ℕ) → IsIndexHeader id page → is_index_header id page ≡ true
right_header id page h =
    and_both (kind_test id page) _ (kind_has kind.IndexHeader (header_of page id) h.kind_is)
    (and_both (has_clean_header page) _ h.clean
    (and_both (is_next (next_page_of page)) (rest_test page)
    (and_both (nat_le 3 (next_page_of page)) (nat_lt (next_page_of page) (2 ^ 32 - 1)) (of_le 3 (next_page_of page) h.next_from) (of_lt (next_page_of page) (2 ^ 32 - 1) h.next_to))
    h.rest))

pub index_header_told : (id : PageId) (page : List ℕ) (b : Bool) → b ≡ is_index_header id page → IsTrue b ↔ IsIndexHeader id page
index_header_told id page b e = (λ t. header_right id page (sym e ∙ t), λ h. e ∙ right_header id page h)
