use Rattle.lock_world.proofs.books_change.Goals as goal
use Rattle.lock_world.proofs.Books.{given_enters, page_enters, release_frees, page_frees, end_leaves}

pub returns : goal.returns
returns c = record { given = given_enters; page = page_enters; released = release_frees; page_released = page_frees; ended = end_leaves }
