use Rattle.lock_world.proofs.books_tell.Goals as goal
use Rattle.lock_world.proofs.Books.{answers_tell, slot_has, nobody_holds}
use Rattle.lock_world.proofs.Home.{facility_tells, free_at_home, home_tells}

pub returns : goal.returns
returns c = record { answers = answers_tell; home = home_tells c.claims_give.ensures.join; free = free_at_home; facility = facility_tells; slot = slot_has; nobody = nobody_holds }
