use Rattle.page_intents.proofs.tests_go.Goals as goal
use Rattle.page_intents.proofs.Testing.{test_goes, test_tells}

pub returns : goal.returns
returns c =
    let numbers = c.pages_have_numbers.ensures in
    record { test = test_goes numbers; tells = test_tells numbers c.copies_are_newest.ensures.valid }
