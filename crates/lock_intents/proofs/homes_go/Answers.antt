use Rattle.lock_intents.proofs.homes_go.Goals as goal
use Rattle.lock_intents.specs.Homes.{ClaimGoes}
use Rattle.lock_intents.proofs.Homes.{Facts, claim_goes}
use Rattle.lock_intents.proofs.Locals.{Facts as LocalFacts, local_goes, reaches_goes}

pub returns : goal.returns
returns c =
    let claim : ClaimGoes = claim_goes (record {
      local = c.claims_are_moves.ensures.local;
      stay = c.groups_begin.ensures.stays;
      slot = c.books_tell.ensures.slot;
      home = c.books_tell.ensures.home;
      given = c.books_change.ensures.given;
    }) in
    let facts : LocalFacts = record {
      claim = claim;
      stay = c.groups_begin.ensures.stays;
      postpone = c.rollbacks_are_moves.ensures.postpone;
      hands_on = c.rollbacks_change.ensures.postponed;
      waits = c.rollbacks_change.ensures.waits;
      sound = c.keeps_sound.ensures.run;
    } in
    record { claim = claim; local = local_goes facts; reaches = reaches_goes facts }
