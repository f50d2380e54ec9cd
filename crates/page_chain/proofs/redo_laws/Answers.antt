use Rattle.page_images.specs.Given.{width_in}
use Rattle.page_images.specs.Images.{zeros}
use Rattle.page_chain.proofs.Redoes.{redo_reaches, bears_its_number, number_tells}
use Rattle.page_chain.proofs.redo_laws.Goals as goal

pub returns-clause-number : goal.returns-clause-number
returns-clause-number c = bears_its_number (record { free = c.written_laws.ensures.free; stamped = c.written_laws.ensures.stamped; whole = c.front_laws.ensures.all_whole; lrsn = c.front_laws.ensures.all_lrsn; zero = (c.header_laws.ensures.zeros.1, c.header_laws.ensures.zeros.3 16 (width_in zeros)) })

pub returns-clause-redo : goal.returns-clause-redo
returns-clause-redo c = redo_reaches (record { free = c.written_laws.ensures.free; stamped = c.written_laws.ensures.stamped; whole = c.front_laws.ensures.all_whole; lrsn = c.front_laws.ensures.all_lrsn; zero = (c.header_laws.ensures.zeros.1, c.header_laws.ensures.zeros.3 16 (width_in zeros)) })

pub returns-clause-stable : goal.returns-clause-stable
returns-clause-stable c = number_tells (record { free = c.written_laws.ensures.free; stamped = c.written_laws.ensures.stamped; whole = c.front_laws.ensures.all_whole; lrsn = c.front_laws.ensures.all_lrsn; zero = (c.header_laws.ensures.zeros.1, c.header_laws.ensures.zeros.3 16 (width_in zeros)) })
