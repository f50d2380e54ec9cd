use Rattle.page_protocol.proofs.bits_by_frame.Goals as goal
use Rattle.page_protocol.proofs.Frames.{test_tells, places, takes_out, registers, unregisters, finds_clear, drops, empties}

pub returns : goal.returns
returns c = record { test = test_tells; places = places; takes_out = takes_out; registers = registers; unregisters = unregisters; finds_clear = finds_clear; drops = drops; empties = empties }
