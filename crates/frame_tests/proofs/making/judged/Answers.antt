use Rattle.std.proofs.Common.{inl, arith}
use Rattle.frame.proofs.Walk.{left_fits}
use Rattle.frame_tests.proofs.making.judged.Goals as goal

-- a frame has no more datagrams than bytes
pub count-requires-clause-fits : goal.count-requires-clause-fits
count-requires-clause-fits c = inl (omega (arith, left_fits c.in-Ok.tokens))
