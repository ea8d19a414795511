-- The numbers and places of a writer's refusals. Assumes nothing.
use Rattle.std.specs.Prelude.{ℕ}
use Rattle.frame.specs.Faults as frame
use Rattle.frame_writer.specs.declared.faults.WriteFault.{WriteFault}
use Rattle.frame_writer.specs.declared.faults.WriteFault.TheVariants.{Refused, ShortBuffer}

abbrev pub number : WriteFault → ℕ
number (Refused fault) = frame.number fault
number (ShortBuffer bytes) = 10

abbrev pub place : WriteFault → ℕ
place (Refused fault) = frame.place fault
place (ShortBuffer bytes) = 0
