-- The commands' names. Assumes nothing.
use Rattle.std.specs.Prelude.{ℕ, List, codes}
use Rattle.command.specs.declared.Command.{Command}
use Rattle.command.specs.declared.Command.TheVariants.{Nop, Aprd, Apwr, Aprw, Fprd, Fpwr, Fprw, Brd, Bwr, Lrd, Lwr, Lrw, Unlisted}

-- the name that the standard gives it
abbrev pub name_of : Command → List ℕ
name_of Nop = codes "NOP"
name_of Aprd = codes "APRD"
name_of Apwr = codes "APWR"
name_of Aprw = codes "APRW"
name_of Fprd = codes "FPRD"
name_of Fpwr = codes "FPWR"
name_of Fprw = codes "FPRW"
name_of Brd = codes "BRD"
name_of Bwr = codes "BWR"
name_of Lrd = codes "LRD"
name_of Lwr = codes "LWR"
name_of Lrw = codes "LRW"
name_of (Unlisted code) = codes "unlisted"
