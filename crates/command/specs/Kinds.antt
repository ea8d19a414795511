-- What the commands address. Assumes nothing.
use Rattle.command.specs.declared.Command.{Command}
use Rattle.command.specs.declared.Command.TheVariants.{Nop, Aprd, Apwr, Aprw, Fprd, Fpwr, Fprw, Brd, Bwr, Lrd, Lwr, Lrw, Unlisted}
use Rattle.command.specs.declared.CommandKind.{CommandKind}
use Rattle.command.specs.declared.CommandKind.TheVariants as kind

abbrev pub kind_of : Command → CommandKind
kind_of Nop = kind.Idle
kind_of Aprd = kind.Physical
kind_of Apwr = kind.Physical
kind_of Aprw = kind.Physical
kind_of Fprd = kind.Physical
kind_of Fpwr = kind.Physical
kind_of Fprw = kind.Physical
kind_of Brd = kind.Physical
kind_of Bwr = kind.Physical
kind_of Lrd = kind.Logical
kind_of Lwr = kind.Logical
kind_of Lrw = kind.Logical
kind_of (Unlisted code) = kind.Unlisted
