-- The commands' codes. Assumes nothing.
use Rattle.std.specs.Prelude.{ℕ, cond, List, [], ◌∷◌, ◌==◌}
use Rattle.command.specs.declared.Command.{Command}
use Rattle.command.specs.declared.Command.TheVariants.{Nop, Aprd, Apwr, Aprw, Fprd, Fpwr, Fprw, Brd, Bwr, Lrd, Lwr, Lrw, Unlisted}

-- the code that stands for a command on the wire
abbrev pub code_of : Command → ℕ
code_of Nop = 0
code_of Aprd = 1
code_of Apwr = 2
code_of Aprw = 3
code_of Fprd = 4
code_of Fpwr = 5
code_of Fprw = 6
code_of Brd = 7
code_of Bwr = 8
code_of Lrd = 10
code_of Lwr = 11
code_of Lrw = 12
code_of (Unlisted code) = code

-- the commands that have a code of their own
abbrev pub listed : List Command
listed = Nop ∷ Aprd ∷ Apwr ∷ Aprw ∷ Fprd ∷ Fpwr ∷ Fprw ∷ Brd ∷ Bwr ∷ Lrd ∷ Lwr ∷ Lrw ∷ []

-- the first of these commands that has that code
abbrev pub with_code : ℕ → List Command → Command
with_code code [] = Unlisted code
with_code code (c ∷ cs) = cond (code_of c == code) c (with_code code cs)

-- the command that has that code
abbrev pub command_of : ℕ → Command
command_of code = with_code code listed
