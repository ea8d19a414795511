-- The keywords of a plan's text. Assumes nothing.
use Rattle.std.specs.Prelude.{ℕ, cond, List, Some, None, codes, Option}
use Rattle.std.specs.Str.{bytes_eq}
use Rattle.plan_text.specs.declared.keywords.Keyword.{Keyword}
use Rattle.plan_text.specs.declared.keywords.Keyword.TheVariants.{Image, Station, Out, In, Mailbox, Name}

abbrev pub keyword_of : List ℕ → Option Keyword
keyword_of word =
    cond (bytes_eq word (codes "image")) (Some Image)
    (cond (bytes_eq word (codes "station")) (Some Station)
    (cond (bytes_eq word (codes "out")) (Some Out)
    (cond (bytes_eq word (codes "in")) (Some In)
    (cond (bytes_eq word (codes "mailbox")) (Some Mailbox)
    (cond (bytes_eq word (codes "name")) (Some Name) None)))))
