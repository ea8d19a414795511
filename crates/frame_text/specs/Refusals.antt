-- What is said of a frame that is refused. Assumes nothing.
use Rattle.std.specs.Prelude.{ℕ, List, ◌++◌, codes, decimal}
use Rattle.frame.specs.declared.faults.FrameFault.{FrameFault}
use Rattle.frame.specs.declared.faults.FrameFault.TheVariants.{Length, EtherType, Header, Empty, Passes, DataLength, Reserved, More, Unlisted}
use Rattle.frame.specs.Faults.{number, place}
use Rattle.frame_text.specs.Digits.{hex4}

abbrev pub words_of : FrameFault → List ℕ
words_of (Length bytes) = codes "the frame has " ++ (decimal bytes ++ (codes " bytes; it may have " ++ (decimal 60 ++ (codes " to " ++ decimal 1514))))
words_of (EtherType found) = codes "the EtherType is " ++ (hex4 found ++ codes ", not 88a4")
words_of (Header found) = codes "the EtherCAT header is " ++ (hex4 found ++ codes "; bit 11 has to be 0 and the type 1")
words_of Empty = codes "the frame has no datagram"
words_of (Passes p) = codes "the datagram passes the end of the datagrams or of the frame"
words_of (DataLength p bytes) = codes "the datagram has " ++ (decimal bytes ++ (codes " bytes of data; it may have 1 to " ++ decimal 1486))
words_of (Reserved p) = codes "the reserved bits 11 to 14 beside the length are not 0"
words_of (More p) = codes "bit 15 beside the length says wrongly whether another datagram follows"
words_of (Unlisted p code) = codes "command " ++ (decimal code ++ codes " is not listed")

-- the number of the rule, the place, and the words
abbrev pub refusal_of : FrameFault → List ℕ
refusal_of e = codes "refused " ++ (decimal (number e) ++ (codes " " ++ (decimal (place e) ++ (codes ": " ++ words_of e))))
