-- An area of datagrams as the one at its front and the area behind it. Assumes nothing.
use Rattle.std.specs.Prelude.{◌≡◌, ◌+◌, ◌<◌, length, drop}
use Rattle.frame.specs.declared.areas.Area.{Area}
use Rattle.frame.specs.declared.datagrams.Token.{Token}
use Rattle.frame.specs.Datagrams.{placed_of, placed_at, size}

pub record SplitsInto (area : Area) (token : Token) (rest : Area) : Type 0 where
  pub front : placed_of token ≡ placed_at area.bytes.now area.at
  pub bytes : rest.bytes.now ≡ drop (size area.bytes.now) area.bytes.now
  pub left : rest.left + size area.bytes.now ≡ area.left
  pub at : rest.at ≡ area.at + size area.bytes.now
  pub shorter : length rest.bytes.now < length area.bytes.now
