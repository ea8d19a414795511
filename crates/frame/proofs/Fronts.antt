-- What is known of the datagram at the front of an area. Assumes nothing.
use Rattle.std.proofs.Common.{◌≡◌, ℕ, ◌+◌, ◌≤◌, true, ltb, List, length, get_or, Some, None, Option, refl, arith}
use Rattle.std.proofs.lemmas.Bool.Decides.{nat_tests}
use Rattle.command.specs.Codes.{command_of}
use Rattle.frame.specs.declared.faults.FrameFault.{FrameFault}
use Rattle.frame.specs.Words.{word}
use Rattle.frame.specs.Datagrams.{data_bits, reserved_bits, more_bit}
use Rattle.frame.specs.Judging.{known, same, size_fault, or_else, front_fault}

-- what is known of a length that has no fault
pub record SizeFine (w there z : ℕ) : Type 0 where
  pub some : 1 ≤ data_bits w
  pub few : data_bits w ≤ 1486
  pub clear : reserved_bits w ≡ 0
  pub fits : data_bits w + 12 ≤ there
  pub flag : same (more_bit w) (ltb (data_bits w + 12) z) ≡ true

pub size_fine : (w there z p : ℕ) → size_fault w there z p ≡ None → SizeFine w there z
size_fine w there z p h = record {
  some = grind (arith, nat_tests);
  few = grind (arith, nat_tests);
  clear = grind (arith, nat_tests);
  fits = grind (arith, nat_tests);
  flag = grind (arith, nat_tests);
}

-- and a length of which that is known has none
pub size_clear : (w there z p : ℕ) → SizeFine w there z → size_fault w there z p ≡ None
size_clear w there z p f = grind (arith, nat_tests)

pub or_none : (a b : Option FrameFault) → or_else a b ≡ None → (a ≡ None) × (b ≡ None)
or_none (Some e) b h = absurd cc
or_none None b h = (refl, h)

-- what is known of a datagram that has no fault
pub record Fine (area : List ℕ) (z : ℕ) : Type 0 where
  pub long : 10 ≤ length area
  pub sized : SizeFine (word area 6) (length area) z
  pub listed : known (command_of (get_or area 0 0)) ≡ true

pub fine : (area : List ℕ) (z p : ℕ) → front_fault area z p ≡ None → Fine area z
fine area z p h =
    let a : size_fault (word area 6) (length area) z p ≡ None = grind (arith, nat_tests) in
    record {
      long = grind (arith, nat_tests);
      sized = size_fine (word area 6) (length area) z p a;
      listed = grind (arith, nat_tests);
    }

-- and a datagram of which that is known has none
pub front_clear : (area : List ℕ) (z p : ℕ) → Fine area z → front_fault area z p ≡ None
front_clear area z p f =
    let a = size_clear (word area 6) (length area) z p f.sized in
    grind (arith, nat_tests)
