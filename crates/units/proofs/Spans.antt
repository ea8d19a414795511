-- The tests on ranges decide what they are said to mean. Assumes nothing.
use Rattle.std.proofs.Common.{◌≡◌, ℕ, ◌+◌, ◌-◌, ◌<◌, true, Decides, ⊎_elim, arith}
use Rattle.std.proofs.lemmas.Bool.{cases_lt}
use Rattle.std.proofs.lemmas.Bool.Decides.{nat_tests}
use Rattle.units.specs.Spans.{Range, Has, has, Within, within, Meet, meet}

pub has_decides : (x : Range) (k : ℕ) → Decides (has x k) (Has x k)
has_decides x k = (λ e. grind (arith, nat_tests), λ h. grind (arith, nat_tests))

-- a range that is not empty has its first and its last unit
ends : (x y : Range) → Within x y → 0 < x.count → within x y ≡ true
ends x y h some =
    let a = h x.first (omega arith, omega arith) in
    let b = h (x.first + x.count - 1) (omega arith, omega arith) in
    grind (arith, nat_tests)

pub within_decides : (x y : Range) → Decides (within x y) (Within x y)
within_decides x y = (λ e k h. grind (arith, nat_tests), λ h. ⊎_elim (λ some. ends x y h some) (λ none. grind (arith, nat_tests)) (cases_lt 0 x.count))

-- the later of the two first units is in both
both : (x y : Range) → meet x y ≡ true → Meet x y
both x y e =
    ⊎_elim (λ h. (y.first, grind (arith, nat_tests), grind (arith, nat_tests))) (λ h. (x.first, grind (arith, nat_tests), grind (arith, nat_tests))) (cases_lt x.first y.first)

pub meet_decides : (x y : Range) → Decides (meet x y) (Meet x y)
meet_decides x y = (both x y, λ m. grind (arith, nat_tests))
