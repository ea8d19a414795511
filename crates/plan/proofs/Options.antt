-- Whether there is an answer, by whether its parts have one. Assumes nothing.
use Rattle.std.proofs.Common.{◌≡◌, ℕ, ◌+◌, Bool, true, false, cond, ◌||◌, List, [], ◌∷◌, is_some, Some, None, Option, refl}
use Rattle.std.specs.Bool.{then_some}
use Rattle.std.specs.List.{list_any, find, position_from}
use Rattle.std.specs.Option.{option_map, option_or}

module _ {X : Type 0} where
  pub none_from : (o : Option X) → is_some o ≡ false → o ≡ None
  none_from None e = refl
  none_from (Some x) e = cc

  pub is_some-option_or : (x y : Option X) → is_some (option_or x y) ≡ (is_some x || is_some y)
  is_some-option_or None y = refl
  is_some-option_or (Some x) y = refl

  pub is_some-then_some : (b : Bool) (x : X) → is_some (then_some b x) ≡ b
  is_some-then_some true x = refl
  is_some-then_some false x = refl

  pub is_some-option_map : {Y : Type 0} (f : X → Y) (o : Option X) → is_some (option_map f o) ≡ is_some o
  is_some-option_map f None = refl
  is_some-option_map f (Some x) = refl

  pub is_some-position_from : (p : X → Bool) (i : ℕ) (xs : List X) → is_some (position_from p i xs) ≡ list_any p xs
  is_some-position_from p i [] = refl
  is_some-position_from p i (x ∷ xs) =
      elim (p x) as (λ b. is_some (cond b (Some i) (position_from p (i + 1) xs)) ≡ (b || list_any p xs)) [ true ↦ refl | false ↦ is_some-position_from p (i + 1) xs ]

  pub is_some-find : (p : X → Bool) (xs : List X) → is_some (find p xs) ≡ list_any p xs
  is_some-find p [] = refl
  is_some-find p (x ∷ xs) =
      elim (p x) as (λ b. is_some (cond b (Some x) (find p xs)) ≡ (b || list_any p xs)) [ true ↦ refl | false ↦ is_some-find p xs ]
