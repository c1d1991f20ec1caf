-- Lists of names that are seen through a map.
use Rattle.std.proofs.Common.{◌≡◌, Bool, List, [], ◌∷◌, map, position, refl}
use Rattle.std.specs.List.{list_any, position_or_len}
use Rattle.std.proofs.Math.ListN.{length-map}

pub any-map : {X Y : Type 0} (f : X → Y) (test : Y → Bool) (xs : List X) → list_any (λ x. test (f x)) xs ≡ list_any test (map f xs)
any-map f test [] = refl
any-map f test (x ∷ xs) = rw (any-map f test xs)

pub first-map : {X Y : Type 0} (f : X → Y) (test : Y → Bool) (xs : List X) → position_or_len (λ x. test (f x)) xs ≡ position_or_len test (map f xs)
first-map f test [] = refl
first-map f test (x ∷ xs) = rw (first-map f test xs)

pub position-map : {X Y : Type 0} (f : X → Y) (test : Y → Bool) (xs : List X) → position (λ x. test (f x)) xs ≡ position test (map f xs)
position-map f test xs = rw (first-map f test xs, length-map xs f)
