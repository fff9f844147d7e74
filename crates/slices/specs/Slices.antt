-- A part of a list, and the place of a byte in one.
use Rattle.std.specs.Prelude.{ℕ, suc, List, [], ◌∷◌, Bool, true, false, take, drop, eqb}

-- what stands from a place on and before another
unfoldable pub slice : ℕ → ℕ → List ℕ → List ℕ
slice from to s = drop from (take to s)

-- the place of a byte in a list, by whether it is the first one and by its place in the rest
unfoldable pub index_after : Bool → ℕ → ℕ
index_after true n = 0
index_after false n = suc n

-- the place of the first such byte, and the list's length where there is none
unfoldable pub index_of : ℕ → List ℕ → ℕ
index_of b [] = 0
index_of b (c ∷ s) = index_after (eqb c b) (index_of b s)
