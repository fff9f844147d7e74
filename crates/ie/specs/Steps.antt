-- What private functions promise: nothing here is K3's.
use Rattle.std.specs.Prelude.{◌≡◌, ℕ, ◌+◌, ◌≤◌, List, length, Result, Ok, Err}
use Rattle.ie.specs.declared.Guilty.{Guilty}
use Rattle.ie.specs.Ie.{type_of, length_of, extra, Rows, all, guilty, ies}

-- all that stands before the payload is there, and the length counts it
abbrev pub IsWhole : List ℕ → Type 0
IsWhole s = (4 + extra (type_of s) ≤ length s) × (extra (type_of s) ≤ length_of s)

-- how many rows, behind so many
unfoldable pub counted : ℕ → Rows → Result ℕ Guilty
counted n (all rows) = Ok (n + length rows)
counted n (guilty place a) = Err (record { place = place; answer = a })

-- a body is good by a list of types, and has so many rows
abbrev pub HasRows : List ℕ → List ℕ → ℕ → Type 0
HasRows zs body n = counted 0 (ies zs 0 body) ≡ Ok n
