-- Text as it is written, in ASCII.
use Rattle.std.specs.Prelude.{ℕ, List, [], ◌∷◌}
use Prim.Native.Char.{code}
use Prim.Native.String.{String, [] as empty, ◌∷◌ as ◌then◌}

-- the characters of a text, by their codes
unfoldable pub ascii : String → List ℕ
ascii empty = []
ascii (c then text) = code c ∷ ascii text
