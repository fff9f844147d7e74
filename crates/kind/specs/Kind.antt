-- What every kind of payload has. Demand 3 follows from it for all of them (proofs/Demand3.antt).
use Rattle.std.specs.Prelude.{ℕ, ◌≤◌, ◌≡◌, List, ◌++◌, length, take}
use Rattle.answer.specs.declared.Answer.{Answer}
use Rattle.answer.specs.declared.Answer.TheVariants.{Done}
use Rattle.octets.specs.Octets.{Bytes}

-- what reading a payload gives: the answer, the used count, and what the record means (flags, numbers, presence, the bytes of its texts)
pub record Reader (Value : Type 0) : Type 0 where
  pub answer : List ℕ → Answer
  pub used : List ℕ → ℕ
  pub value : List ℕ → Value

-- s is bytes, and its reading is done, with the value v and n bytes used
pub record Reads {Value : Type 0} (r : Reader Value) (s : List ℕ) (v : Value) (n : ℕ) : Type 0 where
  pub bytes : Bytes s
  pub done : r.answer s ≡ Done
  pub value : r.value s ≡ v
  pub used : r.used s ≡ n

-- clear: a payload with its ignored bits and its spare byte cleared. wire: the written form of a value.
pub record Kind : Type 1 where
  pub Value : Type 0
  pub reader : Reader Value
  pub clear : List ℕ → List ℕ
  pub wire : Value → List ℕ
  -- a payload that is accepted has at most 65,535 bytes
  pub short : {s : List ℕ} {v : Value} {n : ℕ} → Reads reader s v n → length s ≤ 65535
  -- the written form is the payload, cut behind the used count and cleared
  pub written : {s : List ℕ} {v : Value} {n : ℕ} → Reads reader s v n → wire v ≡ clear (take n s)
  -- and that form is read alike, all of it used
  pub again : {s : List ℕ} {v : Value} {n : ℕ} → Reads reader s v n → Reads reader (clear (take n s)) v (length (clear (take n s)))

-- A kind whose reader looks at no byte behind the used count: more bytes, as far as a payload may go, change nothing.
pub record Local (k : Kind) : Type 0 where
  pub more : {s : List ℕ} {v : k.Value} {n : ℕ} (t : List ℕ) → Bytes (s ++ t) → length (s ++ t) ≤ 65535 → Reads k.reader s v n → Reads k.reader (s ++ t) v n
