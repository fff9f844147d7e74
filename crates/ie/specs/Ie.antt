-- The IEs of a message body, as request K3 has them.
use Rattle.std.specs.Prelude.{ℕ, zero, suc, ◌+◌, ◌-◌, Bool, not, ◌||◌, List, [], ◌∷◌, ◌++◌, leb, eqb, length, drop, Option, Some, None, Result, Ok, Err}
use Rattle.std.specs.List.{list_any}
use Rattle.answer.specs.declared.Answer.{Answer}
use Rattle.answer.specs.declared.Read.{Read}
use Rattle.answer.specs.declared.Answer.TheVariants.{Done, Short, InputTooLong, NoRoom, ZeroLength}
use Rattle.octets.specs.Octets.{pick, bit, if_set, field, big_endian}
use Rattle.ie.specs.declared.Ie.{Ie}
use Rattle.ie.specs.declared.IesRead.{IesRead}

-- ---- one IE

-- a two-byte number at a place
abbrev pub pair_at : List ℕ → ℕ → ℕ
pair_at s at = big_endian (field s at 2)

-- the raw type, and the length field
abbrev pub type_of : List ℕ → ℕ
type_of s = pair_at s 0

abbrev pub length_of : List ℕ → ℕ
length_of s = pair_at s 2

-- a vendor's type: its top bit is set
abbrev pub is_vendor : ℕ → Bool
is_vendor t = bit 15 t

-- the bytes of the enterprise number, which the length counts
abbrev pub extra : ℕ → ℕ
extra t = if_set (is_vendor t) 2

-- whether a list has a type
abbrev pub listed : ℕ → List ℕ → Bool
listed t zs = list_any (λ z. eqb z t) zs

-- a test, and the answer where it fails
infixr 20 ◌or◌then◌
abbrev pub ◌or◌then◌ : Bool → Answer → Result ℕ Answer → Result ℕ Answer
good or a then e = pick good e (Err a)

-- Where the IE at the front of some bytes ends, or why it is refused: the header, a length of zero where the type isn't listed, a vendor's
-- header, a vendor's length (the one whose two lengths don't count from the IE's start), the payload.
unfoldable pub envelope : List ℕ → List ℕ → Result ℕ Answer
envelope zs s =
    let n = length s in
    let t = type_of s in
    let m = length_of s in
    leb 4 n or Short 0 4 n then
    not (eqb m 0) || listed t zs or ZeroLength then
    leb (4 + extra t) n or Short 0 (4 + extra t) n then
    leb (extra t) m or Short 0 (extra t) m then
    leb (4 + m) n or Short 0 (4 + m) n then
    Ok (4 + m)

-- the record of an IE at the front; a vendor's alone has an enterprise number
unfoldable pub record_of : List ℕ → Ie
record_of s =
    let t = type_of s in
    record { raw_type = t; enterprise_id = pick (is_vendor t) (Some (pair_at s 4)) None; place = 4 + extra t; len = length_of s - extra t }

-- a refused read: the empty record and used 0
unfoldable pub refused : Answer → Read Ie
refused a = record { answer = a; used = 0; «record» = record { raw_type = 0; enterprise_id = None; place = 0; len = 0 } }

unfoldable pub found : List ℕ → Result ℕ Answer → Read Ie
found s (Ok end) = record { answer = Done; used = end; «record» = record_of s }
found s (Err a) = refused a

-- what reading the IE at the front gives
unfoldable pub read : List ℕ → List ℕ → Read Ie
read zs s = pick (leb (length s) 65535) (found s (envelope zs s)) (refused (InputTooLong (length s)))

-- ---- all IEs

-- an enterprise number in a row; 65,536 where there is none
abbrev pub shown : Option ℕ → ℕ
shown (Some n) = n
shown None = 65536

-- the row of an IE at a place: raw type, enterprise number, place and length of payload
abbrev pub row_of : ℕ → Ie → List ℕ
row_of at ie = ie.raw_type ∷ shown ie.enterprise_id ∷ (at + ie.place) ∷ ie.len ∷ []

-- the rows, or the place of the guilty IE with its refusal
pub data Rows : Type 0 where
  all : List (List ℕ) → Rows
  guilty : ℕ → Answer → Rows

-- a row before others
unfoldable pub before : List ℕ → Rows → Rows
before row (all rows) = all (row ∷ rows)
before row (guilty place a) = guilty place a

-- the IE at a place, and what stands behind its end
abbrev pub on_envelope : ℕ → List ℕ → Result ℕ Answer → (ℕ → Rows) → Rows
on_envelope at s (Ok end) behind = before (row_of at (record_of s)) (behind end)
on_envelope at s (Err a) behind = guilty at a

-- one IE after another from the front, at most so many
unfoldable pub walk : ℕ → List ℕ → ℕ → List ℕ → Rows
walk zero zs at s = all []
walk (suc most) zs at s = pick (eqb (length s) 0) (all []) (on_envelope at s (envelope zs s) (λ end. walk most zs (at + end) (drop end s)))

-- the IEs of the bytes that stand from a place on: there are no more IEs than bytes
unfoldable pub ies : List ℕ → ℕ → List ℕ → Rows
ies zs at s = walk (length s) zs at s

-- ---- the whole call

-- the published Rust's list
abbrev pub ours : List ℕ
ours = 22 ∷ 41 ∷ 159 ∷ []

-- done with so many rows; refused at a place
abbrev pub done_with : ℕ → IesRead
done_with n = record { answer = Done; rows = n; place = 0 }

abbrev pub refused_at : ℕ → Answer → IesRead
refused_at place a = record { answer = a; rows = 0; place = place }

unfoldable pub answered : ℕ → Rows → IesRead
answered room (all rows) = pick (leb (length rows) room) (done_with (length rows)) (refused_at 0 (NoRoom (length rows)))
answered room (guilty place a) = refused_at place a

-- 5, then the IEs' refusals, 8 last
unfoldable pub read_all : List ℕ → List ℕ → ℕ → IesRead
read_all zs body room = pick (leb (length body) 65535) (answered room (ies zs 0 body)) (refused_at 0 (InputTooLong (length body)))

-- the table with the rows at its front, as found where they don't fit
unfoldable pub filled : List (List ℕ) → Rows → List (List ℕ)
filled table (all rows) = pick (leb (length rows) (length table)) (rows ++ drop (length rows) table) table
filled table (guilty place a) = table

unfoldable pub tabled : List ℕ → List ℕ → List (List ℕ) → List (List ℕ)
tabled zs body table = pick (leb (length body) 65535) (filled table (ies zs 0 body)) table
