-- What the IEs of a body and their rows are worth (proved in proofs/Laws.antt).
use Rattle.std.specs.Prelude.{ℕ, ◌+◌, ◌≤◌, ◌<◌, ◌≡◌, true, false, List, [], ◌∷◌, length, get_or, take, drop}
use Rattle.answer.specs.declared.Answer.TheVariants.{Done}
use Rattle.octets.specs.Octets.{Bytes}
use Rattle.ie.specs.Ie.{is_vendor, extra, read, row_of, all, guilty, before, ies, read_all, tabled}

-- the rows are what reading one IE after another gives: none of no bytes; of others that which is read at the front, and what stands behind
-- it; or its refusal
pub record OneAfterAnother (zs : List ℕ) (at : ℕ) (s : List ℕ) : Type 0 where
  pub none : length s ≡ 0 → ies zs at s ≡ all []
  pub next : 0 < length s → length s ≤ 65535 → (read zs s).answer ≡ Done
      → ies zs at s ≡ before (row_of at (read zs s).«record») (ies zs (at + (read zs s).used) (drop (read zs s).used s))
  pub stop : 0 < length s → length s ≤ 65535 → ((read zs s).answer ≡ Done → ⊥) → ies zs at s ≡ guilty at (read zs s).answer

-- a row's type, enterprise number, place and length of payload
abbrev pub type_in : List ℕ → ℕ
type_in row = get_or row 0 0

abbrev pub enterprise_in : List ℕ → ℕ
enterprise_in row = get_or row 1 0

abbrev pub place_in : List ℕ → ℕ
place_in row = get_or row 2 0

abbrev pub len_in : List ℕ → ℕ
len_in row = get_or row 3 0

-- each IE begins where the one before it ends, the first at the one place, and the last ends at the other; 4 bytes stand before a
-- payload, a vendor's 6
abbrev pub Covers : ℕ → List (List ℕ) → ℕ → Type 0
Covers at [] last = at ≡ last
Covers at (row ∷ rows) last = (place_in row ≡ at + 4 + extra (type_in row)) × Covers (place_in row + len_in row) rows last

-- a vendor's number is below 65,536, and 65,536 is said of the others alone
abbrev pub Numbered : List (List ℕ) → Type 0
Numbered [] = Unit
Numbered (row ∷ rows) = (is_vendor (type_in row) ≡ true → enterprise_in row < 65536) × ((is_vendor (type_in row) ≡ false → enterprise_in row ≡ 65536) × Numbered rows)

-- what a call owes that is done: the rows cover the body, their numbers tell vendors from others, and no other row changes
pub record Owed (body : List ℕ) (n : ℕ) (before after : List (List ℕ)) : Type 0 where
  pub covered : Covers 0 (take n after) (length body)
  pub numbered : Bytes body → Numbered (take n after)
  pub others : drop n after ≡ drop n before

-- what a call for a whole body owes
pub record Laws (zs body : List ℕ) (table : List (List ℕ)) : Type 0 where
  pub done : (read_all zs body (length table)).answer ≡ Done → Owed body (read_all zs body (length table)).rows table (tabled zs body table)
  -- refused, the table is as it was, and the place is one of the body's
  pub left : ((read_all zs body (length table)).answer ≡ Done → ⊥) → tabled zs body table ≡ table
  pub inside : ((read_all zs body (length table)).answer ≡ Done → ⊥) → (read_all zs body (length table)).place < length body
