-- What stands in the image of a read is the record that was read, and writing it gives the cleared payload. No contract cites this file.
use Prim.Native.Nat.{ℕ, ◌+◌, ◌^◌, ◌≤◌, ◌<◌}
use native.Mathlib.Omega.{arith}
use mathlib.Core.Path.{◌≡◌, refl, ap, ◌∙◌}
use mathlib.Core.Bool.{Bool, false}
use mathlib.Core.List.{List, [], ◌∷◌}
use Rattle.std.specs.Prelude.{is_some}
use lib.Dec.{lit<}
use lib.ListN.{length, get_or, length-append}
use Rattle.octets.specs.Octets.{bit, if_set, Bytes, field, big_endian, address_of}
use Rattle.kind.specs.Layout.{Outcome, accepts, refuses, outcome}
use Rattle.fseid.specs.declared.Fseid.{Fseid}
use Rattle.fseid.specs.Fseid.{meaning, wire, layout, record_of, refused, found, read}
use Rattle.fseid.proofs.OfKind.{kind}
use Rattle.image.specs.Image.{read_image}
use Rattle.image.proofs.Laws.{length_little_endian_bytes_law}
use Rattle.image.proofs.Back.{flag_back, field_below, last, byte, number, length_address, address, ImageOf, image_left, Again}
use Rattle.image.proofs.Back as image
use Rattle.fseid_image.specs.FseidImage.{size, record_image, image_of, record_at, written_form, writes, stores}

-- a record as a reader makes it
abbrev its : (v4 v6 : Bool) (x : ℕ) (p q : List ℕ) → Fseid
its v4 v6 x p q = record { v4 = v4; v6 = v6; seid = record { 0 = x }; ipv4_address = address_of 4 p; ipv6_address = address_of 16 q }

abbrev Kept : Fseid → Type 0
Kept r = ImageOf 30 record_at (record_image r) r

laid : (v4 v6 : Bool) (x : ℕ) (p q : List ℕ) → x < 256 ^ 8 → Kept (its v4 v6 x p q)
unfolding record_image record_at
laid v4 v6 x p q small =
    let flags = v6 ∷ v4 ∷ [] in
    let given = is_some (address_of 4 p) ∷ is_some (address_of 16 q) ∷ [] in
    record {
      size_is = simp (length-append, length_little_endian_bytes_law, length_address) (omega arith);
      found = λ m h.
          let (e₀, h₁) = byte h in
          let (e₁, h₂) = byte h₁ in
          let (e₂, h₃) = number x small h₂ in
          let (e₃, h₄) = address 4 p (lit< tt) h₃ in
          let (e₄, h₅) = address 16 q (lit< tt) (last h₄) in
          rw (e₀, e₁, flag_back flags 0, flag_back flags 1, flag_back given 0, flag_back given 1, e₂, e₃, e₄);
    }

by_outcome : (s : List ℕ) → Bytes s → (o : Outcome) → Kept (found s o).«record»
unfolding found refused record_of address_of
by_outcome s b (accepts n) =
    let v4 = bit 1 (get_or s 0 0) in
    let v6 = bit 0 (get_or s 0 0) in
    laid v4 v6 (big_endian (field s 1 8)) (field s 9 (if_set v4 4)) (field s (9 + if_set v4 4) (if_set v6 16)) (field_below s 1 8 8 b (omega arith))
by_outcome s b (refuses a) = laid false false 0 [] [] (omega arith)

-- the memory that a read of s left
abbrev pub left : List ℕ → List ℕ → List ℕ
left s d = read_image size d (image_of (read s))

-- the record that stands there is the one that was read
pub record_in_image : (s d : List ℕ) → Bytes s → size ≤ length d → record_at (left s d) ≡ (read s).«record»
unfolding read
record_in_image s d b room = image_left 30 (by_outcome s b (outcome layout s)) _ _ d room

-- and so, where the read was done, writing it again gives the cleared payload
pub again : Again kind size left (λ m s. written_form m) (λ m s. writes m) (λ m s. stores m)
unfolding writes stores
again = image.again kind size left _ _ _ (λ s v n r d room. ap (λ (x : Fseid). wire (meaning x)) (record_in_image s d r.bytes room) ∙ ap wire r.value) (λ s v n r d room out. (refl, refl))
