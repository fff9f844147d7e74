-- What stands in the image of a read is the record that was read, and writing it gives the cleared payload. No contract cites this file.
use Prim.Native.Nat.{ℕ, ◌+◌, ◌^◌, ◌≤◌, ◌<◌}
use native.Mathlib.Omega.{arith}
use mathlib.Core.Path.{◌≡◌, refl, ap, ◌∙◌}
use mathlib.Core.Bool.{Bool, false}
use mathlib.Core.List.{List, [], ◌∷◌}
use Rattle.std.specs.Prelude.{is_some}
use lib.Dec.{lit<}
use lib.ListN.{length, get_or, length-append}
use Rattle.octets.specs.Octets.{bit, if_set, Bytes, field, big_endian, address_of}
use Rattle.kind.specs.Layout.{Outcome, accepts, refuses, outcome}
use Rattle.f_teid.specs.declared.Fteid.{Fteid}
use Rattle.f_teid.specs.Fteid.{meaning, wire, layout, chosen_record, concrete_record, refused, found, read}
use Rattle.f_teid.proofs.OfKind.{kind}
use Rattle.image.specs.Image.{read_image}
use Rattle.image.proofs.Laws.{length_little_endian_bytes_law}
use Rattle.image.proofs.Back.{flag_back, field_below, last, byte, number32, length_address, address, ImageOf, image_either, image_left, Again}
use Rattle.image.proofs.Back as image
use Rattle.f_teid_image.specs.FteidImage.{size, record_image, image_of, record_at, written_form, writes, stores}

-- a record as a reader makes it
abbrev its : (v4 v6 ch chid : Bool) (x id : ℕ) (p q : List ℕ) → Fteid
its v4 v6 ch chid x id p q =
    record {
      v4 = v4;
      v6 = v6;
      ch = ch;
      chid = chid;
      teid = record { 0 = x };
      ipv4_address = address_of 4 p;
      ipv6_address = address_of 16 q;
      choose_id = id;
    }

abbrev Kept : Fteid → Type 0
Kept r = ImageOf 31 record_at (record_image r) r

laid : (v4 v6 ch chid : Bool) (x id : ℕ) (p q : List ℕ) → x < 256 ^ 4 → Kept (its v4 v6 ch chid x id p q)
unfolding record_image record_at
laid v4 v6 ch chid x id p q small =
    let flags = v4 ∷ v6 ∷ ch ∷ chid ∷ [] in
    let given = is_some (address_of 4 p) ∷ is_some (address_of 16 q) ∷ [] in
    record {
      size_is = simp (length-append, length_little_endian_bytes_law, length_address) (omega arith);
      found = λ m h.
          let (e₀, h₁) = byte h in
          let (e₁, h₂) = byte h₁ in
          let (e₂, h₃) = number32 x small h₂ in
          let (e₃, h₄) = byte h₃ in
          let (e₄, h₅) = address 4 p (lit< tt) h₄ in
          let (e₅, h₆) = address 16 q (lit< tt) (last h₅) in
          rw (e₀, e₁, flag_back flags 0, flag_back flags 1, flag_back flags 2, flag_back flags 3)
          (rw (flag_back given 0, flag_back given 1, e₂, e₃, e₄, e₅));
    }

-- with CH there is no TEID and no address
by_outcome : (s : List ℕ) → Bytes s → (o : Outcome) → Kept (found s o).«record»
unfolding found refused chosen_record concrete_record address_of
by_outcome s b (accepts n) =
    let f = get_or s 0 0 in
    let c = laid (bit 0 f) (bit 1 f) (bit 2 f) (bit 3 f) in
    image_either record_image (bit 2 f) (chosen_record s) (concrete_record s)
    (λ e. c 0 (big_endian (field s 1 (if_set (bit 3 f) 1))) [] [] (omega arith))
    (λ e. c (big_endian (field s 1 4)) 0 (field s 5 (if_set (bit 0 f) 4)) (field s (5 + if_set (bit 0 f) 4) (if_set (bit 1 f) 16)) (field_below s 1 4 4 b (omega arith)))
by_outcome s b (refuses a) = laid false false false false 0 0 [] [] (omega arith)

-- the memory that a read of s left
abbrev pub left : List ℕ → List ℕ → List ℕ
left s d = read_image size d (image_of (read s))

-- the record that stands there is the one that was read
pub record_in_image : (s d : List ℕ) → Bytes s → size ≤ length d → record_at (left s d) ≡ (read s).«record»
unfolding read
record_in_image s d b room = image_left 31 (by_outcome s b (outcome layout s)) _ _ d room

-- and so, where the read was done, writing it again gives the cleared payload
pub again : Again kind size left (λ m s. written_form m) (λ m s. writes m) (λ m s. stores m)
unfolding writes stores
again = image.again kind size left _ _ _ (λ s v n r d room. ap (λ (x : Fteid). wire (meaning x)) (record_in_image s d r.bytes room) ∙ ap wire r.value) (λ s v n r d room out. (refl, refl))
