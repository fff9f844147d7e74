-- What stands in the image of a read is the record that was read, and writing it gives the cleared payload. No contract cites this file.
use Prim.Native.Nat.{ℕ, zero, suc, ◌+◌, ◌^◌, ◌≤◌, ◌<◌}
use native.Mathlib.Omega.{arith}
use mathlib.Core.Path.{◌≡◌, refl, ap, ◌∙◌}
use mathlib.Core.Bool.{Bool, true, false}
use mathlib.Core.List.{List}
use Rattle.std.specs.Prelude.{None}
use lib.Dec.{leb, eqb}
use lib.ListN.{length, drop, get_or, replicate, length-append, length-replicate}
use borrow.Author.Tests.{leb-true, eqb-true, eq-eqb}
use Rattle.answer.specs.declared.Answer.{Answer}
use Rattle.octets.specs.Octets.{pick, field, address_of}
use Rattle.octets.proofs.Laws.{length_field}
use Rattle.text.specs.Utf8.{good_len}
use Rattle.kind.specs.Write.{answered, stored}
use Rattle.answer.specs.declared.Read.{Read}
use Rattle.node_id.specs.declared.NodeId.{NodeId}
use Rattle.node_id.specs.NodeId.{meaning, wire, of_ipv4, of_ipv6, named, refused, read_address, read_fqdn, by_type, read, write_refusal}
use Rattle.node_id.proofs.OfKind.{kind, writable}
use Rattle.image.specs.Image.{address_bytes, read_image}
use Rattle.image.proofs.Laws.{length_little_endian_bytes_law}
use Rattle.image.proofs.Back.{last, byte, number, part, ImageOf, image_left, Again}
use Rattle.image.proofs.Back as image
use Rattle.node_id_image.specs.NodeIdImage.{size, fields_of, record_of, record_image, image_of, record_at, written_form, writes, stores}

abbrev Kept : NodeId → Type 0
Kept r = ImageOf 37 record_at (record_image r) r

-- a record whose fields are whole
laid : (r : NodeId) → let f = fields_of r in length f.ipv4_address ≡ 4 → length f.ipv6_address ≡ 16 → f.name.place < 256 ^ 8 → f.name.len < 256 ^ 8 → record_of f ≡ r → Kept r
unfolding record_image record_at address_bytes address_of
laid r l4 l6 small₁ small₂ e =
    let f = fields_of r in
    record {
      size_is = simp (length-append, length_little_endian_bytes_law, l4, l6) (omega arith);
      found = λ m h.
          let (e₀, h₁) = byte h in
          let (e₁, h₂) = number f.name.place small₁ h₁ in
          let (e₂, h₃) = number f.name.len small₂ h₂ in
          let (e₃, h₄) = part f.ipv4_address 4 l4 h₃ in
          let (e₄, h₅) = part f.ipv6_address 16 l6 (last h₄) in
          rw (e₀, e₁, e₂, e₃, e₄, eq-eqb _ 4 l4, eq-eqb _ 16 l6) e;
    }

zeros : (n : ℕ) → length {A = ℕ} (replicate n 0) ≡ n
zeros n = length-replicate {A = ℕ} n 0

of_name : (place len : ℕ) → place < 256 ^ 8 → len < 256 ^ 8 → Kept (named place len)
of_name place len h k = laid (named place len) (zeros 4) (zeros 16) h k refl

of_ipv4_law : (a : List ℕ) → length a ≡ 4 → Kept (of_ipv4 a)
of_ipv4_law a l = laid (of_ipv4 a) l (zeros 16) (omega arith) (omega arith) refl

of_ipv6_law : (a : List ℕ) → length a ≡ 16 → Kept (of_ipv6 a)
of_ipv6_law a l = laid (of_ipv6 a) (zeros 4) l (omega arith) (omega arith) refl

-- the record of one of two readings
abbrev Fine : Read NodeId → Type 0
Fine x = Kept x.«record»

fine_either : (t : Bool) (x y : Read NodeId) → (t ≡ true → Fine x) → Fine y → Fine (pick t x y)
fine_either true x y f g = f refl
fine_either false x y f g = g

not_read : (a : Answer) → Fine (refused a)
unfolding refused
not_read a = of_name 0 0 (omega arith) (omega arith)

of_address : (number width : ℕ) (make : List ℕ → NodeId) (s : List ℕ) → ((a : List ℕ) → length a ≡ width → Kept (make a)) → Fine (read_address number width make s)
unfolding read_address
of_address number width make s f =
    fine_either (leb (suc width) (length s)) _ _ (λ t. let h = leb-true (suc width) (length s) t in f (field s 1 width) (length_field 1 width s (omega arith))) (not_read _)

by_type_law : (b : ℕ) (s : List ℕ) → length s ≤ 65535 → Fine (by_type b s)
unfolding by_type read_fqdn
by_type_law zero s h = of_address 1 4 of_ipv4 s of_ipv4_law
by_type_law (suc zero) s h = of_address 2 16 of_ipv6 s of_ipv6_law
by_type_law (suc (suc zero)) s h =
    fine_either (eqb (1 + good_len (drop 1 s)) (length s)) _ _
    (λ t. let e = eqb-true (1 + good_len (drop 1 s)) (length s) t in of_name 1 (good_len (drop 1 s)) (omega arith) (omega arith))
    (not_read _)
by_type_law (suc (suc (suc b))) s h = not_read _

of_read : (s : List ℕ) → Fine (read s)
unfolding read
of_read s =
    fine_either (leb (length s) 65535) _ _
    (λ t. fine_either (leb 1 (length s)) _ _ (λ u. by_type_law (get_or s 0 0) s (leb-true _ _ t)) (not_read _))
    (not_read _)

-- the memory that a read of s left
abbrev pub left : List ℕ → List ℕ → List ℕ
left s d = read_image size d (image_of (read s))

-- the record that stands there is the one that was read
pub record_in_image : (s d : List ℕ) → size ≤ length d → record_at (left s d) ≡ (read s).«record»
record_in_image s d room = image_left 37 (of_read s) _ _ d room

-- and so, where the read was done, writing it again with the same texts gives the cleared payload
pub again : Again kind size left written_form writes stores
unfolding writes stores answered stored
again =
    image.again kind size left _ _ _ (λ s v n r d room. ap (λ (x : NodeId). wire (meaning s x)) (record_in_image s d room) ∙ ap wire r.value) (λ s v n r d room out.
    let test : write_refusal s (record_at (left s d)) ≡ None = ap (write_refusal s) (record_in_image s d room) ∙ writable r in
    rw test (refl, refl))
