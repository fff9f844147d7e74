-- What stands in the image of a read is the record that was read, and writing it gives the cleared payload. No contract cites this file.
use Prim.Native.Nat.{ℕ, ◌^◌, ◌≤◌, ◌<◌}
use native.Mathlib.Omega.{arith}
use mathlib.Core.Path.{◌≡◌, refl, ap, ◌∙◌}
use mathlib.Core.Bool.{Bool}
use mathlib.Core.List.{List, [], ◌∷◌}
use lib.ListN.{length, drop, get_or, length-append}
use Rattle.std.specs.Prelude.{Option, Some, None, is_some, unwrap_or, option_map}
use Rattle.std.specs.Bool.{then_some}
use Rattle.types.specs.declared.Teid.{Teid}
use Rattle.octets.specs.Octets.{if_set, Bytes, field, address_of, number_of}
use Rattle.octets.proofs.Laws.{bytes_take, bytes_drop}
use Rattle.kind.specs.Layout.{Outcome, accepts, refuses, outcome}
use Rattle.outer_header_creation.specs.declared.OuterHeaderCreation.{OuterHeaderCreation}
use Rattle.outer_header_creation.specs.OuterHeaderCreation.{Flags, flags_of, byte_of, asked, teid_of, record_with, meaning, wire, layout, refused, found, read}
use Rattle.outer_header_creation.specs.Steps.{ends_of}
use Rattle.outer_header_creation.proofs.OfKind.{kind}
use Rattle.image.specs.Image.{read_image}
use Rattle.image.proofs.Laws.{length_little_endian_bytes_law}
use Rattle.image.proofs.Back.{flag_back, number_below_law, last, byte, number16, number32, length_address, address, ImageOf, image_left, Again}
use Rattle.image.proofs.Back as image
use Rattle.outer_header_creation_image.specs.OuterHeaderCreationImage.{size, record_image, image_of, record_at, written_form, writes, stores}

-- the flags of their byte
flags_back : (f : Flags) → flags_of (byte_of f) ≡ f
flags_back f =
    let flags = f.gtpu_udp_ipv4 ∷ f.gtpu_udp_ipv6 ∷ f.udp_ipv4 ∷ f.udp_ipv6 ∷ f.ipv4 ∷ f.ipv6 ∷ f.ctag ∷ f.stag ∷ [] in
    rw (flag_back flags 0, flag_back flags 1, flag_back flags 2, flag_back flags 3, flag_back flags 4)
    (rw (flag_back flags 5, flag_back flags 6, flag_back flags 7))

-- a field that is given or 0, by whether it is given
kept : (o : Option ℕ) → then_some (is_some o) (unwrap_or o 0) ≡ o
kept (Some x) = refl
kept None = refl

kept_teid : (o : Option Teid) → then_some (is_some o) (record { 0 = (unwrap_or o (record { 0 = 0 })).0 }) ≡ o
kept_teid (Some t) = refl
kept_teid None = refl

-- a record as a reader makes it
abbrev its : Flags → Option Teid → (p q : List ℕ) → Option ℕ → Option ℕ → Option ℕ → OuterHeaderCreation
its f teid p q port ctag stag =
    record { description = f; teid = teid; ipv4_address = address_of 4 p; ipv6_address = address_of 16 q; port_number = port; ctag = ctag; stag = stag }

abbrev Kept : OuterHeaderCreation → Type 0
Kept r = ImageOf 54 record_at (record_image r) r

laid : (f : Flags) (teid : Option Teid) (p q : List ℕ) (port ctag stag : Option ℕ)
    → (unwrap_or teid (record { 0 = 0 })).0 < 256 ^ 4
    → unwrap_or port 0 < 256 ^ 2
    → unwrap_or ctag 0 < 256 ^ 4
    → unwrap_or stag 0 < 256 ^ 4
    → Kept (its f teid p q port ctag stag)
unfolding record_image record_at
laid f teid p q port ctag stag small₁ small₂ small₃ small₄ =
    let given = is_some (address_of 4 p) ∷ is_some (address_of 16 q) ∷ is_some teid ∷ is_some port ∷ is_some ctag ∷ is_some stag ∷ [] in
    record {
      size_is = simp (length-append, length_little_endian_bytes_law, length_address) (omega arith);
      found = λ m h.
          let (e₀, h₁) = byte h in
          let (e₁, h₂) = byte h₁ in
          let (e₂, h₃) = number32 (unwrap_or teid (record { 0 = 0 })).0 small₁ h₂ in
          let (e₃, h₄) = number16 (unwrap_or port 0) small₂ h₃ in
          let (e₄, h₅) = number32 (unwrap_or ctag 0) small₃ h₄ in
          let (e₅, h₆) = number32 (unwrap_or stag 0) small₄ h₅ in
          let (e₆, h₇) = address 4 p (omega arith) h₆ in
          let (e₇, h₈) = address 16 q (omega arith) (last h₇) in
          rw (e₀, e₁, flags_back f, flag_back given 0, flag_back given 1, flag_back given 2)
          (rw (flag_back given 3, flag_back given 4, flag_back given 5, e₂, e₃, e₄, e₅, e₆, e₇, kept_teid teid, kept port, kept ctag, kept stag));
    }

-- the TEID of bytes has their number
teid_below : (bs : List ℕ) → Bytes bs → (unwrap_or (teid_of bs) (record { 0 = 0 })).0 < 256 ^ 4
teid_below bs b = rw (same (number_of 4 bs)) (number_below_law 4 bs b (omega arith))
  where
    same : (o : Option ℕ) → (unwrap_or (option_map {U = Teid} (λ x. record { 0 = x }) o) (record { 0 = 0 })).0 ≡ unwrap_or o 0
    same (Some x) = refl
    same None = refl

by_outcome : (s : List ℕ) → Bytes s → (o : Outcome) → Kept (found s o).«record»
unfolding found refused record_with ends_of address_of
by_outcome s b (accepts n) =
    let f = flags_of (get_or s 0 0) in
    let a = asked f in
    let e = ends_of a in
    let part : ℕ → Bool → ℕ → List ℕ = λ at sent w. field s at (if_set sent w) in
    let bytes : (at : ℕ) (sent : Bool) (w : ℕ) → Bytes (part at sent w) = λ at sent w. bytes_take (if_set sent w) (drop at s) (bytes_drop at s b) in
    laid f
    (teid_of (part 2 a.teid 4))
    (part e.teid a.ipv4 4)
    (part e.ipv4 a.ipv6 16)
    (number_of 2 (part e.ipv6 a.port 2))
    (number_of 4 (part e.port a.ctag 3))
    (number_of 4 (part e.ctag a.stag 3))
    (teid_below _ (bytes 2 a.teid 4))
    (number_below_law 2 _ (bytes e.ipv6 a.port 2) (omega arith))
    (number_below_law 4 _ (bytes e.port a.ctag 3) (omega arith))
    (number_below_law 4 _ (bytes e.ctag a.stag 3) (omega arith))
by_outcome s b (refuses a) = laid (flags_of 0x00) None [] [] None None None (omega arith) (omega arith) (omega arith) (omega arith)

-- the memory that a read of s left
abbrev pub left : List ℕ → List ℕ → List ℕ
left s d = read_image size d (image_of (read s))

-- the record that stands there is the one that was read
pub record_in_image : (s d : List ℕ) → Bytes s → size ≤ length d → record_at (left s d) ≡ (read s).«record»
unfolding read
record_in_image s d b room = image_left 54 (by_outcome s b (outcome layout s)) _ _ d room

-- and so, where the read was done, writing it again gives the cleared payload
pub again : Again kind size left (λ m s. written_form m) (λ m s. writes m) (λ m s. stores m)
unfolding writes stores
again =
    image.again kind size left _ _ _
    (λ s v n r d room. ap (λ (x : OuterHeaderCreation). wire (meaning x)) (record_in_image s d r.bytes room) ∙ ap wire r.value) (λ s v n r d room out. (refl, refl))
