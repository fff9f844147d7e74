-- The written form of the record that stands in an image, piece by piece from the image's bytes. No contract cites this file.
use Prim.Native.Nat.{ℕ, ◌+◌, ◌%◌, ◌≤◌, ◌<◌}
use native.Mathlib.Nat.{mod-eq_of_lt}
use native.Mathlib.Omega.{arith}
use mathlib.Core.Path.{◌≡◌, refl, sym, ap, ◌∙◌}
use mathlib.Core.Bool.{Bool, true, false, ◌&&◌}
use mathlib.Core.List.{List, [], ◌∷◌, flatten}
use lib.Dec.{eqb}
use lib.ListN.{length, get_or, length-append}
use Rattle.std.specs.Prelude.{Some, None, option_map, is_some, unwrap_or}
use Rattle.std.specs.Bool.{then_some}
use Rattle.types.specs.declared.Teid.{Teid}
use Rattle.octets.specs.Octets.{pick, bit, if_set, field, address_of, bytes_if, big_endian_bytes, number_if, put}
use Rattle.octets.proofs.Laws.{if_set_le_law, flags_kept, length_field, length_number_if, address_written, put_nil, Puts, ends, then, put_row}
use Rattle.image.specs.Image.{number_at}
use Rattle.outer_header_creation.specs.OuterHeaderCreation.{flags_of, byte_of, asked, sent_if, meaning, wire}
use Rattle.outer_header_creation.proofs.Laws.{sent_anyway}
use Rattle.outer_header_creation.specs.declared.SentFields.{SentFields}
use Rattle.outer_header_creation.specs.Steps.{ends_of}
use Rattle.outer_header_creation_image.specs.OuterHeaderCreationImage.{flags_at, given_at, teid_at, port_at, ctag_at, stag_at, ipv4_at, ipv6_at, size, record_at, written_form}
use Rattle.outer_header_creation_image.specs.Steps.{sends_by, address_sent}

-- a field that is sent moves the place behind it, one that isn't leaves it
module _ (at w : ℕ) (sent : Bool) where
  pub moves : sent ≡ true → at + w ≡ at + if_set sent w
  unfolding if_set
  moves h = rw h

  pub stays : sent ≡ false → at ≡ at + if_set sent w
  unfolding if_set
  stays h = rw h (omega arith)

-- no form is longer than the longest
pub length_most : (a : SentFields) → (ends_of a).stag ≤ 34
unfolding ends_of
length_most a =
    omega (
      arith,
      if_set_le_law a.teid 4,
      if_set_le_law a.ipv4 4,
      if_set_le_law a.ipv6 16,
      if_set_le_law a.port 2,
      if_set_le_law a.ctag 3,
      if_set_le_law a.stag 3,
    )

-- the byte of the flags of a byte is that byte
flags_byte : (f : ℕ) → f < 256 → byte_of (flags_of f) ≡ f
flags_byte f h = flags_kept 8 f ∙ mod-eq_of_lt h

-- an address that isn't sent has no bytes
pub no_address : (n : ℕ) (m : List ℕ) (at : ℕ) → address_sent n m at false ≡ []
unfolding address_sent address_of if_set bytes_if
no_address n m at = go (eqb 0 n)
  where
    go : (t : Bool) → bytes_if (pick t (Some []) None) ≡ []
    go true = refl
    go false = refl

-- a number that stands in an image, under its flags
number_asked : (f g : Bool) (x : ℕ) → number_if 3 (then_some (f && g) x) ≡ sent_if f (number_if 3 (then_some g x))
unfolding number_if sent_if
number_asked true g x = refl
number_asked false g x = refl

or_zero : (g : Bool) (x : ℕ) → unwrap_or (then_some g x) 0 ≡ if_set g x
unfolding if_set
or_zero true x = refl
or_zero false x = refl

number_anyway : (w : ℕ) (f g : Bool) (x : ℕ) → number_if w (then_some f (if_set g x)) ≡ sent_if f (big_endian_bytes w (unwrap_or (then_some g x) 0))
number_anyway w f g x = rw (← or_zero g x) (sent_anyway w f (then_some g x))

teid_given : (g : Bool) (x : ℕ) → option_map {T = Teid} (λ t. t.0) (then_some g (record { 0 = x })) ≡ then_some g x
teid_given true x = refl
teid_given false x = refl

number_long : (s : Bool) (w x : ℕ) → length (number_if w (then_some s x)) ≡ if_set s w
number_long s w x = length_number_if w (then_some s x) ∙ ap (λ b. if_set b w) (known s)
  where
    known : (s : Bool) → is_some (then_some s x) ≡ s
    known true = refl
    known false = refl

-- an address under its flags, and how long it is where the image has its bytes
module _ (m : List ℕ) where
  address_asked : (n at : ℕ) (f g : Bool) → address_sent n m at (f && g) ≡ sent_if f (address_sent n m at g)
  unfolding sent_if
  address_asked n at true g = refl
  address_asked n at false g = no_address n m at

  length_address : (n at : ℕ) (s : Bool) → 0 < n → at + n ≤ length m → length (address_sent n m at s) ≡ if_set s n
  unfolding address_sent
  length_address n at s h room =
      let l : length (field m at (if_set s n)) ≡ if_set s n = length_field at (if_set s n) m (omega (arith, if_set_le_law s n)) in
      ap length (address_written s (field m at (if_set s n)) n h l) ∙ l

-- what is read from an image: its flags and given fields, which fields are sent, and the numbers
pub record Parts (m : List ℕ) (f g : ℕ) (s6 s1 s2 s7 s8 s9 : Bool) (teid port ctag stag : ℕ) : Type 0 where
  pub long : size ≤ length m
  pub small : f < 256
  pub flags : f ≡ get_or m flags_at 0
  pub given : g ≡ get_or m given_at 0
  pub sent_teid : s6 ≡ (sends_by f g).teid
  pub sent_ipv4 : s1 ≡ (sends_by f g).ipv4
  pub sent_ipv6 : s2 ≡ (sends_by f g).ipv6
  pub sent_port : s7 ≡ (sends_by f g).port
  pub sent_ctag : s8 ≡ (sends_by f g).ctag
  pub sent_stag : s9 ≡ (sends_by f g).stag
  pub teid_is : teid ≡ if_set (bit 2 g) (number_at m teid_at % 4294967296)
  pub port_is : port ≡ if_set (bit 3 g) (number_at m port_at % 65536)
  pub ctag_is : ctag ≡ number_at m ctag_at % 4294967296
  pub stag_is : stag ≡ number_at m stag_at % 4294967296

module _ {m : List ℕ} {f g : ℕ} {s6 s1 s2 s7 s8 s9 : Bool} {teid port ctag stag : ℕ} (p : Parts m f g s6 s1 s2 s7 s8 s9 teid port ctag stag) where
  abbrev pieces : List (List ℕ)
  pieces =
      (f ∷ [])
      ∷ (0 ∷ [])
      ∷ number_if 4 (then_some s6 teid)
      ∷ address_sent 4 m ipv4_at s1
      ∷ address_sent 16 m ipv6_at s2
      ∷ number_if 2 (then_some s7 port)
      ∷ number_if 3 (then_some s8 ctag)
      ∷ number_if 3 (then_some s9 stag)
      ∷ []

  -- together they are the form
  pub long_enough : flatten pieces ≡ written_form m
  unfolding wire meaning record_at flatten address_sent
  long_enough =
      let a = asked (flags_of f) in
      rw (
        ← p.flags,
        ← p.given,
        flags_byte f p.small,
        p.sent_teid,
        p.sent_ipv4,
        p.sent_ipv6,
        p.sent_port,
        p.sent_ctag,
        p.sent_stag,
        p.teid_is,
        p.port_is,
        p.ctag_is,
        p.stag_is,
        teid_given (bit 2 g) (number_at m teid_at % 4294967296),
        number_anyway 4 a.teid (bit 2 g) (number_at m teid_at % 4294967296),
        address_asked m 4 ipv4_at a.ipv4 (bit 0 g),
        address_asked m 16 ipv6_at a.ipv6 (bit 1 g),
        number_anyway 2 a.port (bit 3 g) (number_at m port_at % 65536),
        number_asked a.ctag (bit 4 g) (number_at m ctag_at % 4294967296),
        number_asked a.stag (bit 5 g) (number_at m stag_at % 4294967296),
      )

  -- and so long
  count : length (flatten pieces) ≡ 2 + if_set s6 4 + if_set s1 4 + if_set s2 16 + if_set s7 2 + if_set s8 3 + if_set s9 3
  unfolding flatten
  count =
      simp (
        length-append,
        number_long s6 4 teid,
        length_address m 4 ipv4_at s1 (omega arith) (omega (arith, p.long)),
        length_address m 16 ipv6_at s2 (omega arith) (omega (arith, p.long)),
        number_long s7 2 port,
        number_long s8 3 ctag,
        number_long s9 3 stag,
      )
      (omega arith)

  -- each field begins where the one before ends
  module _ (n6 n1 n2 n7 n8 n9 : ℕ) (e6 : n6 ≡ 2 + if_set s6 4) (e1 : n1 ≡ n6 + if_set s1 4) (e2 : n2 ≡ n1 + if_set s2 16) (e7 : n7 ≡ n2 + if_set s7 2) (e8 : n8 ≡ n7 + if_set s8 3) (e9 : n9 ≡ n8 + if_set s9 3) where
    pub last : n9 ≡ (ends_of (sends_by f g)).stag
    unfolding ends_of
    last = rw (e9, e8, e7, e2, e1, e6, p.sent_teid, p.sent_ipv4, p.sent_ipv6, p.sent_port, p.sent_ctag, p.sent_stag)

    module _ (d d1 d2 d3 d4 d5 d6 d7 d8 : List ℕ)
        (q1 : d1 ≡ put d 0 (f ∷ []))
        (q2 : d2 ≡ put d1 1 (0 ∷ []))
        (q3 : d3 ≡ put d2 2 (number_if 4 (then_some s6 teid)))
        (q4 : d4 ≡ put d3 n6 (address_sent 4 m ipv4_at s1))
        (q5 : d5 ≡ put d4 n1 (address_sent 16 m ipv6_at s2))
        (q6 : d6 ≡ put d5 n2 (number_if 2 (then_some s7 port)))
        (q7 : d7 ≡ put d6 n7 (number_if 3 (then_some s8 ctag)))
        (q8 : d8 ≡ put d7 n8 (number_if 3 (then_some s9 stag))) where
      row : Puts d 0 (flatten pieces) d8
      unfolding flatten
      row =
          then _ 1 q1 refl
          (then _ 2 q2 refl
          (then _ n6 q3 (omega (arith, number_long s6 4 teid))
          (then _ n1 q4 (omega (arith, length_address m 4 ipv4_at s1 (omega arith) (omega (arith, p.long))))
          (then _ n2 q5 (omega (arith, length_address m 16 ipv6_at s2 (omega arith) (omega (arith, p.long))))
          (then _ n7 q6 (omega (arith, number_long s7 2 port))
          (then _ n8 q7 (omega (arith, number_long s8 3 ctag))
          (then _ n9 q8 (omega (arith, number_long s9 3 stag))
          (ends (sym (put_nil d8 n9))))))))))

      pub stored : (ends_of (sends_by f g)).stag ≤ length d → d8 ≡ put d 0 (written_form m)
      stored room =
          let fits : 0 + length (flatten pieces) ≤ length d = omega (arith, count, last) in
          put_row row fits ∙ ap (put d 0) long_enough

-- how long the form is
pub form_length : (m : List ℕ) (f g : ℕ) → size ≤ length m → f < 256 → f ≡ get_or m flags_at 0 → g ≡ get_or m given_at 0 → length (written_form m) ≡ (ends_of (sends_by f g)).stag
form_length m f g long small fq gq =
    let p : Parts m f g _ _ _ _ _ _ _ _ _ _ =
    record {
      long = long;
      small = small;
      flags = fq;
      given = gq;
      sent_teid = refl;
      sent_ipv4 = refl;
      sent_ipv6 = refl;
      sent_port = refl;
      sent_ctag = refl;
      sent_stag = refl;
      teid_is = refl;
      port_is = refl;
      ctag_is = refl;
      stag_is = refl;
    }
    in
    ap length (sym (long_enough p)) ∙ count p ∙ last p _ _ _ _ _ _ refl refl refl refl refl refl
