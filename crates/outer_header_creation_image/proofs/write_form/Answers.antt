-- `outer_header_creation_image::write_form` meets its contract: by the room.
use Prim.Native.Nat.{ℕ, ◌≤◌, ◌<◌}
use mathlib.Core.Path.{◌≡◌, sym, ◌∙◌}
use mathlib.Core.Bool.{Bool, true, false, not}
use mathlib.Core.List.{List}
use lib.Dec.{leb}
use lib.ListN.{length, get_or}
use borrow.Author.Tests.{leb-true, leb-false, not-true, not-false}
use Rattle.answer.specs.declared.Answer.TheVariants.{Done, NoRoom}
use Rattle.octets.specs.Octets.{put}
use Rattle.octets.proofs.Laws.{ends}
use Rattle.kind.proofs.Cases.{no_room, all_put}
use Rattle.outer_header_creation_image.specs.OuterHeaderCreationImage.{flags_at, given_at, size, written_form, writes, stores}
use Rattle.outer_header_creation.specs.declared.SentFields.{SentFields}
use Rattle.outer_header_creation.specs.declared.FieldEnds.{FieldEnds}
use Rattle.outer_header_creation.specs.Steps.{ends_of}
use Rattle.outer_header_creation_image.specs.Steps.{sends_by}
use Rattle.outer_header_creation_image.proofs.Writing.{form_length}
use Rattle.outer_header_creation_image.proofs.write_form.Goals as goal

module _ (f g n : ℕ) (t : Bool) (e : t ≡ leb (ends_of (sends_by f g)).stag n) where
  fits : not t ≡ false → (ends_of (sends_by f g)).stag ≤ n
  fits h = leb-true _ _ (sym e ∙ not-false t h)

  lacks : not t ≡ true → n < (ends_of (sends_by f g)).stag
  lacks h = leb-false _ _ (sym e ∙ not-true t h)

module _ (m d : List ℕ) (f g n : ℕ) (long : size ≤ length m) (small : get_or m flags_at 0 < 256) (fq : f ≡ get_or m flags_at 0) (gq : g ≡ get_or m given_at 0) (nq : n ≡ (ends_of (sends_by f g)).stag) where
  is_long : length (written_form m) ≡ n
  is_long = form_length m f g long (rw fq small) fq gq ∙ sym nq

  refuses : length d < (ends_of (sends_by f g)).stag → (record { answer = NoRoom n; len = 0 } ≡ writes m d) × (d ≡ stores m d)
  unfolding writes stores
  refuses h = no_room d (written_form m) n is_long (rw nq h)

  done : (o : List ℕ) → (ends_of (sends_by f g)).stag ≤ length d → o ≡ put d 0 (written_form m) → (record { answer = Done; len = n } ≡ writes m d) × (o ≡ stores m d)
  unfolding writes stores
  done o h q = all_put d (written_form m) n is_long o (rw nq h) (ends q)

needed : (f g : ℕ) (a : SentFields) (e : FieldEnds) → a ≡ sends_by f g → e ≡ ends_of a → e.stag ≡ (ends_of (sends_by f g)).stag
needed f g a e p q = rw (q, p)

pub returns-then-not-has_room : goal.returns-then-not-has_room
returns-then-not-has_room c = let all = refuses _ _ c.byte_at-flags.result c.byte_at-given.result _ c.requires (c.shared_slice_known-1.given flags_at).fits c.byte_at-flags.ensures c.byte_at-given.ensures (needed c.byte_at-flags.result c.byte_at-given.result _ _ c.sends.ensures c.ends-ends.ensures.value) (lacks c.byte_at-flags.result c.byte_at-given.result _ _ c.has_room.ensures c.if-not-has_room.true-raw) in record { value = all.0; out_after = all.1 }

pub put_form-len-requires : goal.put_form-len-requires
put_form-len-requires c =
    record { whole_image = c.requires; flags_of_image = c.byte_at-flags.ensures; given_of_image = c.byte_at-given.ensures; room = fits c.byte_at-flags.result c.byte_at-given.result _ _ c.has_room.ensures c.if-not-has_room.false-raw }

pub returns : goal.returns
returns c =
    let q = c.put_form-len.ensures in let all = done _ _ c.byte_at-flags.result c.byte_at-given.result _ c.requires (c.shared_slice_known-1.given flags_at).fits c.byte_at-flags.ensures c.byte_at-given.ensures q.value _ (fits c.byte_at-flags.result c.byte_at-given.result _ _ c.has_room.ensures c.if-not-has_room.false-raw) q.out_after in record { value = all.0; out_after = all.1 }
