-- `outer_header_creation_image::put_address_sent` meets its contract: by whether the address is sent.
use Prim.Native.Nat.{ℕ}
use mathlib.Core.Path.{◌≡◌, sym, ap, ◌∙◌}
use mathlib.Core.Bool.{Bool, true, false}
use mathlib.Core.List.{List}
use Rattle.std.specs.Prelude.{Option}
use Rattle.octets.specs.Octets.{if_set, field, address_of, bytes_if, put}
use Rattle.octets.proofs.Laws.{put_nil}
use Rattle.outer_header_creation_image.specs.Steps.{address_sent}
use Rattle.outer_header_creation_image.proofs.Writing.{moves, stays, no_address}
use Rattle.outer_header_creation_image.proofs.put_address_sent.Goals as goal

module _ (n : ℕ) (m : List ℕ) (from : ℕ) (sent : Bool) (d : List ℕ) (at : ℕ) where
  there : (e : List ℕ) (a : Option (List ℕ)) → sent ≡ true → a ≡ address_of n (field m from (if_set true n)) → e ≡ put d at (bytes_if a) → e ≡ put d at (address_sent n m from sent)
  unfolding address_sent
  there e a h p q = rw h (rw p at q)

  absent : sent ≡ false → d ≡ put d at (address_sent n m from sent)
  absent h = rw h (sym (ap (put d at) (no_address n m from) ∙ put_nil d at))

pub returns-then-sent : goal.returns-then-sent
returns-then-sent g c = record { value = search moves; out_after = search there }

pub returns : goal.returns
returns g c = record { value = search stays; out_after = search absent }
