-- The distance of sequence numbers, as request K1 has it: counted around 2 to the 24th, from -8,388,608 to 8,388,607.
use Rattle.std.specs.Prelude.{◌≡◌, ℕ, ◌+◌, ◌-◌, ◌%◌, Bool, true, false, ◌&&◌, ℤ, pos, negsuc, ◌+ℤ◌, ◌-ℤ◌, ◌*ℤ◌, neg_ℤ, ◌≤ℤ◌, ◌≢◌, nat_le, nat_lt}
use Rattle.answer.specs.declared.Answer.TheVariants.{Done, NoSequenceNumber}
use Rattle.distance.specs.declared.Distance.{Distance}

-- how many steps forward around the circle lead from one number to the other
abbrev pub forward : ℕ → ℕ → ℕ
forward from to = (to + (16777216 - from)) % 16777216

-- that many steps, or from half the circle on the steps back, counted below 0
abbrev pub signed : Bool → ℕ → ℤ
signed true f = pos f
signed false f = pos f -ℤ pos 16777216

-- the distance of two sequence numbers
abbrev pub signed_distance : ℕ → ℕ → ℤ
signed_distance from to = signed (nat_lt (forward from to) 8388608) (forward from to)

-- 10, and 0 for the distance, when either number is above 16,777,215
abbrev pub answered : Bool → ℤ → Distance
answered true d = record { answer = Done; value = d }
answered false d = record { answer = NoSequenceNumber; value = pos 0 }

unfoldable pub distance : ℕ → ℕ → Distance
distance from to = answered (nat_le from 16777215 && nat_le to 16777215) (signed_distance from to)

-- ---- what the distance of two sequence numbers is worth (proved in proofs/Laws.antt)

-- the integer -8,388,608: `negsuc n` is -1 - n
abbrev pub lowest : ℤ
lowest = negsuc 8388607

pub record InRange (d : ℤ) : Type 0 where
  pub low : lowest ≤ℤ d
  pub high : d ≤ℤ pos 8388607

-- from and d make to, some whole turns around the circle aside
pub record Leads (from : ℕ) (d : ℤ) (to : ℕ) : Type 0 where
  pub turns : ℤ
  pub meets : pos from +ℤ d ≡ pos to +ℤ turns *ℤ pos 16777216

pub record Laws (from to : ℕ) : Type 0 where
  -- it is the one number in range that leads from the first to the second
  pub range : InRange (signed_distance from to)
  pub leads : Leads from (signed_distance from to) to
  pub only : (d : ℤ) → InRange d → Leads from d to → d ≡ signed_distance from to
  -- swapping the numbers negates it, except at half the circle, where both ways give -8,388,608
  pub swap : (signed_distance from to ≢ lowest) → signed_distance to from ≡ neg_ℤ (signed_distance from to)
  pub half : signed_distance from to ≡ lowest → signed_distance to from ≡ lowest
  -- a number's distance to itself
  pub self : signed_distance from from ≡ pos 0
