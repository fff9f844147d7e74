-- Record images: what a read or a write hands over, in lent bytes of a fixed layout.
use Rattle.std.specs.Prelude.{ℕ, zero, suc, ◌+◌, ◌-◌, ◌*◌, ◌/◌, ◌%◌, Bool, ◌&&◌, List, [], ◌∷◌, ◌++◌, leb, length, replicate, Option, unwrap_or}
use Rattle.answer.specs.declared.Answer.{Answer}
use Rattle.answer.specs.declared.Written.{Written}
use Rattle.answer.specs.Paper.{number_of, values_of}
use Rattle.octets.specs.Octets.{pick, field, put}

-- the lowest w bytes of a number, least significant first
unfoldable pub little_endian_bytes : ℕ → ℕ → List ℕ
little_endian_bytes zero x = []
little_endian_bytes (suc w) x = x % 256 ∷ little_endian_bytes w (x / 256)

-- the number whose bytes these are, least significant first
unfoldable pub little_endian : List ℕ → ℕ
little_endian [] = 0
little_endian (b ∷ bs) = b + 256 * little_endian bs

-- the number that stands at a place
abbrev pub number_at : List ℕ → ℕ → ℕ
number_at m at = little_endian (field m at 8)

-- the n bytes of an address, zeros where it is absent
unfoldable pub address_bytes : ℕ → Option (List ℕ) → List ℕ
address_bytes n a = unwrap_or a (replicate n 0)

-- what an image begins with: the answer's number and values, and the used count
unfoldable pub head : Answer → ℕ → List ℕ
head a count =
    little_endian_bytes 8 (number_of a)
    ++ (little_endian_bytes 8 (values_of a).0
    ++ (little_endian_bytes 8 (values_of a).1
    ++ (little_endian_bytes 8 (values_of a).2
    ++ little_endian_bytes 8 count)))

-- five numbers of eight bytes
abbrev pub head_size : ℕ
head_size = 5 * 8

-- the image of a refused read, of so many bytes in all: its used count and its empty record are zeros
unfoldable pub refusal_image : ℕ → Answer → List ℕ
refusal_image size a = head a 0 ++ replicate (size - head_size) 0

-- the report of a write: the same head, with the written length
abbrev pub report : Written → List ℕ
report w = head w.answer w.len

-- ---- reading into an image of so many bytes

-- the answer's number, and 8 where the lent memory is shorter than that
unfoldable pub read_number : ℕ → List ℕ → Answer → ℕ
read_number size d a = pick (leb size (length d)) (number_of a) 8

-- the lent memory with the image's bytes first, and as it was where it is shorter than that
unfoldable pub read_image : ℕ → List ℕ → List ℕ → List ℕ
read_image size d bytes = pick (leb size (length d)) (put d 0 bytes) d

-- ---- writing an image of so many bytes, with a report

-- neither is shorter than what it holds
abbrev pub long_enough : ℕ → List ℕ → List ℕ → Bool
long_enough size image report = leb size (length image) && leb head_size (length report)

-- the answer's number, and 8 where either is shorter
unfoldable pub write_number : Bool → Written → ℕ
write_number ok w = pick ok (number_of w.answer) 8

-- the output as the write leaves it, and as it was where either is shorter
unfoldable pub write_output : Bool → List ℕ → List ℕ → List ℕ
write_output ok new old = pick ok new old

-- the report with what was written, and as it was where either is shorter
unfoldable pub write_report : Bool → List ℕ → Written → List ℕ
write_report ok d w = pick ok (put d 0 (report w)) d
