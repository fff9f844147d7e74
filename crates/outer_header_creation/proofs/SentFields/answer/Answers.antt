-- `outer_header_creation::SentFields::answer` meets its contract: at each return, the tests that led there.
use Prim.Native.Nat.{ℕ, ◌≤◌, ◌<◌}
use native.Mathlib.Omega.{arith}
use mathlib.Core.Path.{◌≡◌}
use lib.Dec.{leb}
use borrow.Author.Tests.{le-leb, lt-leb}
use Rattle.answer.specs.declared.Answer.{Answer}
use Rattle.answer.specs.declared.Answer.TheVariants.{Done, Short}
use Rattle.octets.specs.Octets.{pick}
use Rattle.kind.specs.Layout.{Outcome, accepts, refuses, walk}
use Rattle.outer_header_creation.specs.declared.SentFields.{SentFields}
use Rattle.outer_header_creation.specs.declared.FieldEnds.{FieldEnds}
use Rattle.outer_header_creation.specs.OuterHeaderCreation.{fields_of}
use Rattle.outer_header_creation.specs.Steps.{ends_of, Rising, answer_of}
use Rattle.outer_header_creation.proofs.SentFields.answer.Goals as goal

-- the walk, by the ends
module _ (a : SentFields) (n : ℕ) (e : FieldEnds) (here : e ≡ ends_of a) where
  field_ends : ℕ → ℕ → Outcome → Outcome
  field_ends number end rest = pick (leb end n) rest (refuses (Short number end n))

  walked : walk n 2 (fields_of a) ≡ field_ends 6 e.teid (field_ends 1 e.ipv4 (field_ends 2 e.ipv6 (field_ends 7 e.port (field_ends 8 e.ctag (field_ends 9 e.stag (accepts e.stag))))))
  unfolding walk ends_of field_ends
  walked = rw here

  module _ (r : Answer) where
    done : Rising e → e.stag ≤ n → r ≡ Done → r ≡ answer_of (walk n 2 (fields_of a))
    unfolding field_ends
    done k h q = rw (walked, le-leb e.teid n (omega arith), le-leb e.ipv4 n (omega arith), le-leb e.ipv6 n (omega arith), le-leb e.port n (omega arith), le-leb e.ctag n (omega arith), le-leb e.stag n h) q

    stop6 : n < e.teid → r ≡ Short 6 e.teid n → r ≡ answer_of (walk n 2 (fields_of a))
    unfolding field_ends
    stop6 g q = rw (walked, lt-leb e.teid n g) q

    module _ (h6 : e.teid ≤ n) where
      stop1 : n < e.ipv4 → r ≡ Short 1 e.ipv4 n → r ≡ answer_of (walk n 2 (fields_of a))
      unfolding field_ends
      stop1 g q = rw (walked, le-leb e.teid n h6, lt-leb e.ipv4 n g) q

      module _ (h1 : e.ipv4 ≤ n) where
        stop2 : n < e.ipv6 → r ≡ Short 2 e.ipv6 n → r ≡ answer_of (walk n 2 (fields_of a))
        unfolding field_ends
        stop2 g q = rw (walked, le-leb e.teid n h6, le-leb e.ipv4 n h1, lt-leb e.ipv6 n g) q

        module _ (h2 : e.ipv6 ≤ n) where
          stop7 : n < e.port → r ≡ Short 7 e.port n → r ≡ answer_of (walk n 2 (fields_of a))
          unfolding field_ends
          stop7 g q = rw (walked, le-leb e.teid n h6, le-leb e.ipv4 n h1, le-leb e.ipv6 n h2, lt-leb e.port n g) q

          module _ (h7 : e.port ≤ n) where
            stop8 : n < e.ctag → r ≡ Short 8 e.ctag n → r ≡ answer_of (walk n 2 (fields_of a))
            unfolding field_ends
            stop8 g q = rw (walked, le-leb e.teid n h6, le-leb e.ipv4 n h1, le-leb e.ipv6 n h2, le-leb e.port n h7, lt-leb e.ctag n g) q

            stop9 : e.ctag ≤ n → n < e.stag → r ≡ Short 9 e.stag n → r ≡ answer_of (walk n 2 (fields_of a))
            unfolding field_ends
            stop9 h8 g q = rw (walked, le-leb e.teid n h6, le-leb e.ipv4 n h1, le-leb e.ipv6 n h2, le-leb e.port n h7, le-leb e.ctag n h8, lt-leb e.stag n g) q

pub returns-then-ends-n : goal.returns-then-ends-n
returns-then-ends-n c = search done

pub returns-then-n-ends : goal.returns-then-n-ends
returns-then-n-ends c = search stop6

pub returns-then-n-ends-2 : goal.returns-then-n-ends-2
returns-then-n-ends-2 c = search stop1

pub returns-then-n-ends-3 : goal.returns-then-n-ends-3
returns-then-n-ends-3 c = search stop2

pub returns-then-n-ends-4 : goal.returns-then-n-ends-4
returns-then-n-ends-4 c = search stop7

pub returns-then-n-ends-5 : goal.returns-then-n-ends-5
returns-then-n-ends-5 c = search stop8

pub returns : goal.returns
returns c = search stop9
