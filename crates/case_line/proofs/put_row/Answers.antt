-- `case_line::put_row` meets its contract: three puts, one behind the other, are one put of the row.
use Prim.Native.Nat.{ℕ, ◌+◌, ◌*◌, ◌/◌, ◌<◌, ◌≤◌}
use native.Mathlib.Omega.{arith}
use mathlib.Core.Path.{◌≡◌}
use mathlib.Core.List.{List, [], ◌∷◌, ◌++◌}
use Rattle.std.specs.Prelude.{Some}
use lib.Dec.{eqb}
use lib.ListN.{length, length-append}
use Rattle.octets.specs.Octets.{if_set, put}
use Rattle.hex_text.specs.Hex.{decimal}
use Rattle.case_line.specs.Line.{row, hex_or_dash}
use Rattle.case_line.proofs.Laws.{two_puts, Puts, puts_none, puts_all, length_hex_or_dash_law, length_shown, three_parts}
use Rattle.case_line.proofs.put_row.Goals as goal

-- an output that is too short, by the bytes alone or by the whole row
small : (d : List ℕ) (number used : ℕ) (bs : List ℕ) → length d / 2 < length bs → Puts (Some (row number used bs)) d d 0
small d number used bs h = puts_none _ d (omega (arith, length_shown number used bs, length_hex_or_dash_law bs))

short : (d : List ℕ) (number used l m u : ℕ) (bs : List ℕ) → l ≡ length (decimal number) → m ≡ length (decimal used) → u ≡ if_set (eqb (length bs) 0) 1
    → length d < l + 1 + m + 1 + 2 * length bs + u + 1 → Puts (Some (row number used bs)) d d 0
short d number used l m u bs el em eu h = puts_none _ d (omega (arith, length_shown number used bs, length_hex_or_dash_law bs))

-- from what the calls on the way handed over
rowed : (d d1 d2 d3 : List ℕ) (number used l m u : ℕ) (bs : List ℕ) → l ≡ length (decimal number) → m ≡ length (decimal used) → u ≡ if_set (eqb (length bs) 0) 1
    → l + 1 + m + 1 + 2 * length bs + u + 1 ≤ length d
    → d1 ≡ put d 0 (decimal number ++ (0x20 ∷ []))
    → d2 ≡ put d1 (l + 1) (decimal used ++ (0x20 ∷ []))
    → d3 ≡ put d2 (l + 1 + m + 1) (hex_or_dash bs ++ (0x0A ∷ []))
    → Puts (Some (row number used bs)) d d3 (l + 1 + m + 1 + 2 * length bs + u + 1)
rowed d d1 d2 d3 number used l m u bs el em eu h q1 q2 q3 =
    let a = decimal number ++ (0x20 ∷ []) in
    let b = decimal used ++ (0x20 ∷ []) in
    let t = hex_or_dash bs ++ (0x0A ∷ []) in
    let la = length-append (decimal number) (0x20 ∷ []) in
    let lb = length-append (decimal used) (0x20 ∷ []) in
    let lt = length-append (hex_or_dash bs) (0x0A ∷ []) in
    let lh = length_hex_or_dash_law bs in
    let r2 = two_puts d d1 d2 0 (l + 1) a b q1 q2 (omega arith) (omega arith) in
    let r3 = two_puts d d2 d3 0 (l + 1 + m + 1) (a ++ b) t r2 q3 (omega (arith, length-append a b)) (omega arith) in
    puts_all (Some (row number used bs)) d d3 (l + 1 + m + 1 + 2 * length bs + u + 1) (omega (arith, length_shown number used bs)) h (rw (three_parts number used bs) at r3)

pub returns-then-out-bs : goal.returns-then-out-bs
returns-then-out-bs c = small _ _ _ _ c.if-out-bs.true

pub returns-then-out-end : goal.returns-then-out-end
returns-then-out-end c = short _ _ _ _ _ _ _ c.decimal_len-used_at.ensures.value c.decimal_len.ensures.value c.if_set-dash.ensures.value c.if-out-end.true

pub put_written-requires : goal.put_written-requires
put_written-requires c =
    omega (arith, length_hex_or_dash_law c.args.bs.now, c.put_count-2.auto.out, c.put_count.auto.out, c.if-out-end.false, c.if_set-dash.ensures.value)

pub returns : goal.returns
returns c = rowed _ _ _ _ _ _ _ _ _ _ c.decimal_len-used_at.ensures.value c.decimal_len.ensures.value c.if_set-dash.ensures.value c.if-out-end.false c.put_count.ensures c.put_count-2.ensures c.put_written.ensures
