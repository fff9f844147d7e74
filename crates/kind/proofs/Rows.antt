-- Laws over a layout's list of fields: where a walk stops, and the bytes of all the fields in a row. No contract cites this file.
use Prim.Native.Nat.{ℕ, ◌+◌, ◌≤◌, ◌<◌}
use native.Mathlib.Omega.{arith}
use native.Mathlib.Nat.{add-zero, add_assoc}
use mathlib.Core.Path.{◌≡◌, sym, ap, ◌∙◌}
use mathlib.Core.Bool.{Bool}
use mathlib.Core.List.{List, [], ◌∷◌, ◌++◌, flatten, append-nil, append_assoc}
use lib.ListN.{length, get_or, take, drop, take-append-drop}
use lib.Seq.{take-add}
use borrow.Author.Tests.{le-leb, lt-leb}
use Rattle.answer.specs.declared.Answer.TheVariants.{Short}
use Rattle.octets.specs.Octets.{if_set, field}
use Rattle.kind.specs.Layout.{Wanted, wanted, Layout, refuses, walk, unless_broken, outcome}
use Rattle.kind.proofs.Laws.{total, headed}

-- ---- the first field that isn't all there
walk_stops : (n at : ℕ) (before : List Wanted) (number : ℕ) (sent : Bool) (width : ℕ) (after : List Wanted) → at + total before ≤ n → n < at + total before + if_set sent width → walk n at (before ++ (wanted number sent width ∷ after)) ≡ refuses (Short number (at + total before + if_set sent width) n)
unfolding walk
walk_stops n at [] number sent width after h g =
    let here : n < at + if_set sent width = rw add-zero at g in
    rw (add-zero, lt-leb (at + if_set sent width) n here)
walk_stops n at (wanted m f w ∷ before) number sent width after h g =
    rw (le-leb (at + if_set f w) n (omega arith), ← add_assoc at (if_set f w) (total before))
    (walk_stops n (at + if_set f w) before number sent width after (omega arith) (omega arith))

-- a payload that has all the fields before the k-th, and not all of that one, which ends at e
pub stops : (l : Layout) (s : List ℕ) (k number : ℕ) (sent : Bool) (width : ℕ) (after : List Wanted) (e : ℕ)
    → drop k (l.fields (get_or s 0 0)) ≡ wanted number sent width ∷ after
    → l.rule (get_or s 0 0) ≡ 0
    → length s ≤ 65535
    → e ≡ l.head + total (take k (l.fields (get_or s 0 0))) + if_set sent width
    → l.head + total (take k (l.fields (get_or s 0 0))) ≤ length s
    → length s < e
    → outcome l s ≡ refuses (Short number e (length s))
unfolding unless_broken
stops l s k number sent width after e q free fits p h g =
    let fs = l.fields (get_or s 0 0) in
    let split : fs ≡ take k fs ++ (wanted number sent width ∷ after) = rw q at (sym (take-append-drop k fs)) in
    rw (headed l s fits (omega arith), free, p)
    (ap (λ (ws : List Wanted). walk (length s) l.head ws) split
    ∙ walk_stops (length s) l.head (take k fs) number sent width after h (rw p at g))

-- ---- the fields' bytes, from a place on
abbrev pub pieces : ℕ → List Wanted → List ℕ → List (List ℕ)
pieces at [] s = []
pieces at (wanted number sent width ∷ fs) s = field s at (if_set sent width) ∷ pieces (at + if_set sent width) fs s

-- a payload cut behind its fields is what stands before them, and they in a row
pub take_pieces : (at : ℕ) (fs : List Wanted) (s : List ℕ) → take (at + total fs) s ≡ take at s ++ flatten (pieces at fs s)
unfolding flatten
take_pieces at [] s = rw (add-zero, append-nil)
take_pieces at (wanted number sent width ∷ fs) s =
    rw (← add_assoc at (if_set sent width) (total fs))
    (take_pieces (at + if_set sent width) fs s
    ∙ ap (λ (l : List ℕ). l ++ flatten (pieces (at + if_set sent width) fs s)) (take-add at (if_set sent width) s)
    ∙ append_assoc (take at s) (field s at (if_set sent width)) (flatten (pieces (at + if_set sent width) fs s)))
