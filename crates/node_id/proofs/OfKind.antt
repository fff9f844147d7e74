-- Node ID is a kind. No contract cites this file.
use Prim.Native.Nat.{ℕ, suc, ◌+◌, ◌≤◌, ◌<◌}
use native.Mathlib.Omega.{arith}
use mathlib.Core.Path.{◌≡◌, refl, sym, ap, ◌∙◌}
use mathlib.Core.List.{List, [], ◌∷◌}
use Rattle.std.specs.Prelude.{None}
use lib.ListN.{length, get_or, take, drop, length-drop}
use lib.Seq.{length-take-le, take-length, take_all}
use borrow.Author.Tests.{le-leb, eq-eqb}
use Rattle.octets.specs.Octets.{Bytes, field}
use Rattle.octets.proofs.Laws.{bytes_take, field_take, take_first}
use Rattle.text.specs.Utf8.{good_len}
use Rattle.texts.specs.Texts.{is_text}
use Rattle.kind.specs.Kind.{Reads, Kind}
use Rattle.kind.specs.Write.{◌then◌}
use Rattle.kind.specs.Demand3.{Demand3}
use Rattle.kind.proofs.Demand3.{demand3}
use Rattle.node_id.specs.declared.NodeId.{NodeId}
use Rattle.node_id.specs.NodeId.{Value, meaning, wire, read, reader, textual, write_refusal}
use Rattle.node_id.proofs.Laws.{Address, whole, whole_name, Form, address, name, formed}

first_take : (n : ℕ) (s : List ℕ) → get_or (take (suc n) s) 0 0 ≡ get_or s 0 0
first_take n [] = refl
first_take n (b ∷ s) = refl

-- what a reading is, by the payload's form: used bytes, and a written form that is the payload cut there
pub record Cut (s : List ℕ) : Type 0 where
  pub used : ℕ
  pub within : used ≤ length s
  pub is_used : (read s).used ≡ used
  pub rewritten : wire (meaning s (read s).«record») ≡ take used s
  pub able : textual s (read s).«record» ≡ None
  pub again : Bytes s → Reads reader (take used s) (meaning s (read s).«record») used

cut_address : {k w : ℕ} {make : List ℕ → NodeId} (s : List ℕ) → length s ≤ 65535 → Address k w make → suc w ≤ length s → get_or s 0 0 ≡ k → Cut s
cut_address {w = w} s f a h e =
    let q = whole s f a h e in
    let l : length (take (suc w) s) ≡ suc w = length-take-le (suc w) s h in
    let q' = whole (take (suc w) s) (omega arith) a (omega arith) (first_take w s ∙ e) in
    let same : field (take (suc w) s) 1 w ≡ field s 1 w = field_take 1 w (suc w) s (omega arith) in
    record {
      used = suc w;
      within = h;
      is_used = rw q;
      rewritten = rw (q, a.means s (field s 1 w), a.writes (field s 1 w)) (sym (take_first w s (omega arith) ∙ ap (λ (b : ℕ). b ∷ field s 1 w) e));
      able = rw q (a.able s (field s 1 w));
      again = λ b. record { bytes = bytes_take (suc w) s b; done = rw q'; value = rw (q, q', same, a.means s (field s 1 w)) (a.means (take (suc w) s) (field s 1 w)); used = rw q' };
    }

cut_of : (s : List ℕ) → length s ≤ 65535 → Form s → Cut s
unfolding meaning wire textual is_text
cut_of s f (address a h e) = cut_address s f a h e
cut_of s f (name h e) =
    let q = whole_name s f h e in
    let all : take (length s) s ≡ s = take-length s in
    let text : take (good_len (drop 1 s)) (drop 1 s) ≡ drop 1 s = take_all (good_len (drop 1 s)) (drop 1 s) (omega (arith, length-drop 1 s)) in
    record {
      used = length s;
      within = omega arith;
      is_used = rw q;
      rewritten = rw (q, all, text) (sym (cons s (omega arith) ∙ ap (λ (b : ℕ). b ∷ drop 1 s) e));
      able = rw (q, text, le-leb (1 + good_len (drop 1 s)) (length s) (omega arith), eq-eqb (good_len (drop 1 s)) _ refl);
      again = λ b. rw all (record { bytes = b; done = rw q; value = refl; used = rw q });
    }
  where
    cons : (s : List ℕ) → 0 < length s → s ≡ get_or s 0 0 ∷ drop 1 s
    cons [] h = absurd (omega arith)
    cons (b ∷ s) h = refl

module _ {s : List ℕ} {v : Value} {n : ℕ} (r : Reads reader s v n) where
  the_cut : Cut s
  the_cut = let (f, form) = formed s r.done in cut_of s f form

  pub rewritten : wire v ≡ take n s
  rewritten = rw (← r.value, ← r.used, the_cut.is_used) the_cut.rewritten

  -- what was read can be written: neither 5 nor 6 nor 7
  pub writable : write_refusal s (read s).«record» ≡ None
  unfolding write_refusal ◌then◌
  writable =
      let fits = (formed s r.done).0 in
      let l : length (wire (meaning s (read s).«record»)) ≤ 65535 = omega (arith, ap length the_cut.rewritten ∙ length-take-le the_cut.used s the_cut.within, the_cut.within) in
      rw (le-leb _ _ fits, the_cut.able, le-leb _ _ l)

  pub read_again : Reads reader (take n s) v (length (take n s))
  read_again =
      let e : the_cut.used ≡ n = sym the_cut.is_used ∙ r.used in
      let l : length (take n s) ≡ n = length-take-le n s (omega (arith, the_cut.within)) in
      rw l (rw (e, r.value) at (the_cut.again r.bytes))

-- nothing is ignored in a Node ID but the bytes behind it
abbrev pub kind : Kind
kind =
    record {
      Value = Value;
      reader = reader;
      clear = λ s. s;
      wire = wire;
      short = λ {s} r. (formed s r.done).0;
      written = rewritten;
      again = read_again;
    }

-- ---- Node ID is a kind: demand 3 holds of it
pub demands : Demand3 kind
demands = demand3 kind
