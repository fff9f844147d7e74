-- A kind of fixed fields: what it shows of itself, and that it is a kind whose reader is local. No contract cites this file.
use Prim.Native.Nat.{ℕ, ◌≤◌}
use native.Mathlib.Omega.{arith}
use mathlib.Core.Path.{◌≡◌, refl, sym, ap, ◌∙◌}
use mathlib.Core.List.{List, ◌++◌}
use lib.ListN.{length, get_or, take, length-append}
use lib.Seq.{length-take-le, take-append-le, take_all}
use Rattle.answer.specs.declared.Answer.{Answer}
use Rattle.answer.specs.declared.Answer.TheVariants.{Done}
use Rattle.octets.specs.Octets.{Bytes}
use Rattle.octets.proofs.Laws.{bytes_take}
use Rattle.kind.specs.Layout.{Layout, Outcome, accepts, refuses, outcome, clear}
use Rattle.kind.specs.Kind.{Reader, Reads, Kind, Local}
use Rattle.kind.proofs.Laws.{end, Whole, whole, accepted, never_done, length_clear, bytes_clear, clear_clear, Alike}

-- a reader follows a layout: value_of is what an accepted payload means
pub record Follows {Value : Type 0} (reader : Reader Value) (layout : Layout) (value_of : List ℕ → Value) : Type 0 where
  pub on_accepts : (s : List ℕ) (n : ℕ) → outcome layout s ≡ accepts n → (reader.answer s ≡ Done) × (reader.used s ≡ n) × (reader.value s ≡ value_of s)
  pub on_refuses : (s : List ℕ) (a : Answer) → outcome layout s ≡ refuses a → reader.answer s ≡ a

-- kept_bits: for each of the first bytes, a mask of its bits that count
pub record Fixed : Type 1 where
  pub Value : Type 0
  pub reader : Reader Value
  pub layout : Layout
  pub kept_bits : List ℕ
  pub value_of : List ℕ → Value
  pub wire : Value → List ℕ
  pub follows : Follows reader layout value_of
  -- payloads that are alike as far as the fields go have the same rule, fields and value
  pub same_rule : (s t : List ℕ) → Alike kept_bits (end layout s) s t → layout.rule (get_or t 0 0) ≡ layout.rule (get_or s 0 0)
  pub same_end : (s t : List ℕ) → Alike kept_bits (end layout s) s t → end layout t ≡ end layout s
  pub same_value : (s t : List ℕ) → Alike kept_bits (end layout s) s t → value_of t ≡ value_of s
  -- the written form of a whole payload's value, where no rule is broken
  pub rewritten : (s : List ℕ) → Bytes s → layout.rule (get_or s 0 0) ≡ 0 → end layout s ≤ length s → wire (value_of s) ≡ clear kept_bits (take (end layout s) s)

-- such a kind, from its parts in a row
abbrev pub fixed_by : {Value : Type 0} (reader : Reader Value) (layout : Layout) (kept_bits : List ℕ) (value_of : List ℕ → Value) (wire : Value → List ℕ)
    → Follows reader layout value_of
    → ((s t : List ℕ) → Alike kept_bits (end layout s) s t → layout.rule (get_or t 0 0) ≡ layout.rule (get_or s 0 0))
    → ((s t : List ℕ) → Alike kept_bits (end layout s) s t → end layout t ≡ end layout s)
    → ((s t : List ℕ) → Alike kept_bits (end layout s) s t → value_of t ≡ value_of s)
    → ((s : List ℕ) → Bytes s → layout.rule (get_or s 0 0) ≡ 0 → end layout s ≤ length s → wire (value_of s) ≡ clear kept_bits (take (end layout s) s))
    → Fixed
fixed_by {Value} reader layout kept_bits value_of wire follows rule end value again =
    record {
      Value = Value;
      reader = reader;
      layout = layout;
      kept_bits = kept_bits;
      value_of = value_of;
      wire = wire;
      follows = follows;
      same_rule = rule;
      same_end = end;
      same_value = value;
      rewritten = again;
    }

module _ (f : Fixed) where
  -- what an accepted payload has
  pub accepted_whole : {s : List ℕ} {v : f.Value} {n : ℕ} → Reads f.reader s v n → Whole f.layout s n
  accepted_whole {s} {v} {n} r = go (outcome f.layout s) refl
    where
      go : (o : Outcome) → outcome f.layout s ≡ o → Whole f.layout s n
      go (accepts m) q = rw (sym (f.follows.on_accepts s m q).1 ∙ r.used) at (accepted f.layout s m q)
      go (refuses a) q = absurd (never_done f.layout s (q ∙ ap refuses (sym (f.follows.on_refuses s a q) ∙ r.done)))

  -- and what it means
  means : {s : List ℕ} {v : f.Value} {n : ℕ} → Reads f.reader s v n → f.value_of s ≡ v
  means {s} r =
      let w = accepted_whole r in
      sym (f.follows.on_accepts s (end f.layout s) (whole f.layout s w.fits w.free (omega arith))).2 ∙ r.value

  -- a payload that is alike as far as the fields go is read alike
  carry : {s : List ℕ} {v : f.Value} {n : ℕ} (t : List ℕ) → Bytes t → length t ≤ 65535 → Alike f.kept_bits n s t → Reads f.reader s v n → Reads f.reader t v n
  carry {s} {v} {n} t b h a r =
      let w = accepted_whole r in
      let a' : Alike f.kept_bits (end f.layout s) s t = rw w.ends at a in
      let e : end f.layout t ≡ n = f.same_end s t a' ∙ sym w.ends in
      let o = whole f.layout t h (f.same_rule s t a' ∙ w.free) (omega (arith, a.right)) in
      let (done, used, value) = f.follows.on_accepts t (end f.layout t) o in
      record { bytes = b; done = done; value = value ∙ f.same_value s t a' ∙ means r; used = used ∙ e }

  pub cut : {s : List ℕ} {v : f.Value} {n : ℕ} → Reads f.reader s v n → f.wire v ≡ clear f.kept_bits (take n s)
  cut {s} r =
      let w = accepted_whole r in
      rw (← means r, w.ends) (f.rewritten s r.bytes w.free (omega (arith, w.within, w.ends)))

  -- the written form has as many bytes as were used
  pub cut_length : {s : List ℕ} {v : f.Value} {n : ℕ} → Reads f.reader s v n → length (f.wire v) ≡ n
  cut_length {s} {v} {n} r = ap length (cut r) ∙ length_clear f.kept_bits (take n s) ∙ length-take-le n s (accepted_whole r).within

  pub cleared : {s : List ℕ} {v : f.Value} {n : ℕ} → Reads f.reader s v n → Reads f.reader (clear f.kept_bits (take n s)) v (length (clear f.kept_bits (take n s)))
  cleared {s} {v} {n} r =
      let w = accepted_whole r in
      let t = clear f.kept_bits (take n s) in
      let l : length t ≡ n = length_clear f.kept_bits (take n s) ∙ length-take-le n s w.within in
      let all : take n t ≡ t = take_all n t (omega arith) in
      rw l
      (carry t (bytes_clear f.kept_bits (take n s) (bytes_take n s r.bytes)) (omega (arith, w.fits, w.within))
      (record { left = w.within; right = omega arith; equal = rw all (clear_clear f.kept_bits (take n s)) })
      r)

  longer : {s : List ℕ} {v : f.Value} {n : ℕ} (t : List ℕ) → Bytes (s ++ t) → length (s ++ t) ≤ 65535 → Reads f.reader s v n → Reads f.reader (s ++ t) v n
  longer {s} {v} {n} t b h r =
      let w = accepted_whole r in
      carry (s ++ t) b h (record { left = w.within; right = omega (arith, w.within, length-append s t); equal = ap (clear f.kept_bits) (take-append-le n s t w.within) }) r

  abbrev pub kind_of : Kind
  kind_of =
      record {
        Value = f.Value;
        reader = f.reader;
        clear = clear f.kept_bits;
        wire = f.wire;
        short = λ r. (accepted_whole r).fits;
        written = cut;
        again = cleared;
      }

  pub local_of : Local kind_of
  local_of = record { more = longer }
