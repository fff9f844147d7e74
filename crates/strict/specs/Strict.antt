-- The strict verdict on a payload, as document 01 has it.
use Rattle.std.specs.Prelude.{ℕ, Bool, true, false, not, ◌&&◌, ◌||◌, List, [], ◌∷◌, eqb}
use Rattle.std.specs.Prelude.{Option, None, Some}
use Rattle.answer.specs.Paper.{number_of}
use Rattle.octets.specs.Octets.{bit}
use Rattle.kind.specs.Kind.{Reader}
use Rattle.kind.specs.Layout.{clear}
use Rattle.ue_ip_address.specs.UeIpAddress as ue
use Rattle.f_teid.specs.Fteid as fteid
use Rattle.fseid.specs.Fseid as fseid
use Rattle.node_id.specs.NodeId as node
use Rattle.outer_header_creation.specs.OuterHeaderCreation as ohc
use Rattle.pfd_contents.specs.PfdContents as pfd

-- no if the reader refuses, else what the kind asks of the value that was read
unfoldable pub verdict : {Value : Type 0} → Reader Value → (Value → Bool) → List ℕ → Bool
verdict r asks s = eqb (number_of (r.answer s)) 0 && asks (r.value s)

-- a field that is present, a list that isn't empty
abbrev pub present : {A : Type 0} → Option A → Bool
present None = false
present (Some x) = true

abbrev pub non_empty : {A : Type 0} → List A → Bool
non_empty [] = false
non_empty (x ∷ xs) = true

-- PFD Contents: each flagged field present and each flagged list non-empty
unfoldable pub complete : pfd.Value → Bool
complete v =
    let unless : ℕ → Bool → Bool = λ k there. not (bit k v.flags) || there in
    unless 0 (present v.flow_description)
    && unless 1 (present v.url)
    && unless 2 (present v.domain_name)
    && unless 3 (present v.custom_pfd_content)
    && unless 4 (present v.domain_name_protocol)
    && unless 5 (non_empty v.additional_flow_description)
    && unless 6 (non_empty v.additional_url)
    && unless 7 (non_empty v.additional_domain_name_and_protocol)

-- F-TEID and F-SEID need V4 or V6
abbrev pub f_teid : List ℕ → Bool
f_teid s = verdict fteid.reader (λ v. v.v4 || v.v6) s

abbrev pub f_seid : List ℕ → Bool
f_seid s = verdict fseid.reader (λ v. v.v4 || v.v6) s

abbrev pub pfd_contents : List ℕ → Bool
pfd_contents s = verdict pfd.reader complete s

-- Node ID, as request K4 amends document 01: the high four bits of the first byte are cleared, then yes exactly when the reader accepts
abbrev pub node_id : List ℕ → Bool
node_id s = verdict node.reader (λ v. true) (clear (0x0F ∷ []) s)

-- the other two: yes exactly when the reader accepts
abbrev pub ue_ip_address : List ℕ → Bool
ue_ip_address s = verdict ue.reader (λ v. true) s

abbrev pub outer_header_creation : List ℕ → Bool
outer_header_creation s = verdict ohc.reader (λ v. true) s
