-- The sample payloads of document 01 that are marked *, and what is said of each: one table.
use Rattle.std.specs.Prelude.{ℕ, Bool, true, false, List, [], ◌∷◌, eqb}
use Rattle.std.specs.Prelude.{Option, None, Some}
use Rattle.answer.specs.declared.Answer.{Answer}
use Rattle.answer.specs.declared.Answer.TheVariants.{Done, Flags, NodeType, NotUtf8}
use Rattle.answer.specs.Paper.{number_of}
use Rattle.octets.specs.Octets.{pick}
use Rattle.kind.specs.Kind.{Reader}
use Rattle.ue_ip_address.specs.UeIpAddress as ue
use Rattle.f_teid.specs.Fteid as fteid
use Rattle.fseid.specs.Fseid as fseid
use Rattle.node_id.specs.NodeId as node
use Rattle.outer_header_creation.specs.OuterHeaderCreation as ohc
use Rattle.pfd_contents.specs.PfdContents as pfd
use Rattle.strict.specs.Strict.{ue_ip_address, f_teid, f_seid, node_id, outer_header_creation, pfd_contents}

-- what a record of some kind means
pub data Meant : Type 0 where
  of_u : ue.Value → Meant
  of_f : fteid.Value → Meant
  of_s : fseid.Value → Meant
  of_n : node.Value → Meant
  of_o : ohc.Value → Meant
  of_p : pfd.Value → Meant

-- what is said of a payload: the answer with its values, the used count, the fields, the bytes written again (none where it is refused), the strict verdict
pub record Said : Type 0 where
  pub answer : Answer
  pub used : ℕ
  pub fields : Meant
  pub written : List ℕ
  pub strict : Bool

-- what the definitions of a kind say
unfoldable pub said_by : {Value : Type 0} → Reader Value → (Value → List ℕ) → (List ℕ → Bool) → (Value → Meant) → List ℕ → Said
said_by r wire strict of s =
    record {
      answer = r.answer s;
      used = r.used s;
      fields = of (r.value s);
      written = pick (eqb (number_of (r.answer s)) 0) (wire (r.value s)) [];
      strict = strict s;
    }

-- by a kind's letter
abbrev pub U : List ℕ → Said
U s = said_by ue.reader ue.wire ue_ip_address of_u s

abbrev pub F : List ℕ → Said
F s = said_by fteid.reader fteid.wire f_teid of_f s

abbrev pub S : List ℕ → Said
S s = said_by fseid.reader fseid.wire f_seid of_s s

abbrev pub N : List ℕ → Said
N s = said_by node.reader node.wire node_id of_n s

abbrev pub O : List ℕ → Said
O s = said_by ohc.reader ohc.wire outer_header_creation of_o s

abbrev pub P : List ℕ → Said
P s = said_by pfd.reader pfd.wire pfd_contents of_p s

-- a row: the kind, a payload, and what is said of it
pub record Sample : Type 0 where
  pub kind : List ℕ → Said
  pub payload : List ℕ
  pub said : Said

-- accepted: used count, fields, written bytes, strict verdict
abbrev pub accepted : (List ℕ → Said) → List ℕ → ℕ → Meant → List ℕ → Bool → Sample
accepted k s used fields written strict =
    record { kind = k; payload = s; said = record { answer = Done; used = used; fields = fields; written = written; strict = strict } }

-- refused: the answer, and the empty record
abbrev pub refused : (List ℕ → Said) → List ℕ → Answer → Meant → Sample
refused k s answer empty =
    record { kind = k; payload = s; said = record { answer = answer; used = 0; fields = empty; written = []; strict = false } }

-- the fields that the samples have; the others are false, 0, absent or empty
abbrev pub ue_ip : (v4 chv6 ip6pl : Bool) → (ipv4 : Option (List ℕ)) → (prefix_length : Option ℕ) → Meant
ue_ip v4 chv6 ip6pl ipv4 prefix_length =
    of_u
    (record {
      v4 = v4;
      v6 = false;
      sd = false;
      ipv6d = false;
      chv4 = false;
      chv6 = chv6;
      ip6pl = ip6pl;
      ipv4 = ipv4;
      ipv6 = None;
      delegation_bits = None;
      prefix_length = prefix_length;
    })

abbrev pub tunnel : (ch : Bool) → (teid : ℕ) → Meant
tunnel ch teid = of_f (record { v4 = false; v6 = false; ch = ch; chid = false; teid = teid; ipv4 = None; ipv6 = None; choose_id = 0 })

abbrev pub session : (seid : ℕ) → (ipv4 : List ℕ) → Meant
session seid ipv4 = of_s (record { v4 = true; v6 = false; seid = seid; ipv4 = Some ipv4; ipv6 = None })

abbrev pub named : List ℕ → Meant
named name = of_n (node.fqdn name)

abbrev pub gtpu_ipv4 : (teid : ℕ) → (ipv4 : List ℕ) → Meant
gtpu_ipv4 teid ipv4 =
    of_o (record { flags = ohc.flags_of 0x01; teid = Some teid; ipv4 = Some ipv4; ipv6 = None; port = None; ctag = None; stag = None })

abbrev pub filters : (flags : ℕ) → (flows urls : List (List ℕ)) → Meant
filters flags flows urls =
    of_p
    (record {
      flags = flags;
      flow_description = None;
      url = None;
      domain_name = None;
      custom_pfd_content = None;
      domain_name_protocol = None;
      additional_flow_description = flows;
      additional_url = urls;
      additional_domain_name_and_protocol = [];
    })

-- the address of the samples, 192.0.2.1
abbrev pub home : List ℕ
home = 0xC0 ∷ 0x00 ∷ 0x02 ∷ 0x01 ∷ []

-- the table, in document 01's order
abbrev pub marked : List Sample
marked =
    -- UE IP
    accepted U (0x02 ∷ 0xC0 ∷ 0x00 ∷ 0x02 ∷ 0x01 ∷ 0xFF ∷ []) 5 (ue_ip true false false (Some home) None) (0x02 ∷ home) true
    ∷ accepted U (0x82 ∷ 0xC0 ∷ 0x00 ∷ 0x02 ∷ 0x01 ∷ []) 5 (ue_ip true false false (Some home) None) (0x02 ∷ home) true
    ∷ refused U (0x12 ∷ []) (Flags 0x12 1) (ue_ip false false false None None)
    ∷ refused U (0x48 ∷ []) (Flags 0x48 2) (ue_ip false false false None None)
    ∷ accepted U (0x60 ∷ 0x40 ∷ []) 2 (ue_ip false true true None (Some 64)) (0x60 ∷ 0x40 ∷ []) true
    -- F-TEID
    ∷ accepted F (0x04 ∷ []) 1 (tunnel true 0) (0x04 ∷ []) false
    ∷ refused F (0x08 ∷ []) (Flags 0x08 4) (tunnel false 0)
    ∷ accepted F (0x00 ∷ 0x00 ∷ 0x00 ∷ 0x00 ∷ 0x07 ∷ []) 5 (tunnel false 7) (0x00 ∷ 0x00 ∷ 0x00 ∷ 0x00 ∷ 0x07 ∷ []) false
    -- F-SEID
    ∷ accepted S (0x02 ∷ 0x00 ∷ 0x00 ∷ 0x00 ∷ 0x00 ∷ 0x00 ∷ 0x00 ∷ 0x00 ∷ 0x05 ∷ 0xC0 ∷ 0x00 ∷ 0x02 ∷ 0x01 ∷ []) 13 (session 5 home) (0x02 ∷ 0x00 ∷ 0x00 ∷ 0x00 ∷ 0x00 ∷ 0x00 ∷ 0x00 ∷ 0x00 ∷ 0x05 ∷ home) true
    -- Node ID
    ∷ accepted N (0x02 ∷ []) 1 (named []) (0x02 ∷ []) true
    ∷ refused N (0x03 ∷ []) (NodeType 0x03) (named [])
    ∷ refused N (0x02 ∷ 0x61 ∷ 0xC3 ∷ []) (NotUtf8 2 0) (named [])
    -- OHC
    ∷ accepted O (0x01 ∷ 0xFF ∷ 0x00 ∷ 0x00 ∷ 0x00 ∷ 0x07 ∷ 0xC0 ∷ 0x00 ∷ 0x02 ∷ 0x01 ∷ []) 10 (gtpu_ipv4 7 home) (0x01 ∷ 0x00 ∷ 0x00 ∷ 0x00 ∷ 0x00 ∷ 0x07 ∷ home) true
    -- PFD
    ∷ accepted P (0x01 ∷ 0x00 ∷ 0x05 ∷ []) 2 (filters 0x01 [] []) (0x01 ∷ 0x00 ∷ []) false
    ∷ accepted P (0x60 ∷ 0x00 ∷ 0x00 ∷ 0x01 ∷ 0x61 ∷ 0x00 ∷ 0x01 ∷ 0x62 ∷ 0x00 ∷ 0x01 ∷ 0x63 ∷ []) 11 (filters 0x60 ((0x61 ∷ []) ∷ []) ((0x62 ∷ []) ∷ (0x63 ∷ []) ∷ [])) (0x60 ∷ 0x00 ∷ 0x00 ∷ 0x01 ∷ 0x61 ∷ 0x00 ∷ 0x01 ∷ 0x62 ∷ 0x00 ∷ 0x01 ∷ 0x63 ∷ []) true
    ∷ []
