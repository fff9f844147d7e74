-- `ue_ip_address_image::write` meets its contract: by whether the image and the report have their bytes.
use Rattle.ue_ip_address.specs.declared.UeIpAddress.{UeIpAddress}
use Rattle.ue_ip_address.specs.UeIpAddress.{meaning, wire}
use Rattle.image.proofs.Laws.{write_short, write_long, writes_same}
use Rattle.ue_ip_address_image.specs.UeIpAddressImage.{writes, stores}
use Rattle.ue_ip_address_image.proofs.write.Goals as goal

pub returns-then-not-long_enough : goal.returns-then-not-long_enough
returns-then-not-long_enough c = let all = write_short _ _ _ _ c.long_enough.ensures c.if-not-long_enough.true-raw in record { value = all.0; out_after = all.1.0; report_after = all.1.1 }

pub returns : goal.returns
unfolding writes stores
returns c = let all = write_long _ _ c.long_enough.ensures c.if-not-long_enough.false-raw (writes_same (λ (x : UeIpAddress). wire (meaning x)) _ c.record_at.ensures (c.marshal.ensures.value, c.marshal.ensures.out_after)) (c.put_report.ensures.value, c.put_report.ensures.out_after) in record { value = all.0; out_after = all.1.0; report_after = all.1.1 }
