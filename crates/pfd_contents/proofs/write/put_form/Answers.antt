-- `pfd_contents::write::put_form` meets its contract: the row of the stores.
use mathlib.Core.Path.{ap, ◌∙◌}
use lib.ListN.{length}
use Rattle.octets.proofs.Laws.{length_put}
use Rattle.pfd_contents.proofs.Written.{all_put}
use Rattle.pfd_contents.proofs.write.put_form.Goals as goal

pub shape_of-out : goal.shape_of-out
shape_of-out c = ap length (all_put _ _ _ c.requires c.put_bytes.ensures (c.put-at_url.ensures.value, c.put-at_url.ensures.out_after) (c.put-at_domain.ensures.value, c.put-at_domain.ensures.out_after) (c.put-at_custom.ensures.value, c.put-at_custom.ensures.out_after) (c.put-at_protocol.ensures.value, c.put-at_protocol.ensures.out_after) (c.put-at_flows.ensures.value, c.put-at_flows.ensures.out_after) (c.put-at_urls.ensures.value, c.put-at_urls.ensures.out_after) (c.put-at_names.ensures.value, c.put-at_names.ensures.out_after) (c.put.ensures.value, c.put.ensures.out_after)) ∙ length_put _ _ _

pub returns : goal.returns
returns c = all_put _ _ _ c.requires c.put_bytes.ensures (c.put-at_url.ensures.value, c.put-at_url.ensures.out_after) (c.put-at_domain.ensures.value, c.put-at_domain.ensures.out_after) (c.put-at_custom.ensures.value, c.put-at_custom.ensures.out_after) (c.put-at_protocol.ensures.value, c.put-at_protocol.ensures.out_after) (c.put-at_flows.ensures.value, c.put-at_flows.ensures.out_after) (c.put-at_urls.ensures.value, c.put-at_urls.ensures.out_after) (c.put-at_names.ensures.value, c.put-at_names.ensures.out_after) (c.put.ensures.value, c.put.ensures.out_after)
