-- How long the parts of an image are. No contract cites this file.
use native.Mathlib.Omega.{arith}
use mathlib.Core.Path.{◌≡◌}
use lib.ListN.{length, length-append}
use Rattle.std.specs.Prelude.{Option}
use Rattle.texts.specs.declared.Text.{Text}
use Rattle.text_fields.specs.declared.TextList.{TextList}
use Rattle.pfd_contents.specs.declared.PfdContents.{PfdContents}
use Rattle.image.proofs.Laws.{length_little_endian_bytes_law}
use Rattle.pfd_contents_image.specs.PfdContentsImage.{text_image, list_image, texts_image, lists_image}

pub length_text : (t : Option Text) → length (text_image t) ≡ 16
unfolding text_image
length_text t = simp (length-append, length_little_endian_bytes_law) (omega arith)

pub length_list : (l : TextList) → length (list_image l) ≡ 24
unfolding list_image
length_list l = simp (length-append, length_little_endian_bytes_law) (omega arith)

pub length_texts : (r : PfdContents) → length (texts_image r) ≡ 80
unfolding texts_image
length_texts r = simp (length-append, length_text) (omega arith)

pub length_lists : (r : PfdContents) → length (lists_image r) ≡ 72
unfolding lists_image
length_lists r = simp (length-append, length_list) (omega arith)
