-- `listing::put_version_line` meets its contract. Assumes nothing.
use Rattle.listing.proofs.Texts.{line_is}
use Rattle.listing.proofs.Putting.{◌then◌, as_text}
use native.Mathlib.Omega.{arith}
use Rattle.listing.proofs.put_version_line.Goals as goal

pub key_of-k-requires : goal.key_of-k-requires
key_of-k-requires c = omega arith

pub version_dot-d-requires : goal.version_dot-d-requires
version_dot-d-requires c = omega arith

pub put_label-label-requires : goal.put_label-label-requires
put_label-label-requires c = omega arith

pub put_word-blank-requires : goal.put_word-blank-requires
put_word-blank-requires c = omega arith

pub put_said-said-requires : goal.put_said-said-requires
put_said-said-requires c = omega arith

pub put_word-requires : goal.put_word-requires
put_word-requires c = omega arith

pub shape_of-out : goal.shape_of-out
shape_of-out c = omega arith

pub returns : goal.returns
returns c = as_text (line_is c.args.b.now c.args.i c.key_of-k.result c.version_dot-d.result c.key_of-k.ensures c.version_dot-d.ensures) (c.put_label-label.ensures then c.put_word-blank.ensures then c.put_said-said.ensures then c.put_word.ensures)
