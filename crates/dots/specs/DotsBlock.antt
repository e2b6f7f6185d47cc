-- A list of dots as a block: where it stands in the image, and its entries. Assumes nothing.
use Rattle.std.specs.Prelude.{ℕ, List}
use Rattle.block.specs.Fields.{field}
use Rattle.meaning.specs.State.{Listed}
use Rattle.layout.specs.Image.{encode_dots, decode_dots}

pub record DotsBlock : Type 0 where
  pub position : ℕ
  pub dots : List Listed

abbrev pub lay_dots : DotsBlock → List ℕ
lay_dots d = encode_dots d.position d.dots

abbrev pub dots_block : List ℕ → DotsBlock
dots_block b = record { position = field b 2 2; dots = decode_dots b }

-- the block with other dots
abbrev pub with_dots : DotsBlock → List Listed → DotsBlock
with_dots d ls = record { position = d.position; dots = ls }
