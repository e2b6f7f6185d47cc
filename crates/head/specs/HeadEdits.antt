-- The head with one row or one mark put anew. Assumes nothing.
use Rattle.std.specs.Prelude.{ℕ, ◌-◌, [], get_or}
use Rattle.numbers.specs.declared.Controller.{Controller}
use Rattle.row.specs.declared.Row.{Row}
use Rattle.block.specs.Fields.{put_at}
use Rattle.layout.specs.Image.{Head}

abbrev pub put_row : Head → Controller → Row → Head
put_row h n r = record { own = h.own; table = h.table; clock = put_at h.clock (n.0 - 1) r; watermark = h.watermark }

-- "row m then column n"
abbrev pub put_mark : Head → Controller → Controller → ℕ → Head
put_mark h m n base =
    record {
      own = h.own;
      table = h.table;
      clock = h.clock;
      watermark = put_at h.watermark (m.0 - 1) (put_at (get_or h.watermark (m.0 - 1) []) (n.0 - 1) base);
    }
