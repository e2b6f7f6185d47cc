-- `own_calls::write_reading` meets its contract. Fetched, filled, its deletions dropped, sealed (Reading). Assumes nothing.
use Prim.Native.Nat.{◌-◌}
use Rattle.store.proofs.Lent.{counted, good_ascends, good_canonical}
use Rattle.own_calls.proofs.Reading.{reading_lent}
use Rattle.own_calls.proofs.write_reading.Goals as goal

pub fetch-requires : goal.fetch-requires
fetch-requires c = let img = c.args.image.now in let g = c.requires.1 in (c.requires.0, good_canonical img g, counted img c.stored_count-count.result c.stored_count-count.ensures, good_ascends img g, c.requires.2)

pub returns : goal.returns
returns c = reading_lent c.args.image.now c.requires.0 c.args.k c.own_of-own.result _ _ _ _ c.own_of-own.ensures c.fetch.ensures.0 c.fill_in.ensures.0 c.drop_deleted.ensures c.seal_block.ensures
