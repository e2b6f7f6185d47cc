use native.Mathlib.Omega.{arith}
use Rattle.image.proofs.ListedFor.{found_none, found_within, found_there}
use Rattle.image.proofs.dot_listed_for.Goals as goal

pub entry_key-there-requires : goal.entry_key-there-requires
entry_key-there-requires c = (omega arith, found_within c.args.list.now c.requires.1 c.args.d c.args.k c.find_dot.result c.in-Ok.i c.in-Ok.is c.find_dot.ensures)

pub returns-in-Ok : goal.returns-in-Ok
returns-in-Ok c = found_there c.args.list.now c.requires.1 c.args.d c.args.k c.find_dot.result c.in-Ok.i c.entry_key-there.result c.same.result c.requires.2 c.in-Ok.is c.find_dot.ensures c.entry_key-there.ensures c.same.ensures

pub returns-in-Err : goal.returns-in-Err
returns-in-Err c = found_none c.args.list.now c.requires.1 c.args.d c.args.k c.find_dot.result c.in-Err.field-0 c.in-Err.is c.find_dot.ensures
