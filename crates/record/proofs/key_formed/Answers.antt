-- `record::key_formed` meets its contract. The answer hangs on job and point. Assumes nothing.
use mathlib.Core.Path.{refl}
use native.Mathlib.Omega.{arith}
use borrow.Author.Tests.{le-leb, lt-leb}
use Rattle.block.proofs.Numbers.{bytes_of}
use Rattle.block.proofs.Passing.{passed, failed, last_test}
use Rattle.record.proofs.Formed.{key_tests}
use Rattle.record.proofs.key_formed.Goals as goal

pub returns-then-u8_at-gt7 : goal.returns-then-u8_at-gt7
returns-then-u8_at-gt7 c = let b = c.args.b.now in
    failed (key_tests b (bytes_of b c.type_inv.b) (omega arith) c.u8_at.ensures refl) (lt-leb _ _ c.if-u8_at-gt7.true)

pub returns : goal.returns
returns c = let b = c.args.b.now in
    last_test (passed (key_tests b (bytes_of b c.type_inv.b) (omega arith) c.u8_at.ensures c.u16_at.ensures) (le-leb _ _ c.if-u8_at-gt7.false))
