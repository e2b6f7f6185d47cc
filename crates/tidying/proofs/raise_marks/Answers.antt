-- `tidying::raise_marks` meets its contract. The invariant: the marks for those below n are raised (Raising). Assumes nothing.
use borrow.Author.Rules.{rules}
use mathlib.Core.Path.{refl}
use Rattle.block.proofs.Numbers.{bytes_of}
use Rattle.layout.specs.Clocks.{decode_clock}
use Rattle.layout.specs.Image.{decode}
use Rattle.tidying.specs.Tidied.{said_by}
use Rattle.tidying.proofs.Marks.{decoded_square}
use Rattle.tidying.proofs.Raising.{one_raised, all_raised}
use native.Mathlib.Omega.{arith}
use Rattle.tidying.proofs.raise_marks.Goals as goal

pub loop-n-init : goal.loop-n-init
loop-n-init c = record { low = omega arith; size = c.requires.0; canonical = c.requires.1; is = refl; square = decoded_square c.args.image.now (bytes_of c.args.image.now c.type_inv.image) c.requires.0; done = λ a b u v h. absurd (omega (arith, v.0, h)); kept = λ a b u v h. refl }

pub loop-n-preserved : goal.loop-n-preserved
loop-n-preserved c = one_raised (decode c.args.image.now) (said_by c.args.sender (decode_clock c.args.rows.now)) c.loop-n.n c.loop-n.image c.loop-n.invariant (omega arith) c.raise_about.new.image (search rules) c.raise_about.ensures

pub returns : goal.returns
returns c = all_raised (decode c.args.image.now) (said_by c.args.sender (decode_clock c.args.rows.now)) c.loop-n.n c.loop-n.image c.loop-n.invariant (omega arith)
