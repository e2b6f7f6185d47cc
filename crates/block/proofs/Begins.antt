-- The three tests of a block's heading, among the other tests of its layout. Assumes nothing.
use mathlib.Core.Path.{◌≡◌, refl}
use mathlib.Core.Bool.{Bool, true, false}
use mathlib.Core.List.{List, [], ◌∷◌}
use Prim.Native.Nat.{ℕ, zero, suc, ◌<◌}
use lib.ListN.{take}
use native.Mathlib.Omega.{arith}
use Rattle.numbers.specs.Words.{every}
use Rattle.numbers.proofs.Tests.{never}
use Rattle.block.specs.declared.Kind.{Kind}
use Rattle.block.specs.declared.Kind.TheVariants.{Head, Dots, Point, Outgoing, Ask, ReplyHead, Reading}
use Rattle.block.specs.Kind.{kind_number}

-- where one of the first tests fails, not all pass
pub not_first : (n : ℕ) (ts : List Bool) → every (take n ts) ≡ false → every ts ≡ false
not_first zero ts e = absurd (never {b = true} refl e)
not_first (suc n) [] e = e
not_first (suc n) (true ∷ ts) e = not_first n ts e
not_first (suc n) (false ∷ ts) e = refl

-- where the three of a heading pass, each does
pub headed_each : (a b c : Bool) → every (a ∷ b ∷ c ∷ []) ≡ true → (a ≡ true) × (b ≡ true) × (c ≡ true)
headed_each true true true e = (refl, refl, refl)
headed_each true true false e = absurd (never {b = false} e refl)
headed_each true false c e = absurd (never {b = false} e refl)
headed_each false b c e = absurd (never {b = false} e refl)

-- a kind is a byte
pub kind_fits : (k : Kind) → kind_number k < 256
kind_fits Head = omega arith
kind_fits Dots = omega arith
kind_fits Point = omega arith
kind_fits Outgoing = omega arith
kind_fits Ask = omega arith
kind_fits ReplyHead = omega arith
kind_fits Reading = omega arith
