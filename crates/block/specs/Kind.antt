-- "Byte 0 kind, 1 format (1), 2-3 position in the sequence". Assumes nothing.
use Rattle.std.specs.Prelude.{ℕ, Bool, List, [], ◌∷◌, eqb}
use Rattle.numbers.specs.Words.{every}
use Rattle.block.specs.declared.Kind.{Kind}
use Rattle.block.specs.declared.Kind.TheVariants.{Head, Dots, Point, Outgoing, Ask, ReplyHead, Reading}
use Rattle.block.specs.Fields.{field}

abbrev pub kind_number : Kind → ℕ
kind_number Head = 1
kind_number Dots = 2
kind_number Point = 3
kind_number Outgoing = 4
kind_number Ask = 5
kind_number ReplyHead = 6
kind_number Reading = 7

-- a block begins as one of this kind and position
abbrev pub heading : List ℕ → Kind → ℕ → Bool
heading b kind position = every (eqb (field b 0 1) (kind_number kind) ∷ eqb (field b 1 1) 1 ∷ eqb (field b 2 2) position ∷ [])
