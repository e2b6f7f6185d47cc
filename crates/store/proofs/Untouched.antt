-- A refused call: the answer, and all as it was. Assumes nothing.
use Prim.Native.Nat.{ℕ}
use mathlib.Core.List.{List}
use Rattle.refusal.specs.declared.Refusal.{Refusal}
use Rattle.layout.specs.Calls.{After}
use Rattle.std.specs.Prelude.{Err}

-- refused with r, and all as it was
abbrev pub untouched : Refusal → List ℕ → List ℕ → After
untouched r img out = record { verdict = Err r; image = img; out = out; count = 0 }
