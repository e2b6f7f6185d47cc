-- A given context against the filled one, entry by entry. Assumes nothing.
use Rattle.std.specs.Prelude.{if◌then◌else◌}
use Prim.Native.Nat.{ℕ, ◌+◌, ◌-◌, ◌*◌, max, ◌<◌}
use mathlib.Core.Path.{◌≡◌, refl, ap, sym, ◌∙◌}
use mathlib.Core.Bool.{Bool}
use mathlib.Core.List.{List}
use native.Mathlib.Omega.{arith}
use lib.ListN.{get_or}
use lib.Dec.{ltb}
use Rattle.numbers.specs.declared.Controller.{Controller}
use Rattle.numbers.specs.declared.Counter.{Counter}
use Rattle.numbers.specs.Words.{map}
use Rattle.numbers.specs.Numbers.{controller, counter}
use Rattle.block.specs.Fields.{field}
use Rattle.row.specs.declared.Row.{Row}
use Rattle.meaning.specs.CrewTable.{CrewTable, holds}
use Rattle.meaning.specs.Clock.{Clock, row}
use Rattle.meaning.specs.Context.{Context, entry, fill_context}
use Rattle.laws.proofs.ContextLaws.{fill_entry}
use Rattle.layout.specs.PointBlock.{decode_context}
use Rattle.record.proofs.Reading.{context_field}
use Rattle.object.proofs.Entries.{given_entry, filled_parts}

back : (i : ℕ) → i + 1 - 1 ≡ i
back i = omega arith

-- x is the counter of controller i + 1 as it was read of 32 bytes
pub read_stored : (s : List ℕ) (i : ℕ) → i < 8 → {x : ℕ} → x ≡ field s (4 * i) 4 → counter x ≡ entry (decode_context s) (controller (i + 1))
read_stored s i l e =
    ap counter (e ∙ ap (λ (j : ℕ). field s (4 * j) 4) (sym (back i))) ∙ sym (context_field s (controller (i + 1)) (omega arith, omega arith))

module _ (t : CrewTable) (job : ℕ) (k : Clock) (c : Context) (given : List ℕ) where
  -- the given context is above the filled one in the entry of controller n
  abbrev pub above : Controller → Bool
  above n = ltb (entry (fill_context t job k c) n).0 (entry (map counter given) n).0

  -- by its parts as they were read: the entry, whether its controller holds the job, the row, and what was made of them
  pub read_above : (i : ℕ) → i < 8 → {e f : Counter} {h : Bool} {r : Row}
      → e ≡ entry c (controller (i + 1)) → h ≡ holds t (controller (i + 1)) job → r ≡ row k (controller (i + 1)) → f ≡ (if h then counter (max e.0 r.base) else e)
      → above (controller (i + 1)) ≡ ltb f.0 (get_or given i 0)
  read_above i l {e} {f} p q s u = λ j. ltb (filled j).0 (entry_given j).0
    where
      filled : entry (fill_context t job k c) (controller (i + 1)) ≡ f
      filled = fill_entry t job k c (controller (i + 1)) (omega arith, omega arith) ∙ sym (u ∙ filled_parts t k c job (controller (i + 1)) p q s)

      entry_given : entry (map counter given) (controller (i + 1)) ≡ counter (get_or given i 0)
      entry_given = given_entry given (i + 1 - 1) ∙ ap (λ (j : ℕ). counter (get_or given j 0)) (back i)

-- the test as it is made at place i, of a stored context's bytes
module _ (t : CrewTable) (job : ℕ) (k : Clock) (stored given : List ℕ) where
  abbrev pub above_at : ℕ → Bool
  above_at i =
      let e = counter (field stored (4 * i) 4) in
      ltb (if holds t (controller (i + 1)) job then counter (max e.0 (row k (controller (i + 1))).base) else e).0 (get_or given i 0)

  pub above_there : (i : ℕ) → i < 8 → above_at i ≡ above t job k (decode_context stored) given (controller (i + 1))
  above_there i l = sym (read_above t job k (decode_context stored) given i l (read_stored stored i l refl) refl refl refl)
