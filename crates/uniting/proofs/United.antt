-- A clock with the sender's row about itself united with ours: one row is put anew, and each is sound. Assumes nothing.
use Rattle.std.specs.Prelude.{if◌then◌else◌}
use Prim.Native.Nat.{◌-◌}
use mathlib.Core.Path.{◌≡◌, ap, sym, ◌∙◌, subst}
use mathlib.Core.Bool.{true}
use lib.ListN.{length}
use Rattle.numbers.specs.declared.Controller.{Controller}
use Rattle.numbers.specs.Numbers.{same_controller, Crew}
use Rattle.numbers.proofs.Tests.{by_test}
use Rattle.numbers.proofs.Controllers.{same_controllers, each_same}
use Rattle.block.specs.Fields.{put_at}
use Rattle.row.specs.declared.Row.{Row}
use Rattle.row.specs.Row.{none_seen, unite, sound}
use Rattle.row.proofs.Highest.{unite_sound}
use Rattle.meaning.specs.Clock.{Clock, row, every_row, with_row}
use Rattle.meaning.specs.State.{State}
use Rattle.laws.proofs.Facts.{at_every_row}
use Rattle.laws.proofs.Goodness.{Good}
use Rattle.laws.proofs.Entering.{united_row}
use Rattle.store.proofs.OneEntry.{put_as_each}

-- the one row, put
pub united_put : (k : Clock) → length k ≡ 8 → (m : Controller) → Crew m → (r x : Row) → x ≡ unite (row k m) r → put_at k (m.0 - 1) x ≡ with_row k m r
unfolding with_row
united_put k eight m crew r x e =
    put_as_each k eight m crew x none_seen
    ∙ each_same (λ n. if same_controller n m then x else row k n) (λ n. if same_controller n m then unite (row k n) r else row k n)
    (λ n c. by_test (same_controller n m) (λ t. rw t (e ∙ ap (λ (o : Controller). unite (row k o) r) (sym (same_controllers n m t)))) (λ t. rw t))

-- a good state's rows, with a sound one united with one of them
pub united_sound : (s : State) → Good s → (m : Controller) (r : Row) → sound r ≡ true → (k : Clock) → k ≡ with_row s.clock m r → every_row sound k ≡ true
united_sound s G m r h k e = subst (λ (z : Clock). every_row sound z ≡ true) (sym e) (at_every_row sound (with_row s.clock m r) each_sound)
  where
    each_sound : (n : Controller) → Crew n → sound (row (with_row s.clock m r) n) ≡ true
    each_sound n c =
        rw (united_row s.clock m r n c)
        (by_test (same_controller n m) (λ t. rw t (unite_sound (row s.clock n) r (G.row_sound n c).1 h)) (λ t. rw t (G.row_sound n c).1))
