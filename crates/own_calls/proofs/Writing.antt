-- The definitions of write and delete, case by case. Assumes nothing.
use Prim.Native.Nat.{ℕ}
use mathlib.Core.Path.{◌≡◌, ap}
use mathlib.Core.Bool.{false, ◌&&◌}
use mathlib.Core.List.{List}
use lib.ListN.{length}
use lib.Dec.{eqb}
use Rattle.numbers.specs.Words.{map}
use Rattle.numbers.specs.Numbers.{counter}
use Rattle.numbers.specs.Key.{key}
use Rattle.refusal.specs.declared.Refusal.{Refusal}
use Rattle.refusal.specs.declared.Refusal.TheVariants.{OutOfRange}
use Rattle.refusal.specs.Refusal.{Answer, refused, refuse◌when◌else◌, verdict_of}
use Rattle.meaning.specs.State.{State}
use Rattle.meaning.specs.OwnSteps.{ours, Done, write, delete}
use Rattle.layout.specs.Image.{decode}
use Rattle.layout.specs.Calls.{Left, afterwards, one_block, on_image, write_call, delete_call}
use Rattle.writing.specs.LeftBy.{left_by}
use Rattle.store.proofs.Untouched.{untouched}
use Rattle.opening.specs.Admitted.{admitted}
use Rattle.opening.proofs.Ladder.{refused_leaves, not_admitted_first, admitted_then}
use Rattle.std.specs.Prelude.{Ok, Err}

module _ (img : List ℕ) (job point : ℕ) (c out : List ℕ) where
  abbrev lengths : mathlib.Core.Bool.Bool
  lengths = eqb (length c) 8 && one_block out

  -- a step that asks first whether the point is ours
  module _ (does : State → Answer Done) (asks : (s : State) → ours s (key job point) ≡ false → does s ≡ refused OutOfRange) where
    abbrev step : State → Answer Left
    step s = left_by (does s)

    refuses : (s : State) → ours s (key job point) ≡ false → step s ≡ refused OutOfRange
    refuses s h = ap left_by (asks s h)

    not_admitted : (r : Refusal) → verdict_of (admitted img lengths (key job point)) ≡ Err r → afterwards img out (on_image lengths img step) ≡ untouched r img out
    not_admitted r e = refused_leaves img out (on_image lengths img step) r (not_admitted_first img lengths (key job point) step refuses r e)

    goes_on : verdict_of (admitted img lengths (key job point)) ≡ Ok tt → afterwards img out (on_image lengths img step) ≡ afterwards img out (left_by (does (decode img)))
    goes_on e = ap (afterwards img out) (admitted_then img lengths (key job point) step refuses e)

  write_asks : (v : List ℕ) (s : State) → ours s (key job point) ≡ false → write s (key job point) v (map counter c) ≡ refused OutOfRange
  unfolding write refuse◌when◌else◌
  write_asks v s h = rw h

  delete_asks : (s : State) → ours s (key job point) ≡ false → delete s (key job point) (map counter c) ≡ refused OutOfRange
  unfolding delete refuse◌when◌else◌
  delete_asks s h = rw h

  pub write_refused : (v : List ℕ) (r : Refusal) → verdict_of (admitted img (eqb (length c) 8 && one_block out) (key job point)) ≡ Err r → write_call img job point v c out ≡ untouched r img out
  unfolding write_call
  write_refused v r e = not_admitted (λ s. write s (key job point) v (map counter c)) (write_asks v) r e

  pub write_goes_on : (v : List ℕ) → verdict_of (admitted img (eqb (length c) 8 && one_block out) (key job point)) ≡ Ok tt → write_call img job point v c out ≡ afterwards img out (left_by (write (decode img) (key job point) v (map counter c)))
  unfolding write_call
  write_goes_on v e = goes_on (λ s. write s (key job point) v (map counter c)) (write_asks v) e

  pub delete_refused : (r : Refusal) → verdict_of (admitted img (eqb (length c) 8 && one_block out) (key job point)) ≡ Err r → delete_call img job point c out ≡ untouched r img out
  unfolding delete_call
  delete_refused r e = not_admitted (λ s. delete s (key job point) (map counter c)) delete_asks r e

  pub delete_goes_on : verdict_of (admitted img (eqb (length c) 8 && one_block out) (key job point)) ≡ Ok tt → delete_call img job point c out ≡ afterwards img out (left_by (delete (decode img) (key job point) (map counter c)))
  unfolding delete_call
  delete_goes_on e = goes_on (λ s. delete s (key job point) (map counter c)) delete_asks e
