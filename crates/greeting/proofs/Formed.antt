-- What is well-formed in a greeting, as the code asks it. Assumes nothing.
use Prim.Native.Nat.{ℕ}
use mathlib.Core.Path.{◌≡◌, refl, ap, ap₂, sym, ◌∙◌}
use mathlib.Core.Bool.{Bool, true, false, ◌&&◌, ◌||◌}
use mathlib.Core.List.{List, [], ◌∷◌}
use lib.ListN.{length, take, get_or}
use lib.Dec.{eqb}
use Rattle.numbers.specs.declared.Controller.{Controller}
use Rattle.numbers.specs.Words.{every, all?, some?}
use Rattle.numbers.specs.Numbers.{is_controller, controllers}
use Rattle.numbers.proofs.Lists.{Passed, failed, last_test}
use Rattle.block.specs.Fields.{cut}
use Rattle.block.proofs.Arrays.{upto_length}
use Rattle.row.specs.Row.{fits, sound}
use Rattle.meaning.specs.CrewTable.{CrewTable, jobs, holds, share_job, in_some_job}
use Rattle.meaning.specs.Clock.{row, every_row}
use Rattle.meaning.specs.Message.{is_none, clock_formed, ask_formed}
use Rattle.layout.specs.Clocks.{decode_row, decode_clock}
use Rattle.layout.specs.Messages.{decode_ask}

-- a job that it shares with itself
with_itself : (f : ℕ → Bool) (js : List ℕ) → some? (λ j. f j && f j) js ≡ some? f js
with_itself f [] = refl
with_itself f (j ∷ js) = ap₂ (λ (a b : Bool). a || b) (twice (f j)) (with_itself f js)
  where
    twice : (a : Bool) → (a && a) ≡ a
    twice true = refl
    twice false = refl

pub one_job : (t : CrewTable) (n : Controller) → share_job t n n ≡ in_some_job t n
unfolding share_job in_some_job
one_job t n = with_itself (holds t n) jobs

-- ---- the clock

module _ (t : CrewTable) (sender : Controller) (rows : List ℕ) where
  abbrev clock_tests : List Bool
  clock_tests = every_row (λ r. fits r && sound r) (decode_clock rows) ∷ all? (λ n. in_some_job t n || is_none (row (decode_clock rows) n)) controllers ∷ eqb (row (decode_clock rows) sender).bits 0 ∷ []

  eight : eqb (length (decode_clock rows)) 8 ≡ true
  unfolding decode_clock
  eight = ap (λ (n : ℕ). eqb n 8) (upto_length 8 (λ i. decode_row (cut rows (Prim.Native.Nat.◌*◌ 12 i) 12)))

  tested : clock_formed t sender (decode_clock rows) ≡ every clock_tests
  unfolding clock_formed
  tested = ap (λ (b : Bool). b && every clock_tests) eight

  pub ill_clock : (i : ℕ) → get_or clock_tests i true ≡ false → false ≡ clock_formed t sender (decode_clock rows)
  ill_clock i e = failed clock_tests i e ∙ sym tested

  pub by_bits : Passed (take 2 clock_tests) → eqb (row (decode_clock rows) sender).bits 0 ≡ clock_formed t sender (decode_clock rows)
  by_bits p = last_test (take 2 clock_tests) (eqb (row (decode_clock rows) sender).bits 0) p ∙ sym tested

-- ---- the ask

module _ (t : CrewTable) (b : List ℕ) where
  abbrev ask_tests : List Bool
  ask_tests = is_controller (decode_ask b).sender ∷ is_controller (decode_ask b).addressee ∷ clock_formed t (decode_ask b).sender (decode_ask b).clock ∷ []

  pub ill_ask : (i : ℕ) → get_or ask_tests i true ≡ false → false ≡ ask_formed t (decode_ask b)
  unfolding ask_formed
  ill_ask i e = failed ask_tests i e

  pub by_clock : Passed (take 2 ask_tests) → clock_formed t (decode_ask b).sender (decode_ask b).clock ≡ ask_formed t (decode_ask b)
  unfolding ask_formed
  by_clock p = last_test (take 2 ask_tests) (clock_formed t (decode_ask b).sender (decode_ask b).clock) p

  pub clock_of : decode_clock (cut b 8 96) ≡ (decode_ask b).clock
  unfolding decode_ask
  clock_of = refl
