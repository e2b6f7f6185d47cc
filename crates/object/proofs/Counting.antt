-- A loop that counts the things that pass a test, one after the other. Assumes nothing.
use Prim.Native.Nat.{ℕ, ◌+◌, ◌≤◌, ◌<◌}
use mathlib.Core.Path.{◌≡◌, ap, ◌∙◌}
use mathlib.Core.Bool.{Bool, true, false, not}
use mathlib.Core.List.{List, []}
use native.Mathlib.Numerals.{add-one}
use native.Mathlib.Omega.{arith}
use lib.ListN.{length, drop, drop_of_length-le}
use lib.Seq.{drop-cons}
use Rattle.numbers.specs.Words.{cons_if, keep, map}
use Rattle.numbers.specs.Numbers.{counter}
use Rattle.block.specs.Fields.{upto}
use Rattle.block.proofs.Arrays.{upto_length, upto_at}
use Rattle.meaning.specs.Context.{covers}
use Rattle.meaning.specs.Object.{Version}

-- of the first n things i are looked at, and m of these pass
pub record Counted {A : Type 0} (f : A → Bool) (n : ℕ) (e : ℕ → A) (i m : ℕ) : Type 0 where
  pub within : i ≤ n
  pub few : m ≤ i
  pub rest : m + length (keep f (drop i (upto n e))) ≡ length (keep f (upto n e))

pub none_counted : {A : Type 0} (f : A → Bool) (n : ℕ) (e : ℕ → A) → Counted f n e 0 0
none_counted f n e = record { within = omega arith; few = omega arith; rest = omega arith }

module _ {A : Type 0} {f : A → Bool} {n : ℕ} {e : ℕ → A} {i m : ℕ} (C : Counted f n e i m) where
  module _ (l : i < n) where
    next : keep f (drop i (upto n e)) ≡ cons_if (f (e i)) (e i) (keep f (drop (i + 1) (upto n e)))
    next =
        let h : i < length (upto n e) = omega (arith, upto_length n e) in
        rw (add-one i, drop-cons (upto n e) i (e i) h, upto_at n e (e i) i l)

    -- and k pass of those up to this one
    module _ {k : ℕ} where
      pub counted_more : f (e i) ≡ true → k ≡ m + 1 → Counted f n e (i + 1) k
      counted_more t q = record {
        within = omega arith;
        few = omega (arith, C.few);
        rest = omega (arith, C.rest, ap length (next ∙ ap (λ (b : Bool). cons_if b (e i) (keep f (drop (i + 1) (upto n e)))) t));
      }

      pub counted_past : f (e i) ≡ false → k ≡ m → Counted f n e (i + 1) k
      counted_past t q = record {
        within = omega arith;
        few = omega (arith, C.few);
        rest = omega (arith, C.rest, ap length (next ∙ ap (λ (b : Bool). cons_if b (e i) (keep f (drop (i + 1) (upto n e)))) t));
      }

  pub counted_all : n ≤ i → m ≡ length (keep f (upto n e))
  counted_all h =
      let none : drop i (upto n e) ≡ [] = drop_of_length-le (upto n e) {i = i} (omega (arith, upto_length n e)) in
      omega (arith, C.rest, ap (λ (l : List A). length (keep f l)) none)

-- a version that the given context does not cover stays
abbrev pub stays : List ℕ → Version → Bool
stays context v = not (covers (map counter context) v.dot)
