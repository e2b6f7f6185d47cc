-- The results of a repair, counted one after the other. Assumes nothing.
use Prim.Native.Nat.{ℕ, ◌+◌, ◌/◌, ◌≤◌, ◌<◌}
use mathlib.Core.Path.{◌≡◌, refl, ap, sym, ◌∙◌}
use mathlib.Core.Bool.{Bool, true, false, ◌||◌}
use mathlib.Core.List.{List, [], ◌∷◌}
use native.Mathlib.Omega.{arith}
use borrow.Author.Count.{below_more}
use lib.ListN.{length, get_or, take, set, length-set, length-take}
use lib.Seq.{get_or-set_same, get_or-set_other, get_or-take, ext_get_or}
use Rattle.numbers.specs.Words.{some?, keep, map, fold}
use Rattle.numbers.proofs.Tests.{by_test}
use Rattle.numbers.proofs.Lists.{map_length}
use Rattle.block.specs.Fields.{upto}
use Rattle.block.specs.Block.{block_at}
use Rattle.block.proofs.Arrays.{upto_at, map_upto}
use Rattle.meaning.specs.Clock.{Clock}
use Rattle.meaning.specs.State.{Stored, State}
use Rattle.layout.specs.PointBlock.{form_1, decode_stored}
use Rattle.placing.specs.Placed.{comes, goes_away}
use Rattle.arriving.proofs.Folding.{Folded, folded_more, folded_all}
use Rattle.mending.specs.Mended.{mend, results}
use Rattle.mending.proofs.Passing.{results_length}
use Rattle.tallying.specs.Tallied.{mark, too_many, Weighed, AllWeighed}

-- ---- any list

module _ {A : Type 0} (f : A → Bool) where
  fold_some : (b : Bool) (xs : List A) → fold (λ t x. t || f x) b xs ≡ (b || some? f xs)
  fold_some true [] = refl
  fold_some false [] = refl
  fold_some true (x ∷ xs) = fold_some true xs
  fold_some false (x ∷ xs) = fold_some (f x) xs

  fold_kept : (n : ℕ) (xs : List A) → fold (λ m x. m + mark (f x)) n xs ≡ n + length (keep f xs)
  fold_kept n [] = omega arith
  fold_kept n (x ∷ xs) =
      fold_kept (n + mark (f x)) xs ∙ by_test (f x)
      (λ t. omega (arith, ap mark t, ap length (kept_when t)))
      (λ t. omega (arith, ap mark t, ap length (dropped_when t)))
    where
      kept_when : f x ≡ true → keep f (x ∷ xs) ≡ x ∷ keep f xs
      kept_when t = rw t

      dropped_when : f x ≡ false → keep f (x ∷ xs) ≡ keep f xs
      dropped_when t = rw t

  all_kept : (xs : List A) → fold (λ m x. m + mark (f x)) 0 xs ≡ length (keep f xs)
  all_kept xs = omega (arith, fold_kept 0 xs)

-- ---- the results

abbrev pub result_at : State → Clock → List ℕ → ℕ → Stored
result_at s k run i = mend s k (decode_stored form_1 (block_at run i))

pub results_are : (s : State) (k : Clock) (run : List ℕ) → results s k run ≡ upto (length run / 512) (result_at s k run)
results_are s k run = map_upto (mend s k) (length run / 512) (λ i. decode_stored form_1 (block_at run i))

-- of the first i is told
pub record Tallying (s : State) (k c : Clock) (run : List ℕ) (i : ℕ) (many : Bool) (coming going : ℕ) (marks : List ℕ) : Type 0 where
  pub many_so : Folded (λ t r. t || too_many r) (length run / 512) (result_at s k run) false i many
  pub coming_so : Folded (λ m r. m + mark (comes c s.points r)) (length run / 512) (result_at s k run) 0 i coming
  pub going_so : Folded (λ m r. m + mark (goes_away c s.points r)) (length run / 512) (result_at s k run) 0 i going
  pub few_come : coming ≤ i
  pub few_go : going ≤ i
  pub size : length marks ≡ 120
  pub marked : (j : ℕ) → j < i → get_or marks j 0 ≡ mark (comes c s.points (result_at s k run j))

pub mark_low : (b : Bool) → mark b ≤ 1
mark_low true = omega arith
mark_low false = omega arith

module _ (s : State) (k c : Clock) (run : List ℕ) where
  module _ (i : ℕ) (many : Bool) (coming going : ℕ) (marks : List ℕ) (T : Tallying s k c run i many coming going marks) where
    pub tally_more : i < length run / 512 → i < 120 → (a b d : Bool) → Weighed s c (result_at s k run i) a b d → (t : Bool) (x y z : ℕ) → t ≡ (many || a) → x ≡ coming + mark b → y ≡ going + mark d → z ≡ mark b
        → Tallying s k c run (i + 1) t x y (set marks i z)
    tally_more l room a b d W t x y z et ex ey ez = record {
      many_so = folded_more T.many_so l t (et ∙ ap (λ (u : Bool). many || u) W.0);
      coming_so = folded_more T.coming_so l x (ex ∙ ap (λ (u : Bool). coming + mark u) W.1);
      going_so = folded_more T.going_so l y (ey ∙ ap (λ (u : Bool). going + mark u) W.2);
      few_come = omega (arith, T.few_come, ex, mark_low b);
      few_go = omega (arith, T.few_go, ey, mark_low d);
      size = length-set marks i z ∙ T.size;
      marked = below_more _ _ (λ j h. get_or-set_other marks i j z 0 (λ q. omega arith) ∙ T.marked j h) (get_or-set_same marks i z 0 (omega (arith, T.size)) ∙ ez ∙ ap mark W.1);
    }

    pub tally_all : length run / 512 ≤ i → length run / 512 ≤ 120 → AllWeighed s c (results s k run) (length run / 512) many coming going marks
    tally_all h room = (
      folded_all T.many_so h ∙ fold_some too_many false (upto n e) ∙ ap (some? too_many) (sym are),
      folded_all T.coming_so h ∙ all_kept (comes c s.points) (upto n e) ∙ ap (λ (rs : List Stored). length (keep (comes c s.points) rs)) (sym are),
      folded_all T.going_so h ∙ all_kept (goes_away c s.points) (upto n e) ∙ ap (λ (rs : List Stored). length (keep (goes_away c s.points) rs)) (sym are),
      marks_are,
    )
      where
        n : ℕ
        n = length run / 512

        e : ℕ → Stored
        e = result_at s k run

        are : results s k run ≡ upto (length run / 512) (result_at s k run)
        are = results_are s k run

        f : Stored → ℕ
        f r = mark (comes c s.points r)

        marks_are : take (length run / 512) marks ≡ map (λ r. mark (comes c s.points r)) (results s k run)
        marks_are = ext_get_or 0 (take n marks) (map f (results s k run)) (omega (arith, taken, map_length f (results s k run), results_length s k run)) each_mark
          where
            taken : length (take (length run / 512) marks) ≡ length run / 512
            taken = simp (length-take) (omega (arith, T.size))

            marks_of : map f (results s k run) ≡ upto n (λ i. f (e i))
            marks_of = ap (map f) are ∙ map_upto f n e

            each_mark : (j : ℕ) → j < length (take (length run / 512) marks) → get_or (take (length run / 512) marks) j 0 ≡ get_or (map f (results s k run)) j 0
            each_mark j l =
                get_or-take n marks j 0 (omega (arith, l, taken)) ∙ T.marked j (omega (arith, l, taken))
                ∙ sym (ap (λ (xs : List ℕ). get_or xs j 0) marks_of ∙ upto_at n (λ i. f (e i)) 0 j (omega (arith, l, taken)))
