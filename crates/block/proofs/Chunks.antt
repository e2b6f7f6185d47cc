-- The roads over the blocks of a run, as `chunks_exact(512)` gives them: which thing comes for each number below their count (Roads says what comes of a road). A road
-- takes the clauses `rest` and `size` of `chunks_exact` and then those of the adapter. Assumes nothing.
use Prim.Native.Nat.{ℕ, zero, suc, ◌+◌, ◌*◌, ◌-◌, ◌/◌, ◌≤◌, ◌<◌}
use mathlib.Core.Path.{◌≡◌, refl, ap, sym, ◌∙◌, subst}
use mathlib.Core.List.{List, [], ◌∷◌, ◌++◌, map-id}
use native.Mathlib.Nat.{le_of_suc-le-suc}
use native.Mathlib.Omega.{arith}
use lib.ListN.{length, get_or, length-append}
use denote.Ref.{Bor}
use denote.Param.Members.{Mut}
use Rattle.std.specs.declared.slice.ChunksExact.{ChunksExact}
use Rattle.std.specs.declared.slice.Iter.{Iter}
use Rattle.std.specs.declared.iter.Enumerate.{Enumerate}
use Rattle.std.specs.declared.iter.Map.{Map}
use Rattle.std.specs.declared.iter.Take.{Take}
use Rattle.std.specs.declared.iter.Zip.{Zip}
use Rattle.std.specs.Fn.{Called}
use Rattle.std.specs.Iterator.{AlwaysYields, CallableAtEachTurn}
use Rattle.std.specs.Iterator.Adapters.{enumerate_source, enumerate_count, enumerate_steps, map_source, map_callee, map_steps, take_source, take_count, take_steps, zip_first, zip_second, zip_steps}
use Rattle.std.specs.List.{enumerate_from, zip}
use Rattle.std.specs.Slice.Iter.{iter_rest, iter_steps, chunks_exact_rest, chunks_exact_size, chunks_exact_steps}
use Rattle.std.proofs.lemmas.Iterator.{YieldsList, YieldsList-from_slice, YieldsList-from_map, YieldsList-from_take, YieldsList-from_zip}
use Rattle.std.proofs.lemmas.Iterator.Consumers.{YieldsList-from_enumerate, YieldsList-at}
use Rattle.block.specs.Fields.{cut, upto}
use Rattle.block.specs.Block.{block_at}
use Rattle.block.proofs.Arrays.{upto_same, take_upto}
use Rattle.block.proofs.Content.{block_length}
use Rattle.block.proofs.Parts.{cut_past, cut_first}
use Rattle.block.proofs.Roads.{Road, served}

-- ---- the blocks

-- d reads each
module _ {B : Type 0} (d : List ℕ → B) where
  gives : (m : ℕ) (s : ChunksExact ℕ) (run : List ℕ) → chunks_exact_rest s ≡ run → chunks_exact_size s ≡ 512 → 512 * m ≤ length run → length run < 512 * m + 512
      → AlwaysYields chunks_exact_steps (λ y. d y.now) s (upto m (λ k. d (cut run (512 * k) 512)))
  gives zero s run e n h l = λ x t p. omega (arith, ap length e, ap length p.1.0, length-append x.now (chunks_exact_rest t), p.1.1)
  gives (suc m) s run e n h l = (
    (λ t p. omega (arith, ap length e, p.1.0)),
    λ x t p.
        let is : run ≡ x.now ++ chunks_exact_rest t = sym e ∙ p.1.0 in
        let size : length x.now ≡ 512 = p.1.1 ∙ n in
        let rest : length run ≡ 512 + length (chunks_exact_rest t) = omega (arith, ap length is, length-append x.now (chunks_exact_rest t)) in
        let later : (k : ℕ) → cut (chunks_exact_rest t) (512 * k) 512 ≡ cut run (512 * suc k) 512 =
        λ (k : ℕ).
        let o : 512 * suc k - 512 ≡ 512 * k = omega arith in
        sym (ap (λ (u : List ℕ). cut u (512 * suc k) 512) is ∙ cut_past x.now (chunks_exact_rest t) 512 (512 * suc k) 512 size (omega arith) ∙ ap (λ (i : ℕ). cut (chunks_exact_rest t) i 512) o) in (
          ap d (sym (ap (λ (u : List ℕ). cut u 0 512) is ∙ cut_first x.now (chunks_exact_rest t) 512 size)),
          subst (AlwaysYields chunks_exact_steps (λ (y : Bor (List ℕ)). d y.now) t)
              (upto_same m (λ k. d (cut (chunks_exact_rest t) (512 * k) 512)) (λ k. d (cut run (512 * suc k) 512)) (λ k b. ap d (later k)))
              (gives m t (chunks_exact_rest t) refl (p.0 ∙ n) (omega arith) (omega arith)),
        ),
  )

-- a list with its numbers, and with what stands beside it
enumerated : {B : Type 0} (j n : ℕ) (f : ℕ → B) → enumerate_from j (upto n f) ≡ upto n (λ k. (j + k, f k))
enumerated j zero f = refl
enumerated j (suc n) f =
    let here : j ≡ j + 0 = omega arith in
    let later =
    enumerated (j + 1) n (λ k. f (suc k)) ∙ upto_same n (λ k. (j + 1 + k, f (suc k))) (λ k. (j + suc k, f (suc k))) (λ k l. let o : j + 1 + k ≡ j + suc k = omega arith in λ i. (o i, f (suc k))) in
    λ i. (here i, f 0) ∷ later i

beside : {B E : Type 0} (n : ℕ) (f : ℕ → B) (vs : List E) (e : E) → n ≤ length vs → zip (upto n f) vs ≡ upto n (λ k. (f k, get_or vs k e))
beside zero f vs e h = refl
beside (suc n) f [] e h = absurd (omega arith)
beside (suc n) f (v ∷ vs) e h = λ i. (f 0, v) ∷ beside n (λ k. f (suc k)) vs e (le_of_suc-le-suc h) i

module _ {B : Type 0} (d : List ℕ → B) {s : ChunksExact ℕ} (run : List ℕ) (rest : chunks_exact_rest s ≡ run) (size : chunks_exact_size s ≡ 512) where
  pub blocks_given : Road chunks_exact_steps (λ y. d y.now) s (length run / 512) (λ k. d (block_at run k))
  unfolding block_at
  blocks_given = record { gives = record { runs = gives d (length run / 512) s run rest size (omega arith) (omega arith) } }

  -- the first m of them
  pub taken_given : {z : Take (ChunksExact ℕ)} → take_source z ≡ s → (m : ℕ) → take_count z ≡ m → m ≤ length run / 512 → Road (take_steps chunks_exact_steps) (λ y. d y.now) z m (λ k. d (block_at run k))
  taken_given {z} source m count h = record {
    gives =
        subst (YieldsList (take_steps chunks_exact_steps) (λ (y : Bor (List ℕ)). d y.now) z) (take_upto m (length run / 512) (λ k. d (block_at run k)) h)
        (YieldsList-from_take m (YieldsList-at source blocks_given.gives) count);
  }

  -- what a closure makes of each
  pub mapped_given : {F : Type 0} {g : Mut F (Bor (List ℕ) × Unit {0}) B} {z : Map (ChunksExact ℕ) F} {f : F} → map_source z ≡ s → map_callee z ≡ f
      → ((x : Bor (List ℕ)) (r : B) (q : F) → Called g f (x, tt) r q → (q ≡ f) × (r ≡ d x.now)) → Road (map_steps chunks_exact_steps g) (λ r. r) z (length run / 512) (λ k. d (block_at run k))
  mapped_given {g = g} {z = z} source closure same = record {
    gives =
        subst (YieldsList (map_steps chunks_exact_steps g) (λ r. r) z) (map-id (upto (length run / 512) (λ k. d (block_at run k))))
        (YieldsList-from_map g (λ k. k) (YieldsList-at source blocks_given.gives) closure same);
  }

  -- each with its number
  pub numbered_given : {z : Enumerate (ChunksExact ℕ)} → enumerate_source z ≡ s → enumerate_count z ≡ 0
      → Road {B = ℕ × B} (enumerate_steps chunks_exact_steps) (λ p. (p.0, d p.1.now)) z (length run / 512) (λ k. (k, d (block_at run k)))
  numbered_given {z} source count = record {
    gives =
        subst (YieldsList (enumerate_steps chunks_exact_steps) (λ (p : ℕ × Bor (List ℕ)). (p.0, d p.1.now)) z)
        (enumerated 0 (length run / 512) (λ k. d (block_at run k))
        ∙ upto_same (length run / 512) (λ k. (0 + k, d (block_at run k))) (λ k. (k, d (block_at run k))) (λ k l. let o : 0 + k ≡ k = omega arith in λ i. (o i, d (block_at run k))))
        (YieldsList-from_enumerate (YieldsList-at source blocks_given.gives) count);
  }

  -- each with what stands beside it in a list that is long enough
  pub zipped_given : {E : Type 0} {z : Zip (ChunksExact ℕ) (Iter E)} → zip_first z ≡ s → (vs : List E) (e : E) → iter_rest (zip_second z) ≡ vs → length run / 512 ≤ length vs
      → Road {B = B × E} (zip_steps chunks_exact_steps iter_steps) (λ p. (d p.0.now, p.1.now)) z (length run / 512) (λ k. (d (block_at run k), get_or vs k e))
  zipped_given {E} {z} first vs e second h = record {
    gives =
        subst (YieldsList (zip_steps chunks_exact_steps iter_steps) (λ (p : Bor (List ℕ) × Bor E). (d p.0.now, p.1.now)) z) (beside (length run / 512) (λ k. d (block_at run k)) vs e h)
        (YieldsList-from_zip (YieldsList-at first blocks_given.gives) (YieldsList-from_slice vs second));
  }

-- ---- a block that came

pub given_size : (run : List ℕ) (k : ℕ) {x : List ℕ} → k < length run / 512 → x ≡ block_at run k → length x ≡ 512
given_size run k l e = ap length e ∙ block_length run k (omega arith)

-- a closure may be called at each block, since it may at what stands in its place
pub blocks_served : {s : ChunksExact ℕ} (run : List ℕ) → chunks_exact_rest s ≡ run → chunks_exact_size s ≡ 512 → {F : Type 0} {f : F} {R : F → Bor (List ℕ) → F → Type 0} {Q : F → Bor (List ℕ) → Type 0}
    → ((x : Bor (List ℕ)) (q : F) → R f x q → q ≡ f) → ((x : Bor (List ℕ)) (k : ℕ) → k < length run / 512 → x.now ≡ block_at run k → length x.now ≡ 512 → Q f x) → CallableAtEachTurn chunks_exact_steps R Q s f
blocks_served run rest size same at = served (blocks_given (λ b. b) run rest size) same (λ x k l e. at x k l e (given_size run k l e))
