-- What a search by halves in a block of dots has shown. Assumes nothing.
use Prim.Native.Nat.{ℕ, ◌+◌, ◌-◌, ◌≤◌, ◌<◌}
use mathlib.Core.Path.{◌≡◌, refl, sym, ap, ◌∙◌, subst}
use mathlib.Core.Bool.{true, false}
use native.Mathlib.Omega.{arith}
use mathlib.Core.List.{List}
use lib.ListN.{get_or}
use Rattle.numbers.specs.declared.Dot.{Dot}
use Rattle.numbers.specs.Words.{ascends?}
use Rattle.numbers.specs.Dot.{dot_before}
use Rattle.numbers.proofs.Dots.{tied_dots, dot_order}
use Rattle.block.specs.Fields.{field}
use Rattle.block.proofs.Arrays.{upto_at}
use Rattle.block.proofs.ByIndex.{Pairs, upto_ascends}
use Rattle.block.proofs.Search.{Between, nothing_yet, upper_half, lower_half, nowhere}
use Rattle.meaning.specs.State.{Listed, listed_before}
use Rattle.layout.specs.Image.{decode_dots}
use Rattle.dots.specs.Entries.{entry, no_entry, FoundIn}
use Rattle.dots.proofs.Laid.{entries_are, entries_length}
use Rattle.std.specs.Prelude.{Ok, Err}

module _ (b : List ℕ) (few : field b 4 2 ≤ 60) (d : Dot) where
  pub all_pairs : ascends? listed_before (decode_dots b) ≡ true → Pairs listed_before (field b 4 2) (entry b)
  all_pairs t = upto_ascends listed_before (field b 4 2) (entry b) (ap (ascends? listed_before) (sym (entries_are b few)) ∙ t)

  pub found_at : (i : ℕ) → i < field b 4 2 → {f : Dot} → f ≡ (entry b i).dot → dot_before f d ≡ false → dot_before d f ≡ false → FoundIn (decode_dots b) d (Ok i)
  found_at i l {f} q u v = (
    omega (arith, entries_length b few),
    ap (λ (ls : List Listed). (get_or ls i no_entry).dot) (entries_are b few) ∙ ap (λ (x : Listed). x.dot) (upto_at (field b 4 2) (entry b) no_entry i l) ∙ sym q ∙ tied_dots f d (u, v),
  )

  pub found_before : {low high : ℕ} → Between dot_before (field b 4 2) (λ j. (entry b j).dot) d low high → high ≤ low → FoundIn (decode_dots b) d (Err low)
  found_before {low} s h =
      subst (λ (ls : List Listed). FoundIn ls d (Err low)) (sym (entries_are b few)) (nowhere (λ l. l.dot) dot_before (field b 4 2) (entry b) s h)

  -- a dot that comes before the first or after the last of them
  module _ (up : ascends? listed_before (decode_dots b) ≡ true) where
    whole : Between dot_before (field b 4 2) (λ j. (entry b j).dot) d 0 (field b 4 2)
    whole = nothing_yet refl (all_pairs up)

    pub before_none : field b 4 2 ≡ 0 → FoundIn (decode_dots b) d (Err 0)
    before_none e = found_before whole (omega (arith, e))

    pub before_first : 0 < field b 4 2 → {f : Dot} → f ≡ (entry b 0).dot → dot_before d f ≡ true → FoundIn (decode_dots b) d (Err 0)
    before_first l q t = found_before (lower_half dot_order whole 0 (omega arith) l (ap (dot_before d) (sym q) ∙ t)) (omega arith)

    pub after_last : (n : ℕ) → n ≡ field b 4 2 → 0 < n → {f : Dot} → f ≡ (entry b (n - 1)).dot → dot_before f d ≡ true → FoundIn (decode_dots b) d (Err n)
    after_last n e l q t =
        subst (λ (i : ℕ). FoundIn (decode_dots b) d (Err i)) last
        (found_before (upper_half dot_order whole (n - 1) (omega arith) (omega (arith, e)) (ap (λ (x : Dot). dot_before x d) (sym q) ∙ t)) (omega (arith, e)))
      where
        last : n - 1 + 1 ≡ n
        last = omega arith
