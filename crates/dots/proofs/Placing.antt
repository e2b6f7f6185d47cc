-- What the place that a search found says of a list of dots: where an entry goes, and what is left without it. Assumes nothing.
use Prim.Native.Nat.{ℕ}
use mathlib.Core.Path.{◌≡◌}
use mathlib.Core.Bool.{true, not}
use mathlib.Core.List.{List, ◌∷◌, ◌++◌}
use lib.ListN.{take, drop}
use Rattle.numbers.specs.declared.Dot.{Dot}
use Rattle.numbers.specs.Words.{keep, ascends?, place}
use Rattle.numbers.specs.Dot.{same_dot, dot_before}
use Rattle.numbers.proofs.Dots.{same_dots, dot_itself, dot_order}
use Rattle.block.proofs.Placed.{place_between, place_instead, keep_between, keep_but}
use Rattle.meaning.specs.State.{Listed, listed_before}
use Rattle.dots.specs.Entries.{no_entry, FoundIn}
use Rattle.std.specs.Prelude.{Ok, Err}

-- a dot that is not listed
pub place_listed : (l : Listed) (ls : List Listed) (i : ℕ) → FoundIn ls l.dot (Err i) → place listed_before l ls ≡ take i ls ++ (l ∷ drop i ls)
place_listed l ls i h = place_between (λ x. x.dot) dot_before dot_order l ls i h.1 h.2

pub unlisted_kept : (d : Dot) (ls : List Listed) (i : ℕ) → FoundIn ls d (Err i) → keep (λ l. not (same_dot d l.dot)) ls ≡ ls
unlisted_kept d ls i h = keep_between (λ x. x.dot) dot_before dot_order same_dot same_dots dot_itself d ls i h.1 h.2

-- a dot that is listed
pub place_listed_anew : (l : Listed) (ls : List Listed) (i : ℕ) → ascends? listed_before ls ≡ true → FoundIn ls l.dot (Ok i)
    → place listed_before l ls ≡ take i ls ++ (l ∷ drop 1 (drop i ls))
place_listed_anew l ls i up h = place_instead (λ x. x.dot) dot_before dot_order l ls no_entry i up h.0 h.1

pub listed_goes : (d : Dot) (ls : List Listed) (i : ℕ) → ascends? listed_before ls ≡ true → FoundIn ls d (Ok i)
    → keep (λ l. not (same_dot d l.dot)) ls ≡ take i ls ++ drop 1 (drop i ls)
listed_goes d ls i up h = keep_but (λ x. x.dot) dot_before dot_order same_dot same_dots dot_itself d ls no_entry i up h.0 h.1
