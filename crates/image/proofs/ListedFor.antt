-- A dot of a record in a list: the entry that was found is the only one of the dot. Assumes nothing.
use Prim.Native.Nat.{ℕ, ◌+◌, ◌*◌, ◌-◌, ◌≤◌, ◌<◌}
use mathlib.Core.Path.{◌≡◌, ap, sym, ◌∙◌, subst}
use mathlib.Core.Logic.{⊎_elim}
use mathlib.Core.Bool.{Bool, true, false, ◌||◌, not}
use mathlib.Core.List.{List}
use native.Mathlib.Omega.{arith}
use lib.ListN.{get_or, take, drop}
use lib.Dec.{ltb}
use borrow.Author.Tests.{ltb-true, ltb-false, not-true}
use Rattle.numbers.specs.declared.Dot.{Dot}
use Rattle.numbers.specs.declared.Key.{Key}
use Rattle.numbers.specs.Words.{every, all?, ascends?}
use Rattle.numbers.specs.Dot.{same_dot, dot_before}
use Rattle.numbers.specs.Key.{same_key}
use Rattle.numbers.proofs.Tests.{by_test, never, same_test, or_cases, or_inl, or_inr}
use Rattle.numbers.proofs.Lists.{all_in, in_all}
use Rattle.numbers.proofs.Dots.{same_dots, dot_itself, dot_order}
use Rattle.block.specs.Fields.{field, upto}
use Rattle.block.proofs.Arrays.{in_upto, upto_in, upto_at}
use Rattle.block.proofs.Passing.{all_upto}
use Rattle.block.proofs.Placed.{all_then, all_others}
use Rattle.meaning.specs.State.{Listed, listed_before}
use Rattle.layout.specs.PointBlock.{form_1, decode_stored, decode_point}
use Rattle.layout.specs.Image.{decode_dots}
use Rattle.dots.specs.Entries.{entry, no_entry, FoundIn}
use Rattle.dots.proofs.Laid.{entries_are, entries_length}
use Rattle.dots.proofs.Search.{all_pairs}
use Rattle.record.proofs.Reading.{version_at}
use Rattle.block.proofs.Runs.{block_part}
use Rattle.apart.proofs.Versions.{versions_are}
use Rattle.image.specs.Apart.{dot_listed_for, listed_for, point_at}
use Rattle.std.specs.Prelude.{ℕ, Result, Ok, Err}

-- an entry of the dot is for the point
abbrev for_point : Dot → Key → Listed → Bool
for_point d k l = not (same_dot l.dot d) || same_key l.key k

module _ (b : List ℕ) (few : field b 4 2 ≤ 60) (d : Dot) (k : Key) where
  -- no entry of the dot: those before the place come before it, the others after it
  nowhere : (i : ℕ) → FoundIn (decode_dots b) d (Err i) → true ≡ dot_listed_for (decode_dots b) d k
  nowhere i h =
      sym (all_then (λ l. not (same_dot d l.dot)) (for_point d k)
      (λ l t. or_inl (not (same_dot l.dot d)) (same_key l.key k) (ap not (turned l (not-true (same_dot d l.dot) t)))) (decode_dots b)
      (all_others (λ l. l.dot) dot_before dot_order same_dot same_dots dot_itself d (decode_dots b) i h.1 h.2))
    where
      turned : (l : Listed) → same_dot d l.dot ≡ false → same_dot l.dot d ≡ false
      turned l t = by_test (same_dot l.dot d) (λ u. never (subst (λ (x : Dot). same_dot d x ≡ true) (sym (same_dots l.dot d u)) (dot_itself d)) t) (λ u. u)

  pub found_none : (f : Result ℕ ℕ) (i : ℕ) → f ≡ Err i → FoundIn (decode_dots b) d f → true ≡ dot_listed_for (decode_dots b) d k
  found_none f i q h = nowhere i (subst (FoundIn (decode_dots b) d) q h)

  pub found_within : (f : Result ℕ ℕ) (i : ℕ) → f ≡ Ok i → FoundIn (decode_dots b) d f → i < 60
  found_within f i q h = let g = subst (FoundIn (decode_dots b) d) q h in omega (arith, g.0, entries_length b few)

  -- the entry at i has the dot, and none else
  module _ (up : ascends? listed_before (decode_dots b) ≡ true) (i : ℕ) (l : i < field b 4 2) (e : (entry b i).dot ≡ d) where
    alone : (j : ℕ) → j < field b 4 2 → same_dot (entry b j).dot d ≡ true → j ≡ i
    alone j m t =
        let same : (entry b j).dot ≡ (entry b i).dot = same_dots (entry b j).dot d t ∙ sym e in
        by_test (ltb j i) (λ u. never (all_pairs b few d up j i (ltb-true j i u) l) (ap (λ (x : Dot). dot_before x (entry b i).dot) same ∙ dot_order.itself (entry b i).dot))
        (λ u. by_test (ltb i j) (λ v. never (all_pairs b few d up i j (ltb-true i j v) m) (ap (dot_before (entry b i).dot) same ∙ dot_order.itself (entry b i).dot))
        (λ v. omega (arith, ltb-false j i u, ltb-false i j v)))

    to : same_key (entry b i).key k ≡ true → all? (for_point d k) (upto (field b 4 2) (entry b)) ≡ true
    to t =
        in_all (for_point d k) (upto (field b 4 2) (entry b))
        (λ x m.
        let q = in_upto (field b 4 2) (entry b) m in
        by_test (same_dot x.dot d)
        (λ u. or_inr (not (same_dot x.dot d)) (same_key x.key k)
        (ap (λ (y : Listed). same_key y.key k) (q.2 ∙ ap (entry b) (alone q.0 q.1 (ap (λ (y : Listed). same_dot y.dot d) (sym q.2) ∙ u))) ∙ t))
        (λ u. or_inl (not (same_dot x.dot d)) (same_key x.key k) (ap not u)))

    from : all? (for_point d k) (upto (field b 4 2) (entry b)) ≡ true → same_key (entry b i).key k ≡ true
    from t =
        ⊎_elim (λ u. never (ap (λ (x : Dot). same_dot x d) e ∙ dot_itself d) (not-true (same_dot (entry b i).dot d) u)) (λ u. u)
        (or_cases (not (same_dot (entry b i).dot d)) (same_key (entry b i).key k) (all_in (for_point d k) (upto (field b 4 2) (entry b)) t (upto_in (field b 4 2) (entry b) i l)))

  pub found_there : (f : Result ℕ ℕ) (i : ℕ) (x : Key) (r : Bool) → ascends? listed_before (decode_dots b) ≡ true → f ≡ Ok i → FoundIn (decode_dots b) d f
      → x ≡ (entry b i).key → r ≡ same_key x k → r ≡ dot_listed_for (decode_dots b) d k
  found_there f i x r up q h p e =
      let g = subst (FoundIn (decode_dots b) d) q h in
      let l : i < field b 4 2 = omega (arith, g.0, entries_length b few) in
      let dot_is : (entry b i).dot ≡ d = sym (ap (λ (ls : List Listed). (get_or ls i no_entry).dot) (entries_are b few) ∙ ap (λ (y : Listed). y.dot) (upto_at (field b 4 2) (entry b) no_entry i l)) ∙ g.1 in
      e ∙ ap (λ (y : Key). same_key y k) p
      ∙ same_test (same_key (entry b i).key k) (all? (for_point d k) (upto (field b 4 2) (entry b))) (to up i l dot_is) (from up i l dot_is)
      ∙ ap (all? (for_point d k)) (sym (entries_are b few))

-- ---- the versions of a block

abbrev pub slot_listed : List Listed → List ℕ → ℕ → Bool
slot_listed ls b i = dot_listed_for ls (version_at b i).dot (decode_point form_1 b).key

pub listed_by : (ls : List Listed) (b : List ℕ) → field b 5 1 ≤ 8 → listed_for ls (decode_stored form_1 b) ≡ every (upto (field b 5 1) (slot_listed ls b))
unfolding listed_for decode_stored
listed_by ls b h =
    ap (all? (λ v. dot_listed_for ls v.dot (decode_point form_1 b).key)) (versions_are b h)
    ∙ all_upto (λ v. dot_listed_for ls v.dot (decode_point form_1 b).key) (field b 5 1) (version_at b)

pub slot_is : (ls : List Listed) (b : List ℕ) (i : ℕ) (d : Dot) (k : Key) (r : Bool) → d ≡ (version_at b i).dot → k ≡ (decode_point form_1 b).key → r ≡ dot_listed_for ls d k → r ≡ slot_listed ls b i
slot_is ls b i d k r p q e = e ∙ ap (λ (x : Dot). dot_listed_for ls x k) p ∙ ap (dot_listed_for ls (version_at b i).dot) q

-- all of them
pub listed_all : (ls : List Listed) (b : List ℕ) (n : ℕ) (r : Bool) → field b 5 1 ≤ 8 → n ≡ field b 5 1 → r ≡ every (upto n (slot_listed ls b)) → r ≡ listed_for ls (decode_stored form_1 b)
listed_all ls b n r h c e = e ∙ ap (λ (m : ℕ). every (upto m (slot_listed ls b))) c ∙ sym (listed_by ls b h)

pub listed_part : (ls : List Listed) (img : List ℕ) (i : ℕ) (r : Bool)
    → r ≡ listed_for ls (decode_stored form_1 (take (512 * (3 + i) + 512 - 512 * (3 + i)) (drop (512 * (3 + i)) img))) → r ≡ listed_for ls (point_at img i)
listed_part ls img i r e = e ∙ ap (λ (b : List ℕ). listed_for ls (decode_stored form_1 b)) (block_part img (3 + i))
