-- A point against those before it, dot by dot. Assumes nothing.
use Prim.Native.Nat.{ℕ, ◌+◌, ◌≤◌, ◌<◌}
use mathlib.Core.Path.{◌≡◌, ap, sym, ◌∙◌, subst}
use mathlib.Core.Bool.{Bool, true, false, not}
use mathlib.Core.List.{List}
use native.Mathlib.Omega.{arith}
use lib.ListN.{length}
use mathlib.Core.Logic.{⊎_elim}
use borrow.Author.Count.{below_more}
use borrow.Author.Tests.{not-true}
use Rattle.numbers.specs.declared.Dot.{Dot}
use Rattle.numbers.specs.Words.{every, all?, some?}
use Rattle.numbers.proofs.Tests.{by_test, never, same_test, ◌∈◌}
use Rattle.numbers.proofs.Lists.{some_in, in_some, all_in, in_all}
use Rattle.block.specs.Fields.{field, upto}
use Rattle.block.specs.Block.{block_at}
use Rattle.block.proofs.Arrays.{in_upto, upto_in}
use Rattle.block.proofs.ByIndex.{less_or_same}
use Rattle.block.proofs.Passing.{Passing, one_more, one_fails, all_passed, every_true, every_at, all_upto, some_upto}
use Rattle.meaning.specs.Object.{Version, has_dot}
use Rattle.meaning.specs.State.{Stored}
use Rattle.laws.proofs.MergeLaws.{has_dot_of, of_has_dot}
use Rattle.record.proofs.Reading.{version_at}
use Rattle.apart.specs.Apart.{point_of, apart, apart_from_earlier}
use Rattle.apart.specs.Marks.{both_marked, with_both, Noted}
use Rattle.apart.proofs.Lent.{lent}
use Rattle.block.proofs.Runs.{block_part}
use Rattle.apart.proofs.Versions.{versions_are}
use Rattle.apart.proofs.Marking.{both_length, new_stand, old_stand, unmarked_none, noted_still}

-- ---- two points

pub no_shared : (p q : Stored) → apart p q ≡ true → (v w : Version) → v ∈ p.object.versions → w ∈ q.object.versions → v.dot ≡ w.dot → ⊥
unfolding apart
no_shared p q t v w mv mw e =
    never (subst (λ (d : Dot). has_dot q.object.versions d ≡ true) (sym e) (of_has_dot q.object.versions mw))
    (not-true (has_dot q.object.versions v.dot) (all_in (λ x. not (has_dot q.object.versions x.dot)) p.object.versions t mv))

pub shares_none : (p q : Stored) → ((v w : Version) → v ∈ p.object.versions → w ∈ q.object.versions → v.dot ≡ w.dot → ⊥) → apart p q ≡ true
unfolding apart
shares_none p q h =
    in_all (λ v. not (has_dot q.object.versions v.dot)) p.object.versions
    (λ v m. by_test (has_dot q.object.versions v.dot) (λ t. let x = has_dot_of q.object.versions v.dot t in absurd (h v x.0 m x.1 (sym x.2))) (λ t. ap not t))

-- ---- one dot among the first points

-- the i-th point lacks the dot; one of the first n has it
abbrev pub lacks : List ℕ → Dot → ℕ → Bool
lacks run d i = not (has_dot (point_of run i).object.versions d)

abbrev pub stands : List ℕ → ℕ → Dot → Bool
stands run n d = some? (λ p. has_dot p.object.versions d) (upto n (point_of run))

module _ (run : List ℕ) (n : ℕ) (d : Dot) where
  pub by_points : stands run n d ≡ not (every (upto n (lacks run d)))
  by_points = some_upto (λ (p : Stored). has_dot p.object.versions d) n (point_of run)

-- ---- each dot of the j-th point

module _ (run : List ℕ) (j : ℕ) where
  abbrev pub count : ℕ
  count = field (block_at run j) 5 1

  abbrev pub dot_at : ℕ → Dot
  dot_at i = (version_at (block_at run j) i).dot

  -- the dot of its i-th version stands in none before it
  abbrev pub fresh : ℕ → Bool
  fresh i = not (stands run j (dot_at i))

  pub count_read : {r : ℕ} → r ≡ field (lent run j) 5 1 → r ≡ count
  count_read e = e ∙ ap (λ (b : List ℕ). field b 5 1) (block_part run j)

  module _ (few : count ≤ 8) where
    apart→fresh : apart_from_earlier run j ≡ true → every (upto count fresh) ≡ true
    unfolding apart_from_earlier
    apart→fresh t = every_true count fresh (λ k l. by_test (stands run j (dot_at k)) (λ s. absurd (shared k l s)) (λ s. ap not s))
      where
        shared : (k : ℕ) → k < count → stands run j (dot_at k) ≡ true → ⊥
        shared k l s =
            let q = some_in (λ (p : Stored). has_dot p.object.versions (dot_at k)) (upto j (point_of run)) s in
            let i = in_upto j (point_of run) q.1 in
            let v = has_dot_of (point_of run i.0).object.versions (dot_at k) (subst (λ (p : Stored). has_dot p.object.versions (dot_at k) ≡ true) i.2 q.2) in
            no_shared (point_of run i.0) (point_of run j) (every_at j (λ x. apart (point_of run x) (point_of run j)) t i.0 i.1) v.0 (version_at (block_at run j) k) v.1
            (subst (λ (vs : List Version). version_at (block_at run j) k ∈ vs) (sym (versions_are (block_at run j) few)) (upto_in count (version_at (block_at run j)) k l)) v.2

    fresh→apart : every (upto count fresh) ≡ true → apart_from_earlier run j ≡ true
    unfolding apart_from_earlier
    fresh→apart t = every_true j (λ i. apart (point_of run i) (point_of run j)) (λ i l. shares_none (point_of run i) (point_of run j) (λ v w mv mw e. shared i l v w mv mw e))
      where
        shared : (i : ℕ) → i < j → (v w : Version) → v ∈ (point_of run i).object.versions → w ∈ (point_of run j).object.versions → v.dot ≡ w.dot → ⊥
        shared i l v w mv mw e =
            let k = in_upto count (version_at (block_at run j)) (subst (λ (vs : List Version). w ∈ vs) (versions_are (block_at run j) few) mw) in
            let d : v.dot ≡ dot_at k.0 = e ∙ ap (λ (x : Version). x.dot) k.2 in
            never (in_some (λ (p : Stored). has_dot p.object.versions (dot_at k.0)) (upto j (point_of run)) (upto_in j (point_of run) i l)
            (subst (λ (x : Dot). has_dot (point_of run i).object.versions x ≡ true) d (of_has_dot (point_of run i).object.versions mv)))
            (not-true (stands run j (dot_at k.0)) (every_at count fresh t k.0 k.1))

    pub by_dots : apart_from_earlier run j ≡ every (upto count fresh)
    by_dots = same_test (apart_from_earlier run j) (every (upto count fresh)) apart→fresh fresh→apart

-- ---- with marks

-- the first i dots of the j-th point stand in none before it; the marks of these dots and of the points before stand
pub record Going (run : List ℕ) (j : ℕ) (ms : List ℕ) (i : ℕ) : Type 0 where
  pub passing : Passing (count run j) (fresh run j) i
  pub noted : Noted ms run j
  pub own : (k : ℕ) → k < i → both_marked ms (dot_at run j k) ≡ true

module _ (run : List ℕ) (j : ℕ) (ms : List ℕ) (i : ℕ) (G : Going run j ms i) where
  -- the next dot, as it was read
  module _ (l : i < count run j) (d : Dot) (p : d ≡ (version_at (lent run j) i).dot) where
    read : d ≡ dot_at run j i
    read = p ∙ ap (λ (b : List ℕ). (version_at b i).dot) (block_part run j)

    unmarked_stands_not : both_marked ms d ≡ false → stands run j d ≡ false
    unmarked_stands_not f =
        by_points run j d
        ∙ ap not (every_true j (lacks run d) (λ k h. ap not (unmarked_none ms (point_of run k).object.versions d (G.noted.stand k h) f)))

    pub stood : count run j ≤ 8 → stands run j d ≡ true → false ≡ apart_from_earlier run j
    stood few t = one_fails G.passing l (ap not (ap (stands run j) (sym read) ∙ t)) ∙ sym (by_dots run j few)

    abbrev size : length ms ≡ 32
    size = G.noted.size

    one_gone : stands run j d ≡ false → Going run j (with_both ms d) (i + 1)
    one_gone f =
        record {
          passing = one_more G.passing l (ap not (ap (stands run j) (sym read) ∙ f));
          noted = record { size = both_length ms d ∙ size; stand = λ k h. noted_still ms d size (point_of run k).object.versions (G.noted.stand k h) };
          own =
              below_more _ _ (λ k h. old_stand ms d size (dot_at run j k) (G.own k h))
              (subst (λ (e : Dot). both_marked (with_both ms d) e ≡ true) read (new_stand ms d size));
        }

    -- what was answered of its marks, and the marks then
    module _ {r : Bool} {next : List ℕ} (said : r ≡ both_marked ms d) (then : next ≡ with_both ms d) where
      pub was_marked : stands run j d ≡ false → Going run j next (i + 1)
      was_marked f = subst (λ (x : List ℕ). Going run j x (i + 1)) (sym then) (one_gone f)

      pub was_new : r ≡ false → Going run j next (i + 1)
      was_new f = was_marked (unmarked_stands_not (sym said ∙ f))

  module _ (few : count run j ≤ 8) (h : count run j ≤ i) where
    pub all_fresh : true ≡ apart_from_earlier run j
    all_fresh = all_passed G.passing h ∙ sym (by_dots run j few)

    pub all_noted : Noted ms run (j + 1)
    all_noted = record { size = G.noted.size; stand = λ k l. ⊎_elim (G.noted.stand k) (last k) (less_or_same k j l) }
      where
        last : (k : ℕ) → k ≡ j → all? (λ v. both_marked ms v.dot) (point_of run k).object.versions ≡ true
        last k e =
            ap (λ (n : ℕ). all? (λ v. both_marked ms v.dot) (point_of run n).object.versions) e
            ∙ ap (all? (λ v. both_marked ms v.dot)) (versions_are (block_at run j) few)
            ∙ all_upto (λ v. both_marked ms v.dot) (count run j) (version_at (block_at run j))
            ∙ every_true (count run j) (λ n. both_marked ms (dot_at run j n)) (λ n b. G.own n (omega arith))
