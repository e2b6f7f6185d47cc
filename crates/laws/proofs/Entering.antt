-- The clock after dots have entered it and after a row was united, row by row. Assumes nothing.
use Rattle.std.specs.Prelude.{if◌then◌else◌}
use Prim.Native.Nat.{◌+◌, ◌≤◌, ◌<◌}
use mathlib.Core.Path.{◌≡◌, refl, sym, ap, ◌∙◌, subst}
use mathlib.Core.Logic.{◌⊎◌, inl, inr, ◌↔◌, ⊎_elim}
use mathlib.Core.Bool.{true, false}
use mathlib.Core.List.Memᴰ
use mathlib.Core.List.{List, [], ◌∷◌}
use native.Mathlib.Omega.{arith}
use native.Mathlib.Nat.{le_refl}
use lib.ListN.{length}
use lib.Dec.{leb}
use borrow.Author.Tests.{leb-true, leb-false}
use Rattle.numbers.specs.declared.Controller.{Controller}
use Rattle.numbers.specs.declared.Counter.{Counter}
use Rattle.numbers.specs.declared.Dot.{Dot}
use Rattle.numbers.specs.Words.{cons_if, fold}
use Rattle.numbers.specs.Numbers.{is_counter, same_controller, each}
use Rattle.numbers.proofs.Tests.{by_test, never, ◌∈◌, here, there}
use Rattle.numbers.proofs.Controllers.{Crew, at_each, each_same, each_entry, same_controllers, controller_itself}
use Rattle.row.specs.declared.Row.{Row}
use Rattle.row.specs.Row.{none_seen, add, unite, sound}
use Rattle.row.proofs.Members.{Clear}
use Rattle.row.proofs.Adding.{add_base, add_old, add_next, add_all, Positive, add_all_has, any_order}
use Rattle.row.proofs.Highest.{counter_positive, add_sound}
use Rattle.meaning.specs.Clock.{Clock, row, in_clock, enter, with_row}
use Rattle.meaning.specs.State.{Stored, Listed, dots_of}
use Rattle.meaning.specs.Settle.{entered}

pub row_each : (f : Controller → Row) (n : Controller) → Crew n → row (each f) n ≡ f n
row_each f n c = at_each f none_seen n c

-- ---- one dot, one row

pub enter_row : (k : Clock) (d : Dot) (n : Controller) → Crew n → row (enter k d) n ≡ (if same_controller n d.who then add (row k n) d.count else row k n)
unfolding enter
enter_row k d n c = row_each (λ m. if same_controller m d.who then add (row k m) d.count else row k m) n c

enter_same : (k : Clock) (d : Dot) (n : Controller) → Crew n → same_controller n d.who ≡ true → row (enter k d) n ≡ add (row k n) d.count
enter_same k d n c t = enter_row k d n c ∙ rw t

enter_other : (k : Clock) (d : Dot) (n : Controller) → Crew n → same_controller n d.who ≡ false → row (enter k d) n ≡ row k n
enter_other k d n c t = enter_row k d n c ∙ rw t

pub united_row : (k : Clock) (m : Controller) (r : Row) (n : Controller) → Crew n → row (with_row k m r) n ≡ (if same_controller n m then unite (row k n) r else row k n)
unfolding with_row
united_row k m r n c = row_each (λ x. if same_controller x m then unite (row k x) r else row k x) n c

-- ---- the dots of a list

-- the counters of controller n among some dots
unfoldable pub counts : Controller → List Listed → List Counter
counts n [] = []
counts n (l ∷ ls) = cons_if (same_controller n l.dot.who) l.dot.count (counts n ls)

-- the row of each controller has its counters added, in the order in which they stand
enter_all_row : (ls : List Listed) (k : Clock) (n : Controller) → Crew n → row (fold (λ c l. enter c l.dot) k ls) n ≡ add_all (row k n) (counts n ls)
unfolding counts add_all
enter_all_row [] k n c = refl
enter_all_row (l ∷ ls) k n c =
    let rest = enter_all_row ls (enter k l.dot) n c in
    by_test (same_controller n l.dot.who)
    (λ t. rest ∙ ap (λ (r : Row). fold add r (counts n ls)) (enter_same k l.dot n c t) ∙ rw t)
    (λ t. rest ∙ ap (λ (r : Row). fold add r (counts n ls)) (enter_other k l.dot n c t) ∙ rw t)

pub entered_row : (k : Clock) (rs : List Stored) (n : Controller) → Crew n → row (entered k rs) n ≡ add_all (row k n) (counts n (dots_of rs))
unfolding entered
entered_row k rs n c = enter_all_row (dots_of rs) k n c

enter_all_eight : (ls : List Listed) (k : Clock) → length k ≡ 8 → length (fold (λ c l. enter c l.dot) k ls) ≡ 8
enter_all_eight [] k e = e
enter_all_eight (l ∷ ls) k e = enter_all_eight ls (enter k l.dot) (unfold enter in refl)

pub entered_eight : (k : Clock) (rs : List Stored) → length k ≡ 8 → length (entered k rs) ≡ 8
unfolding entered
entered_eight k rs e = enter_all_eight (dots_of rs) k e

pub in_counts : (n : Controller) (ls : List Listed) {c : Counter} → c ∈ counts n ls → (l : Listed) × (l ∈ ls) × (l.dot.who ≡ n) × (l.dot.count ≡ c)
unfolding counts
in_counts n [] m = absurd (Memᴰ.not-nil m)
in_counts n (l ∷ ls) {c} m =
    let Goal : Type 0 = (x : Listed) × (x ∈ l ∷ ls) × (x.dot.who ≡ n) × (x.dot.count ≡ c) in
    let more : c ∈ counts n ls → Goal = λ h. let q = in_counts n ls h in (q.0, there q.1, q.2, q.3) in
    by_test (same_controller n l.dot.who)
    (λ t. ⊎_elim (λ e. (l, here refl, sym (same_controllers n l.dot.who t), sym e)) more (Memᴰ.cases_cons (rw t at m)))
    (λ t. more (rw t at m))

pub counts_in : (ls : List Listed) {l : Listed} → l ∈ ls → l.dot.count ∈ counts l.dot.who ls
unfolding counts
counts_in [] m = absurd (Memᴰ.not-nil m)
counts_in (x ∷ xs) {l} m =
    let rest : l ∈ xs → l.dot.count ∈ counts l.dot.who xs = counts_in xs in
    by_test (same_controller l.dot.who x.dot.who)
    (λ t. rw t (⊎_elim (λ e. here (ap (λ (z : Listed). z.dot.count) e)) (λ h. there (rest h)) (Memᴰ.cases_cons m)))
    (λ t. rw t (⊎_elim (λ e. never (subst (λ (z : Listed). same_controller l.dot.who z.dot.who ≡ true) e (controller_itself l.dot.who)) t) rest (Memᴰ.cases_cons m)))

-- ---- what adding keeps

module _ (P : Row → Type 0) (Q : Counter → Type 0) (step : (r : Row) (c : Counter) → P r → Q c → P (add r c)) where
  pub add_all_keeps : (r : Row) (cs : List Counter) → P r → ((c : Counter) → c ∈ cs → Q c) → P (add_all r cs)
  unfolding add_all
  add_all_keeps r [] p q = p
  add_all_keeps r (c ∷ cs) p q = add_all_keeps (add r c) cs (step r c p (q c (here refl))) (λ d m. q d (there m))

pub add_all_base : (r : Row) (cs : List Counter) → r.base ≤ (add_all r cs).base
add_all_base r cs = add_all_keeps (λ x. r.base ≤ x.base) (λ c. Unit {0}) (λ x c h u. omega (arith, add_base x c)) r cs (le_refl r.base) (λ c m. tt)

pub add_all_sound : (r : Row) (cs : List Counter) → sound r ≡ true → ((c : Counter) → c ∈ cs → is_counter c ≡ true) → sound (add_all r cs) ≡ true
add_all_sound r cs p q = add_all_keeps (λ x. sound x ≡ true) (λ c. is_counter c ≡ true) (λ x c h k. add_sound x c h k) r cs p q

-- a row with no bits, and counters at most one above its base: it has no bits again
pub add_all_whole : (r : Row) (cs : List Counter) → r.bits ≡ 0 → ((c : Counter) → c ∈ cs → c.0 ≤ r.base + 1) → (add_all r cs).bits ≡ 0
add_all_whole r cs w h =
    (add_all_keeps (λ x. (x.bits ≡ 0) × (r.base ≤ x.base)) (λ c. c.0 ≤ r.base + 1) next r cs (w, le_refl r.base) h).0
  where
    next : (x : Row) (c : Counter) → (x.bits ≡ 0) × (r.base ≤ x.base) → c.0 ≤ r.base + 1 → ((add x c).bits ≡ 0) × (r.base ≤ (add x c).base)
    next x c p l =
        by_test (leb c.0 x.base) (λ t. rw (add_old x c (leb-true c.0 x.base t)) p)
        (λ t. (ap (λ (y : Row). y.bits) (add_next x c p.0 (omega (arith, leb-false c.0 x.base t, p.1))), omega (arith, p.1, add_base x c)))

-- ---- the clock k after the dots of some results entered it

module _ (k : Clock) (rs : List Stored) (counted : (l : Listed) → l ∈ dots_of rs → is_counter l.dot.count ≡ true) where
  positive : (n : Controller) → Positive (counts n (dots_of rs))
  positive n c m = let q = in_counts n (dots_of rs) m in subst (λ (x : Counter). 0 < x.0) q.3 (counter_positive q.0.dot.count (counted q.0 q.1))

  pub entered_has : (d : Dot) → Crew d.who → (in_clock (entered k rs) d ≡ true) ↔ ((in_clock k d ≡ true) ⊎ (d.count ∈ counts d.who (dots_of rs)))
  unfolding in_clock
  entered_has d c = rw (entered_row k rs d.who c) (add_all_has (row k d.who) (counts d.who (dots_of rs)) d.count (positive d.who))

  -- what was in the clock is in it, and so are the results' dots
  pub entered_more : (d : Dot) → Crew d.who → in_clock k d ≡ true → in_clock (entered k rs) d ≡ true
  entered_more d c h = (entered_has d c).1 (inl h)

  pub entered_dots : (l : Listed) → l ∈ dots_of rs → Crew l.dot.who → in_clock (entered k rs) l.dot ≡ true
  entered_dots l m c = (entered_has l.dot c).1 (inr (counts_in (dots_of rs) m))

pub entered_base : (k : Clock) (rs : List Stored) (n : Controller) → Crew n → (row k n).base ≤ (row (entered k rs) n).base
entered_base k rs n c = rw (entered_row k rs n c) (add_all_base (row k n) (counts n (dots_of rs)))

-- ---- the order does not matter

-- two clocks of eight rows are the same where their rows are
pub same_clocks : (k l : Clock) → length k ≡ 8 → length l ≡ 8 → ((n : Controller) → Crew n → row k n ≡ row l n) → k ≡ l
same_clocks k l p q h = sym (each_entry none_seen k p) ∙ each_same (row k) (row l) h ∙ each_entry none_seen l q

-- the same dots in any order, and any number of times, give the same clock
pub entered_any_order : (k : Clock) (rs qs : List Stored) → length k ≡ 8 → ((n : Controller) → Crew n → Clear (row k n))
    → ((l : Listed) → l ∈ dots_of rs → is_counter l.dot.count ≡ true) → ((l : Listed) → l ∈ dots_of qs → is_counter l.dot.count ≡ true)
    → ((n : Controller) (c : Counter) → (c ∈ counts n (dots_of rs)) ↔ (c ∈ counts n (dots_of qs))) → entered k rs ≡ entered k qs
entered_any_order k rs qs eight clear cr cq same =
    same_clocks (entered k rs) (entered k qs) (entered_eight k rs eight) (entered_eight k qs eight)
    (λ n c.
    entered_row k rs n c
    ∙ any_order (row k n) (counts n (dots_of rs)) (counts n (dots_of qs)) (clear n c) (positive k rs cr n) (positive k qs cq n) (same n)
    ∙ sym (entered_row k qs n c))
