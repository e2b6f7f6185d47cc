-- Adds in ascending order, each against the limit of 64 bits, answer what the whole result answers. So code that adds one counter after
-- another gives the answer of refusal 11, which is asked of a step's result "with no limit applied". Assumes nothing.
use Rattle.std.specs.Prelude.{if◌then◌else◌, Option, Some, None}
use Prim.Native.Nat.{◌+◌, ◌≤◌, ◌<◌}
use mathlib.Core.Path.{◌≡◌, refl}
use mathlib.Core.Logic.{◌⊎◌, inl, inr, ◌↔◌, ⊎_elim}
use mathlib.Core.Bool.{true, false}
use mathlib.Core.List.Memᴰ
use mathlib.Core.List.{List, [], ◌∷◌}
use native.Mathlib.Omega.{arith}
use lib.Dec.{leb}
use borrow.Author.Tests.{leb-true, leb-false}
use Rattle.numbers.specs.declared.Counter.{Counter}
use Rattle.numbers.specs.Numbers.{counter}
use Rattle.numbers.proofs.Tests.{by_test, never, ◌∈◌}
use Rattle.row.specs.declared.Row.{Row}
use Rattle.row.specs.Row.{has, add, fits, add_up}
use Rattle.row.proofs.Members.{same_number, member, not_next, Clear}
use Rattle.row.proofs.Adding.{add_has, add_clear, add_all, add_all_has, Positive}
use Rattle.row.proofs.Highest.{gap_far, add_fits}

-- a row that fits, or that it is too far
abbrev pub limited : Row → Option Row
limited r = if fits r then Some r else None

-- goes on with the row, unless that was too far
abbrev pub go_on : Option Row → (Row → Option Row) → Option Row
go_on (Some r) f = f r
go_on None f = None

unfoldable pub add_each : Row → List Counter → Option Row
add_each r [] = Some r
add_each r (c ∷ cs) = go_on (add_up r c) (λ q. add_each q cs)

-- the list ascends, from c on
abbrev pub From : Counter → List Counter → Type 0
From c [] = Unit {0}
From c (d ∷ ds) = (c.0 ≤ d.0) × From d ds

from_all : (c : Counter) (cs : List Counter) → From c cs → (d : Counter) → d ∈ cs → c.0 ≤ d.0
from_all c [] f d m = absurd (Memᴰ.not-nil m)
from_all c (x ∷ xs) f d m =
    let rest = from_all x xs f.1 d in
    ⊎_elim (λ e. omega (arith, f.0, same_number e)) (λ k. omega (arith, f.0, rest k)) (Memᴰ.cases_cons m)

-- one add too far stays too far, whatever later counters follow: no counter from c on closes the gap after the base
pub too_far : (r : Row) (c : Counter) (cs : List Counter) → Clear r → r.base + 64 < c.0 → From c cs → fits (add_all (add r c) cs) ≡ false
too_far r c cs clear far up = gap_far (add_all (add r c) cs) c next ((both c).1 (inl ((this c).1 (inr refl)))) (omega arith) lacks (omega arith)
  where
    next : Counter
    next = counter (r.base + 1)

    positive : Positive cs
    positive d m = omega (arith, from_all c cs up d m)

    this : (d : Counter) → (has (add r c) d ≡ true) ↔ ((has r d ≡ true) ⊎ (d ≡ c))
    this d = add_has r c d (omega arith)

    both : (d : Counter) → (has (add_all (add r c) cs) d ≡ true) ↔ ((has (add r c) d ≡ true) ⊎ (d ∈ cs))
    both d = add_all_has (add r c) cs d positive

    lacks : has (add_all (add r c) cs) next ≡ true → ⊥
    lacks h =
        ⊎_elim (λ k. ⊎_elim (λ m. not_next r.base r.bits clear (member r next m)) (λ e. omega (arith, same_number e)) ((this next).0 k))
        (λ m. omega (arith, from_all c cs up next m)) ((both next).0 h)

pub ascending : (r : Row) (c : Counter) (cs : List Counter) → Clear r → 0 < c.0 → fits r ≡ true → From c cs → add_each r cs ≡ limited (add_all r cs)
unfolding add_each add_all add_up
ascending r c [] clear pos f up = rw f
ascending r c (d ∷ ds) clear pos f up =
    let positive : 0 < d.0 = omega (arith, up.0) in
    let rest = ascending (add r d) d ds (add_clear r d clear) positive in
    let far : fits (add r d) ≡ false → r.base + 64 < d.0 =
    λ t. by_test (leb d.0 (r.base + 64)) (λ e. never (add_fits r d f positive (leb-true d.0 (r.base + 64) e)) t) (λ e. leb-false d.0 (r.base + 64) e) in
    by_test (fits (add r d)) (λ t. rw t (rest t up.1)) (λ t. rw (t, too_far r d ds clear (far t) up.1))
