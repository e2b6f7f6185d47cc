-- One entry of a context, filled or stripped, and a dot against a given context, as the code tests them. Assumes nothing.
use Rattle.std.specs.Prelude.{if◌then◌else◌}
use Prim.Native.Nat.{ℕ, zero, suc, ◌+◌, ◌*◌, ◌-◌, max, ◌≤◌, ◌<◌}
use mathlib.Core.Path.{◌≡◌, refl, ap, sym, ◌∙◌, subst}
use mathlib.Core.Bool.{Bool, true, false, not}
use mathlib.Core.List.{List, [], ◌∷◌}
use native.Mathlib.Nat.{max-eq_left, max-eq_right}
use native.Mathlib.Omega.{arith}
use lib.ListN.{get_or}
use lib.Dec.{leb, eqb}
use borrow.Author.Tests.{le-leb, lt-leb, eq-eqb, ne_eqb, not-true, not-false}
use Rattle.numbers.specs.declared.Controller.{Controller}
use Rattle.numbers.specs.declared.Counter.{Counter}
use Rattle.numbers.specs.declared.Dot.{Dot}
use Rattle.numbers.specs.Words.{map}
use Rattle.numbers.specs.Numbers.{counter, is_controller, Crew}
use Rattle.numbers.proofs.Tests.{◌∈◌}
use Rattle.numbers.proofs.Lists.{all_in}
use Rattle.numbers.proofs.Controllers.{crew_is}
use Rattle.block.specs.Fields.{field}
use Rattle.row.specs.declared.Row.{Row}
use Rattle.meaning.specs.CrewTable.{CrewTable, holds}
use Rattle.meaning.specs.Clock.{Clock, row}
use Rattle.meaning.specs.Context.{Context, entry, covers}
use Rattle.meaning.specs.Object.{has_value, Version}
use Rattle.layout.specs.PointBlock.{form_1, decode_point}
use Rattle.layout.specs.Clocks.{decode_clock}
use Rattle.record.specs.Crewed.{crewed}
use Rattle.record.proofs.Reading.{version_at}
use Rattle.record.proofs.Questions.{said_deleted}

module _ (e : Counter) (base : ℕ) where
  pub filled_up : e.0 < base → counter base ≡ counter (max e.0 base)
  filled_up h = ap counter (sym (max-eq_right (omega arith)))

  pub filled_already : base ≤ e.0 → e ≡ counter (max e.0 base)
  filled_already h = ap counter (sym (max-eq_left (omega arith)))

  pub stripped_now : e.0 ≤ base → counter 0 ≡ (if leb e.0 base then counter 0 else e)
  stripped_now h = rw (le-leb e.0 base h)

  pub stripped_not : base < e.0 → e ≡ (if leb e.0 base then counter 0 else e)
  stripped_not h = rw (lt-leb e.0 base h)

-- the given context's entries are its counters
pub given_entry : (l : List ℕ) (i : ℕ) → get_or (map counter l) i (counter 0) ≡ counter (get_or l i 0)
given_entry [] i = refl
given_entry (x ∷ l) zero = refl
given_entry (x ∷ l) (suc i) = given_entry l i

pub given_covers_is : (l : List ℕ) (d : Dot) → leb d.count.0 (get_or l (d.who.0 - 1) 0) ≡ covers (map counter l) d
unfolding covers
given_covers_is l d = ap (λ (c : Counter). leb d.count.0 c.0) (sym (given_entry l (d.who.0 - 1)))

-- ---- what each controller's entry becomes

abbrev pub filling : CrewTable → ℕ → Clock → Context → Controller → Counter
filling t job k c n = if holds t n job then counter (max (entry c n).0 (row k n).base) else entry c n

abbrev pub stripping : Clock → Context → Controller → Counter
stripping k c n = if leb (entry c n).0 (row k n).base then counter 0 else entry c n

-- ---- what is read in the loops

-- the filled entry of a controller, by its parts as they were read: the old entry, whether it holds the job, the row
pub filled_parts : (t : CrewTable) (k : Clock) (c : Context) (job : ℕ) (n : Controller) {e : Counter} {h : Bool} {r : Row} → e ≡ entry c n → h ≡ holds t n job → r ≡ row k n
    → (if h then counter (max e.0 r.base) else e) ≡ (if holds t n job then counter (max (entry c n).0 (row k n).base) else entry c n)
filled_parts t k c job n p q s = λ i. if q i then counter (max (p i).0 (s i).base) else p i

-- that of a block, whose job was read too
pub filling_is : (t rows b : List ℕ) (n : Controller) {e : Counter} {h : Bool} {j : ℕ} {r : Row} → e ≡ entry (decode_point form_1 b).object.context n → h ≡ holds t n j → j ≡ field b 4 1 → r ≡ row (decode_clock rows) n
    → (if h then counter (max e.0 r.base) else e) ≡ filling t (decode_point form_1 b).key.job (decode_clock rows) (decode_point form_1 b).object.context n
filling_is t rows b n p q s u =
    filled_parts t (decode_clock rows) (decode_point form_1 b).object.context (decode_point form_1 b).key.job n p (q ∙ ap (holds t n) (s ∙ job)) u
  where
    job : field b 4 1 ≡ (decode_point form_1 b).key.job
    job = unfold decode_point in refl

module _ (b : List ℕ) (i n : ℕ) (e : n ≡ field b (41 + 32 * i) 1) where
  turned : not (has_value (version_at b i).contents) ≡ eqb n 255
  turned = said_deleted b i ∙ ap (λ (m : ℕ). eqb m 255) (sym e)

  pub is_deleted : n ≡ 255 → has_value (version_at b i).contents ≡ false
  is_deleted h = not-true (has_value (version_at b i).contents) (turned ∙ eq-eqb n 255 h)

  pub is_value : (n ≡ 255 → ⊥) → has_value (version_at b i).contents ≡ true
  is_value h = not-false (has_value (version_at b i).contents) (turned ∙ ne_eqb n 255 h)

pub crewed_dot : (vs : List Version) → crewed vs ≡ true → {d : Dot} {v : Version} → d ≡ v.dot → v ∈ vs → Crew d.who
unfolding crewed
crewed_dot vs t {d} {v} e m = subst (λ (x : Dot). Crew x.who) (sym e) (crew_is v.dot.who (all_in (λ x. is_controller x.dot.who) vs t m))
