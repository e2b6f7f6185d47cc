-- The marks for one controller raised, and those for all eight one after the other. Assumes nothing.
use Rattle.std.specs.Prelude.{if◌then◌else◌}
use Prim.Native.Nat.{ℕ, ◌+◌, ◌≤◌, ◌<◌, max}
use mathlib.Core.Path.{◌≡◌, refl, ap, ap₂, sym, ◌∙◌, subst}
use mathlib.Core.Bool.{Bool, true, false, ◌&&◌}
use mathlib.Core.List.{List}
use native.Mathlib.Omega.{arith}
use lib.ListN.{length}
use borrow.Author.Tests.{ne_eqb, eqb-true, eqb-false}
use Rattle.numbers.specs.declared.Controller.{Controller}
use Rattle.numbers.specs.Numbers.{controller, same_controller, each, Crew}
use Rattle.numbers.proofs.Tests.{by_test, never}
use Rattle.numbers.proofs.Controllers.{same_controllers, each_same}
use Rattle.row.specs.declared.Row.{Row}
use Rattle.block.specs.Fields.{cut}
use Rattle.meaning.specs.CrewTable.{CrewTable}
use Rattle.meaning.specs.Clock.{Clock, row}
use Rattle.meaning.specs.State.{Watermark, mark, State, peers}
use Rattle.meaning.specs.Message.{Reply}
use Rattle.meaning.specs.Exchange.{raised}
use Rattle.laws.proofs.OtherSteps.{mark_each}
use Rattle.layout.specs.Clocks.{decode_clock}
use Rattle.layout.specs.Image.{image_length, decode_head, decode}
use Rattle.head.specs.HeadParts.{peers_by}
use Rattle.image_edits.specs.Edits.{Canonical}
use Rattle.store.proofs.Lent.{table_part, clock_part, own_part}
use Rattle.tidying.specs.Tidied.{said_by, with_marks, raised_to, raised_mark, raised_about}
use Rattle.tidying.proofs.Marks.{Square, each_square, same_marks}

-- ---- the marks for one controller

-- what becomes of a mark: `ours` says that it is ours, `theirs` that it is the sender's, `here` that it is for this controller, and `p` that this
-- is a peer of ours
own_alone : (ours theirs here p : Bool) (old up high x : ℕ) → (here ≡ true → p ≡ false) → (here ≡ true → up ≡ high)
    → (if ours && here then up else old) ≡ (if here then (if theirs && p then x else (if ours then high else old)) else old)
own_alone true theirs false p old up high x no_peer e = refl
own_alone false theirs false p old up high x no_peer e = refl
own_alone ours theirs true true old up high x no_peer e = never refl (no_peer refl)
own_alone true true true false old up high x no_peer e = e refl
own_alone true false true false old up high x no_peer e = e refl
own_alone false true true false old up high x no_peer e = refl
own_alone false false true false old up high x no_peer e = refl

both : (ours theirs here p : Bool) (old up high c d l : ℕ) → (here ≡ true → p ≡ true) → (theirs ≡ true → ours ≡ false) → (here ≡ true → up ≡ high) → (here ≡ true → c ≡ d)
    → l ≡ (if ours && here then up else old) → (if theirs && here then max l c else l) ≡ (if here then (if theirs && p then max old d else (if ours then high else old)) else old)
both true true here p old up high c d l peer apart e f q = never refl (apart refl)
both true false false p old up high c d l peer apart e f q = q
both true false true p old up high c d l peer apart e f q = q ∙ e refl
both false true false p old up high c d l peer apart e f q = q
both false true true true old up high c d l peer apart e f q = ap₂ max q (f refl)
both false true true false old up high c d l peer apart e f q = never (peer refl) refl
both false false false p old up high c d l peer apart e f q = q
both false false true p old up high c d l peer apart e f q = q

to_mark : (w : Watermark) (m n : Controller) (base : ℕ) (a b : Controller) → Crew a → Crew b
    → mark (raised_to w m n base) a b ≡ (if same_controller a m && same_controller b n then max (mark w a b) base else mark w a b)
unfolding raised_to
to_mark w m n base a b x y = mark_each (λ c d. if same_controller c m && same_controller d n then max (mark w c d) base else mark w c d) a b x y

module _ (s : State) (sender : Controller) (k : Clock) (n : Controller) where
  abbrev w : Watermark
  w = s.watermark

  abbrev first_raised : Watermark
  first_raised = raised_to s.watermark s.own n (row s.clock n).base

  abbrev after : Controller → Controller → ℕ
  after a b = if same_controller b n then raised_mark s (said_by sender k) a b else mark s.watermark a b

  -- the base of a row is that of the controller's row
  same_base : (old : ℕ) (c : Clock) (b : Controller) → same_controller b n ≡ true → max old (row c n).base ≡ max old (row c b).base
  same_base old c b t = ap (λ (z : Controller). max old (row c z).base) (sym (same_controllers b n t))

  about_own : peers s s.own n ≡ false → first_raised ≡ raised_about s (said_by sender k) n
  unfolding raised_to raised_about
  about_own h =
      each_same (λ a. each (λ b. if same_controller a s.own && same_controller b n then max (mark w a b) (row s.clock n).base else mark w a b)) (λ a. each (after a))
      (λ a x. each_same (λ b. if same_controller a s.own && same_controller b n then max (mark w a b) (row s.clock n).base else mark w a b) (after a)
      (λ b y. own_alone (same_controller a s.own) (same_controller a sender) (same_controller b n) (peers s s.own b) (mark w a b)
      (max (mark w a b) (row s.clock n).base) (max (mark w a b) (row s.clock b).base) (max (mark w a b) (row k b).base)
      (λ t. ap (peers s s.own) (same_controllers b n t) ∙ h) (same_base (mark w a b) s.clock b)))

  about_both : peers s s.own n ≡ true → same_controller sender s.own ≡ false → raised_to first_raised sender n (row k n).base ≡ raised_about s (said_by sender k) n
  unfolding raised_about
  about_both h apart = to_each ∙ each_same (λ a. each (second a)) (λ a. each (after a)) (λ a x. each_same (second a) (after a) (λ b y. at a b x y))
    where
      second : Controller → Controller → ℕ
      second a b = if same_controller a sender && same_controller b n then max (mark first_raised a b) (row k n).base else mark first_raised a b

      to_each : raised_to first_raised sender n (row k n).base ≡ each (λ a. each (second a))
      to_each = unfold raised_to in refl

      other : (a : Controller) → same_controller a sender ≡ true → same_controller a s.own ≡ false
      other a t = ap (λ (z : Controller). same_controller z s.own) (same_controllers a sender t) ∙ apart

      at : (a b : Controller) → Crew a → Crew b → second a b ≡ after a b
      at a b x y =
          both (same_controller a s.own) (same_controller a sender) (same_controller b n) (peers s s.own b) (mark w a b)
          (max (mark w a b) (row s.clock n).base) (max (mark w a b) (row s.clock b).base) (row k n).base (row k b).base (mark first_raised a b)
          (λ t. ap (peers s s.own) (same_controllers b n t) ∙ h) (other a) (same_base (mark w a b) s.clock b)
          (λ t. ap (λ (z : Controller). (row k z).base) (sym (same_controllers b n t)))
          (to_mark w s.own n (row s.clock n).base a b x y)

-- as the code raises them
module _ (img : List ℕ) (size : length img ≡ image_length) (sender n : Controller) (k : Clock) (own : Controller) (read : own ≡ (decode_head (cut img 0 512)).own) (ours : Row) (row_read : ours ≡ row (decode_clock (cut img 16 96)) n)
    (x₁ : List ℕ) (long : length x₁ ≡ image_length) (e₁ : (decode x₁ ≡ with_marks (decode img) (raised_to (decode img).watermark own n ours.base)) × Canonical x₁)
    (p : Bool) (asked : p ≡ peers_by (cut x₁ 8 8) own n) where
  first : decode x₁ ≡ with_marks (decode img) (raised_to (decode img).watermark (decode img).own n (row (decode img).clock n).base)
  first =
      e₁.0 ∙ ap₂ (λ (o : Controller) (q : Row). with_marks (decode img) (raised_to (decode img).watermark o n q.base))
      (read ∙ own_part img size) (row_read ∙ ap (λ (c : Clock). row c n) (clock_part img size))

  peers_are : p ≡ peers (decode img) (decode img).own n
  unfolding peers
  peers_are = asked ∙ ap₂ (λ (t : CrewTable) (o : Controller). peers_by t o n) (table_part x₁ long ∙ ap (λ (z : State). z.table) first) (read ∙ own_part img size)

  pub own_raised : p ≡ false → (decode x₁ ≡ with_marks (decode img) (raised_about (decode img) (said_by sender k) n)) × Canonical x₁
  own_raised h = (first ∙ ap (with_marks (decode img)) (about_own (decode img) sender k n (sym peers_are ∙ h)), e₁.1)

  pub both_raised : p ≡ true → same_controller sender (decode img).own ≡ false → (theirs : Row) → theirs ≡ row k n
      → (x₂ : List ℕ) → (decode x₂ ≡ with_marks (decode x₁) (raised_to (decode x₁).watermark sender n theirs.base)) × Canonical x₂
      → (decode x₂ ≡ with_marks (decode img) (raised_about (decode img) (said_by sender k) n)) × Canonical x₂
  both_raised h apart theirs d x₂ e₂ = (
    e₂.0 ∙ ap₂ (λ (z : State) (q : Row). with_marks z (raised_to z.watermark sender n q.base)) first d ∙ ap (with_marks (decode img)) (about_both (decode img) sender k n (sym peers_are ∙ h) apart),
    e₂.1,
  )

-- ---- one controller after the other

about_mark : (s : State) (r : Reply) (n a b : Controller) → Crew a → Crew b
    → mark (raised_about s r n) a b ≡ (if same_controller b n then raised_mark s r a b else mark s.watermark a b)
unfolding raised_about
about_mark s r n a b x y = mark_each (λ c d. if same_controller d n then raised_mark s r c d else mark s.watermark c d) a b x y

about_square : (s : State) (r : Reply) (n : Controller) → Square (raised_about s r n)
unfolding raised_about
about_square s r n = each_square (λ a b. if same_controller b n then raised_mark s r a b else mark s.watermark a b)

module _ (s : State) (r : Reply) where
  -- the marks for those below n are raised, and the others are as they were
  pub record Raised (n : ℕ) (img : List ℕ) : Type 0 where
    pub low : 1 ≤ n
    pub size : length img ≡ image_length
    pub canonical : Canonical img
    pub is : decode img ≡ with_marks s (decode img).watermark
    pub square : Square (decode img).watermark
    pub done : (a b : Controller) → Crew a → Crew b → b.0 < n → mark (decode img).watermark a b ≡ raised_mark s r a b
    pub kept : (a b : Controller) → Crew a → Crew b → n ≤ b.0 → mark (decode img).watermark a b ≡ mark s.watermark a b

  module _ (n : ℕ) (img : List ℕ) (R : Raised n img) (l : n < 9) (x : List ℕ) (long : length x ≡ image_length)
      (e : (decode x ≡ with_marks (decode img) (raised_about (decode img) r (controller n))) × Canonical x) where
    same_raised : (a b : Controller) → Crew a → Crew b → n ≤ b.0 → raised_mark (decode img) r a b ≡ raised_mark s r a b
    unfolding peers
    same_raised a b u v h =
        ap (λ (z : State). raised_mark z r a b) R.is
        ∙ ap (λ (y : ℕ). if same_controller a r.sender && peers s s.own b then max y (row r.clock b).base else (if same_controller a s.own then max y (row s.clock b).base else y)) (R.kept a b u v h)

    now : (a b : Controller) → Crew a → Crew b → mark (decode x).watermark a b ≡ (if same_controller b (controller n) then raised_mark (decode img) r a b else mark (decode img).watermark a b)
    now a b u v = ap (λ (z : State). mark z.watermark a b) e.0 ∙ about_mark (decode img) r (controller n) a b u v

    here : (a b : Controller) → Crew a → Crew b → same_controller b (controller n) ≡ true → mark (decode x).watermark a b ≡ raised_mark s r a b
    here a b u v t = now a b u v ∙ (rw t (same_raised a b u v (omega (arith, eqb-true b.0 n t))))

    other : (a b : Controller) → Crew a → Crew b → same_controller b (controller n) ≡ false → mark (decode x).watermark a b ≡ mark (decode img).watermark a b
    other a b u v t = now a b u v ∙ (rw t)

    pub one_raised : Raised (n + 1) x
    one_raised = record {
      low = omega arith;
      size = long;
      canonical = e.1;
      is = e.0 ∙ ap (λ (z : State). with_marks z (raised_about (decode img) r (controller n))) R.is ∙ ap (with_marks s) (sym (ap (λ (z : State). z.watermark) e.0));
      square = subst Square (sym (ap (λ (z : State). z.watermark) e.0)) (about_square (decode img) r (controller n));
      done = λ a b u v h. by_test (same_controller b (controller n)) (here a b u v) (λ t. other a b u v t ∙ R.done a b u v (omega (arith, h, eqb-false b.0 n t)));
      kept = λ a b u v h. other a b u v (ne_eqb b.0 n (λ z. omega (arith, z, h))) ∙ R.kept a b u v (omega (arith, h));
    }

  pub all_raised : (n : ℕ) (img : List ℕ) → Raised n img → 9 ≤ n → (decode img ≡ with_marks s (raised s r)) × Canonical img
  unfolding raised
  all_raised n img R end =
      (R.is ∙ ap (with_marks s) (same_marks (decode img).watermark R.square (raised_mark s r) (λ a b u v. R.done a b u v (omega (arith, v.1, end)))), R.canonical)
