-- An own counter above our base, as it is read. Assumes nothing.
use Prim.Native.Nat.{ℕ}
use mathlib.Core.Path.{◌≡◌, refl, ap, sym, ◌∙◌}
use mathlib.Core.Bool.{Bool, true, false, ◌&&◌, ◌||◌}
use lib.Dec.{ltb}
use borrow.Author.Tests.{eq-eqb, ne_eqb}
use Rattle.numbers.specs.declared.Controller.{Controller}
use Rattle.numbers.specs.declared.Counter.{Counter}
use Rattle.numbers.specs.declared.Dot.{Dot}
use Rattle.numbers.specs.Words.{some?}
use Rattle.meaning.specs.Context.{entry}
use Rattle.meaning.specs.Object.{Object}
use Rattle.meaning.specs.State.{State, own_base}
use Rattle.meaning.specs.Exchange.{ahead_of_us}
use Rattle.checking.specs.Points.{dot_above, above}

-- row 9 of a point of a message, by our number and our base
pub above_is : (s : State) (o : Object) → ahead_of_us s o ≡ above s.own (own_base s) o
unfolding ahead_of_us above dot_above
above_is s o = refl

module _ (d : Dot) (own : Controller) (base : ℕ) where
  pub of_another : (d.who.0 ≡ own.0 → ⊥) → false ≡ dot_above own base d
  unfolding dot_above
  of_another h = sym (ap (λ (t : Bool). t && ltb base d.count.0) (ne_eqb d.who.0 own.0 h))

  pub of_ours : d.who.0 ≡ own.0 → ltb base d.count.0 ≡ dot_above own base d
  unfolding dot_above
  of_ours e = sym (ap (λ (t : Bool). t && ltb base d.count.0) (eq-eqb d.who.0 own.0 e))

module _ (own : Controller) (base : ℕ) (o : Object) (r : Bool) (is : r ≡ some? (λ v. dot_above own base v.dot) o.versions) where
  pub by_a_dot : r ≡ true → true ≡ above own base o
  unfolding above
  by_a_dot t = sym (ap (λ (x : Bool). x || ltb base (entry o.context own).0) (sym is ∙ t))

  pub by_the_entry : r ≡ false → (e : Counter) → e ≡ entry o.context own → ltb base e.0 ≡ above own base o
  unfolding above
  by_the_entry t e q =
      ap (λ (x : Counter). ltb base x.0) q ∙ sym (ap (λ (x : Bool). x || ltb base (entry o.context own).0) (sym is ∙ t))
