-- Which local versions stay. Assumes nothing.
use Prim.Native.Nat.{ℕ}
use mathlib.Core.Path.{◌≡◌, ap, sym, ◌∙◌}
use mathlib.Core.Bool.{Bool, true, false, ◌||◌, not}
use mathlib.Core.List.{List}
use Rattle.numbers.specs.declared.Dot.{Dot}
use Rattle.numbers.specs.Words.{map}
use Rattle.numbers.specs.Numbers.{counter}
use Rattle.meaning.specs.Context.{covers}
use Rattle.meaning.specs.Object.{Version, has_dot}
use Rattle.layout.specs.PointBlock.{form_1, decode_point, decode_stored}

-- a version stays where the message carries it, or its context does not cover it

abbrev pub lasts : List ℕ → List ℕ → Version → Bool
lasts m there v = has_dot (decode_point form_1 m).object.versions v.dot || not (covers (map counter there) v.dot)

-- h and c are what was answered to the two questions
module _ (m there : List ℕ) (d : Dot) {h : Bool} (p : h ≡ has_dot (decode_stored form_1 m).object.versions d) where
  pub stays_both : h ≡ true → true ≡ (has_dot (decode_point form_1 m).object.versions d || not (covers (map counter there) d))
  unfolding decode_stored
  stays_both t = sym (ap (λ (z : Bool). z || not (covers (map counter there) d)) (sym p ∙ t))

  pub stays_alone : h ≡ false → {c : Bool} → c ≡ covers (map counter there) d → not c ≡ (has_dot (decode_point form_1 m).object.versions d || not (covers (map counter there) d))
  unfolding decode_stored
  stays_alone t q = ap not q ∙ sym (ap (λ (z : Bool). z || not (covers (map counter there) d)) (sym p ∙ t))

-- r is what was answered of v's dot, d as it was read
pub lasts_is : (m there : List ℕ) (v : Version) {d : Dot} {r : Bool} → d ≡ v.dot → r ≡ (has_dot (decode_point form_1 m).object.versions d || not (covers (map counter there) d)) → lasts m there v ≡ r
lasts_is m there v p q = sym (q ∙ ap (λ (x : Dot). has_dot (decode_point form_1 m).object.versions x || not (covers (map counter there) x)) p)
