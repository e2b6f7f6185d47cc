-- Two slots of one dot. Assumes nothing.
use Prim.Native.Nat.{ℕ}
use mathlib.Core.Path.{◌≡◌, refl, ap, ap₂, sym, ◌∙◌, subst}
use mathlib.Core.Bool.{Bool, true, not}
use mathlib.Core.List.{List}
use Rattle.numbers.specs.declared.Dot.{Dot}
use Rattle.numbers.specs.Words.{same_list}
use Rattle.numbers.proofs.Tests.{same_test}
use Rattle.block.proofs.Same.{same_itself, same_of, of_same}
use Rattle.meaning.specs.Object.{Contents, value, deleted, same_contents, Version}
use Rattle.layout.specs.PointBlock.{form_1, encode_slot, decode_slot}
use Rattle.merging.proofs.Merged.{contents_same}

contents_itself : (a : Contents) → same_contents a a ≡ true
contents_itself (value v) = same_itself v
contents_itself deleted = refl

-- slots that are laid out, of one dot, hold the same bytes just where their contents are the same
module _ (x y : List ℕ) (laid_x : encode_slot form_1 (decode_slot form_1 x) ≡ x) (laid_y : encode_slot form_1 (decode_slot form_1 y) ≡ y) (one : (decode_slot form_1 x).dot ≡ (decode_slot form_1 y).dot) where
  bytes_say : same_list x y ≡ same_contents (decode_slot form_1 x).contents (decode_slot form_1 y).contents
  bytes_say =
      same_test (same_list x y) (same_contents (decode_slot form_1 x).contents (decode_slot form_1 y).contents)
      (λ t. subst (λ (z : List ℕ). same_contents (decode_slot form_1 x).contents (decode_slot form_1 z).contents ≡ true) (of_same x y t) (contents_itself (decode_slot form_1 x).contents))
      (λ t. same_of x y (sym laid_x ∙ ap (encode_slot form_1) (version_is t) ∙ laid_y))
    where
      version_is : same_contents (decode_slot form_1 x).contents (decode_slot form_1 y).contents ≡ true → decode_slot form_1 x ≡ decode_slot form_1 y
      version_is t = ap₂ (λ (d : Dot) (c : Contents). record { dot = d; contents = c }) one (contents_same (decode_slot form_1 x).contents (decode_slot form_1 y).contents t)

  -- v and w are what they say, and t whether their bytes are the same
  pub slots_say : (v w : Version) → decode_slot form_1 x ≡ v → decode_slot form_1 y ≡ w → (t : Bool) → t ≡ same_list x y → not t ≡ not (same_contents v.contents w.contents)
  slots_say v w says_x says_y t q = ap not (q ∙ bytes_say ∙ ap₂ (λ (a b : Version). same_contents a.contents b.contents) says_x says_y)
