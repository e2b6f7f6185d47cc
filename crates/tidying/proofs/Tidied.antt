-- The end of a repair, step by step, and what it uses of the reply. Assumes nothing.
use mathlib.Core.Path.{◌≡◌, refl, ap, ◌∙◌}
use mathlib.Core.Bool.{not}
use mathlib.Core.List.{List}
use Prim.Native.Nat.{ℕ}
use Rattle.numbers.specs.Words.{keep}
use Rattle.meaning.specs.State.{State, peers}
use Rattle.meaning.specs.Message.{Reply}
use Rattle.meaning.specs.Exchange.{raised, known_to_all, tidied}
use Rattle.layout.specs.Image.{decode}
use Rattle.image_edits.specs.Edits.{Canonical, list_of, with_list}
use Rattle.tidying.specs.Tidied.{said_by, with_marks, known_now}

-- of a reply it uses the sender and the clock alone
pub tidied_by : (s : State) (r : Reply) → tidied s r ≡ tidied s (said_by r.sender r.clock)
unfolding tidied raised
tidied_by s r = refl

-- a list without the dots that all know
abbrev without_known_ones : State → ℕ → State
without_known_ones s k = with_list s k (keep (λ l. not (known_now s l)) (list_of s k))

steps : (s : State) (r : Reply) → without_known_ones (without_known_ones (with_marks s (raised s r)) 1) 2 ≡ tidied s r
unfolding tidied known_to_all peers
steps s r = refl

module _ (s : State) (r : Reply) (x₁ : List ℕ) (e₁ : (decode x₁ ≡ with_marks s (raised s r)) × Canonical x₁) where
  pub own_list : (decode x₁).own_dots ≡ s.own_dots
  own_list = ap (λ (z : State). z.own_dots) e₁.0

  module _ (x₂ : List ℕ) (e₂ : (decode x₂ ≡ with_list (decode x₁) 1 (keep (λ l. not (known_now (decode x₁) l)) (list_of (decode x₁) 1))) × Canonical x₂) where
    second : decode x₂ ≡ without_known_ones (with_marks s (raised s r)) 1
    second = e₂.0 ∙ ap (λ (z : State). without_known_ones z 1) e₁.0

    pub foreign_list : (decode x₂).foreign_dots ≡ s.foreign_dots
    foreign_list = ap (λ (z : State). z.foreign_dots) second

    pub all_tidied : (x₃ : List ℕ) → (decode x₃ ≡ with_list (decode x₂) 2 (keep (λ l. not (known_now (decode x₂) l)) (list_of (decode x₂) 2))) × Canonical x₃ → (decode x₃ ≡ tidied s r) × Canonical x₃
    all_tidied x₃ e₃ = (e₃.0 ∙ ap (λ (z : State). without_known_ones z 2) second ∙ steps s r, e₃.1)
