-- The first point behind the last one: what is chosen one by one of a list is its smallest above it. Assumes nothing.
use Rattle.std.specs.Prelude.{if◌then◌else◌, Option, Some, None}
use mathlib.Core.Path.{◌≡◌, refl, sym, ap, ◌∙◌, subst}
use mathlib.Core.Logic.{⊎_elim}
use mathlib.Core.Bool.{Bool, true, false}
use mathlib.Core.List.Memᴰ
use mathlib.Core.List.{List, [], ◌∷◌, ◌++◌, append_assoc}
use Rattle.numbers.specs.declared.Key.{Key}
use Rattle.numbers.specs.Words.{fold}
use Rattle.numbers.specs.Key.{key_before}
use Rattle.numbers.proofs.Tests.{by_test, never, ◌∈◌, here}
use Rattle.numbers.proofs.Lists.{in_left, in_right}
use Rattle.numbers.proofs.Dots.{key_order}
use Rattle.replying.specs.Nearest.{nearer, closer}

-- ---- the choice between two, as the code makes it

module _ (last k : Key) where
  pub not_behind : (best : Option Key) → key_before last k ≡ false → best ≡ closer last best k
  unfolding closer
  not_behind best h = sym (ap (λ (t : Bool). if t then nearer best k else best) h)

  module _ (h : key_before last k ≡ true) where
    behind : (best : Option Key) → nearer best k ≡ closer last best k
    unfolding closer
    behind best = sym (ap (λ (t : Bool). if t then nearer best k else best) h)

    pub first_found : (best : Option Key) → best ≡ None → Some k ≡ closer last best k
    first_found best e = ap (λ (n : Option Key). nearer n k) (sym e) ∙ behind best

    pub now_nearer : (best : Option Key) (b : Key) → best ≡ Some b → key_before k b ≡ true → Some k ≡ closer last best k
    now_nearer best b e t = ap (λ (c : Bool). if c then Some k else Some b) (sym t) ∙ ap (λ (n : Option Key). nearer n k) (sym e) ∙ behind best

    pub still_nearer : (best : Option Key) (b : Key) → best ≡ Some b → key_before k b ≡ false → Some b ≡ closer last best k
    still_nearer best b e t = ap (λ (c : Bool). if c then Some k else Some b) (sym t) ∙ ap (λ (n : Option Key). nearer n k) (sym e) ∙ behind best

-- ---- the choice among many

-- of these points, what was found is the first behind the last one; none lies behind it where nothing was found
abbrev pub IsNext : List Key → Key → Option Key → Type 0
IsNext ks last (Some k) = (k ∈ ks) × (key_before last k ≡ true) × ((j : Key) → j ∈ ks → key_before last j ≡ true → key_before j k ≡ false)
IsNext ks last None = (j : Key) → j ∈ ks → key_before last j ≡ false

module _ (last : Key) where
  -- one of them, or the one that came
  cases : (seen : List Key) (k : Key) {C : Key → Type 0} → ((j : Key) → j ∈ seen → C j) → C k → (j : Key) → j ∈ seen ++ (k ∷ []) → C j
  cases seen k {C} old new j m = ⊎_elim (old j) (λ h. subst C (sym (Memᴰ.eq_of_singleton h)) new) (Memᴰ.append_cases seen m)

  last_of : (seen : List Key) (k : Key) → k ∈ seen ++ (k ∷ [])
  last_of seen k = in_right seen (k ∷ []) (here refl)

  found_one : (seen : List Key) (k : Key) → key_before last k ≡ true → (best : Option Key) → IsNext seen last best → IsNext (seen ++ (k ∷ [])) last (nearer best k)
  found_one seen k t None I =
      (last_of seen k, t, cases seen k {C = λ j. key_before last j ≡ true → key_before j k ≡ false} (λ j m h. never h (I j m)) (λ h. key_order.itself k))
  found_one seen k t (Some b) I =
      by_test (key_before k b)
      (λ c. rw c (
        last_of seen k,
        t,
        cases seen k {C = λ j. key_before last j ≡ true → key_before j k ≡ false}
            (λ j m h. by_test (key_before j k) (λ d. never (key_order.through j k b d c) (I.2 j m h)) (λ d. d)) (λ h. key_order.itself k),
      ))
      (λ c. rw c
      (in_left seen (k ∷ []) I.0, I.1, cases seen k {C = λ j. key_before last j ≡ true → key_before j b ≡ false} I.2 (λ h. c)))

  passed_over : (seen : List Key) (k : Key) → key_before last k ≡ false → (best : Option Key) → IsNext seen last best → IsNext (seen ++ (k ∷ [])) last best
  passed_over seen k t None I = cases seen k {C = λ j. key_before last j ≡ false} I t
  passed_over seen k t (Some b) I = (in_left seen (k ∷ []) I.0, I.1, cases seen k {C = λ j. key_before last j ≡ true → key_before j b ≡ false} I.2 (λ h. never h t))

  one_more : (seen : List Key) (k : Key) (best : Option Key) → IsNext seen last best → IsNext (seen ++ (k ∷ [])) last (closer last best k)
  unfolding closer
  one_more seen k best I =
      by_test (key_before last k)
      (λ t. subst (IsNext (seen ++ (k ∷ [])) last) (ap (λ (c : Bool). if c then nearer best k else best) (sym t)) (found_one seen k t best I))
      (λ t. subst (IsNext (seen ++ (k ∷ [])) last) (ap (λ (c : Bool). if c then nearer best k else best) (sym t)) (passed_over seen k t best I))

  among : (seen ks : List Key) (best : Option Key) → IsNext seen last best → IsNext (seen ++ ks) last (fold (closer last) best ks)
  among seen [] best I = subst (λ (l : List Key). IsNext l last best) (sym (mathlib.Core.List.append-nil seen)) I
  among seen (k ∷ ks) best I =
      subst (λ (l : List Key). IsNext l last (fold (closer last) (closer last best k) ks)) (append_assoc seen (k ∷ []) ks)
      (among (seen ++ (k ∷ [])) ks (closer last best k) (one_more seen k best I))

  pub chosen : (ks : List Key) → IsNext ks last (fold (closer last) None ks)
  chosen ks = among [] ks None (λ j m. absurd (Memᴰ.not-nil m))
