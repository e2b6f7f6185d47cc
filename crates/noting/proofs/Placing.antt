-- One more dot at its place in a list where none is the same, and the order in which dots come to their places. Assumes nothing.
use Prim.Native.Nat.{ℕ, suc, ◌+◌}
use mathlib.Core.Path.{◌≡◌, refl, ap, ◌∙◌, subst}
use mathlib.Core.Logic.{⊎_elim, ⊎_map}
use mathlib.Core.Bool.{Bool, true, not}
use mathlib.Core.List.Memᴰ
use mathlib.Core.List.{List, [], ◌∷◌, ◌++◌}
use lib.ListN.{length, get_or}
use Rattle.numbers.specs.declared.Dot.{Dot}
use Rattle.numbers.specs.Words.{all?, place, place_all}
use Rattle.numbers.specs.Dot.{same_dot}
use Rattle.numbers.proofs.Tests.{by_test, never, not-true, ◌∈◌, here, there}
use Rattle.numbers.proofs.Lists.{Tied, in_left, in_right, all_in, in_place_all, place_all_in}
use Rattle.numbers.proofs.Orders.{Order, Ascends, place_all_ascends, ascending_same}
use Rattle.numbers.proofs.Dots.{dot_itself}
use Rattle.block.proofs.Arrays.{get_or_in}
use Rattle.meaning.specs.State.{Listed}
use Rattle.dots.specs.Entries.{no_entry, FoundIn}
use Rattle.std.specs.Prelude.{ℕ, Result, Ok}

-- a dot that is none of a list's is not found there
pub not_found : {C : Type 0} (d : Dot) (ls : List Listed) (i : ℕ) → all? (λ l. not (same_dot d l.dot)) ls ≡ true → FoundIn ls d (Ok i) → C
not_found d ls i none at =
    never (ap (same_dot d) at.1 ∙ dot_itself d)
    (not-true (same_dot d (get_or ls i no_entry).dot) (all_in (λ l. not (same_dot d l.dot)) ls none (get_or_in ls i no_entry at.0)))

module _ {A : Type 0} (b : A → A → Bool) where
  -- where none stands at its place already, there is one more
  pub place_adds : (x : A) (ys : List A) → ((y : A) → y ∈ ys → Tied b y x → ⊥) → length (place b x ys) ≡ suc (length ys)
  place_adds x [] h = refl
  place_adds x (y ∷ ys) h =
      let rest = place_adds x ys (λ z m. h z (there m)) in
      by_test (b y x) (λ p. rw p (ap suc rest)) (λ p. by_test (b x y) (λ q. rw (p, q) refl) (λ q. absurd (h y (here refl) (p, q))))

  module _ (O : Order b) (P : A → Type 0) (one : (v w : A) → P v → P w → Tied b v w → v ≡ w) where
    -- it does not matter in which order they come
    pub any_order : (xs ys zs : List A) → Ascends b zs → ((v : A) → v ∈ xs → P v) → ((v : A) → v ∈ ys → P v) → ((v : A) → v ∈ zs → P v)
        → ((v : A) → v ∈ xs → v ∈ ys) → ((v : A) → v ∈ ys → v ∈ xs) → place_all b xs zs ≡ place_all b ys zs
    any_order xs ys zs up px py pz there back =
        ascending_same b O (place_all b xs zs) (place_all b ys zs) (place_all_ascends b O xs zs up) (place_all_ascends b O ys zs up)
        (λ v. (
          λ m. place_all_in b P one ys zs py pz (⊎_map (there v) (λ h. h) (in_place_all b xs zs m)),
          λ m. place_all_in b P one xs zs px pz (⊎_map (back v) (λ h. h) (in_place_all b ys zs m)),
        ))

-- the last first
pub last_first : {A : Type 0} (xs : List A) (x v : A) → v ∈ x ∷ xs → v ∈ xs ++ (x ∷ [])
last_first xs x v m = ⊎_elim (λ e. in_right xs (x ∷ []) (here e)) (λ h. in_left xs (x ∷ []) h) (Memᴰ.cases_cons m)

pub first_last : {A : Type 0} (xs : List A) (x v : A) → v ∈ xs ++ (x ∷ []) → v ∈ x ∷ xs
first_last xs x v m = ⊎_elim there (λ h. here (Memᴰ.eq_of_singleton h)) (Memᴰ.append_cases xs m)

-- what the search says of the list that the block says
pub found_in : (us ls : List Listed) (d : Dot) → us ≡ ls → (f : Result ℕ ℕ) → FoundIn us d f → (g : Result ℕ ℕ) → f ≡ g → FoundIn ls d g
found_in us ls d same f at g e = subst (FoundIn ls d) e (subst (λ (l : List Listed). FoundIn l d f) same at)
