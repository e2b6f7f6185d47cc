-- Runs of equal parts: what was written one after the other is read back one by one. Assumes nothing.
use Prim.Native.Nat.{ℕ, zero, suc, ◌*◌, ◌-◌, ◌≤◌, ◌<◌}
use mathlib.Core.Path.{◌≡◌, refl, ap, sym, ◌∙◌, subst}
use mathlib.Core.List.Memᴰ
use mathlib.Core.List.{List, [], ◌∷◌, ◌++◌, append_assoc, Memᴰ}
use mathlib.Core.Logic.{◌⊎◌, inl, inr, ⊎_elim}
use native.Mathlib.Nat.{mul-suc, mul-zero, le_of_suc-le-suc}
use native.Mathlib.Omega.{arith}
use lib.ListN.{length, take, drop, get_or, length-append}
use Rattle.numbers.specs.Words.{map, concat_map}
use Rattle.block.specs.Fields.{cut, splice, upto}
use Rattle.block.proofs.Parts.{cut_past, cut_first}

module _ {A : Type 0} where
  pub upto_length : (n : ℕ) (f : ℕ → A) → length (upto n f) ≡ n
  upto_length zero f = refl
  upto_length (suc n) f = ap suc (upto_length n (λ i. f (suc i)))

  pub upto_same : (n : ℕ) (f g : ℕ → A) → ((i : ℕ) → i < n → f i ≡ g i) → upto n f ≡ upto n g
  upto_same zero f g h = refl
  upto_same (suc n) f g h = λ k. h 0 (omega arith) k ∷ upto_same n (λ i. f (suc i)) (λ i. g (suc i)) (λ i l. h (suc i) (omega arith)) k

  pub upto_at : (n : ℕ) (f : ℕ → A) (d : A) (i : ℕ) → i < n → get_or (upto n f) i d ≡ f i
  upto_at zero f d i l = absurd (omega arith)
  upto_at (suc n) f d zero l = refl
  upto_at (suc n) f d (suc i) l = upto_at n (λ j. f (suc j)) d i (le_of_suc-le-suc l)

  -- a member of those below n is one of them
  pub in_upto : (n : ℕ) (f : ℕ → A) {x : A} → Memᴰ x (upto n f) → (i : ℕ) × (i < n) × (x ≡ f i)
  in_upto zero f m = absurd (Memᴰ.not-nil m)
  in_upto (suc n) f m =
      ⊎_elim (λ p. (0, omega arith, p)) (λ q. let r = in_upto n (λ j. f (suc j)) q in (suc r.0, omega (arith, r.1), r.2)) (Memᴰ.cases_cons m)

  pub upto_in : (n : ℕ) (f : ℕ → A) (i : ℕ) → i < n → Memᴰ (f i) (upto n f)
  upto_in zero f i l = absurd (omega arith)
  upto_in (suc n) f zero l = Memᴰ.head refl
  upto_in (suc n) f (suc i) l = Memᴰ.tail (upto_in n (λ j. f (suc j)) i (le_of_suc-le-suc l))

  -- the first of those below n are those below m
  pub take_upto : (m n : ℕ) (f : ℕ → A) → m ≤ n → take m (upto n f) ≡ upto m f
  take_upto zero n f h = refl
  take_upto (suc m) zero f h = absurd (omega arith)
  take_upto (suc m) (suc n) f h = λ k. f 0 ∷ take_upto m n (λ i. f (suc i)) (le_of_suc-le-suc h) k

module _ {A : Type 0} where
  pub in_take : (n : ℕ) (xs : List A) {v : A} → Memᴰ v (take n xs) → Memᴰ v xs
  in_take zero xs m = absurd (Memᴰ.not-nil m)
  in_take (suc n) [] m = m
  in_take (suc n) (x ∷ xs) m = ⊎_elim Memᴰ.head (λ h. Memᴰ.tail (in_take n xs h)) (Memᴰ.cases_cons m)

  pub in_drop : (n : ℕ) (xs : List A) {v : A} → Memᴰ v (drop n xs) → Memᴰ v xs
  in_drop zero xs m = m
  in_drop (suc n) [] m = m
  in_drop (suc n) (x ∷ xs) m = Memᴰ.tail (in_drop n xs m)

  pub get_or_in : (xs : List A) (i : ℕ) (d : A) → i < length xs → Memᴰ (get_or xs i d) xs
  get_or_in [] i d l = absurd (omega arith)
  get_or_in (x ∷ xs) zero d l = Memᴰ.head refl
  get_or_in (x ∷ xs) (suc i) d l = Memᴰ.tail (get_or_in xs i d (le_of_suc-le-suc l))

  pub in_append : (xs ys : List A) {v : A} → Memᴰ v (xs ++ ys) → Memᴰ v xs ⊎ Memᴰ v ys
  in_append [] ys m = inr m
  in_append (x ∷ xs) ys m = ⊎_elim (λ e. inl (Memᴰ.head e)) (λ h. ⊎_elim (λ k. inl (Memᴰ.tail k)) inr (in_append xs ys h)) (Memᴰ.cases_cons m)

  -- a member of a list of which a part was put anew was one before, or is one of those that were put
  pub in_splice : (xs : List A) (i k : ℕ) (ys : List A) {v : A} → Memᴰ v (splice xs i k ys) → Memᴰ v xs ⊎ Memᴰ v ys
  in_splice xs i k ys m =
      ⊎_elim (λ h. inl (in_take i xs h)) (λ h. ⊎_elim inr (λ g. inl (in_drop i xs (in_drop k (drop i xs) g))) (in_append ys (drop k (drop i xs)) h)) (in_append (take i xs) (ys ++ drop k (drop i xs)) m)

  -- what holds of each of them holds of each still, where it holds of those that were put
  pub all_of_splice : (P : A → Type 0) (xs : List A) (i k : ℕ) (ys : List A) → ((x : A) → Memᴰ x xs → P x) → ((y : A) → Memᴰ y ys → P y) → (x : A) → Memᴰ x (splice xs i k ys) → P x
  all_of_splice P xs i k ys f g x m = ⊎_elim (f x) (g x) (in_splice xs i k ys m)

  pub only : (P : A → Type 0) (y : A) → P y → (x : A) → Memᴰ x (y ∷ []) → P x
  only P y p x m = ⊎_elim (λ e. subst P (sym e) p) (λ h. absurd (Memᴰ.not-nil h)) (Memᴰ.cases_cons m)

pub map_upto : {A B : Type 0} (g : A → B) (n : ℕ) (f : ℕ → A) → map g (upto n f) ≡ upto n (λ i. g (f i))
map_upto g zero f = refl
map_upto g (suc n) f = λ k. g (f 0) ∷ map_upto g n (λ i. f (suc i)) k

-- each of a list is written in w bytes
abbrev pub EachOf : {A : Type 0} → ℕ → (A → List ℕ) → List A → Type 0
EachOf {A} w enc xs = (x : A) → Memᴰ x xs → length (enc x) ≡ w

module _ {A : Type 0} (w : ℕ) (enc : A → List ℕ) where
  pub array_length : (xs : List A) → EachOf w enc xs → length (concat_map enc xs) ≡ w * length xs
  array_length [] size = omega (arith, mul-zero w)
  array_length (x ∷ xs) size =
      length-append (enc x) (concat_map enc xs) ∙ omega (arith, size x (Memᴰ.head refl), array_length xs (λ y m. size y (Memᴰ.tail m)), mul-suc w (length xs))

  -- the parts after the first one are those of the rest
  array_next : (x : A) (xs : List A) (rest : List ℕ) (i : ℕ) → length (enc x) ≡ w → cut (concat_map enc (x ∷ xs) ++ rest) (w * suc i) w ≡ cut (concat_map enc xs ++ rest) (w * i) w
  array_next x xs rest i size =
      let there : w * suc i - w ≡ w * i = omega (arith, mul-suc w i) in
      rw append_assoc
      (cut_past (enc x) (concat_map enc xs ++ rest) w (w * suc i) w size (omega (arith, mul-suc w i)) ∙ ap (λ (o : ℕ). cut (concat_map enc xs ++ rest) o w) there)

  -- the part at the i-th place
  pub array_part : (xs : List A) (rest : List ℕ) (d : A) (i : ℕ) → EachOf w enc xs → i < length xs → cut (concat_map enc xs ++ rest) (w * i) w ≡ enc (get_or xs i d)
  array_part [] rest d i size l = absurd (omega arith)
  array_part (x ∷ xs) rest d zero size l =
      rw (append_assoc (enc x) (concat_map enc xs) rest, mul-zero w) (cut_first (enc x) (concat_map enc xs ++ rest) w (size x (Memᴰ.head refl)))
  array_part (x ∷ xs) rest d (suc i) size l =
      array_next x xs rest i (size x (Memᴰ.head refl)) ∙ array_part xs rest d i (λ y m. size y (Memᴰ.tail m)) (le_of_suc-le-suc l)

  -- what was written is read back
  pub array_back : (dec : List ℕ → A) (xs : List A) (rest : List ℕ) → EachOf w enc xs → ((x : A) → Memᴰ x xs → dec (enc x) ≡ x)
      → upto (length xs) (λ i. dec (cut (concat_map enc xs ++ rest) (w * i) w)) ≡ xs
  array_back dec [] rest size back = refl
  array_back dec (x ∷ xs) rest size back =
      let first : dec (cut (concat_map enc (x ∷ xs) ++ rest) (w * 0) w) ≡ x = ap dec (array_part (x ∷ xs) rest x 0 size (omega arith)) ∙ back x (Memᴰ.head refl) in
      let others : upto (length xs) (λ i. dec (cut (concat_map enc (x ∷ xs) ++ rest) (w * suc i) w)) ≡ xs =
      upto_same (length xs) (λ i. dec (cut (concat_map enc (x ∷ xs) ++ rest) (w * suc i) w)) (λ i. dec (cut (concat_map enc xs ++ rest) (w * i) w))
      (λ i l. ap dec (array_next x xs rest i (size x (Memᴰ.head refl))))
      ∙ array_back dec xs rest (λ y m. size y (Memᴰ.tail m)) (λ y m. back y (Memᴰ.tail m)) in
      λ k. first k ∷ others k
