-- Strict orders by a pair of numbers, and lists that ascend by them. Assumes nothing.
use Prim.Native.Nat.{ℕ, zero, suc, ◌+◌, ◌≤◌, ◌<◌}
use mathlib.Core.Path.{◌≡◌, refl, sym, ap, ◌∙◌, subst}
use mathlib.Core.Logic.{◌⊎◌, inl, inr, ◌↔◌, ⊎_elim, ⊎_map}
use mathlib.Core.Bool.{Bool, true, false, ◌&&◌, ◌||◌}
use mathlib.Core.List.Memᴰ
use mathlib.Core.List.{List, [], ◌∷◌}
use native.Mathlib.Omega.{arith}
use native.Mathlib.Nat.{le_refl}
use lib.ListN.{length, take}
use lib.Dec.{ltb, eqb}
use borrow.Author.Tests.{ltb-true, ltb-false, eqb-true, lt-ltb, le-ltb, eq-eqb, ne_eqb}
use Rattle.numbers.specs.Words.{keep, all?, ascends?, place, place_all, map, same_pair, pair_before}
use Rattle.numbers.proofs.Tests.{by_test, never, and_left, and_right, and_both, or_cases, or_false, or_inl, or_inr, and_false, ◌∈◌, here, there}
use Rattle.numbers.proofs.Lists.{Tied, in_keep, in_place, all_in, in_all, in_map}

-- ---- pairs of numbers

pub same_pairs : (a b c d : ℕ) → same_pair a b c d ≡ true → (a ≡ c) × (b ≡ d)
same_pairs a b c d t = (eqb-true a c (and_left (eqb a c) (eqb b d) t), eqb-true b d (and_right (eqb a c) (eqb b d) t))

pub pair_same : (a b c d : ℕ) → a ≡ c → b ≡ d → same_pair a b c d ≡ true
pair_same a b c d p q = and_both (eqb a c) (eqb b d) (eq-eqb a c p) (eq-eqb b d q)

pub pair_lt : (a b c d : ℕ) → pair_before a b c d ≡ true → (a < c) ⊎ ((a ≡ c) × (b < d))
pair_lt a b c d t =
    ⊎_map (ltb-true a c) (λ h. (eqb-true a c (and_left (eqb a c) (ltb b d) h), ltb-true b d (and_right (eqb a c) (ltb b d) h)))
    (or_cases (ltb a c) (eqb a c && ltb b d) t)

pub lt_pair : (a b c d : ℕ) → (a < c) ⊎ ((a ≡ c) × (b < d)) → pair_before a b c d ≡ true
lt_pair a b c d h =
    ⊎_elim (λ l. or_inl (ltb a c) (eqb a c && ltb b d) (lt-ltb a c l))
    (λ e. or_inr (ltb a c) (eqb a c && ltb b d) (and_both (eqb a c) (ltb b d) (eq-eqb a c e.0) (lt-ltb b d e.1))) h

-- two pairs neither of which comes before the other are the same
pub pair_tied : (a b c d : ℕ) → pair_before a b c d ≡ false → pair_before c d a b ≡ false → (a ≡ c) × (b ≡ d)
pair_tied a b c d p q = (first, second)
  where
    p' : (ltb a c ≡ false) × ((eqb a c && ltb b d) ≡ false)
    p' = or_false (ltb a c) (eqb a c && ltb b d) p

    q' : (ltb c a ≡ false) × ((eqb c a && ltb d b) ≡ false)
    q' = or_false (ltb c a) (eqb c a && ltb d b) q

    first : a ≡ c
    first = omega (arith, ltb-false a c p'.0, ltb-false c a q'.0)

    second : b ≡ d
    second =
        omega (
          arith,
          ltb-false b d (and_false (eqb a c) (ltb b d) p'.1 (eq-eqb a c first)),
          ltb-false d b (and_false (eqb c a) (ltb d b) q'.1 (eq-eqb c a (sym first))),
        )

-- the same tests as code makes them: by the first numbers, and where these are the same by the second
pub other_first : (a b c d : ℕ) → (a ≡ c → ⊥) → false ≡ same_pair a b c d
other_first a b c d h = sym (ap (λ (t : Bool). t && eqb b d) (ne_eqb a c h))

pub by_second : (a b c d : ℕ) → a ≡ c → eqb b d ≡ same_pair a b c d
by_second a b c d e = sym (ap (λ (t : Bool). t && eqb b d) (eq-eqb a c e))

pub first_before : (a b c d : ℕ) → a < c → true ≡ pair_before a b c d
first_before a b c d l = sym (lt_pair a b c d (inl l))

pub first_after : (a b c d : ℕ) → c ≤ a → (a ≡ c → ⊥) → false ≡ pair_before a b c d
first_after a b c d l h = sym (ap (λ (t : Bool). t || (eqb a c && ltb b d)) (le-ltb a c l) ∙ ap (λ (t : Bool). t && ltb b d) (ne_eqb a c h))

pub second_before : (a b c d : ℕ) → a ≡ c → ltb b d ≡ pair_before a b c d
second_before a b c d e = sym (ap (λ (t : Bool). t || (eqb a c && ltb b d)) (le-ltb a c (omega arith)) ∙ ap (λ (t : Bool). t && ltb b d) (eq-eqb a c e))

-- ---- orders

pub record Order {A : Type 0} (before : A → A → Bool) : Type 0 where
  pub through : (a b c : A) → before a b ≡ true → before b c ≡ true → before a c ≡ true
  pub itself : (a : A) → before a a ≡ false
  pub tied_left : (a b c : A) → Tied before a b → before a c ≡ before b c
  pub tied_right : (a b c : A) → Tied before a b → before c a ≡ before c b

-- every order of document 01 goes by two numbers: controller and counter, or job and point
pub by_pair : {A : Type 0} (f g : A → ℕ) → Order (λ a b. pair_before (f a) (g a) (f b) (g b))
by_pair f g = record {
  through = λ a b c p q.
      lt_pair (f a) (g a) (f c) (g c)
      (⊎_elim (λ x. ⊎_elim (λ y. inl (omega arith)) (λ y. inl (omega (arith, y.0))) (pair_lt (f b) (g b) (f c) (g c) q))
      (λ x. ⊎_elim (λ y. inl (omega (arith, x.0))) (λ y. inr (x.0 ∙ y.0, omega (arith, x.1, y.1))) (pair_lt (f b) (g b) (f c) (g c) q))
      (pair_lt (f a) (g a) (f b) (g b) p));
  itself = λ a.
      by_test (pair_before (f a) (g a) (f a) (g a)) (λ t. absurd (⊎_elim (λ x. omega arith) (λ x. omega (arith, x.1)) (pair_lt (f a) (g a) (f a) (g a) t)))
      (λ t. t);
  tied_left = λ a b c t. let e = pair_tied (f a) (g a) (f b) (g b) t.0 t.1 in rw (e.0, e.1);
  tied_right = λ a b c t. let e = pair_tied (f a) (g a) (f b) (g b) t.0 t.1 in rw (e.0, e.1);
}

-- ---- lists that ascend

module _ {A : Type 0} (b : A → A → Bool) where
  abbrev pub Ascends : List A → Type 0
  Ascends xs = ascends? b xs ≡ true

  pub ascends_first : (x : A) (xs : List A) → Ascends (x ∷ xs) → {y : A} → y ∈ xs → b x y ≡ true
  ascends_first x xs t m = all_in (b x) xs (and_left (all? (b x) xs) (ascends? b xs) t) m

  pub ascends_rest : (x : A) (xs : List A) → Ascends (x ∷ xs) → Ascends xs
  ascends_rest x xs t = and_right (all? (b x) xs) (ascends? b xs) t

  pub ascends_cons : (x : A) (xs : List A) → ((y : A) → y ∈ xs → b x y ≡ true) → Ascends xs → Ascends (x ∷ xs)
  ascends_cons x xs h t = and_both (all? (b x) xs) (ascends? b xs) (in_all (b x) xs h) t

  -- what is kept of an ascending list ascends
  pub keep_ascends : (f : A → Bool) (xs : List A) → Ascends xs → Ascends (keep f xs)
  keep_ascends f [] t = refl
  keep_ascends f (x ∷ xs) t =
      let rest = keep_ascends f xs (ascends_rest x xs t) in
      by_test (f x) (λ e. rw e (ascends_cons x (keep f xs) (λ y m. ascends_first x xs t (in_keep f xs m).0) rest)) (λ e. rw e rest)

  pub take_in : (n : ℕ) (xs : List A) {v : A} → v ∈ take n xs → v ∈ xs
  take_in zero xs m = absurd (Memᴰ.not-nil m)
  take_in (suc n) [] m = m
  take_in (suc n) (x ∷ xs) m = ⊎_elim here (λ h. there (take_in n xs h)) (Memᴰ.cases_cons m)

  pub take_ascends : (n : ℕ) (xs : List A) → Ascends xs → Ascends (take n xs)
  take_ascends zero xs t = refl
  take_ascends (suc n) [] t = refl
  take_ascends (suc n) (x ∷ xs) t =
      ascends_cons x (take n xs) (λ y m. ascends_first x xs t (take_in n xs m)) (take_ascends n xs (ascends_rest x xs t))

  -- two of an ascending list that stand at one place are the same
  pub one_place : (xs : List A) → Ascends xs → {v w : A} → v ∈ xs → w ∈ xs → Tied b v w → v ≡ w
  one_place [] t m n e = absurd (Memᴰ.not-nil m)
  one_place (x ∷ xs) t {v} {w} m n e =
      let rest = one_place xs (ascends_rest x xs t) {v = v} {w = w} in
      ⊎_elim
      (λ p. ⊎_elim (λ q. p ∙ sym q) (λ q. never (ap (λ z. b z w) p ∙ ascends_first x xs t q) e.0) (Memᴰ.cases_cons n))
      (λ p. ⊎_elim (λ q. never (ap (λ z. b z v) q ∙ ascends_first x xs t p) e.1) (λ q. rest p q e) (Memᴰ.cases_cons n))
      (Memᴰ.cases_cons m)

  module _ (O : Order b) where
    pub place_ascends : (x : A) (ys : List A) → Ascends ys → Ascends (place b x ys)
    place_ascends x [] t = refl
    place_ascends x (y ∷ ys) t =
        let rest = place_ascends x ys (ascends_rest y ys t) in
        by_test (b y x)
        (λ p. rw p (ascends_cons y (place b x ys) (λ v m. ⊎_elim (λ e. ap (b y) e ∙ p) (λ h. ascends_first y ys t h) (in_place b x ys m)) rest))
        (λ p. by_test (b x y)
        (λ q. rw (p, q)
        (ascends_cons x (y ∷ ys)
        (λ v m. ⊎_elim (λ e. ap (b x) e ∙ q) (λ h. O.through x y v q (ascends_first y ys t h)) (Memᴰ.cases_cons m)) t))
        (λ q. rw (p, q)
        (ascends_cons x ys (λ v m. O.tied_left x y v (q, p) ∙ ascends_first y ys t m) (ascends_rest y ys t))))

    pub place_all_ascends : (xs ys : List A) → Ascends ys → Ascends (place_all b xs ys)
    place_all_ascends [] ys t = t
    place_all_ascends (x ∷ xs) ys t = place_ascends x (place_all b xs ys) (place_all_ascends xs ys t)

    -- in an ascending list nothing is left beside x that stands at its place
    pub in_place_apart : (x : A) (ys : List A) → Ascends ys → {v : A} → v ∈ place b x ys → (v ≡ x) ⊎ ((v ∈ ys) × (Tied b v x → ⊥))
    in_place_apart x [] t m = ⊎_map (λ e. e) (λ h. absurd (Memᴰ.not-nil h)) (Memᴰ.cases_cons m)
    in_place_apart x (y ∷ ys) t {v} m =
        let rest : v ∈ place b x ys → (v ≡ x) ⊎ ((v ∈ ys) × (Tied b v x → ⊥)) = in_place_apart x ys (ascends_rest y ys t) in
        by_test (b y x) (λ p. after p rest (rw p at m))
        (λ p. by_test (b x y) (λ q. front q (rw (p, q) at m)) (λ q. over (q, p) (rw (p, q) at m)))
      where
        Goal : Type 0
        Goal = (v ≡ x) ⊎ ((v ∈ y ∷ ys) × (Tied b v x → ⊥))

        never_tied : b v x ≡ true → Tied b v x → ⊥
        never_tied p h = never p h.0

        never_tied' : b x v ≡ true → Tied b v x → ⊥
        never_tied' p h = never p h.1

        after : b y x ≡ true → (v ∈ place b x ys → (v ≡ x) ⊎ ((v ∈ ys) × (Tied b v x → ⊥))) → v ∈ y ∷ place b x ys → Goal
        after p rest k =
            ⊎_elim (λ e. inr (here e, never_tied (ap (λ z. b z x) e ∙ p)))
            (λ h. ⊎_map (λ e. e) (λ w. (there w.0, w.1)) (rest h)) (Memᴰ.cases_cons k)

        front : b x y ≡ true → v ∈ x ∷ y ∷ ys → Goal
        front q k =
            ⊎_map (λ e. e)
            (λ h. (h, never_tied' (⊎_elim (λ e. ap (b x) e ∙ q) (λ w. O.through x y v q (ascends_first y ys t w)) (Memᴰ.cases_cons h))))
            (Memᴰ.cases_cons k)

        over : Tied b x y → v ∈ x ∷ ys → Goal
        over s k =
            ⊎_map (λ e. e) (λ h. (there h, never_tied' (O.tied_left x y v s ∙ ascends_first y ys t h))) (Memᴰ.cases_cons k)

    -- an ascending list of one thing has it once at most
    pub one_thing : (x : A) (xs : List A) → Ascends xs → ((v : A) → v ∈ xs → v ≡ x) → length xs ≤ 1
    one_thing x [] t h = omega arith
    one_thing x (a ∷ []) t h = omega arith
    one_thing x (a ∷ c ∷ xs) t h =
        never (ascends_first a (c ∷ xs) t (here refl)) (subst (λ (z : A). b a z ≡ false) (h a (here refl) ∙ sym (h c (there (here refl)))) (O.itself a))

    -- an ascending list, each of which stands at the place of one of another, is no longer than that
    pub no_longer : (xs ys : List A) → Ascends xs → Ascends ys → ((v : A) → v ∈ xs → (w : A) × (w ∈ ys) × Tied b v w) → length xs ≤ length ys
    no_longer [] ys t u h = omega arith
    no_longer (x ∷ xs) [] t u h = absurd (Memᴰ.not-nil (h x (here refl)).1)
    no_longer (x ∷ xs) (y ∷ ys) t u h =
        let same : length xs ≤ length ys → length (x ∷ xs) ≤ length (y ∷ ys) = λ l. omega arith in
        let less : length (x ∷ xs) ≤ length ys → length (x ∷ xs) ≤ length (y ∷ ys) = λ l. omega arith in
        by_test (b y x) (λ p. less (no_longer (x ∷ xs) ys t (ascends_rest y ys u) (beyond p)))
        (λ p. same (no_longer xs ys (ascends_rest x xs t) (ascends_rest y ys u) (others p)))
      where
        -- where y comes before x it stands at the place of none
        beyond : b y x ≡ true → (v : A) → v ∈ x ∷ xs → (w : A) × (w ∈ ys) × Tied b v w
        beyond p v m =
            let q = h v m in
            let yv : b y v ≡ true = ⊎_elim (λ e. ap (b y) e ∙ p) (λ k. O.through y x v p (ascends_first x xs t k)) (Memᴰ.cases_cons m) in
            ⊎_elim (λ e. never yv (subst (λ (z : A). b z v ≡ false) e q.2.1)) (λ k. (q.0, k, q.2)) (Memᴰ.cases_cons q.1)

        -- where it does not, those after x come after y too
        others : b y x ≡ false → (v : A) → v ∈ xs → (w : A) × (w ∈ ys) × Tied b v w
        others p v m =
            let q = h v (there m) in
            let xv : b x v ≡ true = ascends_first x xs t m in
            ⊎_elim (λ e. absurd (apart v xv (subst (λ (z : A). Tied b v z) e q.2))) (λ k. (q.0, k, q.2)) (Memᴰ.cases_cons q.1)
          where
            -- x would come before y, and so could not be tied to anything of y ∷ ys
            apart : (z : A) → b x z ≡ true → Tied b z y → ⊥
            apart z xz tie =
                let xy : b x y ≡ true = sym (O.tied_right z y x tie) ∙ xz in
                let r = h x (here refl) in
                ⊎_elim (λ e. never xy (subst (λ (a : A). b x a ≡ false) e r.2.0))
                (λ k. never (O.through x y r.0 xy (ascends_first y ys u k)) r.2.0) (Memᴰ.cases_cons r.1)

    -- two ascending lists with the same members are the same
    pub ascending_same : (xs ys : List A) → Ascends xs → Ascends ys → ((v : A) → (v ∈ xs) ↔ (v ∈ ys)) → xs ≡ ys
    ascending_same [] [] t u h = refl
    ascending_same [] (y ∷ ys) t u h = absurd (Memᴰ.not-nil ((h y).1 (here refl)))
    ascending_same (x ∷ xs) [] t u h = absurd (Memᴰ.not-nil ((h x).0 (here refl)))
    ascending_same (x ∷ xs) (y ∷ ys) t u h = λ i. first i ∷ ascending_same xs ys (ascends_rest x xs t) (ascends_rest y ys u) rest i
      where
        first : x ≡ y
        first =
            ⊎_elim (λ e. e)
            (λ m. ⊎_elim (λ e. sym e)
            (λ k. absurd (never (O.through x y x (ascends_first x xs t k) (ascends_first y ys u m)) (O.itself x)))
            (Memᴰ.cases_cons ((h y).1 (here refl))))
            (Memᴰ.cases_cons ((h x).0 (here refl)))

        rest : (v : A) → (v ∈ xs) ↔ (v ∈ ys)
        rest v = (
          λ m. ⊎_elim (λ e. never (ascends_first x xs t m) (subst (λ (z : A). b x z ≡ false) (first ∙ sym e) (O.itself x))) (λ k. k)
              (Memᴰ.cases_cons ((h v).0 (there m))),
          λ m. ⊎_elim (λ e. never (ascends_first y ys u m) (subst (λ (z : A). b y z ≡ false) (sym first ∙ sym e) (O.itself y))) (λ k. k)
              (Memᴰ.cases_cons ((h v).1 (there m))),
        )

-- what is made one by one of an ascending list ascends, where each pair of it does
pub map_ascends : {A B : Type 0} (b : A → A → Bool) (c : B → B → Bool) (f : A → B) → ((x y : A) → b x y ≡ true → c (f x) (f y) ≡ true)
    → (xs : List A) → Ascends b xs → Ascends c (map f xs)
map_ascends b c f up [] t = refl
map_ascends b c f up (x ∷ xs) t =
    ascends_cons c (f x) (map f xs)
    (λ y m. let q = in_map f xs m in ap (c (f x)) q.2 ∙ up x q.0 (ascends_first b x xs t q.1))
    (map_ascends b c f up xs (ascends_rest b x xs t))

-- ---- lengths

module _ {A : Type 0} (b : A → A → Bool) where
  pub keep_length : (f : A → Bool) (xs : List A) → length (keep f xs) ≤ length xs
  keep_length f [] = le_refl 0
  keep_length f (x ∷ xs) = let rest = keep_length f xs in by_test (f x) (λ e. rw e (omega arith)) (λ e. rw e (omega arith))

  pub place_length : (x : A) (ys : List A) → length (place b x ys) ≤ suc (length ys)
  place_length x [] = le_refl 1
  place_length x (y ∷ ys) =
      let rest = place_length x ys in
      by_test (b y x) (λ p. rw p (omega arith)) (λ p. by_test (b x y) (λ q. rw (p, q) (omega arith)) (λ q. rw (p, q) (omega arith)))

  pub place_all_length : (xs ys : List A) → length (place_all b xs ys) ≤ length xs + length ys
  place_all_length [] ys = omega arith
  place_all_length (x ∷ xs) ys = omega (arith, place_length x (place_all b xs ys), place_all_length xs ys)
