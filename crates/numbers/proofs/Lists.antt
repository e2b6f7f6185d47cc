-- What is in the lists that the definitions build. Assumes nothing.
use Rattle.std.specs.Prelude.{if◌then◌else◌}
use Prim.Native.Nat.{ℕ, zero, suc}
use mathlib.Core.Path.{◌≡◌, refl, sym, ap, ◌∙◌, subst}
use mathlib.Core.Logic.{◌⊎◌, inl, inr, ⊎_elim, ⊎_map}
use mathlib.Core.Bool.{Bool, true, false, false≢true}
use mathlib.Core.List.Memᴰ
use mathlib.Core.List.{List, [], ◌∷◌, ◌++◌}
use lib.ListN.{length, get_or}
use Rattle.numbers.specs.Words.{every, cons_if, keep, some?, all?, place, place_all, map, concat_map}
use Rattle.numbers.proofs.Tests.{by_test, never, and_left, and_right, and_both, and_passed, or_cases, or_inl, or_inr, ◌∈◌, here, there}

-- membership in an append
pub in_left : {A : Type 0} (xs ys : List A) {v : A} → v ∈ xs → v ∈ xs ++ ys
in_left [] ys m = absurd (Memᴰ.not-nil m)
in_left (x ∷ xs) ys m = ⊎_elim here (λ h. there (in_left xs ys h)) (Memᴰ.cases_cons m)

pub in_right : {A : Type 0} (xs ys : List A) {v : A} → v ∈ ys → v ∈ xs ++ ys
in_right [] ys m = m
in_right (x ∷ xs) ys m = there (in_right xs ys m)

module _ {A : Type 0} where
  in_if : (b : Bool) (xs ys : List A) {v : A} → v ∈ (if b then xs else ys) → ((b ≡ true) × (v ∈ xs)) ⊎ ((b ≡ false) × (v ∈ ys))
  in_if true xs ys m = inl (refl, m)
  in_if false xs ys m = inr (refl, m)

  in_cons_if : (b : Bool) (x : A) (xs : List A) {v : A} → v ∈ cons_if b x xs → ((v ≡ x) × (b ≡ true)) ⊎ (v ∈ xs)
  in_cons_if true x xs m = ⊎_map (λ e. (e, refl)) (λ h. h) (Memᴰ.cases_cons m)
  in_cons_if false x xs m = inr m

  cons_if_there : (b : Bool) (x : A) (xs : List A) {v : A} → v ∈ xs → v ∈ cons_if b x xs
  cons_if_there true x xs m = there m
  cons_if_there false x xs m = m

  cons_if_here : (b : Bool) (x : A) (xs : List A) {v : A} → v ≡ x → b ≡ true → v ∈ cons_if b x xs
  cons_if_here true x xs e t = here e
  cons_if_here false x xs e t = absurd (false≢true t)

  -- those kept are those that pass
  pub in_keep : (f : A → Bool) (xs : List A) {v : A} → v ∈ keep f xs → (v ∈ xs) × (f v ≡ true)
  in_keep f [] m = absurd (Memᴰ.not-nil m)
  in_keep f (x ∷ xs) m =
      ⊎_elim (λ h. (here h.0, ap f h.0 ∙ h.1)) (λ h. let r = in_keep f xs h in (there r.0, r.1)) (in_cons_if (f x) x (keep f xs) m)

  pub keep_in : (f : A → Bool) (xs : List A) {v : A} → v ∈ xs → f v ≡ true → v ∈ keep f xs
  keep_in f [] m t = m
  keep_in f (x ∷ xs) m t =
      ⊎_elim (λ e. cons_if_here (f x) x (keep f xs) e (sym (ap f e) ∙ t)) (λ h. cons_if_there (f x) x (keep f xs) (keep_in f xs h t))
      (Memᴰ.cases_cons m)

  -- one of them passes
  pub some_in : (f : A → Bool) (xs : List A) → some? f xs ≡ true → (x : A) × (x ∈ xs) × (f x ≡ true)
  some_in f [] t = absurd (false≢true t)
  some_in f (x ∷ xs) t =
      ⊎_elim (λ h. (x, here refl, h)) (λ h. let r = some_in f xs h in (r.0, there r.1, r.2)) (or_cases (f x) (some? f xs) t)

  pub in_some : (f : A → Bool) (xs : List A) {x : A} → x ∈ xs → f x ≡ true → some? f xs ≡ true
  in_some f [] m t = absurd (Memᴰ.not-nil m)
  in_some f (x ∷ xs) m t =
      ⊎_elim (λ e. or_inl (f x) (some? f xs) (sym (ap f e) ∙ t)) (λ h. or_inr (f x) (some? f xs) (in_some f xs h t)) (Memᴰ.cases_cons m)

  -- none of them passes
  pub none_in : (f : A → Bool) (xs : List A) {x : A} → some? f xs ≡ false → x ∈ xs → f x ≡ false
  none_in f xs {x} t m = by_test (f x) (λ e. never (in_some f xs m e) t) (λ e. e)

  -- all of them pass
  pub all_in : (f : A → Bool) (xs : List A) {x : A} → all? f xs ≡ true → x ∈ xs → f x ≡ true
  all_in f [] t m = absurd (Memᴰ.not-nil m)
  all_in f (x ∷ xs) t m =
      ⊎_elim (λ e. ap f e ∙ and_left (f x) (all? f xs) t) (λ h. all_in f xs (and_right (f x) (all? f xs) t) h) (Memᴰ.cases_cons m)

  pub in_all : (f : A → Bool) (xs : List A) → ((x : A) → x ∈ xs → f x ≡ true) → all? f xs ≡ true
  in_all f [] h = refl
  in_all f (x ∷ xs) h = and_both (f x) (all? f xs) (h x (here refl)) (in_all f xs (λ y m. h y (there m)))

  -- where none passes none is kept
  pub keep_none : (f : A → Bool) (xs : List A) → ((x : A) → x ∈ xs → f x ≡ false) → keep f xs ≡ []
  keep_none f [] h = refl
  keep_none f (x ∷ xs) h = rw (h x (here refl)) (keep_none f xs (λ y m. h y (there m)))

  -- tests that say the same of each keep the same
  pub keep_same : (f g : A → Bool) (xs : List A) → ((x : A) → x ∈ xs → f x ≡ g x) → keep f xs ≡ keep g xs
  keep_same f g [] h = refl
  keep_same f g (x ∷ xs) h =
      ap (λ (b : Bool). cons_if b x (keep f xs)) (h x (here refl)) ∙ ap (cons_if (g x) x) (keep_same f g xs (λ y m. h y (there m)))

  -- what stands in an ascending list after x came to its place
  pub in_place : (b : A → A → Bool) (x : A) (ys : List A) {v : A} → v ∈ place b x ys → (v ≡ x) ⊎ (v ∈ ys)
  in_place b x [] m = Memᴰ.cases_cons m
  in_place b x (y ∷ ys) m =
      ⊎_elim (λ h. ⊎_elim (λ e. inr (here e)) (λ k. ⊎_map (λ e. e) there (in_place b x ys k)) (Memᴰ.cases_cons h.1))
      (λ h.
      ⊎_elim (λ k. Memᴰ.cases_cons k.1) (λ k. ⊎_map (λ e. e) there (Memᴰ.cases_cons k.1))
      (in_if (b x y) (x ∷ y ∷ ys) (x ∷ ys) h.1))
      (in_if (b y x) (y ∷ place b x ys) (if b x y then (x ∷ y ∷ ys) else (x ∷ ys)) m)

  pub place_here : (b : A → A → Bool) (x : A) (ys : List A) → x ∈ place b x ys
  place_here b x [] = here refl
  place_here b x (y ∷ ys) =
      let rest = place_here b x ys in
      by_test (b y x) (λ e. rw e (there rest)) (λ e. by_test (b x y) (λ d. rw (e, d) (here refl)) (λ d. rw (e, d) (here refl)))

  -- two that stand at one place
  abbrev pub Tied : (A → A → Bool) → A → A → Type 0
  Tied b x y = (b x y ≡ false) × (b y x ≡ false)

  pub place_there : (b : A → A → Bool) (x : A) (ys : List A) {v : A} → v ∈ ys → (v ∈ place b x ys) ⊎ Tied b v x
  place_there b x [] m = absurd (Memᴰ.not-nil m)
  place_there b x (y ∷ ys) {v} m =
      ⊎_elim
      (λ e. by_test (b y x) (λ t. inl (rw t (here e)))
      (λ t. by_test (b x y) (λ d. inl (rw (t, d) (there (here e)))) (λ d. inr (ap (λ z. b z x) e ∙ t, ap (λ z. b x z) e ∙ d))))
      (λ h. ⊎_elim
      (λ r. by_test (b y x) (λ t. inl (rw t (there r))) (λ t. by_test (b x y) (λ d. inl (rw (t, d) (there (there h)))) (λ d. inl (rw (t, d) (there h)))))
      inr (place_there b x ys h))
      (Memᴰ.cases_cons m)

  pub in_place_all : (b : A → A → Bool) (xs ys : List A) {v : A} → v ∈ place_all b xs ys → (v ∈ xs) ⊎ (v ∈ ys)
  in_place_all b [] ys m = inr m
  in_place_all b (x ∷ xs) ys m =
      ⊎_elim (λ e. inl (here e)) (λ h. ⊎_map there (λ k. k) (in_place_all b xs ys h)) (in_place b x (place_all b xs ys) m)

  -- where two of them that stand at one place are the same, nothing is lost
  pub place_all_in : (b : A → A → Bool) (P : A → Type 0) → ((v w : A) → P v → P w → Tied b v w → v ≡ w) → (xs ys : List A)
      → ((v : A) → v ∈ xs → P v) → ((v : A) → v ∈ ys → P v) → {v : A} → (v ∈ xs) ⊎ (v ∈ ys) → v ∈ place_all b xs ys
  place_all_in b P one [] ys px py m = ⊎_elim (λ h. absurd (Memᴰ.not-nil h)) (λ h. h) m
  place_all_in b P one (x ∷ xs) ys px py {v} m =
      let rest : (v ∈ xs) ⊎ (v ∈ ys) → v ∈ place_all b xs ys = place_all_in b P one xs ys (λ w h. px w (there h)) py in
      let pv : P v = ⊎_elim (px v) (py v) m in
      let keep_it : v ∈ place_all b xs ys → v ∈ place_all b (x ∷ xs) ys =
      λ h. ⊎_elim (λ k. k) (λ t. Memᴰ.cast (one v x pv (px x (here refl)) t) (place_here b x (place_all b xs ys))) (place_there b x (place_all b xs ys) h) in
      ⊎_elim
      (λ h. ⊎_elim (λ e. Memᴰ.cast e (place_here b x (place_all b xs ys))) (λ k. keep_it (rest (inl k))) (Memᴰ.cases_cons h))
      (λ h. keep_it (rest (inr h))) m

-- what is in the lists that map and concat_map build
pub in_map : {A B : Type 0} (f : A → B) (xs : List A) {y : B} → y ∈ map f xs → (x : A) × (x ∈ xs) × (y ≡ f x)
in_map f [] m = absurd (Memᴰ.not-nil m)
in_map f (x ∷ xs) m =
    ⊎_elim (λ e. (x, here refl, e)) (λ h. let q = in_map f xs h in (q.0, there q.1, q.2)) (Memᴰ.cases_cons m)

pub map_in : {A B : Type 0} (f : A → B) (xs : List A) {x : A} → x ∈ xs → f x ∈ map f xs
map_in f [] m = absurd (Memᴰ.not-nil m)
map_in f (y ∷ ys) m = ⊎_elim (λ e. here (ap f e)) (λ h. there (map_in f ys h)) (Memᴰ.cases_cons m)

pub map_length : {A B : Type 0} (f : A → B) (xs : List A) → length (map f xs) ≡ length xs
map_length f [] = refl
map_length f (x ∷ xs) = ap suc (map_length f xs)

pub in_concat_map : {A B : Type 0} (f : A → List B) (xs : List A) {y : B} → y ∈ concat_map f xs → (x : A) × (x ∈ xs) × (y ∈ f x)
in_concat_map f [] m = absurd (Memᴰ.not-nil m)
in_concat_map f (x ∷ xs) m =
    ⊎_elim (λ h. (x, here refl, h)) (λ h. let q = in_concat_map f xs h in (q.0, there q.1, q.2)) (Memᴰ.append_cases (f x) m)

pub concat_map_in : {A B : Type 0} (f : A → List B) (xs : List A) {x : A} {y : B} → x ∈ xs → y ∈ f x → y ∈ concat_map f xs
concat_map_in f [] m k = absurd (Memᴰ.not-nil m)
concat_map_in f (z ∷ zs) {x} {y} m k =
    ⊎_elim (λ e. in_left (f z) (concat_map f zs) (subst (λ (w : _). y ∈ f w) e k)) (λ h. in_right (f z) (concat_map f zs) (concat_map_in f zs h k)) (Memᴰ.cases_cons m)

-- ---- a list of tests

-- the test at a place of a list of tests that all pass
pub clause : (bs : List Bool) → every bs ≡ true → (i : ℕ) → get_or bs i true ≡ true
clause [] t i = refl
clause (b ∷ bs) t zero = and_left b (every bs) t
clause (b ∷ bs) t (suc i) = clause bs (and_right b (every bs) t) i

-- each of them passes
infixr 40 ◌and_also◌
pub data Passed : List Bool → Type 0 where
  passed : Passed []
  ◌and_also◌ : {b : Bool} {bs : List Bool} → b ≡ true → Passed bs → Passed (b ∷ bs)

pub all_passed : {bs : List Bool} → Passed bs → every bs ≡ true
all_passed passed = refl
all_passed (◌and_also◌ {b = b} {bs = bs} p ps) = and_both b (every bs) p (all_passed ps)

-- one of them fails, and so do all
pub failed : (bs : List Bool) (i : ℕ) → get_or bs i true ≡ false → false ≡ every bs
failed bs i t = by_test (every bs) (λ e. never (clause bs e i) t) (λ e. sym e)

-- those before the last pass, and so the last is what all are
pub last_test : (bs : List Bool) (b : Bool) → Passed bs → b ≡ every (bs ++ (b ∷ []))
last_test bs true passed = refl
last_test bs false passed = refl
last_test bs b (◌and_also◌ {b = a} {bs = cs} p ps) = last_test cs b ps ∙ sym (and_passed a (every (cs ++ (b ∷ []))) p)
