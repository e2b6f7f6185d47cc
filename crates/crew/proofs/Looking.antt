-- What is found under a key after storing. Assumes nothing.
use Rattle.std.specs.Prelude.{if◌then◌else◌}
use mathlib.Core.Path.{◌≡◌, refl, sym, ◌∙◌, subst}
use mathlib.Core.Logic.{◌⊎◌, inl, inr, ⊎_elim, ⊎_map}
use mathlib.Core.Bool.{true, false}
use mathlib.Core.List.Memᴰ
use mathlib.Core.List.{List, [], ◌∷◌}
use Rattle.numbers.specs.declared.Key.{Key}
use Rattle.numbers.specs.Words.{place, fold}
use Rattle.numbers.specs.Key.{same_key, key_before}
use Rattle.numbers.proofs.Tests.{by_test, ◌∈◌, here, there}
use Rattle.numbers.proofs.Orders.{Ascends, ascends_first, ascends_rest}
use Rattle.numbers.proofs.Dots.{same_keys, key_itself, tied_keys, other_before, other_way}
use Rattle.meaning.specs.Clock.{Clock}
use Rattle.meaning.specs.Object.{Object, no_object, strip, gone}
use Rattle.meaning.specs.State.{Stored, stored_before, look_up}
use Rattle.meaning.specs.Settle.{without, stripped, put}

look_here : (k : Key) (p : Stored) (ps : List Stored) → same_key k p.key ≡ true → look_up k (p ∷ ps) ≡ p.object
unfolding look_up
look_here k p ps t = rw (t, look_up)

look_there : (k : Key) (p : Stored) (ps : List Stored) → same_key k p.key ≡ false → look_up k (p ∷ ps) ≡ look_up k ps
unfolding look_up
look_there k p ps t = rw (t, look_up)

look_place : (r : Stored) (ps : List Stored) → look_up r.key (place stored_before r ps) ≡ r.object
look_place r [] = look_here r.key r [] (key_itself r.key)
look_place r (p ∷ ps) =
    let rest = look_place r ps in
    by_test (key_before p.key r.key)
    (λ t. rw t (look_there r.key p (place stored_before r ps) (other_before p.key r.key t) ∙ rest))
    (λ t. by_test (key_before r.key p.key)
    (λ d. rw (t, d) (look_here r.key r (p ∷ ps) (key_itself r.key)))
    (λ d. rw (t, d) (look_here r.key r ps (key_itself r.key))))

look_cons : (k : Key) (p : Stored) (xs ys : List Stored) → look_up k xs ≡ look_up k ys → look_up k (p ∷ xs) ≡ look_up k (p ∷ ys)
look_cons k p xs ys e =
    by_test (same_key k p.key) (λ t. look_here k p xs t ∙ sym (look_here k p ys t)) (λ t. look_there k p xs t ∙ e ∙ sym (look_there k p ys t))

look_place_other : (k : Key) (r : Stored) (ps : List Stored) → same_key k r.key ≡ false → look_up k (place stored_before r ps) ≡ look_up k ps
look_place_other k r [] f = look_there k r [] f
look_place_other k r (p ∷ ps) f =
    let rest = look_place_other k r ps f in
    by_test (key_before p.key r.key) (λ t. rw t (look_cons k p (place stored_before r ps) ps rest))
    (λ t. by_test (key_before r.key p.key) (λ d. rw (t, d) (look_there k r (p ∷ ps) f))
    (λ d. rw (t, d)
    (look_there k r ps f ∙ sym (look_there k p ps (subst (λ (x : Key). same_key k x ≡ false) (tied_keys r.key p.key (d, t)) f)))))

look_without : (k : Key) (ps : List Stored) → look_up k (without k ps) ≡ no_object
unfolding without look_up
look_without k [] = refl
look_without k (p ∷ ps) =
    let rest = look_without k ps in
    by_test (same_key k p.key) (λ t. rw t rest) (λ t. rw t (look_there k p (without k ps) t ∙ rest))

look_without_other : (k k' : Key) (ps : List Stored) → same_key k k' ≡ false → look_up k (without k' ps) ≡ look_up k ps
unfolding without
look_without_other k k' [] f = refl
look_without_other k k' (p ∷ ps) f =
    let rest = look_without_other k k' ps f in
    by_test (same_key k' p.key)
    (λ t. rw t (rest ∙ sym (look_there k p ps (subst (λ (x : Key). same_key k x ≡ false) (same_keys k' p.key t) f))))
    (λ t. rw t (look_cons k p (without k' ps) ps rest))

-- what is kept of a result: the stripped object, or nothing where its record goes
abbrev pub kept : Clock → Object → Object
kept c o = if gone (strip c o) then no_object else strip c o

look_put : (c : Clock) (ps : List Stored) (r : Stored) → look_up r.key (put c ps r) ≡ kept c r.object
unfolding put
look_put c ps r =
    by_test (gone (strip c r.object)) (λ t. rw t (look_without r.key ps)) (λ t. rw t (look_place (stripped c r) ps))

look_put_other : (k : Key) (c : Clock) (ps : List Stored) (r : Stored) → same_key k r.key ≡ false → look_up k (put c ps r) ≡ look_up k ps
unfolding put
look_put_other k c ps r f =
    by_test (gone (strip c r.object)) (λ t. rw t (look_without_other k r.key ps f)) (λ t. rw t (look_place_other k (stripped c r) ps f))

-- no two of the results are of one point
abbrev pub Distinct : List Stored → Type 0
Distinct [] = Unit {0}
Distinct (r ∷ rs) = ((q : Stored) → q ∈ rs → same_key r.key q.key ≡ false) × Distinct rs

pub ascending_distinct : (ps : List Stored) → Ascends stored_before ps → Distinct ps
ascending_distinct [] a = tt
ascending_distinct (p ∷ ps) a =
    let rest = ascending_distinct ps (ascends_rest stored_before p ps a) in
    ((λ q m. other_way q.key p.key (other_before p.key q.key (ascends_first stored_before p ps a m))), rest)

pub look_others : (k : Key) (c : Clock) (ps rs : List Stored) → ((q : Stored) → q ∈ rs → same_key k q.key ≡ false) → look_up k (fold (put c) ps rs) ≡ look_up k ps
look_others k c ps [] f = refl
look_others k c ps (r ∷ rs) f = look_others k c (put c ps r) rs (λ q m. f q (there m)) ∙ look_put_other k c ps r (f r (here refl))

pub look_result : (c : Clock) (ps rs : List Stored) → Distinct rs → (r : Stored) → r ∈ rs → look_up r.key (fold (put c) ps rs) ≡ kept c r.object
look_result c ps [] d r m = absurd (Memᴰ.not-nil m)
look_result c ps (q ∷ rs) d r m =
    let rest = look_result c (put c ps q) rs d.1 r in
    ⊎_elim
    (λ e. subst (λ (x : Stored). look_up x.key (fold (put c) (put c ps q) rs) ≡ kept c x.object) (sym e)
    (look_others q.key c (put c ps q) rs d.0 ∙ look_put c ps q))
    rest (Memᴰ.cases_cons m)

-- a key is one of a record's, or of none
pub find : (k : Key) (qs : List Stored) → ((r : Stored) × (r ∈ qs) × (k ≡ r.key)) ⊎ ((r : Stored) → r ∈ qs → same_key k r.key ≡ false)
find k [] = inr (λ r m. absurd (Memᴰ.not-nil m))
find k (q ∷ qs) =
    let rest = find k qs in
    by_test (same_key k q.key) (λ t. inl (q, here refl, same_keys k q.key t))
    (λ t. ⊎_map (λ h. (h.0, there h.1, h.2))
    (λ h r m. ⊎_elim (λ e. subst (λ (z : Stored). same_key k z.key ≡ false) (sym e) t) (h r) (Memᴰ.cases_cons m)) rest)

pub look_first : (ps : List Stored) → Distinct ps → (p : Stored) → p ∈ ps → look_up p.key ps ≡ p.object
look_first [] d p m = absurd (Memᴰ.not-nil m)
look_first (q ∷ qs) d p m =
    let rest = look_first qs d.1 p in
    ⊎_elim (λ e. subst (λ (x : Stored). look_up x.key (q ∷ qs) ≡ x.object) (sym e) (look_here q.key q qs (key_itself q.key)))
    (λ h. look_there p.key q qs (other_way q.key p.key (d.0 p h)) ∙ rest h) (Memᴰ.cases_cons m)
