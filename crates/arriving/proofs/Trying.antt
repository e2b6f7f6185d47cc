-- Counters tried one after the other, in passes: where none is left over, all are in; where one is and the base did not go up, the whole would
-- not fit. Assumes nothing.
use Rattle.std.specs.Prelude.{if◌then◌else◌, Option, Some, None}
use Prim.Native.Nat.{ℕ, ◌+◌, ◌≤◌, ◌<◌}
use mathlib.Core.Path.{◌≡◌, refl, ap, sym, ◌∙◌, subst}
use mathlib.Core.Logic.{◌⊎◌, inl, inr, ⊎_elim, ⊎_map}
use mathlib.Core.Bool.{Bool, true, false}
use mathlib.Core.List.Memᴰ
use mathlib.Core.List.{List, [], ◌∷◌}
use native.Mathlib.Nat.{le_refl}
use native.Mathlib.Omega.{arith}
use lib.Dec.{leb}
use borrow.Author.Tests.{leb-true, leb-false}
use Rattle.numbers.specs.declared.Counter.{Counter}
use Rattle.numbers.specs.Words.{fold}
use Rattle.numbers.specs.Numbers.{counter, last_counter}
use Rattle.numbers.proofs.Tests.{by_test, never, ◌∈◌, here, there}
use Rattle.row.specs.declared.Row.{Row}
use Rattle.row.specs.Row.{has, add, fits, sound, add_up}
use Rattle.row.proofs.Members.{same_number, member, Clear, not_next, row_determined}
use Rattle.row.proofs.Adding.{add_has, add_clear, add_base, add_all, add_all_has, add_all_clear, Positive}
use Rattle.row.proofs.Highest.{gap_far, add_fits, add_sound, is_a_counter, sound_clear}
use Rattle.arriving.specs.declared.Tried.{Tried}
use Rattle.arriving.specs.Tried.{told, tried, all_added}

-- u is what t became when these counters were tried
pub record Became (t : Tried) (cs : List Counter) (u : Tried) : Type 0 where
  pub fit : fits u.row ≡ true
  pub clear : Clear u.row
  pub up : t.row.base ≤ u.row.base
  pub more : (d : Counter) → has t.row d ≡ true → has u.row d ≡ true
  pub only : (d : Counter) → has u.row d ≡ true → (has t.row d ≡ true) ⊎ (d ∈ cs)
  pub each : (c : Counter) → c ∈ cs → (has u.row c ≡ true) ⊎ ((u.left ≡ true) × (t.row.base + 64 < c.0))
  pub some : u.left ≡ true → (t.left ≡ true) ⊎ ((c : Counter) × (c ∈ cs) × (t.row.base + 64 < c.0))
  pub kept : t.left ≡ true → u.left ≡ true

-- ---- one counter

tried_in : (t : Tried) (c : Counter) → fits (add t.row c) ≡ true → tried t c ≡ record { row = add t.row c; left = t.left }
unfolding tried add_up
tried_in t c h = rw h

tried_out : (t : Tried) (c : Counter) → fits (add t.row c) ≡ false → tried t c ≡ record { row = t.row; left = true }
unfolding tried add_up
tried_out t c h = rw h

-- one that does not fit is above base + 64
out_far : (r : Row) (c : Counter) → fits r ≡ true → 0 < c.0 → fits (add r c) ≡ false → r.base + 64 < c.0
out_far r c f pos h = by_test (leb c.0 (r.base + 64)) (λ t. absurd (never (add_fits r c f pos (leb-true c.0 (r.base + 64) t)) h)) (λ t. leb-false c.0 (r.base + 64) t)

pub tried_sound : (t : Tried) (c : Counter) → sound t.row ≡ true → 0 < c.0 → c.0 ≤ last_counter → sound (tried t c).row ≡ true
tried_sound t c s pos high =
    by_test (fits (add t.row c))
    (λ h. subst (λ (u : Tried). sound u.row ≡ true) (sym (tried_in t c h)) (add_sound t.row c s (is_a_counter c pos high)))
    (λ h. subst (λ (u : Tried). sound u.row ≡ true) (sym (tried_out t c h)) s)

tried_fits : (t : Tried) (c : Counter) → fits t.row ≡ true → fits (tried t c).row ≡ true
tried_fits t c f =
    by_test (fits (add t.row c))
    (λ h. subst (λ (u : Tried). fits u.row ≡ true) (sym (tried_in t c h)) h)
    (λ h. subst (λ (u : Tried). fits u.row ≡ true) (sym (tried_out t c h)) f)

tried_clear : (t : Tried) (c : Counter) → Clear t.row → Clear (tried t c).row
tried_clear t c k =
    by_test (fits (add t.row c))
    (λ h. subst (λ (u : Tried). Clear u.row) (sym (tried_in t c h)) (add_clear t.row c k))
    (λ h. subst (λ (u : Tried). Clear u.row) (sym (tried_out t c h)) k)

-- ---- all of them

-- the first of several was added, or left over
taken : (t : Tried) (c : Counter) (cs : List Counter) → 0 < c.0 → (u : Tried) → Became (record { row = add t.row c; left = t.left }) cs u → Became t (c ∷ cs) u
taken t c cs pos u R = record {
  fit = R.fit;
  clear = R.clear;
  up = omega (arith, R.up, add_base t.row c);
  more = λ d k. R.more d ((add_has t.row c d pos).1 (inl k));
  only = λ d k. ⊎_elim (λ x. ⊎_map (λ y. y) here ((add_has t.row c d pos).0 x)) (λ m. inr (there m)) (R.only d k);
  each = λ d m. ⊎_elim (λ e. inl (R.more d ((add_has t.row c d pos).1 (inr e)))) (λ k. ⊎_map (λ y. y) (λ y. (y.0, omega (arith, y.1, add_base t.row c))) (R.each d k)) (Memᴰ.cases_cons m);
  some = λ k. ⊎_map (λ y. y) (λ y. (y.0, there y.1, omega (arith, y.2, add_base t.row c))) (R.some k);
  kept = R.kept;
}

passed : (t : Tried) (c : Counter) (cs : List Counter) → t.row.base + 64 < c.0 → (u : Tried) → Became (record { row = t.row; left = true }) cs u → Became t (c ∷ cs) u
passed t c cs far u R = record {
  fit = R.fit;
  clear = R.clear;
  up = R.up;
  more = R.more;
  only = λ d k. ⊎_map (λ y. y) there (R.only d k);
  each = λ d m. ⊎_elim (λ e. inr (R.kept refl, omega (arith, far, same_number e))) (R.each d) (Memᴰ.cases_cons m);
  some = λ k. inr (c, here refl, far);
  kept = λ k. R.kept refl;
}

pub tried_all : (t : Tried) (cs : List Counter) → Positive cs → fits t.row ≡ true → Clear t.row → Became t cs (fold tried t cs)
tried_all t [] pos f clear = record {
  fit = f;
  clear = clear;
  up = le_refl t.row.base;
  more = λ d h. h;
  only = λ d h. inl h;
  each = λ c m. absurd (Memᴰ.not-nil m);
  some = λ h. inl h;
  kept = λ h. h;
}
tried_all t (c ∷ cs) pos f clear =
    let rest = tried_all (tried t c) cs (λ d m. pos d (there m)) (tried_fits t c f) (tried_clear t c clear) in
    by_test (fits (add t.row c))
    (λ h. taken t c cs (pos c (here refl)) (fold tried (tried t c) cs) (subst (λ (u : Tried). Became u cs (fold tried (tried t c) cs)) (tried_in t c h) rest))
    (λ h. passed t c cs (out_far t.row c f (pos c (here refl)) h) (fold tried (tried t c) cs) (subst (λ (u : Tried). Became u cs (fold tried (tried t c) cs)) (tried_out t c h) rest))

-- ---- a pass from a row

module _ (r : Row) (cs : List Counter) (pos : Positive cs) (fit : fits r ≡ true) (clear : Clear r) where
  abbrev u : Tried
  u = fold tried (record { row = r; left = false }) cs

  B : Became (record { row = r; left = false }) cs (fold tried (record { row = r; left = false }) cs)
  B = tried_all (record { row = r; left = false }) cs pos fit clear

  pub pass_fits : fits (fold tried (record { row = r; left = false }) cs).row ≡ true
  pass_fits = B.fit

  pub pass_clear : Clear (fold tried (record { row = r; left = false }) cs).row
  pass_clear = B.clear

  pub pass_up : r.base ≤ (fold tried (record { row = r; left = false }) cs).row.base
  pass_up = B.up

  -- where none is left over, all are in
  pub none_left : (fold tried (record { row = r; left = false }) cs).left ≡ false → (fold tried (record { row = r; left = false }) cs).row ≡ add_all r cs
  none_left h =
      row_determined u.row (add_all r cs) B.clear (add_all_clear r cs clear)
      (λ c. (
        λ k. (add_all_has r cs c pos).1 (B.only c k),
        λ k. ⊎_elim (B.more c) (λ m. ⊎_elim (λ x. x) (λ x. never x.0 h) (B.each c m)) ((add_all_has r cs c pos).0 k),
      ))

  -- what is left over can be tried again: the whole is the same
  pub pass_same : add_all (fold tried (record { row = r; left = false }) cs).row cs ≡ add_all r cs
  pass_same =
      row_determined (add_all u.row cs) (add_all r cs) (add_all_clear u.row cs B.clear) (add_all_clear r cs clear)
      (λ c. (
        λ k. (add_all_has r cs c pos).1 (⊎_elim (B.only c) inr ((add_all_has u.row cs c pos).0 k)),
        λ k. (add_all_has u.row cs c pos).1 (⊎_map (B.more c) (λ m. m) ((add_all_has r cs c pos).0 k)),
      ))

  -- a counter left over by a pass that did not raise the base: nothing closes the gap after the base
  pub no_way : (fold tried (record { row = r; left = false }) cs).left ≡ true → (fold tried (record { row = r; left = false }) cs).row.base ≡ r.base → fits (add_all r cs) ≡ false
  no_way h e = ⊎_elim (λ x. never x refl) far (B.some h)
    where
      next : Counter
      next = counter (r.base + 1)

      lacks : has (add_all r cs) next ≡ true → ⊥
      lacks k =
          let not_now : has u.row next ≡ true → ⊥ = λ x. not_next u.row.base u.row.bits B.clear (subst (λ (b : ℕ). Rattle.row.proofs.Members.Member u.row.base u.row.bits (b + 1)) (sym e) (member u.row next x)) in
          ⊎_elim (λ x. not_now (B.more next x)) (λ m. ⊎_elim not_now (λ x. omega (arith, x.1)) (B.each next m)) ((add_all_has r cs next pos).0 k)

      far : (c : Counter) × (c ∈ cs) × (r.base + 64 < c.0) → fits (add_all r cs) ≡ false
      far x = gap_far (add_all r cs) x.0 next ((add_all_has r cs x.0 pos).1 (inr x.1)) (omega arith) lacks (omega (arith, x.2))

-- ---- what a loop over passes keeps

pub record Passes (r : Row) (cs : List Counter) (base : ℕ) (t : Tried) : Type 0 where
  pub fit : fits t.row ≡ true
  pub good : sound t.row ≡ true
  pub up : base ≤ t.row.base
  pub same : add_all t.row cs ≡ add_all r cs
  pub done : t.left ≡ false → t.row ≡ add_all r cs
  pub stuck : t.left ≡ true → t.row.base ≡ base → fits (add_all r cs) ≡ false

abbrev pub Countable : List Counter → Type 0
Countable cs = (c : Counter) → c ∈ cs → (0 < c.0) × (c.0 ≤ last_counter)

pub all_sound : (t : Tried) (cs : List Counter) → sound t.row ≡ true → Countable cs → sound (fold tried t cs).row ≡ true
all_sound t [] s h = s
all_sound t (c ∷ cs) s h = all_sound (tried t c) cs (tried_sound t c s (h c (here refl)).0 (h c (here refl)).1) (λ d m. h d (there m))

module _ (cs : List Counter) (ok : Countable cs) where
  pos : Positive cs
  pos c m = (ok c m).0

  pub first_pass : (r : Row) → fits r ≡ true → sound r ≡ true → (t : Tried) → t ≡ fold tried (record { row = r; left = false }) cs → Passes r cs r.base t
  first_pass r f s t e = subst (Passes r cs r.base) (sym e) (record {
    fit = pass_fits r cs pos f (sound_clear r s);
    good = all_sound (record { row = r; left = false }) cs s ok;
    up = pass_up r cs pos f (sound_clear r s);
    same = pass_same r cs pos f (sound_clear r s);
    done = none_left r cs pos f (sound_clear r s);
    stuck = no_way r cs pos f (sound_clear r s);
  })

  pub next_pass : (r : Row) (base : ℕ) (t u : Tried) → Passes r cs base t → u ≡ fold tried (record { row = t.row; left = false }) cs → Passes r cs t.row.base u
  next_pass r base t u P e =
      let Q = first_pass t.row P.fit P.good u e in
      record {
        fit = Q.fit;
        good = Q.good;
        up = Q.up;
        same = Q.same ∙ P.same;
        done = λ h. Q.done h ∙ P.same;
        stuck = λ h b. sym (ap fits P.same) ∙ Q.stuck h b;
      }

-- what is answered
pub all_in : (r : Row) (cs : List Counter) (base : ℕ) (t : Tried) → Passes r cs base t → t.left ≡ false → Some t.row ≡ all_added r cs
unfolding all_added add_all
all_in r cs base t P h =
    ap (λ (b : Bool). if b then Some t.row else None) (sym P.fit) ∙ ap (λ (x : Row). if fits x then Some x else None) (P.done h)

pub too_far : (r : Row) (cs : List Counter) (base : ℕ) (t : Tried) → Passes r cs base t → t.left ≡ true → t.row.base ≡ base → None ≡ all_added r cs
unfolding all_added add_all
too_far r cs base t P h e = sym (ap (λ (b : Bool). if b then Some (fold add r cs) else None) (P.stuck h e))

-- ---- one counter, as the code tries it

pub says : (t : Tried) (c : Counter) (a b : Option Row) → a ≡ add_up t.row c → a ≡ b → told t b ≡ tried t c
unfolding tried
says t c a b p q = ap (told t) (sym q ∙ p)

-- ---- the loop over passes, seen from its first pass

pub from_first : (r : Row) (cs : List Counter) (base : ℕ) (t : Tried) → Passes r cs base t → Passes t.row cs base t
from_first r cs base t P = record {
  fit = P.fit;
  good = P.good;
  up = P.up;
  same = refl;
  done = λ h. P.done h ∙ sym P.same;
  stuck = λ h e. ap fits P.same ∙ P.stuck h e;
}

pub first_same : (r q : Row) (cs : List Counter) → add_all q cs ≡ add_all r cs → all_added q cs ≡ all_added r cs
unfolding all_added add_all
first_same r q cs e = ap (λ (x : Row). if fits x then Some x else None) e
