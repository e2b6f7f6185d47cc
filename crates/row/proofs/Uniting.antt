-- Uniting two rows: the result has the counters of both, and the order and the grouping of unions do not matter. Assumes nothing.
use Prim.Native.Nat.{ℕ, ◌+◌, ◌-◌, ◌/◌, ◌^◌, ◌≤◌, ◌<◌, max}
use mathlib.Core.Path.{◌≡◌, sym, subst, ◌∙◌}
use mathlib.Core.Logic.{◌⊎◌, inl, inr, ◌↔◌, ⊎_elim, ⊎_map}
use mathlib.Core.Bool.{true}
use native.Mathlib.Omega.{arith}
use native.Mathlib.Nat.{le_trans, le-max_left, le-max_right}
use lib.Bits.{bit_or}
use lib.Dec.{leb}
use borrow.Author.Tests.{leb-true, leb-false}
use Rattle.numbers.specs.declared.Counter.{Counter}
use Rattle.numbers.proofs.Tests.{by_test}
use Rattle.row.specs.declared.Row.{Row}
use Rattle.row.specs.Row.{has, unite}
use Rattle.row.proofs.Members.{digit, digit_shift, Member, low, high, member, has_of, either, Clear, row_determined}
use Rattle.row.proofs.Advancing.{advanced_member, advanced_clear, advanced_base}

-- the base goes up to t, and the bits are shifted
raised : (b n t c : ℕ) → b ≤ t → Member t (n / 2 ^ (t - b)) c ↔ (Member b n c ⊎ ((0 < c) × (c ≤ t)))
raised b n t c l = (to, from)
  where
    to : Member t (n / 2 ^ (t - b)) c → Member b n c ⊎ ((0 < c) × (c ≤ t))
    to (low p q) = inr (p, q)
    to (high j e d) = inl (high (t - b + j) (omega arith) (sym (digit_shift j (t - b) n) ∙ d))

    from : Member b n c ⊎ ((0 < c) × (c ≤ t)) → Member t (n / 2 ^ (t - b)) c
    from (inl (low p q)) = low p (omega arith)
    from (inl (high j e d)) =
        by_test (leb c t) (λ x. low (omega arith) (leb-true c t x))
        (λ x. high (c - (t + 1)) (omega (arith, leb-false c t x))
        (digit_shift (c - (t + 1)) (t - b) n ∙ subst (λ (k : ℕ). digit k n ≡ 1) (omega (arith, leb-false c t x)) d))
    from (inr h) = low h.0 h.1

module _ (r s : Row) where
  -- the two rows at the higher base, before that goes up
  abbrev pub both : Row
  both = record { base = max r.base s.base; bits = bit_or (r.bits / 2 ^ (max r.base s.base - r.base)) (s.bits / 2 ^ (max r.base s.base - s.base)) }

  pub unite_has : (c : Counter) → (has (unite r s) c ≡ true) ↔ ((has r c ≡ true) ⊎ (has s c ≡ true))
  unfolding unite
  unite_has c = (λ h. to (open_up (member (unite r s) c h)), λ h. has_of (unite r s) c (close (from h)))
    where
      t : ℕ
      t = both.base

      x : ℕ
      x = r.bits / 2 ^ (t - r.base)

      y : ℕ
      y = s.bits / 2 ^ (t - s.base)

      open_up : Member (unite r s).base (unite r s).bits c.0 → Member t x c.0 ⊎ Member t y c.0
      open_up m = (either t x y c.0).0 ((advanced_member both c.0).0 m)

      close : Member t x c.0 ⊎ Member t y c.0 → Member (unite r s).base (unite r s).bits c.0
      close m = (advanced_member both c.0).1 ((either t x y c.0).1 m)

      in_base : (0 < c.0) × (c.0 ≤ t) → (has r c ≡ true) ⊎ (has s c ≡ true)
      in_base h =
          by_test (leb c.0 r.base) (λ e. inl (has_of r c (low h.0 (leb-true c.0 r.base e))))
          (λ e. inr (has_of s c (low h.0 (omega (arith, h.1, leb-false c.0 r.base e)))))

      to : Member t x c.0 ⊎ Member t y c.0 → (has r c ≡ true) ⊎ (has s c ≡ true)
      to (inl m) = ⊎_elim (λ h. inl (has_of r c h)) in_base ((raised r.base r.bits t c.0 (omega arith)).0 m)
      to (inr m) = ⊎_elim (λ h. inr (has_of s c h)) in_base ((raised s.base s.bits t c.0 (omega arith)).0 m)

      from : (has r c ≡ true) ⊎ (has s c ≡ true) → Member t x c.0 ⊎ Member t y c.0
      from (inl h) = inl ((raised r.base r.bits t c.0 (omega arith)).1 (inl (member r c h)))
      from (inr h) = inr ((raised s.base s.bits t c.0 (omega arith)).1 (inl (member s c h)))

  pub unite_clear : Clear (unite r s)
  unfolding unite
  unite_clear = advanced_clear both

  pub unite_base : r.base ≤ (unite r s).base
  unfolding unite
  unite_base = le_trans (le-max_left r.base s.base) (advanced_base both)

  pub unite_base' : s.base ≤ (unite r s).base
  unfolding unite
  unite_base' = le_trans (le-max_right r.base s.base) (advanced_base both)

pub unite_same : (r : Row) → Clear r → unite r r ≡ r
unite_same r clear = row_determined (unite r r) r (unite_clear r r) clear (λ c. (λ h. ⊎_elim (λ x. x) (λ x. x) ((unite_has r r c).0 h), λ h. (unite_has r r c).1 (inl h)))

pub unite_swap : (r s : Row) → unite r s ≡ unite s r
unite_swap r s = row_determined (unite r s) (unite s r) (unite_clear r s) (unite_clear s r) (λ c. (swapped r s c, swapped s r c))
  where
    swapped : (r s : Row) (c : Counter) → has (unite r s) c ≡ true → has (unite s r) c ≡ true
    swapped r s c h = (unite_has s r c).1 (⊎_elim inr inl ((unite_has r s c).0 h))

pub unite_regroup : (r s t : Row) → unite (unite r s) t ≡ unite r (unite s t)
unite_regroup r s t = row_determined (unite (unite r s) t) (unite r (unite s t)) (unite_clear (unite r s) t) (unite_clear r (unite s t)) (λ c. (right c, left c))
  where
    right : (c : Counter) → has (unite (unite r s) t) c ≡ true → has (unite r (unite s t)) c ≡ true
    right c h =
        (unite_has r (unite s t) c).1
        (⊎_elim (λ x. ⊎_map (λ y. y) (λ y. (unite_has s t c).1 (inl y)) ((unite_has r s c).0 x)) (λ x. inr ((unite_has s t c).1 (inr x)))
        ((unite_has (unite r s) t c).0 h))

    left : (c : Counter) → has (unite r (unite s t)) c ≡ true → has (unite (unite r s) t) c ≡ true
    left c h =
        (unite_has (unite r s) t c).1
        (⊎_elim (λ x. inl ((unite_has r s c).1 (inl x))) (λ x. ⊎_map (λ y. (unite_has r s c).1 (inr y)) (λ y. y) ((unite_has s t c).0 x))
        ((unite_has r (unite s t) c).0 h))
