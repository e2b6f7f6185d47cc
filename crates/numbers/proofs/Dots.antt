-- Dots and keys: their tests, and their orders. Assumes nothing.
use mathlib.Core.Path.{◌≡◌, refl, subst}
use mathlib.Core.Bool.{true, false}
use Rattle.numbers.specs.declared.Dot.{Dot}
use Rattle.numbers.specs.declared.Key.{Key}
use Rattle.numbers.specs.Numbers.{controller, counter, point}
use Rattle.numbers.specs.Dot.{same_dot, dot_before}
use Rattle.numbers.specs.Key.{same_key, key_before}
use Rattle.numbers.proofs.Tests.{by_test, never}
use Rattle.numbers.proofs.Lists.{Tied}
use Rattle.numbers.proofs.Orders.{Order, by_pair, same_pairs, pair_same, pair_tied}

pub dot_path : (d e : Dot) → (d.who.0 ≡ e.who.0) × (d.count.0 ≡ e.count.0) → d ≡ e
dot_path d e p i = record { who = controller (p.0 i); count = counter (p.1 i) }

pub key_path : (a b : Key) → (a.job ≡ b.job) × (a.point.0 ≡ b.point.0) → a ≡ b
key_path a b p i = record { job = p.0 i; point = point (p.1 i) }

pub same_dots : (d e : Dot) → same_dot d e ≡ true → d ≡ e
same_dots d e t = dot_path d e (same_pairs d.who.0 d.count.0 e.who.0 e.count.0 t)

pub dot_itself : (d : Dot) → same_dot d d ≡ true
dot_itself d = pair_same d.who.0 d.count.0 d.who.0 d.count.0 refl refl

pub same_keys : (a b : Key) → same_key a b ≡ true → a ≡ b
same_keys a b t = key_path a b (same_pairs a.job a.point.0 b.job b.point.0 t)

pub key_itself : (a : Key) → same_key a a ≡ true
key_itself a = pair_same a.job a.point.0 a.job a.point.0 refl refl

-- two dots, or keys, neither of which comes before the other are the same
pub tied_dots : (d e : Dot) → Tied dot_before d e → d ≡ e
tied_dots d e t = dot_path d e (pair_tied d.who.0 d.count.0 e.who.0 e.count.0 t.0 t.1)

pub tied_keys : (a b : Key) → Tied key_before a b → a ≡ b
tied_keys a b t = key_path a b (pair_tied a.job a.point.0 b.job b.point.0 t.0 t.1)

pub dot_order : Order dot_before
dot_order = by_pair (λ d. d.who.0) (λ d. d.count.0)

pub key_order : Order key_before
key_order = by_pair (λ k. k.job) (λ k. k.point.0)

pub dots_tied : (d e : Dot) → d ≡ e → Tied dot_before d e
dots_tied d e p = subst (λ (x : Dot). Tied dot_before d x) p (dot_order.itself d, dot_order.itself d)

pub keys_tied : (a b : Key) → a ≡ b → Tied key_before a b
keys_tied a b p = subst (λ (x : Key). Tied key_before a x) p (key_order.itself a, key_order.itself a)

-- a key that is not another is not the other's
pub other_way : (a b : Key) → same_key a b ≡ false → same_key b a ≡ false
other_way a b t = by_test (same_key b a) (λ u. never (subst (λ (x : Key). same_key x b ≡ true) (same_keys b a u) (key_itself b)) t) (λ u. u)

-- a key that comes before another is another
pub before_other : (a b : Key) → key_before a b ≡ true → same_key a b ≡ false
before_other a b t = by_test (same_key a b) (λ u. never (subst (λ (x : Key). key_before x b ≡ true) (same_keys a b u) t) (key_order.itself b)) (λ u. u)

pub other_before : (a b : Key) → key_before a b ≡ true → same_key b a ≡ false
other_before a b t = other_way a b (before_other a b t)
