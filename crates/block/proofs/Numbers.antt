-- Numbers as bytes and back, over the number of bytes. Assumes nothing.
use Prim.Native.Nat.{ℕ, zero, suc, ◌+◌, ◌*◌, ◌/◌, ◌%◌, ◌^◌, ◌≤◌, ◌<◌}
use mathlib.Core.Path.{◌≡◌, refl, ap, sym, subst}
use mathlib.Core.List.Memᴰ
use mathlib.Core.List.{List, [], ◌∷◌, Memᴰ}
use mathlib.Core.Logic.{⊎_elim}
use native.Mathlib.Nat.{pow-suc, pow-zero}
use native.Mathlib.Omega.{arith}
use lib.ListN.{length, take, drop, get_or}
use mir.Val.{Fits}
use mir.Syntax.{w8}
use Rattle.block.specs.Fields.{le, number, cut, field}
use Rattle.block.proofs.Parts.{length_cut}

abbrev pub Bytes : List ℕ → Type 0
Bytes l = (b : ℕ) → Memᴰ b l → b < 256

pub le_length : (n v : ℕ) → length (le n v) ≡ n
unfolding le
le_length zero v = refl
le_length (suc n) v = ap suc (le_length n (v / 256))

pub number_le : (n v : ℕ) → v < 256 ^ n → number (le n v) ≡ v
unfolding le number
number_le zero v h = omega (arith, pow-zero 256)
number_le (suc n) v h = omega (arith, number_le n (v / 256) (omega (arith, h, pow-suc 256 n)))

pub le_is_bytes : (n v : ℕ) → Bytes (le n v)
unfolding le
le_is_bytes zero v b m = absurd (Memᴰ.not-nil m)
le_is_bytes (suc n) v b m = ⊎_elim (λ e. omega arith) (le_is_bytes n (v / 256) b) (Memᴰ.cases_cons m)

pub number_bound : (l : List ℕ) → Bytes l → number l < 256 ^ length l
unfolding number
number_bound [] h = omega (arith, pow-zero 256)
number_bound (b ∷ bs) h =
    omega (arith, pow-suc 256 (length bs), number_bound bs (λ x m. h x (Memᴰ.tail m)), h b (Memᴰ.head refl))

pub le_number : (l : List ℕ) → Bytes l → le (length l) (number l) ≡ l
unfolding le number
le_number [] h = refl
le_number (b ∷ bs) h =
    let rest = le_number bs (λ x m. h x (Memᴰ.tail m)) in
    let small : b < 256 = h b (Memᴰ.head refl) in
    let low : (b + 256 * number bs) % 256 ≡ b = omega arith in
    let high : (b + 256 * number bs) / 256 ≡ number bs = omega arith in
    rw (low, high, rest)

-- what a slice of bytes holds is bytes
pub bytes_of : (l : List ℕ) → ((i : ℕ) → Fits w8 (get_or l i 0)) → Bytes l
bytes_of [] h x m = absurd (Memᴰ.not-nil m)
bytes_of (a ∷ l) h x m =
    ⊎_elim (λ e. subst (λ (v : ℕ). v < 256) (sym e) (omega (arith, h 0))) (λ k. bytes_of l (λ i. h (suc i)) x k) (Memᴰ.cases_cons m)

-- ---- parts of bytes are bytes

pub bytes_drop : (a : ℕ) (b : List ℕ) → Bytes b → Bytes (drop a b)
bytes_drop zero b h = h
bytes_drop (suc a) [] h = h
bytes_drop (suc a) (x ∷ xs) h = bytes_drop a xs (λ y m. h y (Memᴰ.tail m))

pub bytes_take : (n : ℕ) (b : List ℕ) → Bytes b → Bytes (take n b)
bytes_take zero b h y m = absurd (Memᴰ.not-nil m)
bytes_take (suc n) [] h y m = h y m
bytes_take (suc n) (x ∷ xs) h y m =
    ⊎_elim (λ e. h y (Memᴰ.head e)) (λ k. bytes_take n xs (λ z l. h z (Memᴰ.tail l)) y k) (Memᴰ.cases_cons m)

pub bytes_cut : (b : List ℕ) (a n : ℕ) → Bytes b → Bytes (cut b a n)
bytes_cut b a n h = bytes_take n (drop a b) (bytes_drop a b h)

-- a field of bytes is as small as its bytes make it
pub field_bound : (b : List ℕ) (o n : ℕ) → Bytes b → o + n ≤ length b → field b o n < 256 ^ n
unfolding field
field_bound b o n h l = subst (λ (m : ℕ). number (cut b o n) < 256 ^ m) (length_cut b o n l) (number_bound (cut b o n) (bytes_cut b o n h))

-- the bytes of a field are the part that it is read from
pub le_field : (b : List ℕ) (o n : ℕ) → Bytes b → o + n ≤ length b → le n (field b o n) ≡ cut b o n
unfolding field
le_field b o n h l =
    subst (λ (m : ℕ). le m (number (cut b o n)) ≡ cut b o n) (length_cut b o n l) (le_number (cut b o n) (bytes_cut b o n h))
