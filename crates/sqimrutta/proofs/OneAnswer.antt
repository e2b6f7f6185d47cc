-- No second answer fits a public call's contract: what the contract says of two runs on the same buffers and numbers makes them the same. Assumes nothing.
use Prim.Native.Nat.{ℕ}
use mathlib.Core.Path.{◌≡◌, sym, ◌∙◌}
use mathlib.Core.List.{List}
use Rattle.opening.specs.CallContracts.{Starts, Reads, Writes, Deletes, TakesIn, Asks, Replies, Repairs, Strips}
use Rattle.refusal.specs.Refusal.{Verdict}

-- two things that are both a third are one
module _ {A B C : Type 0} {a r s : A} {b x y : B} {c u v : C} where
  one : (r ≡ a) × (x ≡ b) × (u ≡ c) → (s ≡ a) × (y ≡ b) × (v ≡ c) → (r ≡ s) × (x ≡ y) × (u ≡ v)
  one p q = (p.0 ∙ sym q.0, p.1 ∙ sym q.1, p.2 ∙ sym q.2)

module _ {A : Type 0} (told : Verdict → A) {r s : A} where
  pub start_once : (image : List ℕ) (number : ℕ) (table : List ℕ) {x y : List ℕ} → Starts told image number table r x → Starts told image number table s y → (r ≡ s) × (x ≡ y)
  start_once image number table p q = let e = one (p.0, p.1, p.1) (q.0, q.1, q.1) in (e.0, e.1)

  pub read_once : (image : List ℕ) (job point : ℕ) (out : List ℕ) {x y : List ℕ} → Reads told image job point out r x → Reads told image job point out s y → (r ≡ s) × (x ≡ y)
  read_once image job point out p q = let e = one (p.0, p.1, p.1) (q.0, q.1, q.1) in (e.0, e.1)

  pub write_once : (image : List ℕ) (job point : ℕ) (value context out : List ℕ) {x y u v : List ℕ} → Writes told image job point value context out r x u → Writes told image job point value context out s y v → (r ≡ s) × (x ≡ y) × (u ≡ v)
  write_once image job point value context out p q = one p q

  pub delete_once : (image : List ℕ) (job point : ℕ) (context out : List ℕ) {x y u v : List ℕ} → Deletes told image job point context out r x u → Deletes told image job point context out s y v → (r ≡ s) × (x ≡ y) × (u ≡ v)
  delete_once image job point context out p q = one p q

  pub take_in_once : (image message : List ℕ) {x y : List ℕ} → TakesIn told image message r x → TakesIn told image message s y → (r ≡ s) × (x ≡ y)
  take_in_once image message p q = let e = one (p.0, p.1, p.1) (q.0, q.1, q.1) in (e.0, e.1)

  pub ask_once : (image : List ℕ) (to : ℕ) (out : List ℕ) {x y : List ℕ} → Asks told image to out r x → Asks told image to out s y → (r ≡ s) × (x ≡ y)
  ask_once image to out p q = let e = one (p.0, p.1, p.1) (q.0, q.1, q.1) in (e.0, e.1)

  pub reply_once : (image message out : List ℕ) {x y : List ℕ} {m n : ℕ} → Replies told image message out r x m → Replies told image message out s y n → (r ≡ s) × (x ≡ y) × (m ≡ n)
  reply_once image message out p q = one p q

  pub repair_once : (image message : List ℕ) {x y : List ℕ} → Repairs told image message r x → Repairs told image message s y → (r ≡ s) × (x ≡ y)
  repair_once image message p q = let e = one (p.0, p.1, p.1) (q.0, q.1, q.1) in (e.0, e.1)

  pub strip_pass_once : (image : List ℕ) {x y : List ℕ} {m n : ℕ} → Strips told image r x m → Strips told image s y n → (r ≡ s) × (x ≡ y) × (m ≡ n)
  strip_pass_once image p q = one p q
