-- The contracts of the public calls: the answer, the count and every byte of every buffer that the call may write, each equal to what the call's
-- definition says. `told` is how the answer is told: the verdict itself, or its number for C. Assumes nothing.
use Rattle.std.specs.Prelude.{ℕ, ◌≡◌, List, Result, Ok, Err}
use Rattle.refusal.specs.declared.Refusal.{Refusal}
use Rattle.layout.specs.Calls.{After, start_call, read_call, write_call, delete_call, take_in_call, ask_call, reply_call, repair_call, strip_pass_call}
use Rattle.refusal.specs.Refusal.{Verdict}

-- the answer of a call with a count, without the count; and the count, which is 0 where the call is refused
abbrev pub without_count : Result ℕ Refusal → Verdict
without_count (Ok n) = Ok tt
without_count (Err r) = Err r

abbrev pub count_in : Result ℕ Refusal → ℕ
count_in (Ok n) = n
count_in (Err r) = 0

-- the answer and what stands in one buffer
abbrev pub One : {A : Type 0} → (Verdict → A) → (After → List ℕ) → After → A → List ℕ → Type 0
One told buffer a r x = (r ≡ told a.verdict) × (x ≡ buffer a)

-- the answer, the image and the message
abbrev pub Two : {A : Type 0} → (Verdict → A) → After → A → List ℕ → List ℕ → Type 0
Two told a r image out = (r ≡ told a.verdict) × (image ≡ a.image) × (out ≡ a.out)

-- the answer, what stands in one buffer, and the count
abbrev pub Counted : {A : Type 0} → (Verdict → A) → (After → List ℕ) → After → A → List ℕ → ℕ → Type 0
Counted told buffer a r x count = (r ≡ told a.verdict) × (x ≡ buffer a) × (count ≡ a.count)

abbrev pub Starts : {A : Type 0} → (Verdict → A) → List ℕ → ℕ → List ℕ → A → List ℕ → Type 0
Starts told image number table = One told (λ a. a.image) (start_call image number table)

abbrev pub Reads : {A : Type 0} → (Verdict → A) → List ℕ → ℕ → ℕ → List ℕ → A → List ℕ → Type 0
Reads told image job point out = One told (λ a. a.out) (read_call image job point out)

abbrev pub Writes : {A : Type 0} → (Verdict → A) → List ℕ → ℕ → ℕ → List ℕ → List ℕ → List ℕ → A → List ℕ → List ℕ → Type 0
Writes told image job point value context out = Two told (write_call image job point value context out)

abbrev pub Deletes : {A : Type 0} → (Verdict → A) → List ℕ → ℕ → ℕ → List ℕ → List ℕ → A → List ℕ → List ℕ → Type 0
Deletes told image job point context out = Two told (delete_call image job point context out)

abbrev pub TakesIn : {A : Type 0} → (Verdict → A) → List ℕ → List ℕ → A → List ℕ → Type 0
TakesIn told image message = One told (λ a. a.image) (take_in_call image message)

abbrev pub Asks : {A : Type 0} → (Verdict → A) → List ℕ → ℕ → List ℕ → A → List ℕ → Type 0
Asks told image to out = One told (λ a. a.out) (ask_call image to out)

abbrev pub Replies : {A : Type 0} → (Verdict → A) → List ℕ → List ℕ → List ℕ → A → List ℕ → ℕ → Type 0
Replies told image message out = Counted told (λ a. a.out) (reply_call image message out)

abbrev pub Repairs : {A : Type 0} → (Verdict → A) → List ℕ → List ℕ → A → List ℕ → Type 0
Repairs told image message = One told (λ a. a.image) (repair_call image message)

abbrev pub Strips : {A : Type 0} → (Verdict → A) → List ℕ → A → List ℕ → ℕ → Type 0
Strips told image = Counted told (λ a. a.image) (strip_pass_call image)
