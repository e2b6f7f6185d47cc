-- Controller numbers, counters and point numbers, and their ranges. Assumes nothing.
-- "Sizes: controllers 1..8; jobs 0..7; points 1..65535 within a job; .. counters 1..4,294,967,295."
use Rattle.std.specs.Prelude.{ℕ, ◌≤◌, Bool, ◌&&◌, List, [], ◌∷◌, leb, eqb}
use Rattle.numbers.specs.declared.Controller.{Controller}
use Rattle.numbers.specs.declared.Counter.{Counter}
use Rattle.numbers.specs.declared.Point.{Point}

abbrev pub controller : ℕ → Controller
controller n = record { 0 = n }

abbrev pub counter : ℕ → Counter
counter c = record { 0 = c }

abbrev pub point : ℕ → Point
point p = record { 0 = p }

-- the highest counter there is
abbrev pub last_counter : ℕ
last_counter = 4294967295

unfoldable pub is_controller : Controller → Bool
is_controller n = leb 1 n.0 && leb n.0 8

-- the same as a fact
abbrev pub Crew : Controller → Type 0
Crew n = (1 ≤ n.0) × (n.0 ≤ 8)

unfoldable pub is_counter : Counter → Bool
is_counter c = leb 1 c.0 && leb c.0 last_counter

unfoldable pub is_point : Point → Bool
is_point p = leb 1 p.0 && leb p.0 65535

unfoldable pub is_job : ℕ → Bool
is_job j = leb j 7

abbrev pub same_controller : Controller → Controller → Bool
same_controller n m = eqb n.0 m.0

-- one thing for each of the controllers 1 to 8: a clock's rows, a context's entries, a watermark's rows and columns
abbrev pub each : {A : Type 0} → (Controller → A) → List A
each f =
    f (controller 1) ∷ f (controller 2) ∷ f (controller 3) ∷ f (controller 4)
    ∷ f (controller 5) ∷ f (controller 6) ∷ f (controller 7) ∷ f (controller 8) ∷ []

abbrev pub controllers : List Controller
controllers = each (λ n. n)
