-- "What a controller remembers." Assumes nothing.
use Rattle.std.specs.Prelude.{ℕ, ◌-◌, Bool, ◌||◌, List, [], ◌∷◌, ◌++◌, get_or, if◌then◌else◌}
use Rattle.numbers.specs.declared.Controller.{Controller}
use Rattle.numbers.specs.declared.Dot.{Dot}
use Rattle.numbers.specs.declared.Key.{Key}
use Rattle.numbers.specs.Words.{map, concat_map}
use Rattle.numbers.specs.Numbers.{same_controller}
use Rattle.numbers.specs.Dot.{dot_before}
use Rattle.numbers.specs.Key.{same_key, key_before}
use Rattle.meaning.specs.CrewTable.{CrewTable, share_job}
use Rattle.meaning.specs.Clock.{Clock, row}
use Rattle.meaning.specs.Object.{Object, no_object, fill}

-- "Points: for each stored point its versions and a context"
pub record Stored : Type 0 where
  pub key : Key
  pub object : Object

abbrev pub stored_before : Stored → Stored → Bool
stored_before a b = key_before a.key b.key

-- "Dot lists: own and foreign dots, each with its point."
pub record Listed : Type 0 where
  pub dot : Dot
  pub key : Key

abbrev pub listed_before : Listed → Listed → Bool
listed_before a b = dot_before a.dot b.dot

-- "Watermark: for controllers m and n, the highest base of n's row that m is known to have."
abbrev pub Watermark : Type 0
Watermark = List (List ℕ)

abbrev pub mark : Watermark → Controller → Controller → ℕ
mark w m n = get_or (get_or w (m.0 - 1) []) (n.0 - 1) 0

pub record State : Type 0 where
  pub own : Controller
  pub table : CrewTable
  pub clock : Clock
  pub watermark : Watermark
  pub own_dots : List Listed
  pub foreign_dots : List Listed
  pub points : List Stored

-- "Peers of n are the controllers that share a job with it, n included."
unfoldable pub peers : State → Controller → Controller → Bool
peers s n m = same_controller n m || share_job s.table n m

abbrev pub own_base : State → ℕ
own_base s = (row s.clock s.own).base

-- both lists
abbrev pub listed : State → List Listed
listed s = s.own_dots ++ s.foreign_dots

-- the version dots of some points, each with its point
unfoldable pub dots_of : List Stored → List Listed
dots_of ps = concat_map (λ p. map (λ v. record { dot = v.dot; key = p.key }) p.object.versions) ps

-- the object that is stored for a point, and the empty one where there is no record
unfoldable pub look_up : Key → List Stored → Object
look_up k [] = no_object
look_up k (p ∷ ps) = let rest = look_up k ps in if same_key k p.key then p.object else rest

-- the filled local object
unfoldable pub local : State → Key → Object
local s k = fill s.table k.job s.clock (look_up k s.points)
