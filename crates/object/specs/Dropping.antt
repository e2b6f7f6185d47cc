-- What a test of a point's versions is asked, slot by slot, and what it answers. Assumes nothing.
use Rattle.std.specs.Prelude.{ℕ, ◌+◌, ◌*◌, ◌<◌, ◌≡◌, Bool, not, List, length, get_or}
use denote.Ref.{Bor}
use Rattle.block.specs.Fields.{cut}
use Rattle.meaning.specs.Object.{Version}
use Rattle.layout.specs.PointBlock.{form_1, decode_slot}
use Rattle.object.specs.Versions.{no_version}

-- the version in slot i of a block
abbrev pub version_in : List ℕ → ℕ → Version
version_in b i = decode_slot form_1 (cut b (40 + 32 * i) 32)

-- a test may be asked of each of these versions, in a block where that one stands in its slot
abbrev pub MayBeAsked : (Bor (List ℕ) → ℕ → Type 0) → List Version → Type 0
MayBeAsked pre vs = (x : Bor (List ℕ)) (i : ℕ) → length x.now ≡ 512 → i < 8 → i < length vs → version_in x.now i ≡ get_or vs i no_version → pre x i

-- it answers of a version that it goes, where it is not one of those that stay
abbrev pub SaysWhatGoes : (Bor (List ℕ) → ℕ → Bool → Type 0) → (Version → Bool) → Type 0
SaysWhatGoes post stays = (x : Bor (List ℕ)) (i : ℕ) (r : Bool) → length x.now ≡ 512 → i < 8 → post x i r → r ≡ not (stays (version_in x.now i))
