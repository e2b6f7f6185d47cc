-- What a repair through a reader asks of the image and the reply, and what it leaves. Assumes nothing.
use Rattle.std.specs.Prelude.{ℕ, ◌≡◌, true, List, [], length}
use Rattle.layout.specs.Image.{image_length, good_image}
use Rattle.layout.specs.Calls.{afterwards, whole_reply}
use Rattle.repairing.specs.Repaired.{repaired}
use Rattle.refusal.specs.Refusal.{Verdict}

-- a good image, and a reply of whole blocks that fits the room for one
abbrev pub Repairable : List ℕ → List ℕ → Type 0
Repairable image reply = (length image ≡ image_length) × (good_image image ≡ true) × (whole_reply reply ≡ true)

-- from the image before and the reply to the answer and the image afterwards
abbrev pub Repairs : List ℕ → List ℕ → Verdict → List ℕ → Type 0
Repairs image reply v image' = (v ≡ (afterwards image [] (repaired image reply)).verdict) × (image' ≡ (afterwards image [] (repaired image reply)).image)
