-- What an ask leaves in the buffers. Assumes nothing.
use Rattle.std.specs.Prelude.{ℕ, List}
use Rattle.refusal.specs.Refusal.{Answer, accepted, ◌>>=◌}
use Rattle.meaning.specs.Message.{Ask}
use Rattle.layout.specs.Messages.{encode_ask}
use Rattle.layout.specs.Calls.{Left}

abbrev pub asked : List ℕ → Answer Ask → Answer Left
asked image a = a >>= λ q. accepted (record { image = image; out = encode_ask q; count = 0 })
